-- Objects that are made stand as declared ones do: numbered, of whole elements, each after those before it.
use Rattle.std.proofs.Common.{◌≡◌, ◌==◌, ℕ, ◌+◌, ◌*◌, ◌%◌, ◌<◌, ◌≤◌, nat_lt, Bool, true, false, not, ◌&&◌, cond, List, [], ◌∷◌, ◌++◌, length, get_or, Option, Some, None, is_some, slice_get, refl, sym, ap, subst, ◌∙◌, inl, inr, append_assoc, arith, ltb-true, ltb-false, eqb-true, eq-eqb, mul-zero, zero-mul, suc-mul, pos_of_ne-zero, take_all, length-append}
use native.Mathlib.Nat.{zero-mod}
use Rattle.std.specs.List.{list_any}
use Rattle.std.proofs.lemmas.Bool.{and_parts, and_from, cond_both, false≢true, or_cases, or_left, or_right, not-true, cases_lt}
use Rattle.std.proofs.lemmas.List.{get_or_append_left, get_or-append-add, take-append-le}
use Rattle.std.proofs.lemmas.List.Folds.{list_any-append}
use Rattle.std.proofs.lemmas.List.Sums.{sum_by_push}
use Rattle.std.proofs.lemmas.Nat.{mul-mod_second}
use Rattle.block_layout.specs.declared.place.Loc.{Loc}
use Rattle.block_layout.specs.declared.place.ObjectRef.{ObjectRef}
use Rattle.block_layout.specs.declared.place.SharedPtr.{SharedPtr}
use Rattle.block_layout.specs.declared.kind.Kind.{Kind}
use Rattle.block_layout.specs.declared.kind.Shape.{Shape}
use Rattle.block_layout.specs.Places.{in_range}
use Rattle.block_layout.specs.Pointers.{is_null, same_object}
use Rattle.upc_values.specs.declared.scalar.Scalar.{Scalar}
use Rattle.upc_values.specs.declared.scalar.Scalar.TheVariants.{Int, Shared, Lock}
use Rattle.upc_values.specs.Shapes.{fits_cell}
use Rattle.upc_values.specs.Openings.{Opening, IsOpening, IsDeclared, bytes_of, cell_of, is_named, is_initial}
use Rattle.upc_values.specs.Formed.{is_home, is_whole, may_alloc}
use Rattle.upc_values.proofs.Beginnings.{cell-stays}
use Rattle.upc_values.proofs.Lists.{each-grow}
use Rattle.upc_values.specs.declared.action.Reply.TheVariants.{Value, Refused}
use Rattle.block_layout.specs.declared.run_error.TheConstants.{SHARED_SPACE}
use Rattle.shared_heap.specs.layer.Heap.{HeapState, all_objects, start_of, new_object, grow_answer, with_object, IsHeap}
use Rattle.shared_heap.specs.code.Kept.{IsNext, IsKept}

-- an opening with other objects
abbrev pub with_objects : Opening → List ObjectRef → Opening
with_objects o xs = record { threads = o.threads; declared = xs; initials = o.initials; shapes = o.shapes }

-- ---- what stays, as objects are added

pub fits-stays : (o : Opening) (xs ys : List ObjectRef) (l : Loc) (v : Scalar) → fits_cell v (cell_of o xs l) ≡ true
    → fits_cell v (cell_of o (xs ++ ys) l) ≡ true
fits-stays o xs ys l v h =
    let P : Option Kind → Type 0 = λ k. cell_of o xs l ≡ k → fits_cell v k ≡ true → fits_cell v (cell_of o (xs ++ ys) l) ≡ true in
    let go : (k : Option Kind) → P k =
    λ k. elim k as P [ Some k ↦ λ e s. ap (fits_cell v) (cell-stays o xs ys l k e) ∙ s | None ↦ λ e s. absurd (false≢true s) ] in
    go (cell_of o xs l) refl h

named-stays : (threads : ℕ) (xs ys : List ObjectRef) (p : SharedPtr) → is_named threads xs p ≡ true → is_named threads (xs ++ ys) p ≡ true
named-stays threads xs ys p h =
    let inside = nat_lt p.thread threads && in_range p.offset in
    elim (or_cases (is_null p) (list_any (same_object p.object) xs && inside) h) [
      | inl t ↦ or_left (is_null p) (list_any (same_object p.object) (xs ++ ys) && inside) t
      | inr t ↦
          let q = and_parts (list_any (same_object p.object) xs) inside t in
          or_right (is_null p) (list_any (same_object p.object) (xs ++ ys) && inside)
          (and_from (list_any (same_object p.object) (xs ++ ys)) inside
          (list_any-append (same_object p.object) xs ys
          ∙ or_left (list_any (same_object p.object) xs) (list_any (same_object p.object) ys) q.0) q.1)
    ]

initial-stays : (o : Opening) (xs ys : List ObjectRef) (v : Scalar) → is_initial (with_objects o xs) v ≡ true → is_initial (with_objects o (xs ++ ys)) v ≡ true
initial-stays o xs ys (Int v) h = refl
initial-stays o xs ys (Shared p) h = named-stays o.threads xs ys p h
initial-stays o xs ys (Lock l) h = h

-- ---- a new object

declared-more : (o : Opening) (xs : List ObjectRef) (x y : ObjectRef) (i : ℕ) → i ≤ length xs → IsDeclared (with_objects o xs) i y → IsDeclared (with_objects o (xs ++ x ∷ [])) i y
declared-more o xs x y i le q = record {
  number = q.number;
  shape = q.shape;
  listed = q.listed;
  least = q.least;
  block = q.block;
  home = q.home;
  whole = q.whole;
  whole_block = q.whole_block;
  base = q.base ∙ sym (ap bytes_of (take-append-le i xs (x ∷ []) le));
}

-- an opening with one more object
pub next-opening : (o : Opening) (xs : List ObjectRef) (x : ObjectRef) → IsOpening (with_objects o xs)
    → IsDeclared (with_objects o xs) (length xs) x → bytes_of xs + x.total ≤ 16777216
    → IsOpening (with_objects o (xs ++ x ∷ []))
next-opening o xs x v n r = record {
  least = v.least;
  most = v.most;
  shapes = v.shapes;
  sharable = v.sharable;
  declared = λ i d lt. elim (cases_lt i (length xs)) [
    | inl below ↦
        subst (IsDeclared (with_objects o (xs ++ x ∷ [])) i) (sym (get_or_append_left xs (x ∷ []) d i below))
        (declared-more o xs x (get_or xs i d) i (omega arith) (v.declared i d below))
    | inr past ↦
        let l = length-append xs (x ∷ []) in
        let e : i ≡ length xs = omega arith in
        let z : length xs + 0 ≡ length xs = omega arith in
        subst (λ j. IsDeclared (with_objects o (xs ++ x ∷ [])) j (get_or (xs ++ x ∷ []) j d)) (sym e)
        (subst (IsDeclared (with_objects o (xs ++ x ∷ [])) (length xs))
        (sym (ap (λ j. get_or (xs ++ x ∷ []) j d) (sym z) ∙ get_or-append-add xs (x ∷ []) 0 d))
        (declared-more o xs x x (length xs) (omega arith) n))
  ];
  bytes = (let e = sum_by_push (λ (y : ObjectRef). y.total) xs x in omega arith);
  once = v.once;
  fit = each-grow (λ i. fits_cell i.1 (cell_of o xs i.0) ≡ true) (λ i. fits_cell i.1 (cell_of o (xs ++ x ∷ []) i.0) ≡ true) o.initials
      (λ i f. fits-stays o xs (x ∷ []) i.0 i.1 f) v.fit;
  known = each-grow (λ i. is_initial (with_objects o xs) i.1 ≡ true) (λ i. is_initial (with_objects o (xs ++ x ∷ [])) i.1 ≡ true) o.initials
      (λ i f. initial-stays o xs (x ∷ []) i.1 f) v.known;
}

whole-shape : (z : Option Shape) (b : ℕ) → is_whole z b ≡ true → (s : Shape) × (z ≡ Some s) × (b % s.size ≡ 0)
whole-shape (Some s) b h = (s, refl, eqb-true (b % s.size) 0 h)
whole-shape None b h = absurd (false≢true h)

product-whole : (n b m : ℕ) → b % m ≡ 0 → (n * b) % m ≡ 0
product-whole n b m h =
    sym (mul-mod_second n b m) ∙ ap (λ z. (n * z) % m) h ∙ ap (λ z. z % m) (mul-zero n) ∙ zero-mod m

pub some-product : (n b : ℕ) → not (n * b == 0) ≡ true → 0 < n * b
some-product n b h =
    let f = not-true (n * b == 0) h in
    pos_of_ne-zero (λ e. false≢true (sym f ∙ eq-eqb (n * b) 0 e))

pub block-below : (n b : ℕ) → 0 < n * b → b ≤ n * b
block-below ℕ.zero b h = let z = zero-mul b in absurd (omega arith)
block-below (ℕ.suc n) b h = let z = suc-mul n b in omega arith

-- the heap with one more object
pub heap-made : (h : HeapState) (x : ObjectRef) → IsHeap h → IsNext h x → IsHeap (with_object x h)
heap-made h x v n = record {
  opening = v.opening;
  objects = subst (λ z. IsOpening (with_objects h.opening z)) (append_assoc h.opening.declared h.made (x ∷ []))
      (next-opening h.opening (all_objects h) x v.objects n.placed n.room);
  flags = (let e = v.flags in let a = length-append h.released (false ∷ []) in let b = length-append h.made (x ∷ []) in omega arith);
}

-- an object that an allocation makes
pub new-next : (k : HeapState) (n b : ℕ) (h : Option ℕ) (s : ℕ) → 0 < k.opening.threads → may_alloc k.opening n b s ≡ true → is_home k.opening.threads h ≡ true
    → bytes_of (all_objects k) + n * b ≤ 16777216 → IsNext k (new_object k n b h s).object
new-next k n b h s threads may home room =
    let o = k.opening in
    let p = and_parts (not (n * b == 0)) (is_whole (slice_get o.shapes s) b) may in
    let w = whole-shape (slice_get o.shapes s) b p.1 in
    let some = some-product n b p.0 in
    let low = block-below n b some in
    record {
      placed = record {
        number = refl;
        shape = w.0;
        listed = w.1;
        least = some;
        block = cond_both (is_some h) 0 b (λ z. z ≤ 16777216) (λ _. omega arith) (λ _. omega arith);
        home = placed h home;
        whole = product-whole n b w.0.size w.2;
        whole_block = cond_both (is_some h) 0 b (λ z. z % w.0.size ≡ 0) (λ _. zero-mod w.0.size) (λ _. w.2);
        base = ap bytes_of (sym (take_all (length (all_objects k)) (all_objects k) (omega arith)));
      };
      room = room;
    }
  where
    placed : (h : Option ℕ) → is_home k.opening.threads h ≡ true → (new_object k n b h s).object.home < k.opening.threads
    placed (Some t) g = ltb-true t k.opening.threads g
    placed None g = threads

grown-cases : (b : Bool) (p q : SharedPtr) → cond b (Refused SHARED_SPACE) (Value (Shared p)) ≡ Value (Shared q) → (b ≡ false) × (p ≡ q)
grown-cases true p q e = absurd cc
grown-cases false p q e = (refl, cc)

-- an object that fits
pub grow-next : (k : HeapState) (n b : ℕ) (h : Option ℕ) (s : ℕ) (x : ObjectRef) → IsHeap k → may_alloc k.opening n b s ≡ true → is_home k.opening.threads h ≡ true
    → grow_answer k n b h s ≡ Value (Shared (start_of x)) → IsNext k x
grow-next k n b h s x v may home e =
    let c = grown-cases (nat_lt 16777216 (bytes_of (all_objects k) + n * b)) (new_object k n b h s) (start_of x) e in
    let le = ltb-false 16777216 (bytes_of (all_objects k) + n * b) c.0 in
    subst (IsNext k) (ap (λ (z : SharedPtr). z.object) c.1) (new-next k n b h s v.opening.least may home (omega arith))

-- a heap that counts its bytes, with one more object
pub kept-made : (h : HeapState) (x : ObjectRef) (c : ℕ) → IsKept h c → IsNext h x → IsKept (with_object x h) (c + x.total)
kept-made h x c k n = record {
  heap = heap-made h x k.heap n;
  bytes = (let b = k.bytes in
      let e : bytes_of ((h.opening.declared ++ h.made) ++ x ∷ []) ≡ bytes_of (h.opening.declared ++ h.made) + x.total = sum_by_push (λ (y : ObjectRef). y.total) (h.opening.declared ++ h.made) x in
      let a = ap bytes_of (append_assoc h.opening.declared h.made (x ∷ [])) in omega arith);
}
