-- The initial values of a program's private objects are values that code may name.
use Rattle.std.proofs.Common.{◌≡◌, ℕ, zero, suc, ◌<◌, ◌≤◌, nat_lt, ℤ, Bool, true, false, ◌&&◌, ◌||◌}
use Rattle.std.proofs.Common.{inl, inr, List, [], ◌∷◌, length, drop, get_or, Option, Some, None, refl, sym, ap, subst}
use Rattle.std.proofs.Common.{arith}
use Rattle.std.proofs.Common.{int_le}
use Rattle.std.specs.Prelude.{slice_get, int_lt, pos, ◌+ℤ◌}
use Rattle.std.specs.List.{list_any}
use Rattle.std.proofs.lemmas.Bool.{and_parts, false≢true, eqb-true, ltb-true}
use Rattle.std.proofs.lemmas.Int.{ints}
use Rattle.std.proofs.lemmas.List.Sums.{sum_by-cons}
use Rattle.std.proofs.Math.Logic.{∥∥₁_elim}
use Rattle.std.proofs.Math.Bridge.{le_prop}
use mathlib.Core.Bool.{Bool-set}
use Rattle.block_layout.specs.declared.kind.Kind.{Kind}
use Rattle.block_layout.specs.declared.kind.Kind.TheVariants as kind
use Rattle.block_layout.specs.declared.kind.Shape.{Shape}
use Rattle.block_layout.specs.declared.place.LocalPtr.{LocalPtr}
use Rattle.block_layout.specs.declared.place.LocalPtr.TheVariants as local
use Rattle.block_layout.specs.declared.place.ObjectRef.{ObjectRef}
use Rattle.block_layout.specs.declared.place.SharedPtr.{SharedPtr}
use Rattle.block_layout.specs.Places.{in_range}
use Rattle.block_layout.specs.Pointers.{null, is_null, same_object}
use Rattle.block_layout.proofs.Pointers.{same_object-true, same_pointer-true}
use Rattle.block_layout.proofs.Ranges.{in_range-true}
use Rattle.integers.specs.Integers.{InKind, in_kind, least, values}
use Rattle.upc_values.specs.declared.scalar.Scalar.TheVariants as scalar
use Rattle.upc_values.specs.declared.scalar.Value.{Value}
use Rattle.upc_values.specs.declared.scalar.Value.TheVariants as value
use Rattle.upc_values.specs.Lists.{Each}
use Rattle.upc_values.specs.Openings.{Opening, IsOpening, IsDeclared, bytes_of}
use Rattle.upc_values.specs.Shapes.{is_integer}
use Rattle.upc_values.proofs.Lists.{each-at}
use Rattle.thread_steps.specs.layer.Ranges.{IsNumber, IsObject}
use Rattle.typed_tree.specs.Beginnings.{Beginning, opening_in}
use Rattle.typed_tree.specs.layer.PrivateOpenings.{IsPrivateOpening, is_known, fits_cell, private_cell}
use Rattle.source_meaning.proofs.Beginnings.{each_prop}
use Rattle.stack_code.specs.layer.Kept.{IsKnown}
use Rattle.stack_code.specs.layer.Making.{Making}
use Rattle.gen_stmt.specs.code.Compiled.{with_initials}

-- ---- numbers

in_kind-is : (k : Kind) (v : ℤ) → in_kind k v ≡ true → InKind v k
in_kind-is k v h =
    let p : (int_le (least k) v ≡ true) × (int_lt v (least k +ℤ pos (values k)) ≡ true) = and_parts _ _ h in
    record { low = omega (arith, ints, p.0); high = omega (arith, ints, p.1) }

in_kind-number : (k : Kind) (v : ℤ) → is_integer k ≡ true → InKind v k → IsNumber v
in_kind-number kind.Char v i h = record { least = omega (arith, ints, h.low); most = omega (arith, ints, h.high) }
in_kind-number kind.UChar v i h = record { least = omega (arith, ints, h.low); most = omega (arith, ints, h.high) }
in_kind-number kind.Short v i h = record { least = omega (arith, ints, h.low); most = omega (arith, ints, h.high) }
in_kind-number kind.UShort v i h = record { least = omega (arith, ints, h.low); most = omega (arith, ints, h.high) }
in_kind-number kind.Int v i h = record { least = omega (arith, ints, h.low); most = omega (arith, ints, h.high) }
in_kind-number kind.UInt v i h = record { least = omega (arith, ints, h.low); most = omega (arith, ints, h.high) }
in_kind-number kind.Long v i h = record { least = omega (arith, ints, h.low); most = omega (arith, ints, h.high) }
in_kind-number kind.ULong v i h = record { least = omega (arith, ints, h.low); most = omega (arith, ints, h.high) }
in_kind-number (kind.Shared n b) v i h = absurd (false≢true i)
in_kind-number kind.Lock v i h = absurd (false≢true i)
in_kind-number (kind.Private n) v i h = absurd (false≢true i)

-- ---- declared objects

get_below : {X : Type 0} (xs : List X) (i : ℕ) (x : X) → slice_get xs i ≡ Some x → i < length xs
get_below [] i x e = absurd cc
get_below (y ∷ xs) zero x e = omega arith
get_below (y ∷ xs) (suc i) x e = let h = get_below xs i x e in omega arith

total_below : (xs : List ObjectRef) (i : ℕ) (d : ObjectRef) → i < length xs → (get_or xs i d).total ≤ bytes_of xs
total_below [] i d h = absurd (omega arith)
total_below (x ∷ xs) zero d h = let e = sum_by-cons (λ (o : ObjectRef). o.total) x xs in omega arith
total_below (x ∷ xs) (suc i) d h =
    let e = sum_by-cons (λ (o : ObjectRef). o.total) x xs in
    let k = total_below xs i d (omega arith) in omega arith

each_by_places : {X : Type 0} (P : X → Type 0) (xs : List X)
    → ((i : ℕ) (d : X) → i < length xs → P (get_or xs i d)) → Each P xs
each_by_places P [] h = tt
each_by_places P (x ∷ xs) h = (h 0 x (omega arith), each_by_places P xs (λ i d lt. h (suc i) d (omega arith)))

declared_object : (o : Opening) → IsOpening o → (i : ℕ) (d : ObjectRef) → i < length o.declared
    → IsObject o.threads o.shapes (get_or o.declared i d)
declared_object o v i d lt =
    let h : IsDeclared o i (get_or o.declared i d) = v.declared i d lt in
    let total = total_below o.declared i d lt in
    let bytes = v.bytes in
    let number = h.number in
    record {
      number = omega arith;
      shape = get_below o.shapes (get_or o.declared i d).shape h.shape h.listed;
      home = h.home;
      total = omega arith;
      block = h.block;
    }

object_prop : (threads : ℕ) (shapes : List Shape) (x : ObjectRef) → IsProp (IsObject threads shapes x)
object_prop threads shapes x = hlevel le_prop

-- The shared objects that a program declares are objects that its code may name.
pub declared_objects : (threads : ℕ) (b : Beginning) → ∥ IsOpening (opening_in threads b) ∥₁
    → Each (IsObject threads b.shapes) (opening_in threads b).declared
declared_objects threads b h =
    let o = opening_in threads b in
    ∥∥₁_elim h (each_prop (IsObject threads b.shapes) (object_prop threads b.shapes) o.declared)
    (λ v. each_by_places (IsObject threads b.shapes) o.declared (declared_object o v))

-- ---- values

module _ (threads : ℕ) (b : Beginning) (objects : Each (IsObject threads b.shapes) (opening_in threads b).declared)
  where
    among : (xs : List ObjectRef) (x : ObjectRef) → Each (IsObject threads b.shapes) xs
        → list_any (same_object x) xs ≡ true → IsObject threads b.shapes x
    among [] x h e = absurd (false≢true e)
    among (y ∷ xs) x h e = by_first (same_object x y) refl e (among xs x h.1)
      where
        by_first : (t : Bool) → same_object x y ≡ t → (t || list_any (same_object x) xs) ≡ true
            → (list_any (same_object x) xs ≡ true → IsObject threads b.shapes x) → IsObject threads b.shapes x
        by_first true q z next = subst (IsObject threads b.shapes) (sym (same_object-true x y q)) h.0
        by_first false q z next = next z

    pointer_known : (p : SharedPtr) (t : Bool) → is_null p ≡ t
        → (t || (list_any (same_object p.object) (opening_in threads b).declared
        && (nat_lt p.thread threads && in_range p.offset)))
        ≡ true → IsKnown threads b.shapes (value.Scalar (scalar.Shared p))
    pointer_known p true e h = inl (same_pointer-true p null e)
    pointer_known p false e h =
        let q = and_parts (list_any (same_object p.object) (opening_in threads b).declared) _ h in
        let r = and_parts (nat_lt p.thread threads) (in_range p.offset) q.1 in
        inr (record {
          object_is = among (opening_in threads b).declared p.object objects q.0;
          thread = ltb-true p.thread threads r.0;
          offset = in_range-true p.offset r.1;
        })

    number_known : (v : ℤ) (k : Option Kind) → fits_cell (value.Scalar (scalar.Int v)) k ≡ true → IsNumber v
    number_known v (Some k) h =
        let q = and_parts (is_integer k) (in_kind k v) h in in_kind-number k v q.0 (in_kind-is k v q.1)
    number_known v None h = absurd (false≢true h)

    value_known : (privates : ℕ) (v : Value) (k : Option Kind)
        → is_known (opening_in threads b) privates v ≡ true → fits_cell v k ≡ true → IsKnown threads b.shapes v
    value_known privates (value.Scalar (scalar.Int v)) k h f = number_known v k f
    value_known privates (value.Scalar (scalar.Shared p)) k h f = pointer_known p (is_null p) refl h
    value_known privates (value.Scalar (scalar.Lock l)) k h f = eqb-true l 0 h
    value_known privates (value.Local local.Null) k h f = tt
    value_known privates (value.Local (local.Private object offset)) k h f =
        in_range-true offset (and_parts (nat_lt object privates) (in_range offset) h).1
    value_known privates (value.Local (local.Shared object thread offset)) k h f = absurd (false≢true h)

    all_known : (privates : ℕ) (shapes : List Shape) (xs : List (LocalPtr × Value))
        → Each (λ x. is_known (opening_in threads b) privates x.1 ≡ true) xs
        → Each (λ x. fits_cell x.1 (private_cell shapes x.0) ≡ true) xs → Each (λ x. IsKnown threads b.shapes x.1) xs
    all_known privates shapes [] h f = tt
    all_known privates shapes (x ∷ xs) h f =
        (value_known privates x.1 (private_cell shapes x.0) h.0 f.0, all_known privates shapes xs h.1 f.1)

-- Code may name the initial values of a program's private objects.
pub initials_known : (threads : ℕ) (b : Beginning) → ∥ IsOpening (opening_in threads b) ∥₁
    → ∥ IsPrivateOpening threads b ∥₁ → Each (λ x. IsKnown threads b.shapes x.1) b.private_initials
initials_known threads b v h =
    let n = length b.private_shapes in
    let known = ∥∥₁_elim h
    (each_prop (λ (x : LocalPtr × Value). is_known (opening_in threads b) n x.1 ≡ true) (λ x. Bool-set _ _)
    b.private_initials)
    (λ p. p.values.known) in
    let fit = ∥∥₁_elim h
    (each_prop (λ (x : LocalPtr × Value). fits_cell x.1 (private_cell b.private_shapes x.0) ≡ true)
    (λ x. Bool-set _ _) b.private_initials)
    (λ p. p.values.fit) in
    all_known threads b (declared_objects threads b v) n b.private_shapes b.private_initials known fit

-- ---- while they are appended

-- Code that is being made may name the value that is appended next.
pub next_known : (before now : Making) (xs : List (LocalPtr × Value)) (i : ℕ) (d : LocalPtr × Value)
    → with_initials (drop i xs) now ≡ with_initials xs before
    → Each (λ x. IsKnown before.codes.threads before.codes.shapes x.1) xs → i < length xs
    → IsKnown now.codes.threads now.codes.shapes (get_or xs i d).1
next_known before now xs i d e h lt =
    let threads = ap (λ (m : Making). m.codes.threads) e in
    let shapes = ap (λ (m : Making). m.codes.shapes) e in
    subst (λ (n : ℕ). IsKnown n now.codes.shapes (get_or xs i d).1) (sym threads)
    (subst (λ (ss : List Shape). IsKnown before.codes.threads ss (get_or xs i d).1) (sym shapes)
    (each-at (λ (x : LocalPtr × Value). IsKnown before.codes.threads before.codes.shapes x.1) xs i d h lt))

-- Code that is being made for a program's threads, with its shapes, may name the initial values of its private objects.
pub initials_there : (threads : ℕ) (b : Beginning) (m : Making) (xs : List (LocalPtr × Value))
    → m.codes.threads ≡ threads → m.codes.shapes ≡ b.shapes → xs ≡ b.private_initials
    → ∥ IsOpening (opening_in threads b) ∥₁ → ∥ IsPrivateOpening threads b ∥₁
    → Each (λ x. IsKnown m.codes.threads m.codes.shapes x.1) xs
initials_there threads b m xs t s e v h =
    subst (λ (n : ℕ). Each (λ (x : LocalPtr × Value). IsKnown n m.codes.shapes x.1) xs) (sym t)
    (subst (λ (ss : List Shape). Each (λ (x : LocalPtr × Value). IsKnown threads ss x.1) xs) (sym s)
    (subst (λ (ys : List (LocalPtr × Value)). Each (λ (x : LocalPtr × Value). IsKnown threads b.shapes x.1) ys)
    (sym e)
    (initials_known threads b v h)))
