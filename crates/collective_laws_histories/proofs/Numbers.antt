-- The objects after a legal history have the numbers 1, 2, .. in order, so a number finds its object.
use Rattle.std.proofs.Common.{◌≡◌, ℕ, suc, ◌+◌, ◌*◌, ◌<◌, ◌==◌, nat_lt, Bool, true, false, ◌||◌, cond, List, []}
use Rattle.std.proofs.Common.{◌∷◌, ◌++◌, length, Option, Some, None, is_none, refl, sym, ap, subst, ◌∙◌, arith}
use Rattle.std.proofs.Common.{append_assoc}
use Rattle.std.proofs.Common.{append-nil, get_or}
use Rattle.std.specs.List.{list_any, find, filter_map, cons_option}
use Rattle.std.proofs.lemmas.Bool.{cond_both, cond-true, cond-false, false≢true, eq-eqb, ne_eqb}
use Rattle.std.proofs.lemmas.List.Elements.{filter_map-append}
use Rattle.block_layout.specs.declared.place.ObjectRef.{ObjectRef}
use Rattle.block_layout.specs.declared.place.SharedPtr.{SharedPtr}
use Rattle.block_layout.specs.declared.run_error.TheConstants.{SHARED_SPACE}
use Rattle.block_layout.specs.Pointers.{null, is_null, same_object}
use Rattle.block_layout.proofs.Pointers.{same_object-true}
use Rattle.upc_values.specs.declared.scalar.Scalar.{Scalar}
use Rattle.upc_values.specs.declared.scalar.Scalar.TheVariants.{Shared}
use Rattle.upc_values.specs.declared.action.Action.{Action}
use Rattle.upc_values.specs.declared.action.Action.TheVariants as act
use Rattle.upc_values.specs.declared.action.Reply.{Reply}
use Rattle.upc_values.specs.declared.action.Reply.TheVariants.{Value, Refused}
use Rattle.upc_values.specs.declared.journal.Entry.{Entry}
use Rattle.upc_values.specs.Calls.{Call, Allocates}
use Rattle.upc_values.specs.Calls.{Other, call_of}
use Rattle.upc_values.specs.Openings.{Opening, IsOpening, bytes_of}
use Rattle.upc_values.specs.History.{picked, asked, meets, Lead, leader, led, pointer_of, makes, object_of}
use Rattle.upc_values.specs.History.{objects, made, alloc_reply, led_reply, meet_reply, reply, IsLegalFrom, IsLegal}
use Rattle.upc_values.proofs.Beginnings.{picked-append}

-- The numbers n + 1, n + 2, .. in order.
abbrev pub AreNumberedFrom : ℕ → List ObjectRef → Type 0
AreNumberedFrom n [] = Unit {0}
AreNumberedFrom n (x ∷ xs) = (x.number ≡ n + 1) × AreNumberedFrom (n + 1) xs

by_places : (n : ℕ) (xs : List ObjectRef)
    → ((i : ℕ) (d : ObjectRef) → i < length xs → (get_or xs i d).number ≡ n + i + 1) → AreNumberedFrom n xs
by_places n [] h = tt
by_places n (x ∷ xs) h = (
  let e = h 0 x (omega arith) in omega arith,
  by_places (n + 1) xs (λ i d lt. let e = h (suc i) d (omega arith) in omega arith),
)

one_numbered : (n : ℕ) (xs : List ObjectRef) (x : ObjectRef) → AreNumberedFrom n xs → x.number ≡ n + length xs + 1
    → AreNumberedFrom n (xs ++ x ∷ [])
one_numbered n [] x h e = (omega arith, tt)
one_numbered n (y ∷ xs) x h e = (h.0, one_numbered (n + 1) xs x h.1 (omega arith))

-- ---- what an entry makes

abbrev object_in : Option SharedPtr → Option ObjectRef
object_in p = elim p [ Some x ↦ Some x.object | None ↦ None ]

-- An object with the number after n.
abbrev IsNext : ℕ → Option ObjectRef → Type 0
IsNext n (Some x) = x.number ≡ n + 1
IsNext n None = Unit {0}

abbrev GivesNext : ℕ → Reply → Type 0
GivesNext n r = IsNext n (object_in (pointer_of r))

module _ (o : Opening) (before : List Entry) where
  abbrev many : ℕ
  many = length (objects o before)

  allocated_next : (n b : ℕ) (h : Option ℕ) (s : ℕ) → GivesNext many (alloc_reply o before n b h s)
  allocated_next n b h s =
      let p = made o before n b h s in
      cond_both (nat_lt 16777216 (bytes_of (objects o before) + n * b)) (Refused SHARED_SPACE) (Value (Shared p))
      (GivesNext many) (λ _. tt)
      (λ _. cond_both (is_null p) None (Some p) (λ q. IsNext many (object_in q)) (λ _. tt) (λ _. refl))

  led_next : (a : Action) (c : Call) → makes a c ≡ true → makes a Other ≡ false → GivesNext many (led_reply o before c)
  led_next a (Allocates n b s) m none =
      cond_both (n * b == 0) (Value (Shared null)) (alloc_reply o before n b None s) (GivesNext many) (λ _. tt)
      (λ _. allocated_next n b None s)
  led_next (act.Alloc n b h s) c m none = absurd (false≢true (sym none))
  led_next a c m none = absurd (false≢true m)

  -- The reply of a collective call that nobody has made before.
  meet_next : (c : ℕ) (args : List Scalar) (t : ℕ) (r : Reply) (w : Option Lead)
      → leader (length (meets t before)) before ≡ w
      → makes (act.Meet c args) (cond (is_none w) (call_of c args) Other) ≡ true
      → reply o before t (act.Meet c args) ≡ Some r → GivesNext many r
  meet_next c args t r (Some w) q m e = absurd (false≢true m)
  meet_next c args t r None q m e =
      let same : led_reply o before (call_of c args) ≡ r = some_is _ r
      (subst (λ x. Some (meet_reply o before t c args x) ≡ Some r) q e) in
      subst (GivesNext many) same (led_next (act.Meet c args) (call_of c args) m refl)
    where
      some_is : (a b : Reply) → Some a ≡ Some b → a ≡ b
      some_is a b h = cc

  -- What a lawful reply makes has the next number.
  lawful_next : (a : Action) (t : ℕ) (r : Reply)
      → makes a (cond (is_none (leader (length (meets t before)) before)) (asked a) Other) ≡ true
      → reply o before t a ≡ Some r → GivesNext many r
  lawful_next (act.Alloc n b h s) t r m e =
      let same : alloc_reply o before n b h s ≡ r = cc in
      subst (GivesNext many) same (allocated_next n b h s)
  lawful_next (act.Meet c args) t r m e =
      meet_next c args t r (leader (length (meets t before)) before) refl m e
  lawful_next a t r m e = absurd (no_maker (is_none (leader (length (meets t before)) before)) m)
    where
      no_maker : (b : Bool) → makes a (cond b Other Other) ≡ true → ⊥
      no_maker true h = false≢true h
      no_maker false h = false≢true h

  pushed : (e : Entry) (b : Bool) → makes e.action (led before e) ≡ b
      → reply o before e.thread e.action ≡ Some e.reply → AreNumberedFrom 0 (objects o before)
      → AreNumberedFrom 0 (objects o before ++ filter_map object_of (cond b (e ∷ []) []))
  pushed e false q r h = subst (AreNumberedFrom 0) (sym (append-nil (objects o before))) h
  pushed e true q r h = by_object (object_of e) refl (lawful_next e.action e.thread e.reply q r)
    where
      by_object : (x : Option ObjectRef) → object_of e ≡ x → IsNext many (object_of e)
          → AreNumberedFrom 0 (objects o before ++ filter_map object_of (e ∷ []))
      by_object (Some x) is next =
          let number : x.number ≡ many + 1 = subst (IsNext many) is next in
          subst (λ y. AreNumberedFrom 0 (objects o before ++ cons_option y [])) (sym is)
          (one_numbered 0 (objects o before) x h (omega arith))
      by_object None is next =
          subst (λ y. AreNumberedFrom 0 (objects o before ++ cons_option y [])) (sym is)
          (subst (AreNumberedFrom 0) (sym (append-nil (objects o before))) h)

  -- One more entry.
  more_numbered : (e : Entry) → reply o before e.thread e.action ≡ Some e.reply → AreNumberedFrom 0 (objects o before)
      → AreNumberedFrom 0 (objects o (before ++ e ∷ []))
  more_numbered e r h =
      let test : List Entry → Entry → Bool = λ b x. makes x.action (led b x) in
      let new = cond (test before e) (e ∷ []) [] in
      let is : objects o (before ++ e ∷ []) ≡ objects o before ++ filter_map object_of new =
      ap (λ z. o.declared ++ filter_map object_of z) (picked-append test [] before (e ∷ []))
      ∙ ap (λ z. o.declared ++ z) (filter_map-append object_of (picked test before) new)
      ∙ sym (append_assoc o.declared (filter_map object_of (picked test before)) (filter_map object_of new)) in
      subst (AreNumberedFrom 0) (sym is) (pushed e (test before e) refl r h)

history_numbered : (o : Opening) (before es : List Entry) → IsLegalFrom o before es
    → AreNumberedFrom 0 (objects o before) → AreNumberedFrom 0 (objects o (before ++ es))
history_numbered o before [] l h = subst (λ z. AreNumberedFrom 0 (objects o z)) (sym (append-nil before)) h
history_numbered o before (e ∷ es) l h =
    subst (λ z. AreNumberedFrom 0 (objects o z)) (append_assoc before (e ∷ []) es)
    (history_numbered o (before ++ e ∷ []) es l.1 (more_numbered o before e l.0 h))

pub objects_numbered : (o : Opening) (es : List Entry) → IsOpening o → IsLegal o es
    → AreNumberedFrom 0 (objects o es)
objects_numbered o es v l =
    history_numbered o [] es l
    (subst (AreNumberedFrom 0) (sym (append-nil o.declared))
    (by_places 0 o.declared (λ i d lt. let e = (v.declared i d lt).number in omega arith)))

-- ---- the object with a number

numbers_above : (n : ℕ) (xs : List ObjectRef) (x : ObjectRef) → AreNumberedFrom n xs
    → list_any (same_object x) xs ≡ true → n < x.number
numbers_above n [] x h e = absurd (false≢true e)
numbers_above n (y ∷ xs) x h e = by_first (same_object x y) refl e (numbers_above (n + 1) xs x h.1)
  where
    by_first : (b : Bool) → same_object x y ≡ b → (b || list_any (same_object x) xs) ≡ true
        → (list_any (same_object x) xs ≡ true → n + 1 < x.number) → n < x.number
    by_first true q g f = let s = ap (λ z. z.number) (same_object-true x y q) in let t = h.0 in omega arith
    by_first false q g f = let lt = f g in omega arith

-- An object among them is the one that its number finds.
pub object_found : (n : ℕ) (xs : List ObjectRef) (x : ObjectRef) → AreNumberedFrom n xs
    → list_any (same_object x) xs ≡ true → find (λ y. y.number == x.number) xs ≡ Some x
object_found n [] x h e = absurd (false≢true e)
object_found n (y ∷ xs) x h e = by_first (same_object x y) refl e (object_found (n + 1) xs x h.1)
  where
    by_first : (b : Bool) → same_object x y ≡ b → (b || list_any (same_object x) xs) ≡ true
        → (list_any (same_object x) xs ≡ true → find (λ y. y.number == x.number) xs ≡ Some x)
        → cond (y.number == x.number) (Some y) (find (λ y. y.number == x.number) xs) ≡ Some x
    by_first true q g f =
        let s = same_object-true x y q in
        cond-true (y.number == x.number) (Some y) (find (λ y. y.number == x.number) xs)
        (eq-eqb y.number x.number (ap (λ z. z.number) (sym s))) ∙ ap Some (sym s)
    by_first false q g f =
        let lt = numbers_above (n + 1) xs x h.1 g in
        let t = h.0 in
        cond-false (y.number == x.number) (Some y) (find (λ y. y.number == x.number) xs)
        (ne_eqb y.number x.number (λ s. omega arith)) ∙ f g
