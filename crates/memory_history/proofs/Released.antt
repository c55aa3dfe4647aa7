-- What one more entry releases: nothing without an object.
use Rattle.std.proofs.Common.{◌≡◌, ◌==◌, ℕ, ◌+◌, ◌<◌, ◌≤◌, nat_lt, Bool, true, false, not, ◌&&◌, cond, List, [], ◌∷◌, ◌++◌, length, get_or, is_none, refl, sym, ap, ◌∙◌, inl, inr, arith, eqb-true, length-append}
use Rattle.std.specs.List.{list_any}
use Rattle.std.proofs.lemmas.Bool.{and_parts, and_right, cond_both, false≢true, false_from_ne_true, or_cases, or_from}
use Rattle.block_layout.specs.declared.place.ObjectRef.{ObjectRef}
use Rattle.block_layout.specs.declared.place.SharedPtr.{SharedPtr}
use Rattle.block_layout.specs.Places.{in_range}
use Rattle.block_layout.specs.Pointers.{null, is_null, same_object}
use Rattle.block_layout.proofs.Pointers.{same_object-true, same_pointer-true}
use Rattle.upc_values.specs.declared.scalar.Scalar.{Scalar}
use Rattle.upc_values.specs.declared.action.Action.{Action}
use Rattle.upc_values.specs.declared.action.Action.TheVariants as act
use Rattle.upc_values.specs.declared.action.Reply.{Reply}
use Rattle.upc_values.specs.declared.action.Reply.TheVariants.{Done, Value, Flag, Refused}
use Rattle.upc_values.specs.declared.journal.Entry.{Entry}
use Rattle.upc_values.specs.Lists.{Has}
use Rattle.upc_values.specs.Calls.{Call, Frees, Other, call_of}
use Rattle.upc_values.specs.Drain.{entry_of}
use Rattle.upc_values.specs.Openings.{Opening, IsOpening, is_named}
use Rattle.upc_values.specs.History.{asked, meets, leader, led, objects, releases, is_released, IsLegal}
use Rattle.upc_values.specs.Formed.{may_call, IsWellFormed, AreWellFormed}
use Rattle.memory_history.proofs.Growing.{objects-push, released-push}
use Rattle.memory_history.proofs.Entries.{Keeps, by_entries, list_any-has}
use Rattle.memory_history.proofs.Objects.{made_by}
use Rattle.shared_heap.proofs.Placed.{with_objects}
use Rattle.memory_history.proofs.Placed.{objects-opening}

-- the action may release an object
abbrev pub is_freer : Action → Bool
is_freer (act.Free p) = true
is_freer (act.Meet c args) = true
is_freer a = false

pub releases-none : (n : ℕ) (a : Action) (b : Bool) (r : Reply) → is_freer a ≡ false
    → releases n a (cond b (asked a) Other) r ≡ false
releases-none n (act.Free p) b r h = absurd (false≢true (sym h))
releases-none n (act.Meet c args) b r h = absurd (false≢true (sym h))
releases-none n a true r h = refl
releases-none n a false r h = refl

-- a reply other than Done releases nothing
abbrev pub is_other : Reply → Bool
is_other Done = false
is_other r = true

pub releases-other : (n : ℕ) (a : Action) (c : Call) (r : Reply) → is_other r ≡ true → releases n a c r ≡ false
releases-other n a c Done h = absurd (false≢true h)
releases-other n (act.Free p) (Frees q) r h = refl
releases-other n (act.Free p) c r h = refl
releases-other n a (Frees q) r h = refl
releases-other n a c r h = refl

-- ---- the number of an object that is there

has-index : {X : Type 0} (xs : List X) (x d : X) → Has xs x → (i : ℕ) × (i < length xs) × (get_or xs i d ≡ x)
has-index [] x d h = absurd h
has-index (y ∷ ys) x d (inl e) = (0, omega arith, e)
has-index (y ∷ ys) x d (inr h) = let r = has-index ys x d h in let b = r.1 in (ℕ.suc r.0, omega arith, r.2)

-- an object has the number of its place
pub object-number : (o : Opening) (xs : List ObjectRef) (x : ObjectRef) → IsOpening (with_objects o xs) → Has xs x
    → (0 < x.number) × (x.number ≤ length xs)
object-number o xs x v h =
    let i = has-index xs x x h in
    let b = i.1 in
    let n : x.number ≡ i.0 + 1 = sym (ap (λ (z : ObjectRef). z.number) i.2) ∙ (v.declared i.0 x i.1).number in
    (omega arith, omega arith)

-- a pointer that is null or names one of the objects
pub named-number : (o : Opening) (xs : List ObjectRef) (p : SharedPtr) → IsOpening (with_objects o xs)
    → is_named o.threads xs p ≡ true → p.object.number ≤ length xs
named-number o xs p v h =
    let inside = nat_lt p.thread o.threads && in_range p.offset in
    elim (or_cases (is_null p) (list_any (same_object p.object) xs && inside) h) [
      | inl t ↦
          let n : p.object.number ≡ 0 = ap (λ (z : SharedPtr). z.object.number) (same_pointer-true p null t) in
          omega arith
      | inr t ↦
          let a = list_any-has (same_object p.object) xs (and_parts (list_any (same_object p.object) xs) inside t).0 in
          let n : p.object.number ≡ a.0.number = ap (λ (z : ObjectRef). z.number) (same_object-true p.object a.0 a.2) in
          let m = object-number o xs a.0 v a.1 in
          let k = m.1 in
          omega arith
    ]

-- ---- nothing releases an object that is not there

other-number : (n m k : ℕ) → n ≤ k → k < m → (n == m) ≡ false
other-number n m k a b = false_from_ne_true (n == m) (λ e. let z : n ≡ m = eqb-true n m e in omega arith)

module _ (o : Opening) (es : List Entry) (v : IsOpening (with_objects o (objects o es))) (n : ℕ)
    (past : length (objects o es) < n) where
  free-old : (p : SharedPtr) (c : Call) (r : Reply) → is_named o.threads (objects o es) p ≡ true
      → releases n (act.Free p) c r ≡ false
  free-old p c Done h =
      other-number p.object.number n (length (objects o es)) (named-number o (objects o es) p v h) past
  free-old p c (Value x) h = refl
  free-old p c (Flag x) h = refl
  free-old p c (Refused x) h = refl

  call-old : (k : ℕ) (args : List Scalar) (c : Call) (r : Reply) → may_call o es c ≡ true
      → releases n (act.Meet k args) c r ≡ false
  call-old k args (Frees p) Done h =
      and_right (not (is_null p)) (p.object.number == n)
      (other-number p.object.number n (length (objects o es)) (named-number o (objects o es) p v h) past)
  call-old k args (Frees p) (Value x) h = refl
  call-old k args (Frees p) (Flag x) h = refl
  call-old k args (Frees p) (Refused x) h = refl
  call-old k args c r h = refl

  entry-old : (t i : ℕ) (a : Action) (r : Reply) → IsWellFormed o es a
      → releases n a (led es (entry_of t i a r)) r ≡ false
  entry-old t i (act.Free p) r f = free-old p (led es (entry_of t i (act.Free p) r)) r f
  entry-old t i (act.Meet c args) r f =
      cond_both (is_none (leader (length (meets t es)) es)) (call_of c args) Other
      (λ z. releases n (act.Meet c args) z r ≡ false)
      (λ _. call-old c args (call_of c args) r f) (λ _. refl)
  entry-old t i a r f = releases-none n a (is_none (leader (length (meets t es)) es)) r refl

-- an object that is yet to be made is not released
pub unmade-unreleased : (o : Opening) (es : List Entry) → IsOpening o → IsLegal o es → AreWellFormed o es → (n : ℕ)
    → length (objects o es) < n → is_released n es ≡ false
unmade-unreleased o es v l f =
    by_entries o (λ z. (n : ℕ) → length (objects o z) < n → is_released n z ≡ false) (λ n h. refl) keep es l f
  where
    keep : Keeps o (λ z. (n : ℕ) → length (objects o z) < n → is_released n z ≡ false)
    keep before e l f w r all n h =
        let more : length (objects o (before ++ e ∷ [])) ≡ length (objects o before) + length (made_by before e) =
        ap length (objects-push o before e) ∙ length-append (objects o before) (made_by before e) in
        let past : length (objects o before) < n = omega arith in
        released-push n before e
        ∙ or_from (is_released n before) _ (all n past)
        (entry-old o before (objects-opening o before v l f) n past e.thread e.index e.action e.reply w)
