-- Marks by keys.
use Rattle.std.proofs.Common.{◌≡◌, ℕ, true, false, cond, Option, Some, None, refl, sym, ap, ◌∙◌, inl, inr, arith}
use Rattle.std.specs.Prelude.{Result, Ok, Err, OnErr}
use Rattle.std.proofs.lemmas.Bool.{cases_Bool, cond-true, cond-false}
use Rattle.block_layout.specs.declared.place.Loc.{Loc}
use Rattle.upc_values.specs.Scalars.{same_loc}
use Rattle.upc_values.proofs.Sameness.{same_loc-true}
use Rattle.replica_space.specs.declared.message.Stamp.{Stamp}
use Rattle.replica_space_marks.specs.layer.Marks.{MarksState, IsFound, no_marks, with_mark}
use Rattle.replica_space_marks.specs.layer.Index.{marks_or_none}

-- no mark is later among none
pub none-found : (s : Stamp) → IsFound no_marks s None
none-found s = (0, record { within = omega arith; before = λ i d lt. absurd (omega (arith, lt)); later = λ i d le lt. absurd (omega (arith, lt)) }, refl)

-- what stands at each location once w stands at one
module _ (f g : Loc → Option MarksState) (loc : Loc) (w : MarksState)
    (new : (l : Loc) → g l ≡ cond (same_loc loc l) (Some w) (f l)) where
  here : (l : Loc) → same_loc loc l ≡ true → g l ≡ Some w
  here l t = new l ∙ cond-true (same_loc loc l) (Some w) (f l) t

  there : (l : Loc) → same_loc loc l ≡ false → g l ≡ f l
  there l t = new l ∙ cond-false (same_loc loc l) (Some w) (f l) t

  -- one more mark
  pub marked : (s : Stamp) (k : ℕ) → w ≡ with_mark s k (marks_or_none (f loc)) → (l : Loc)
      → marks_or_none (g l) ≡ cond (same_loc loc l) (with_mark s k (marks_or_none (f l))) (marks_or_none (f l))
  marked s k e l =
      let more = with_mark s k (marks_or_none (f l)) in
      let same = marks_or_none (f l) in
      elim (cases_Bool (same_loc loc l)) [
        | inl t ↦
            ap marks_or_none (here l t) ∙ e ∙ ap (λ z. with_mark s k (marks_or_none (f z))) (same_loc-true loc l t)
            ∙ sym (cond-true (same_loc loc l) more same t)
        | inr t ↦ ap marks_or_none (there l t) ∙ sym (cond-false (same_loc loc l) more same t)
      ]

  -- the same marks
  pub unmarked : w ≡ marks_or_none (f loc) → (l : Loc) → marks_or_none (g l) ≡ marks_or_none (f l)
  unmarked e l =
      elim (cases_Bool (same_loc loc l)) [
        | inl t ↦ ap marks_or_none (here l t) ∙ e ∙ ap (λ z. marks_or_none (f z)) (same_loc-true loc l t)
        | inr t ↦ ap marks_or_none (there l t)
      ]

pub always : {X E : Type 0} (r : Result X E) (P : Type 0) → P → OnErr r P
always (Ok x) P p = tt
always (Err e) P p = p
