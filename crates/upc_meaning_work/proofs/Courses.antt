-- A whole thread, item by item.
use Rattle.std.proofs.Common.{◌≡◌, ℕ, ◌-◌, ℤ, [], ◌∷◌}
use Rattle.std.proofs.Common.{Option, Some, None, refl, sym, ap, ◌∙◌}
use Rattle.upc_text.specs.declared.place.Place.{Place}
use Rattle.block_layout.specs.declared.kind.Kind.TheVariants as kind
use Rattle.integers.specs.Integers.{converted}
use Rattle.upc_values.specs.declared.scalar.Value.{Value as Given}
use Rattle.upc_values.specs.declared.scalar.Mark.TheVariants.{Start, Finish}
use Rattle.upc_values.specs.declared.record.ToldEnd.{ToldEnd}
use Rattle.upc_values.specs.declared.record.ToldEnd.TheVariants.{Ended}
use Rattle.typed_tree.specs.declared.tree.Function as f
use Rattle.typed_tree.specs.Tree.{Function}
use Rattle.private_store.specs.declared.store.TheConstants.{MOST_CALLS}
use Rattle.thread_steps.specs.States.{State, Res, Val, Over, bind}
use Rattle.thread_steps.specs.Actions.{notify, wait}
use Rattle.thread_steps.specs.Blocks.{begin_call}
use Rattle.thread_steps.specs.Values.{number_of}
use Rattle.source_meaning.specs.Running.{Running}
use Rattle.source_meaning.specs.Types.{cell_kind}
use Rattle.source_meaning.specs.Expressions.{no_value}
use Rattle.source_meaning.specs.Threads.{main_place, most_calls, outcome_of, blank_of}
use Rattle.source_meaning.specs.layer.Parts.{main_on, told}
use Rattle.source_meaning.proofs.Mains.{main_found, main_behind, main_nowhere}
use Rattle.upc_meaning_state.specs.layer.Barriers.{passed}
use Rattle.upc_meaning_state.proofs.Thens.{then_one}
use Rattle.upc_meaning_work.specs.layer.Courses.{comes_to, fresh, main_comes_to, main_entered}
use Rattle.upc_meaning_work.specs.layer.Seen.{Seen, meant, with_item, entered, inside, more_works, popped, with_state}
use Rattle.upc_meaning_work.specs.layer.Items.{Item, Drop, End}
use Rattle.upc_meaning_work.specs.layer.Left.{left}
use Rattle.upc_meaning_work.specs.code.Stacks.{top}
use Rattle.upc_meaning_work.proofs.Enters.{begun, begun_none, begun_some}

-- ---- the first function of the name main

pub ruleset first_main = (main_found, main_behind, main_nowhere)

-- ---- items

module _ (ρ : Running) (s t : Seen) where
  pub drop_goes : t ≡ popped s → with_item ρ Drop s ≡ meant ρ t
  unfolding with_item meant
  drop_goes same = ap (meant ρ) (sym same)

  behind : Res (Unit {0}) → Res ℤ
  behind r = bind r (λ _. left ρ s.works s.free s.flow s.values)

  end_is : (at : Place) → with_item ρ (End at) s ≡ behind (passed ρ.thread at Finish s.state)
  unfolding with_item behind passed
  end_is at = sym (then_one {A = Unit {0}} {B = Unit {0}} (notify ρ.thread at Finish s.state)
      (λ _. wait ρ.thread at Finish) (λ _. left ρ s.works s.free s.flow s.values))

  pub end_goes : (at : Place) (τ : State) → passed ρ.thread at Finish s.state ≡ Val tt τ → t ≡ with_state τ s
      → with_item ρ (End at) s ≡ meant ρ t
  unfolding meant behind
  end_goes at τ h same = end_is at ∙ ap behind h ∙ ap (meant ρ) (sym same)

  pub end_stops : (at : Place) (over : ToldEnd) (τ : State) → passed ρ.thread at Finish s.state ≡ Over over τ
      → with_item ρ (End at) s ≡ Over over τ
  unfolding behind
  end_stops at over τ h = end_is at ∙ ap behind h

  pub taken : (w : Item) → s ≡ more_works (w ∷ []) t → meant ρ s ≡ with_item ρ w t
  unfolding with_item meant
  taken w same = ap (meant ρ) same

  pub ended_told : (v : ℤ) → s.works ≡ [] → v ≡ converted kind.Int (number_of (top s.values))
      → outcome_of (meant ρ s) ≡ told (Ended v) s.state
  unfolding meant
  ended_told v none is =
      ap (λ ws. outcome_of (left ρ ws s.free s.flow s.values s.state)) none
      ∙ ap (λ n. told (Ended n) s.state) (sym is)

pub ruleset ends_of = (drop_goes, end_goes, end_stops)

pub ruleset items = (taken, ended_told)

-- ---- main, and the barrier before it

module _ (ρ : Running) (s t : Seen) where
  pub main_missing : (n : ℕ) (main : Option Function) → main ≡ None → t ≡ inside n no_value s
      → main_entered ρ main n s ≡ meant ρ t
  unfolding main_entered
  main_missing n main none same =
      ap (λ f. main_entered ρ f n s) none ∙ begun_none ρ s s n [] s.state ∙ ap (meant ρ) (sym same)

  pub main_begins : (n : ℕ) (main : Option Function) (f : Function) (blank : Given) → main ≡ Some f
      → blank ≡ blank_of (cell_kind ρ.structs f.result) → t ≡ inside n blank s
      → main_entered ρ main n s ≡ entered ρ f [] t
  unfolding main_entered
  main_begins n main f blank some gives same =
      ap (λ x. main_entered ρ x n s) some ∙ begun_some ρ s s n f [] s.state
      ∙ ap (λ x. entered ρ f [] (inside n x s)) (sym gives) ∙ ap (entered ρ f []) (sym same)

module _ (ρ : Running) (main : Option Function) (σ : State) where
  abbrev ahead : Seen
  ahead = more_works (End (main_place ρ main) ∷ []) (fresh σ)

  main_is : main_comes_to ρ main σ
      ≡ begun ρ ahead ahead MOST_CALLS main [] (begin_call (main_place ρ main) σ)
  unfolding main_comes_to most_calls
  main_is = refl

  pub main_refused : (at : Place) (over : ToldEnd) (τ : State) → at ≡ main_place ρ main
      → begin_call at σ ≡ Over over τ → main_comes_to ρ main σ ≡ Over over τ
  main_refused at over τ is h =
      main_is ∙ ap (λ a. begun ρ ahead ahead MOST_CALLS main [] (begin_call a σ)) (sym is)
      ∙ ap (begun ρ ahead ahead MOST_CALLS main []) h

  started : (at : Place) (τ : State) → at ≡ main_place ρ main → begin_call at σ ≡ Val tt τ
      → main_comes_to ρ main σ ≡ begun ρ ahead ahead MOST_CALLS main [] (Val tt τ)
  started at τ is h =
      main_is ∙ ap (λ a. begun ρ ahead ahead MOST_CALLS main [] (begin_call a σ)) (sym is)
      ∙ ap (begun ρ ahead ahead MOST_CALLS main []) h

  pub main_goes : (at : Place) (τ : State) (s t : Seen) (n : ℕ) → at ≡ main_place ρ main
      → begin_call at σ ≡ Val tt τ → s ≡ fresh σ → t ≡ more_works (End at ∷ []) (with_state τ s) → n ≡ t.free - 1
      → main_comes_to ρ main σ ≡ main_entered ρ main n t
  unfolding main_entered
  main_goes at τ s t n is h begins same less =
      let m : n ≡ MOST_CALLS = less ∙ ap (λ (x : Seen). x.free - 1) same ∙ ap (λ (x : Seen). x.free - 1) begins in
      started at τ is h
      ∙ ap (λ a. main_entered ρ main MOST_CALLS (more_works (End a ∷ []) (with_state τ (fresh σ)))) (sym is)
      ∙ ap (λ x. main_entered ρ main MOST_CALLS (more_works (End at ∷ []) (with_state τ x))) (sym begins)
      ∙ ap (main_entered ρ main MOST_CALLS) (sym same) ∙ ap (λ k. main_entered ρ main k t) (sym m)

  going : Res (Unit {0}) → Res ℤ
  going r = bind r (λ _. main_comes_to ρ main)

  course_is : comes_to ρ main σ ≡ going (passed ρ.thread (main_place ρ main) Start σ)
  unfolding comes_to main_comes_to going passed
  course_is = sym (then_one {A = Unit {0}} {B = Unit {0}} (notify ρ.thread (main_place ρ main) Start σ)
      (λ _. wait ρ.thread (main_place ρ main) Start) (λ _. main_on ρ main))

  pub starts_over : (at : Place) (over : ToldEnd) (τ : State) → at ≡ main_place ρ main
      → passed ρ.thread at Start σ ≡ Over over τ → comes_to ρ main σ ≡ Over over τ
  unfolding going
  starts_over at over τ is h =
      course_is ∙ ap (λ a. going (passed ρ.thread a Start σ)) (sym is) ∙ ap going h

  pub starts_so : (at : Place) (τ : State) → at ≡ main_place ρ main → passed ρ.thread at Start σ ≡ Val tt τ
      → comes_to ρ main σ ≡ main_comes_to ρ main τ
  unfolding going
  starts_so at τ is h = course_is ∙ ap (λ a. going (passed ρ.thread a Start σ)) (sym is) ∙ ap going h

pub ruleset mains = (main_missing, main_begins)

pub ruleset starts = (starts_over, starts_so)

-- ---- outcomes

pub over_told : (r : Res ℤ) (over : ToldEnd) (τ : State) → r ≡ Over over τ → outcome_of r ≡ told over τ
over_told r over τ h = ap outcome_of h

pub over_behind : (r p q : Res ℤ) (over : ToldEnd) (τ : State) → r ≡ p → p ≡ q → q ≡ Over over τ
    → outcome_of r ≡ told over τ
over_behind r p q over τ one two h = ap outcome_of (one ∙ two ∙ h)

pub told_so : (r q : Res ℤ) (over : ToldEnd) (τ : State) → r ≡ q → outcome_of q ≡ told over τ
    → outcome_of r ≡ told over τ
told_so r q over τ same h = ap outcome_of same ∙ h

pub told_behind : (r p q : Res ℤ) (over : ToldEnd) (τ : State) → r ≡ p → p ≡ q → outcome_of q ≡ told over τ
    → outcome_of r ≡ told over τ
told_behind r p q over τ one two h = ap outcome_of (one ∙ two) ∙ h

pub ruleset told_by = (over_told, told_so)

pub ruleset told_behind_by = (over_behind, told_behind)
