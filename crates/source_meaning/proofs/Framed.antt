-- A thread stands between its two barriers.
use Rattle.std.proofs.Common.{◌≡◌, ℤ, List, [], ◌∷◌, ◌++◌, Option}
use Rattle.std.proofs.Common.{refl, sym, ◌∙◌, ap, subst, ◌⊎◌, inl, inr, append_assoc}
use Rattle.upc_text.specs.declared.place.Place.{Place}
use Rattle.upc_values.specs.declared.scalar.Value.{Value}
use Rattle.upc_values.specs.declared.scalar.Mark.TheVariants.{Start, Finish}
use Rattle.upc_values.specs.declared.action.Action.{Action}
use Rattle.upc_values.specs.declared.action.Action.TheVariants as act
use Rattle.upc_values.specs.declared.record.ToldEnd.{ToldEnd}
use Rattle.upc_values.specs.declared.record.ToldEnd.TheVariants.{Ended}
use Rattle.typed_tree.specs.Tree.{Function}
use Rattle.typed_tree.specs.Programs.{Checked, start_of}
use Rattle.thread_steps.specs.States.{Thread, State, Res, Val, Over, Unfinished, bind, ◌>>◌, give}
use Rattle.thread_steps.specs.Actions.{notify, wait}
use Rattle.thread_steps.specs.layer.Fronts.{Begins}
use Rattle.thread_steps.proofs.Depths.{depth}
use Rattle.thread_steps.proofs.Barriers.{DoneOnce, notify_once, wait_once}
use Rattle.thread_steps.proofs.Kept as k
use Rattle.thread_steps.proofs.Following as f
use Rattle.source_meaning.specs.Running.{Running, running}
use Rattle.source_meaning.specs.Threads.{course, main_called, main_of, main_place}
use Rattle.source_meaning.specs.layer.Parts.{course_from, main_on}
use Rattle.source_meaning.specs.Threads.{initial_state, thread_outcome, outcome_of}
use Rattle.source_meaning.specs.Laws.{beginning, IsFinished, IsFramed, AllAreFramed}
use Rattle.source_meaning.proofs.Kept.{course_kept, main_on_kept}
use Rattle.source_meaning.proofs.Finished.{begun_depth, is_total}

-- ---- the end

abbrev Finishes : Res ℤ → Type 0
Finishes (Val v υ) = (before : List Action) × (υ.actions ≡ before ++ act.Notify Finish ∷ act.Wait Finish ∷ [])
Finishes (Over e υ) = Unit {0}
Finishes Unfinished = Unit {0}

module _ (ρ : Running) (main : Option Function) where
  finished_by : (σ υ : State) (w : ℤ) (r : Res (Unit {0})) → υ.actions ≡ σ.actions ++ act.Notify Finish ∷ []
      → DoneOnce (act.Wait Finish) υ r → Finishes (bind r (λ _. give w))
  finished_by σ υ w (Val u ω) e h = (
    σ.actions,
    h ∙ ap (λ l. l ++ act.Wait Finish ∷ []) e ∙ append_assoc σ.actions
        (act.Notify Finish ∷ []) (act.Wait Finish ∷ []),
  )
  finished_by σ υ w (Over x ω) e h = tt
  finished_by σ υ w Unfinished e h = tt

  notified_by : (σ : State) (w : ℤ) (p : Place) (r : Res (Unit {0})) → DoneOnce (act.Notify Finish) σ r
      → Finishes (bind r (λ _. wait ρ.thread p Finish >> give w))
  notified_by σ w p (Val u υ) h = finished_by σ υ w (wait ρ.thread p Finish υ) h (wait_once ρ.thread p Finish υ)
  notified_by σ w p (Over x υ) h = tt
  notified_by σ w p Unfinished h = tt

  main_by : (p : Place) (r : Res Value) (w : Value → ℤ)
      → Finishes (bind r (λ v. notify ρ.thread p Finish >> (wait ρ.thread p Finish >> give (w v))))
  main_by p (Val v σ) w = notified_by σ (w v) p (notify ρ.thread p Finish σ) (notify_once ρ.thread p Finish σ)
  main_by p (Over e σ) w = tt
  main_by p Unfinished w = tt

  main_finishes : (σ : State) → Finishes (main_on ρ main σ)
  main_finishes σ = main_by (main_place ρ main) (main_called ρ main σ) _

  wait_finishes : (r : Res (Unit {0})) → Finishes (bind r (λ _. main_on ρ main))
  wait_finishes (Val u σ) = main_finishes σ
  wait_finishes (Over e σ) = tt
  wait_finishes Unfinished = tt

  start_finishes : (p : Place) (r : Res (Unit {0})) → Finishes (bind r (λ _. wait ρ.thread p Start >> main_on ρ main))
  start_finishes p (Val u σ) = wait_finishes (wait ρ.thread p Start σ)
  start_finishes p (Over e σ) = tt
  start_finishes p Unfinished = tt

  course_finishes : (σ : State) → Finishes (course_from ρ main σ)
  course_finishes σ = start_finishes (main_place ρ main) (notify ρ.thread (main_place ρ main) Start σ)

-- ---- the beginning

abbrev Starts : List Action → Type 0
Starts actions = Begins actions beginning ⊎ Begins beginning actions

abbrev StartsBy : Res ℤ → Type 0
StartsBy (Val v υ) = Starts υ.actions
StartsBy (Over e υ) = Starts υ.actions
StartsBy Unfinished = Unit {0}

front_starts : (front actions rest : List Action) → actions ≡ front → beginning ≡ front ++ rest → Starts actions
front_starts front actions rest e h = inl (rest, h ∙ ap (λ l. l ++ rest) (sym e))

module _ (ρ : Running) (main : Option Function) where
  abbrev Grew : {A : Type 0} → State → Res A → Type 0
  Grew σ r = f.Grown 0 σ r

  main_starts : (σ : State) (r : Res ℤ) → σ.actions ≡ beginning → Grew σ r → StartsBy r
  main_starts σ (Val v υ) e g = inr (subst (λ l. Begins l υ.actions) e g.1)
  main_starts σ (Over x υ) e g = inr (subst (λ l. Begins l υ.actions) e g.0)
  main_starts σ Unfinished e g = tt

  wait_starts : (σ : State) (r : Res (Unit {0})) → σ.actions ≡ act.Notify Start ∷ [] → DoneOnce (act.Wait Start) σ r
      → Grew σ r → StartsBy (bind r (λ _. main_on ρ main))
  wait_starts σ (Val u υ) e h g =
      let F = f.following ρ.thread in
      main_starts υ (main_on ρ main υ) (h ∙ ap (λ l. l ++ act.Wait Start ∷ []) e)
      ((main_on_kept ρ (f.Follows ρ.thread) F main).by υ g.0).grown
  wait_starts σ (Over x υ) e h g = by_case h
    where
      by_case : (υ.actions ≡ σ.actions) ⊎ (υ.actions ≡ σ.actions ++ act.Wait Start ∷ []) → Starts υ.actions
      by_case (inl same) = front_starts (act.Notify Start ∷ []) υ.actions (act.Wait Start ∷ []) (same ∙ e) refl
      by_case (inr more) = front_starts beginning υ.actions [] (more ∙ ap (λ l. l ++ act.Wait Start ∷ []) e) refl
  wait_starts σ Unfinished e h g = tt

  start_starts : (p : Place) (σ : State) (r : Res (Unit {0})) → σ.actions ≡ [] → DoneOnce (act.Notify Start) σ r
      → Grew σ r → StartsBy (bind r (λ _. wait ρ.thread p Start >> main_on ρ main))
  start_starts p σ (Val u υ) e h g =
      let F = f.following ρ.thread in
      wait_starts υ (wait ρ.thread p Start υ) (h ∙ ap (λ l. l ++ act.Notify Start ∷ []) e)
      (wait_once ρ.thread p Start υ)
      ((k.wait_kept ρ.thread (f.Follows ρ.thread) F 0 0 p Start).by υ g.0).grown
  start_starts p σ (Over x υ) e h g = by_case h
    where
      by_case : (υ.actions ≡ σ.actions) ⊎ (υ.actions ≡ σ.actions ++ act.Notify Start ∷ []) → Starts υ.actions
      by_case (inl same) = front_starts [] υ.actions beginning (same ∙ e) refl
      by_case (inr more) = front_starts (act.Notify Start ∷ []) υ.actions (act.Wait Start ∷ [])
          (more ∙ ap (λ l. l ++ act.Notify Start ∷ []) e) refl
  start_starts p σ Unfinished e h g = tt

  course_starts : (σ : State) → σ.actions ≡ [] → depth σ.store ≡ 0 → StartsBy (course_from ρ main σ)
  course_starts σ e d =
      let p = main_place ρ main in
      let F = f.following ρ.thread in
      start_starts p σ (notify ρ.thread p Start σ) e (notify_once ρ.thread p Start σ)
      ((k.notify_kept ρ.thread (f.Follows ρ.thread) F 0 0 p Start).by σ d).grown

-- ---- both

not_ended : (e : ToldEnd) (v : ℤ) (υ : State) → f.IsFair e υ → e ≡ Ended v → ⊥
not_ended e v υ g same = subst (λ y. f.IsFair y υ) same g

framed_by : (τ : Thread) (σ : State) (r : Res ℤ) → StartsBy r → Finishes r → f.Grown 0 σ r → IsFinished r
    → IsFramed (outcome_of r)
framed_by τ σ (Val v υ) s e g done = record { begins = s; ends = λ w same. e }
framed_by τ σ (Over x υ) s e g done = record { begins = s; ends = λ w same. absurd (not_ended x w υ g.2 same) }
framed_by τ σ Unfinished s e g done = absurd done

pub all_are_framed : (program : Checked) → AllAreFramed program
unfolding thread_outcome
all_are_framed program = record {
  each = λ thread budget replies some.
      let ρ = running program thread budget in
      let σ = initial_state program replies in
      let begun = begun_depth (start_of program).private_shapes (start_of program).private_initials in
      framed_by ρ.thread σ (course ρ σ)
      (course_starts ρ (main_of ρ.functions) σ refl begun)
      (course_finishes ρ (main_of ρ.functions) σ)
      ((course_kept ρ (f.Follows ρ.thread) (f.following ρ.thread)).by σ begun).grown
      ((is_total program).finished thread budget replies some);
}
