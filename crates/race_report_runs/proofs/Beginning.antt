-- The record of a thread of a sound journal begins with the notify before main, answered Done.
use Rattle.std.proofs.Common.{◌≡◌, ◌∙◌, ◌≤◌, ◌<◌, ◌++◌, ℕ, Bool, true, false, not, List, [], ◌∷◌, length, Some, None, refl, sym, ap, subst, ◌⊎◌, inl, inr, arith, true≢false}
use Rattle.block_layout.specs.declared.kind.Shape.{Shape}
use Rattle.upc_text.specs.declared.place.Place.{Place}
use Rattle.upc_values.specs.declared.scalar.Mark.TheVariants.{Start}
use Rattle.upc_values.specs.declared.action.Action.{Action}
use Rattle.upc_values.specs.declared.action.Action.TheVariants as act
use Rattle.upc_values.specs.declared.action.Reply.{Reply}
use Rattle.upc_values.specs.declared.action.Reply.TheVariants as reply
use Rattle.upc_values.specs.declared.record.Item.{Item}
use Rattle.upc_values.specs.declared.record.Item.TheVariants.{Did, Stall}
use Rattle.upc_values.specs.declared.record.ToldEnd.{ToldEnd}
use Rattle.upc_values.specs.declared.record.ToldEnd.TheVariants as told
use Rattle.upc_values.specs.declared.record.End.{End}
use Rattle.upc_values.specs.declared.record.End.TheVariants.{Ended, Fault, Budget, ActionsFull, Exit, Halted, Deadlocked}
use Rattle.upc_values.specs.Records.{actions_of, replies_of}
use Rattle.upc_values.specs.Outcomes.{Outcome, wanted}
use Rattle.upc_values.specs.Formed.{fits}
use Rattle.upc_values.specs.Strands.{may_wait, MayWait, StallsStand}
use Rattle.upc_values.specs.Ends.{OwnEnd}
use Rattle.typed_tree.specs.Programs.{Checked, start_of}
use Rattle.private_store.specs.Live.{Live, youngest, controls_in, controls}
use Rattle.thread_steps.specs.States.{Thread, State, Over}
use Rattle.thread_steps.specs.Actions.{ask, answered, does, notify}
use Rattle.thread_steps.specs.layer.Fronts.{Begins}
use Rattle.thread_steps.proofs.Depths.{depth}
use Rattle.source_meaning.specs.Running.{running}
use Rattle.source_meaning.specs.Threads.{main_of, main_place, initial_state, thread_outcome}
use Rattle.source_meaning.specs.Laws.{beginning}
use Rattle.source_meaning.proofs.Finished.{begun_depth}
use Rattle.source_meaning.proofs.Framed.{all_are_framed}
use Rattle.race_report.specs.Serial.{begins_notified}
use Rattle.race_report_runs.specs.code.Sound.{SoundIsARun}

abbrev first : Action
first = act.Notify Start

-- without a call no body is controlled
no-calls : (s : Live) → depth s ≡ 0 → controls s ≡ 0
no-calls s e = by-calls s.calls e
  where
    by-calls : (cs : List _) → length cs ≡ 0 → controls_in (youngest cs) ≡ 0
    by-calls [] h = refl
    by-calls (c ∷ cs) h = absurd (omega (arith, h))

module _ (τ : Thread) (p : Place) (σ : State) (free : controls σ.store ≡ 0) (quiet : σ.notified ≡ false) where
  -- without a reply the notify is wanted
  notify-wants : σ.replies ≡ [] → notify τ p Start σ ≡ Over (told.Wants first) σ
  unfolding notify ask
  notify-wants none = rw (free, quiet, none) refl

  -- with one that does not fit, nothing is done
  notify-misfits : (r : Reply) (rs : List Reply) → σ.replies ≡ r ∷ rs → fits τ.threads τ.shapes None first r ≡ false
      → notify τ p Start σ ≡ Over (told.Misfit (length σ.actions)) σ
  unfolding notify ask
  notify-misfits r rs is unfit = rw (free, quiet, is, unfit) refl

fits-done : (threads : ℕ) (shapes : List Shape) (r : Reply) → fits threads shapes None first r ≡ true → r ≡ reply.Done
fits-done threads shapes reply.Done h = refl
fits-done threads shapes (reply.Value v) h = absurd cc
fits-done threads shapes (reply.Flag b) h = absurd cc
fits-done threads shapes (reply.Refused c) h = absurd cc

module _ (program : Checked) (t budget : ℕ) where
  abbrev out : List Reply → Outcome
  out rs = thread_outcome program t budget rs

  begun-free : (rs : List Reply) → controls (initial_state program rs).store ≡ 0
  begun-free rs =
      no-calls (initial_state program rs).store
      (begun_depth (start_of program).private_shapes (start_of program).private_initials)

  -- what is over at the first notify
  over-first : (e : ToldEnd) (rs : List Reply)
      → notify (running program t budget).thread (main_place (running program t budget) (main_of (running program t budget).functions)) Start
      (initial_state program rs) ≡ Over e (initial_state program rs)
      → (((out rs).«end» ≡ e) × ((out rs).actions ≡ []))
  unfolding thread_outcome
  over-first e rs h = (rw h refl, rw h refl)

  wants-first : ((out []).«end» ≡ told.Wants first) × ((out []).actions ≡ [])
  wants-first =
      let ρ = running program t budget in
      over-first (told.Wants first) []
      (notify-wants ρ.thread (main_place ρ (main_of ρ.functions)) (initial_state program []) (begun-free []) refl refl)

  -- the first reply that something is done with is Done
  first-done : (r : Reply) (rs : List Reply) (a : Action) (more : List Action) → (out (r ∷ rs)).actions ≡ a ∷ more → r ≡ reply.Done
  first-done r rs a more e =
      by-fit (fits (running program t budget).thread.threads (running program t budget).thread.shapes None first r) refl
    where
      by-fit : (b : Bool) → fits (running program t budget).thread.threads (running program t budget).thread.shapes None first r ≡ b → r ≡ reply.Done
      by-fit true fit =
          fits-done (running program t budget).thread.threads (running program t budget).thread.shapes r fit
      by-fit false unfit =
          let ρ = running program t budget in
          let σ = initial_state program (r ∷ rs) in
          let over = over-first (told.Misfit (length σ.actions)) (r ∷ rs)
          (notify-misfits ρ.thread (main_place ρ (main_of ρ.functions)) σ (begun-free (r ∷ rs)) refl r rs refl unfit) in
          let bad = sym over.1 ∙ e in
          absurd cc

  module _ (some : 0 < budget) where
    -- the first action is the notify before main
    first-notify : (rs : List Reply) (a : Action) (more : List Action) → (out rs).actions ≡ a ∷ more → a ≡ first
    first-notify rs a more e = by-front (out rs).actions e ((all_are_framed program).each t budget rs some).begins
      where
        by-front : (all : List Action) → all ≡ a ∷ more → Begins all beginning ⊎ Begins beginning all → a ≡ first
        by-front all is (inl front) = let both = front.1 ∙ ap (λ l. l ++ front.0) is in cc
        by-front all is (inr front) = let both = sym is ∙ front.1 in cc

    -- no end fits an empty record
    no-end : (actions : ℕ) (e : ToldEnd) (x : End) → 1 ≤ actions → e ≡ told.Wants first → OwnEnd actions e [] x → ⊥
    no-end actions e (Ended v) some-actions is h = let bad = sym h ∙ is in absurd cc
    no-end actions e (Fault c p) some-actions is h = let bad = sym h ∙ is in absurd cc
    no-end actions e (Exit v) some-actions is h = let bad = sym h ∙ is in absurd cc
    no-end actions e Budget some-actions is h = let bad = sym h ∙ is in absurd cc
    no-end actions e ActionsFull some-actions is h = let same : 0 ≡ actions = h.1 in omega arith
    no-end actions e Halted some-actions is h = absurd cc
    no-end actions e (Deadlocked a) some-actions is h = let bad = h.1 in absurd cc

    -- a record does not begin with a stall
    no-stall : (items : List Item) → StallsStand (wanted (out (replies_of items)).«end») (Stall ∷ items)
        → (out (replies_of items)).actions ≡ actions_of items → ⊥
    no-stall [] stalls same =
        let wants : MayWait (Some first) = subst (λ e. MayWait (wanted e)) wants-first.0 stalls.1 in
        true≢false (sym wants)
    no-stall (Stall ∷ more) stalls same = true≢false stalls.0
    no-stall (Did a r ∷ more) stalls same =
        let is = first-notify (r ∷ replies_of more) a (actions_of more) same in
        let waits : may_wait first ≡ true = subst (λ b. may_wait b ≡ true) is stalls.1 in
        true≢false (sym waits)

    notified-by : (actions : ℕ) (items : List Item) (x : End) → 1 ≤ actions
        → (out (replies_of items)).actions ≡ actions_of items
        → StallsStand (wanted (out (replies_of items)).«end») items
        → OwnEnd actions (out (replies_of items)).«end» items x
        → begins_notified items ≡ true
    notified-by actions [] x some-actions same stalls own = absurd (no-end actions (out []).«end» x some-actions wants-first.0 own)
    notified-by actions (Stall ∷ items) x some-actions same stalls own = absurd (no-stall items stalls same)
    notified-by actions (Did a r ∷ items) x some-actions same stalls own =
        let is = first-notify (r ∷ replies_of items) a (actions_of items) same in
        let done = first-done r (replies_of items) a (actions_of items) same in
        rw (is, done) refl

pub sound-run : SoundIsARun
sound-run program j sound budget actions follows waits = record {
  follows = follows;
  waits = waits;
  notified = λ t d lt.
      let s = sound.strands t d lt in
      notified-by program t j.budget (omega (arith, budget)) j.actions _ _ actions s.conforms.actions s.conforms.stalls s.«end»;
}
