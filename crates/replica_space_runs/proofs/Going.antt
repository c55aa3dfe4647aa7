-- Workers that go on, step by step.
use Rattle.std.proofs.Common.{◌≡◌, ℕ, true, false, cond, List, [], ◌++◌, append-nil, None, is_some, refl, sym, ap, subst, ◌∙◌, inl, inr, append_assoc}
use Rattle.std.proofs.lemmas.Bool.{cases_Bool, false≢true}
use Rattle.upc_values.specs.Openings.{Opening}
use Rattle.upc_values.specs.Records.{is_stall, is_beat_item, last_item}
use Rattle.upc_values.specs.Ends.{is_pause}
use Rattle.upc_values.proofs.Membership.{each-append}
use Rattle.stack_code.specs.layer.Codes.{Codes}
use Rattle.replica_space.specs.declared.event.Event.{Event}
use Rattle.upc_task.specs.declared.recorder.Recorder.{Recorder}
use Rattle.upc_task.specs.declared.worker.Pause.{Pause}
use Rattle.upc_task.specs.declared.worker.Pause.TheVariants as pauses
use Rattle.upc_task.specs.layer.Sources.{Outcomes}
use Rattle.upc_task.specs.layer.Recorded.{IsRecorded, IsPausing, Paused}
use Rattle.upc_task.proofs.Options.{none-some, none-is}
use Rattle.upc_rounds_base.specs.layer.Ending.{IsIdle, Rested}
use Rattle.upc_rounds_base.proofs.Ending.{stalled-wish}
use Rattle.replica_space_tasks.specs.declared.worker.ReplicaWorker.{ReplicaWorker}
use Rattle.replica_space_tasks.specs.layer.Kept.{Grew, AllOf}
use Rattle.replica_space_crews.specs.layer.Crews.{Moved}

-- After a step that came to a Beat, a Stall or the end a thread rests.
pub rested-beat : {B : Type 0} (k : Recorder B) → Paused pauses.Beat k → Rested k
rested-beat k h q = h.1

pub rested-stalled : {B : Type 0} (k : Recorder B) → Paused pauses.Stalled k → Rested k
rested-stalled k h q = h.1

pub rested-finished : {B : Type 0} (k : Recorder B) → Paused pauses.Finished k → Rested k
rested-finished k h q = absurd (none-some k.«end» h.0 q h.1)

-- A thread whose last item is a Beat or a Stall rests.
pub rests-at : {B : Type 0} (o : Opening) (p : Codes) (f : Outcomes) (k : Recorder B) → IsRecorded o p f k → IsIdle k → k.«end» ≡ None
    → is_pause (last_item k.items.items) ≡ true → IsPausing k
rests-at o p f k r idle e h = elim (cases_Bool (is_stall (last_item k.items.items))) [
  | inl s ↦ let w = stalled-wish o p f k r s in inr (s, ap is_some w.1)
  | inr n ↦ inl (
    subst (λ b. cond b true (is_beat_item (last_item k.items.items)) ≡ true) n h,
    elim (cases_Bool (is_some k.wish)) [ inl s ↦ absurd (false≢true (sym n ∙ idle e s)) | inr z ↦ none-is k.wish z ],
  )
]

-- ---- one step after another

pub moved-refl : (p : Codes) (w : Opening × List Event) (k : ReplicaWorker) → Moved p w k w k
moved-refl p w k = record {
  same = record { thread = refl; limits = refl };
  own = λ h. h;
  idle = λ h. h;
  kept = λ f h. h;
  grew = record { more = []; is = sym (append-nil w.1); all_own = tt };
  opening = refl;
}

pub moved-then : (p : Codes) (w : Opening × List Event) (k : ReplicaWorker) (x : Opening × List Event) (m : ReplicaWorker) (y : Opening × List Event) (n : ReplicaWorker)
    → Moved p w k x m → Moved p x m y n → Moved p w k y n
moved-then p w k x m y n a b = record {
  same = record { thread = b.same.thread ∙ a.same.thread; limits = b.same.limits ∙ a.same.limits };
  own = λ h. b.own (a.own h);
  idle = λ h. b.idle (a.idle h);
  kept = λ f h. b.kept f (a.kept f h);
  grew = record {
    more = a.grew.more ++ b.grew.more;
    is = b.grew.is ∙ ap (λ l. l ++ b.grew.more) a.grew.is ∙ append_assoc w.1 a.grew.more b.grew.more;
    all_own = each-append (λ (e : Event). e.by ≡ k.recorder.thread) a.grew.more b.grew.more a.grew.all_own
        (subst (λ t. AllOf t b.grew.more) a.same.thread b.grew.all_own);
  };
  opening = b.opening ∙ a.opening;
}
