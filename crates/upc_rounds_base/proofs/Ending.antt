-- How threads come to their ends.
use Rattle.std.proofs.Common.{◌≡◌, true, false, List, [], ◌∷◌, Option, Some, None, is_some, refl, sym, ap, subst, ◌∙◌}
use Rattle.std.proofs.lemmas.Bool.{false≢true}
use Rattle.upc_values.specs.declared.action.Action.{Action}
use Rattle.upc_values.specs.declared.record.Item.{Item}
use Rattle.upc_values.specs.declared.record.Item.TheVariants.{Did, Stall}
use Rattle.upc_values.specs.declared.record.End.{End}
use Rattle.upc_values.specs.declared.record.End.TheVariants.{Ended, Fault, Budget, ActionsFull, Exit, Halted, Deadlocked}
use Rattle.upc_values.specs.Outcomes.{wanted}
use Rattle.upc_values.specs.Records.{is_stall, last_from, last_item}
use Rattle.upc_values.specs.Openings.{Opening}
use Rattle.upc_values.specs.Strands.{MayWait, StallsStand}
use Rattle.upc_values.specs.Ends.{stops, settles}
use Rattle.stack_code.specs.layer.Codes.{Codes}
use Rattle.stack_machine.specs.declared.wish.Wish.{Wish}
use Rattle.stack_machine.specs.declared.wish.Wish.TheVariants as wishes
use Rattle.stack_machine.specs.declared.wish.Wish.TheVariants.{Act}
use Rattle.stack_machine.specs.layer.Machine.{told_of}
use Rattle.upc_task.specs.declared.recorder.Recorder.{Recorder}
use Rattle.upc_task.specs.declared.worker.Pause.{Pause}
use Rattle.upc_task.specs.declared.worker.Pause.TheVariants as pauses
use Rattle.upc_task.specs.layer.Sources.{Outcomes}
use Rattle.upc_task.specs.layer.Recorded.{IsRecorded, Paused, outcome_of}
use Rattle.upc_task.specs.Ends.{is_given}
use Rattle.upc_rounds_base.specs.layer.Ending.{HasOwnEnd, Stops, halted_end, locked_end, halted}

-- After a step a thread was not given its end.
pub paused-own : {B : Type 0} (p : Pause) (k : Recorder B) → Paused p k → HasOwnEnd k
paused-own pauses.Going k h e q = absurd (let z : Some e ≡ None = sym q ∙ h in cc)
paused-own pauses.Beat k h e q = absurd (let z : Some e ≡ None = sym q ∙ h.0 in cc)
paused-own pauses.Stalled k h e q = absurd (let z : Some e ≡ None = sym q ∙ h.0 in cc)
paused-own pauses.Finished k h e q = let z : h.0 ≡ e = cc in subst (λ f. is_given f ≡ false) z h.2

pub halted-ended : (o : Option End) → is_some (halted_end o) ≡ true
halted-ended None = refl
halted-ended (Some e) = refl

pub stops-halted : {B : Type 0} (k : Recorder B) → Stops k → Stops (halted k)
stops-halted k s = (s.0, ap halted_end s.1, s.2)

-- An end that a thread came to by itself and that does not end the run settles it.
pub own-settles : (e : End) → is_given e ≡ false → stops e ≡ false → settles e ≡ true
own-settles (Ended v) g h = refl
own-settles (Fault c p) g h = absurd (false≢true (sym h))
own-settles Budget g h = absurd (false≢true (sym h))
own-settles ActionsFull g h = absurd (false≢true (sym h))
own-settles (Exit v) g h = absurd (false≢true (sym h))
own-settles Halted g h = absurd (false≢true (sym g))
own-settles (Deadlocked a) g h = refl

pub locked-some : (w : Option Wish) (e : End) → Some e ≡ locked_end w (Some e)
locked-some None e = refl
locked-some (Some w) e = refl

pub locked-ended : (w : Option Wish) (o : Option End) → (o ≡ None → (a : Action) × (w ≡ Some (Act a))) → is_some (locked_end w o) ≡ true
locked-ended w (Some e) h = ap is_some (sym (locked-some w e))
locked-ended w None h = let c = h refl in ap (λ z. is_some (locked_end z None)) c.1

pub locked-settles : (w : Option Wish) (o : Option End) (f : End) → (o ≡ None → (a : Action) × (w ≡ Some (Act a)))
    → ((g : End) → o ≡ Some g → (is_given g ≡ false) × (stops g ≡ false)) → locked_end w o ≡ Some f → settles f ≡ true
locked-settles w (Some e) f h k q =
    let z : Some e ≡ Some f = locked-some w e ∙ q in let y : e ≡ f = cc in let p = k e refl in
    subst (λ g. settles g ≡ true) y (own-settles e p.0 p.1)
locked-settles w None f h k q =
    let c = h refl in let z : Some (Deadlocked c.0) ≡ Some f = ap (λ y. locked_end y None) (sym c.1) ∙ q in
    let y : Deadlocked c.0 ≡ f = cc in subst (λ g. settles g ≡ true) y refl

-- Where a record ends with a Stall, what is wanted after it may wait.
stall-waits : (w : Option Action) (o : Option Item) (xs : List Item) → is_stall o ≡ false → StallsStand w xs
    → is_stall (last_from o xs) ≡ true → MayWait w
stall-waits w o [] n h s = absurd (false≢true (sym n ∙ s))
stall-waits w o (Did a r ∷ xs) n h s = stall-waits w (Some (Did a r)) xs refl h s
stall-waits w o (Stall ∷ []) n h s = h.1
stall-waits w o (Stall ∷ Did a r ∷ xs) n h s = stall-waits w (Some (Did a r)) xs refl h.2 s
stall-waits w o (Stall ∷ Stall ∷ xs) n h s = absurd (false≢true (sym h.0))

-- A thread that stands at a Stall wants an action.
pub stalled-wish : {B : Type 0} (o : Opening) (p : Codes) (f : Outcomes) (k : Recorder B) → IsRecorded o p f k
    → is_stall (last_item k.items.items) ≡ true → (a : Action) × (k.wish ≡ Some (Act a))
stalled-wish o p f k h s = go k.wish refl
  where
    waits : MayWait (wanted (outcome_of f k).«end»)
    waits = stall-waits (wanted (outcome_of f k).«end») None k.items.items refl h.stalls s

    of-wish : (w : Wish) → told_of w ≡ (outcome_of f k).«end» → (a : Action) × (w ≡ Act a)
    of-wish (Act a) q = (a, refl)
    of-wish (wishes.Ended v) q = absurd (subst (λ e. MayWait (wanted e)) (sym q) waits)
    of-wish (wishes.Exit v) q = absurd (subst (λ e. MayWait (wanted e)) (sym q) waits)
    of-wish (wishes.Fault n p) q = absurd (subst (λ e. MayWait (wanted e)) (sym q) waits)
    of-wish wishes.Budget q = absurd (subst (λ e. MayWait (wanted e)) (sym q) waits)

    go : (w : Option Wish) → k.wish ≡ w → (a : Action) × (k.wish ≡ Some (Act a))
    go None q = absurd (false≢true (sym (h.goes.idle q) ∙ s))
    go (Some w) q = let a = of-wish w (h.goes.wished w q).1 in (a.0, q ∙ ap Some a.1)
