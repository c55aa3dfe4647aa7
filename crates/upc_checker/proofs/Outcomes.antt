-- The outcome of a source that is walked.
use Rattle.std.proofs.Common.{◌≡◌, ℕ, Option, Some, None, Ok, Err, refl, sym, ap, ◌∙◌}
use Rattle.upc_text.specs.declared.place.Refusal.{Refusal}
use Rattle.upc_text.specs.declared.faults.Stop.{Stop}
use Rattle.upc_text.specs.declared.faults.Stop.TheVariants as stop
use Rattle.typed_tree.specs.Scopes.{State}
use Rattle.typing_rules.specs.Faults.{Fault, first_fault}
use Rattle.upc_checker_scopes.specs.Walk.{Walked}
use Rattle.upc_checker_scopes.specs.layer.Ends.{refusal_by, Stops, Comes}
use Rattle.upc_checker.specs.Limits.{Passed, limit_by, limit_in}
use Rattle.upc_checker.specs.Outcomes.{Answers, Outcome, Refused, Accepted, outcome_by, outcome_in}
use Rattle.typed_tree.specs.Programs.{Checked, without_targets}
use Rattle.upc_checker.specs.Units.{Made}
use Rattle.upc_checker.specs.code.ViewUnits.{KeepsLimits}

faulty_by : (o : Option Fault) (l : Option Passed) (x : Checked) (r : Refusal) → refusal_by o ≡ Some r → outcome_by o l x ≡ Refused r
faulty_by None l x r h = absurd cc
faulty_by (Some f) l x r h = ap Refused cc

-- The first fault is refused.
pub faulty : (threads : ℕ) (w : Walked Made) (r : Refusal) → refusal_by (first_fault w.seen) ≡ Some r → outcome_in threads w ≡ Refused r
faulty threads w r h = faulty_by (first_fault w.seen) (limit_in w) _ r h

abbrev pub checked_of : ℕ → State → Made → Checked
checked_of threads s m = record { threads = threads; structs = without_targets s.structs; objects = m.objects; functions = m.functions }

-- No rule is broken: the limits decide.
pub fine_outcome : (threads : ℕ) (w : Walked Made) (s : State) (m : Made) → Comes w s m → outcome_in threads w ≡ outcome_by None (limit_by s.structs s.above m.objects) (checked_of threads s m)
fine_outcome threads w s m h =
    ap (λ o. outcome_by o (limit_in w) (checked_of threads w.state w.value)) h.fine
    ∙ ap (λ (s : State). outcome_by None (limit_by s.structs s.above w.value.objects) (checked_of threads s w.value)) h.state
    ∙ ap (λ (m : Made). outcome_by None (limit_by s.structs s.above m.objects) (checked_of threads s m)) h.value

-- What is answered where a rule is broken.
pub answers_fault : {P : Type 0} (view : P → Checked) (threads : ℕ) (w : Walked Made) (e : Stop) → Stops (first_fault w.seen) e → Answers view (outcome_in threads w) (Err e)
answers_fault view threads w stop.Memory h = tt
answers_fault view threads w (stop.Refused r) h = faulty threads w r h

limit_one : {P : Type 0} (view : P → Checked) (o : Outcome) (l : Option Passed) (x : Checked) (e : Stop) → o ≡ outcome_by None l x → KeepsLimits l (Err e) → Answers view o (Err e)
limit_one view o None x e h k = absurd k
limit_one view o (Some l) x stop.Memory h k = absurd k
limit_one view o (Some l) x (stop.Refused r) h k = h ∙ ap Refused (sym k)

-- What is answered where a limit is passed.
pub answers_limit : {P : Type 0} (view : P → Checked) (threads : ℕ) (w : Walked Made) (s : State) (m : Made) (e : Stop) → Comes w s m →
    KeepsLimits (limit_by s.structs s.above m.objects) (Err e) → Answers view (outcome_in threads w) (Err e)
answers_limit view threads w s m e h k =
    limit_one view (outcome_in threads w) (limit_by s.structs s.above m.objects) (checked_of threads s m) e (fine_outcome threads w s m h) k

accepted_one : (l : Option Passed) (x : Checked) (u : Unit {0}) → KeepsLimits l (Ok u) → outcome_by None l x ≡ Accepted x
accepted_one None x u k = refl
accepted_one (Some l) x u k = absurd k

-- The source is accepted.
pub accepted : (threads : ℕ) (w : Walked Made) (s : State) (m : Made) (u : Unit {0}) → Comes w s m → KeepsLimits (limit_by s.structs s.above m.objects) (Ok u) →
    outcome_in threads w ≡ Accepted (checked_of threads s m)
accepted threads w s m u h k = fine_outcome threads w s m h ∙ accepted_one (limit_by s.structs s.above m.objects) (checked_of threads s m) u k
