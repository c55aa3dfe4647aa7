-- Runs by rounds, as they come to their end.
use Rattle.std.proofs.Common.{◌≡◌, ℕ, List, [], sym, ap, subst, ◌∙◌, get_or}
use Rattle.upc_values.specs.Openings.{Opening}
use Rattle.upc_values.specs.Outcomes.{wanted}
use Rattle.upc_values.specs.Records.{replies_of}
use Rattle.stack_code.specs.layer.Codes.{Codes}
use Rattle.replica_space.specs.declared.event.Event.{Event}
use Rattle.upc_task.specs.declared.limits.Limits.{Limits}
use Rattle.upc_task.specs.layer.Sources.{Outcomes}
use Rattle.upc_task.specs.layer.Recorded.{end_or, strand_of}
use Rattle.upc_task.proofs.Lists.{numbered-map}
use Rattle.upc_rounds_base.specs.layer.Ending.{halted_end, locked_end}
use Rattle.upc_rounds_base.proofs.Ending.{locked-some}
use Rattle.replica_space_tasks.specs.declared.worker.ReplicaWorker.{ReplicaWorker}
use Rattle.replica_space_crews.specs.layer.Crews.{AreEach, ComesToEnd, IsHalted, IsLocked, IsOver, StaysCrew, strands_of}
use Rattle.replica_space_crews.proofs.Crews.{journal_with}
use Rattle.replica_space_parts.specs.layer.Seated.{want_of}
use Rattle.replica_space_rounds.specs.ReplicaRounds.{GoesByReplicaRounds, RestsAloneAfterEach}
use Rattle.replica_space_rounds.specs.layer.Rounds.{HasGone}
use Rattle.replica_space_rounds.proofs.Resting.{IsEndedAs, gone-ended}

-- ---- ends that are given

pub gone-halted : (o : Opening) (f : Outcomes) (events : List Event) (ks ms : List ReplicaWorker) → AreEach IsHalted ks ms
    → HasGone o f events ks → HasGone o f events ms
gone-halted o f events ks ms e =
    gone-ended o f events ks ms e.many (λ i d lt.
    let h = (e.each i d lt).is in record {
      thread = ap (λ r. r.thread) h;
      items = ap (λ r. r.items.items) h;
      own = λ y q. ap (λ r. r.«end») h ∙ ap halted_end q;
    })

pub gone-locked : (o : Opening) (f : Outcomes) (events : List Event) (ks ms : List ReplicaWorker) → AreEach IsLocked ks ms
    → HasGone o f events ks → HasGone o f events ms
gone-locked o f events ks ms e =
    gone-ended o f events ks ms e.many (λ i d lt.
    let h = (e.each i d lt).is in let k = (get_or ks i d).recorder in record {
      thread = ap (λ r. r.thread) h;
      items = ap (λ r. r.items.items) h;
      own = λ y q. ap (λ r. r.«end») h ∙ ap (locked_end k.wish) q ∙ sym (locked-some k.wish y);
    })

-- ---- a crew that goes on and then comes to its end

pub comes-then : (p : Codes) (w x y : Opening × List Event) (ks ls ms : List ReplicaWorker) → StaysCrew p w ks x ls
    → ComesToEnd p x ls y ms → ComesToEnd p w ks y ms
comes-then p w x y ks ls ms a b = record {
  many = b.many ∙ a.many;
  opening = b.«opening» ∙ a.«opening»;
  over = λ l f c. b.over l f (a.crew l f c);
}

-- ---- the journal

-- It goes by rounds where the run has.
pub over-rounds : (p : Codes) (l : Limits) (all : ℕ → Outcomes) (w : Opening × List Event) (ms : List ReplicaWorker)
    → IsOver p l (all l.budget) w ms → HasGone w.0 (all l.budget) w.1 ms
    → GoesByReplicaRounds w.0 all (journal_with l (strands_of (all l.budget) ms) w.1)
over-rounds p l all w ms over gone =
    let f = all l.budget in record {
      parts = gone.parts;
      whole = gone.whole;
      rests =
          numbered-map (λ (k : ReplicaWorker). strand_of f k.recorder)
          (λ i k. (k.recorder.thread ≡ i)
          × RestsAloneAfterEach w.0 i k.recorder.items.items (want_of f k.recorder) (end_or k.recorder.«end») [] gone.parts)
          (λ i s. RestsAloneAfterEach w.0 i s.items (wanted (f i (replies_of s.items)).«end») s.«end» [] gone.parts)
          (λ i k h.
          subst (λ t. RestsAloneAfterEach w.0 i k.recorder.items.items (wanted (f t (replies_of k.recorder.items.items)).«end»)
          (end_or k.recorder.«end») [] gone.parts) h.0 h.1)
          ms (λ i d lt. ((over.workers i d lt).thread, gone.rests i d lt));
    }
