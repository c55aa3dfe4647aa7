use Rattle.std.proofs.Common.{ℕ, ◌<◌, ◌+◌, length, sym, subst, ◌∙◌, arith, inl, inr}
use Rattle.std.specs.Prelude.{slice_index_or}
use Rattle.std.proofs.lemmas.Bool.{cases_eq}
use Rattle.upc_rounds_base.specs.layer.Ending.{Rested}
use Rattle.replica_space_tasks.specs.declared.worker.ReplicaWorker.{ReplicaWorker}
use Rattle.replica_space_crews.proofs.Crews.{stays-refl, stays-then}
use Rattle.replica_space_runs.proofs.turns.bring_all.Goals as goal

pub visit-requires-clause-running : goal.visit-requires-clause-running
visit-requires-clause-running g c = let r = c.requires in (r.0, r.1, c.loop-at.invariant.running.crew r.0 r.1 r.2)

pub loop-at-init : goal.loop-at-init
loop-at-init g c = record {
  running = stays-refl c.args.code.now c.args.run.now c.args.workers.now;
  rested = λ i d lt. absurd (omega (arith, lt));
}

pub loop-at-preserved : goal.loop-at-preserved
loop-at-preserved g c =
    let e = c.in_ok-visit.ensures in let h = c.loop-at.invariant in let ms = c.visit.new.workers in let at = c.loop-at.at in
    let rests : (i : ℕ) (d : ReplicaWorker) → i < at + 1 → Rested (slice_index_or ms i d).recorder = λ i d lt.
    elim (cases_eq i at) as (λ z. Rested (slice_index_or ms i d).recorder) [
      | inl q ↦ subst (λ j. Rested (slice_index_or ms j d).recorder) (sym q) (e.rested d)
      | inr ne ↦ subst (λ (k : ReplicaWorker). Rested k.recorder) (sym (e.others i d ne)) (h.rested i d (omega arith))
    ] in
    record {
      running = stays-then c.args.code.now c.args.run.now c.loop-at.run c.visit.new.run c.args.workers.now c.loop-at.workers ms h.running e.running;
      rested = rests;
    }
