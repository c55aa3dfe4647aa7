use Rattle.std.proofs.Common.{refl}
use Rattle.replica_space_crews.proofs.Crews.{over-ended, over-halted, over-locked}
use Rattle.replica_space_runs.proofs.Rounds.{gone-halted, gone-locked}
use Rattle.replica_space_runs.proofs.threads.settle.Goals as goal

pub returns-then-is_stopped-clause-over : goal.returns-then-is_stopped-clause-over
returns-then-is_stopped-clause-over c = λ _ p. record {
  many = c.halt_all.ensures.many;
  opening = refl;
  over = λ l f run. over-halted p l f c.args.run.now c.args.workers.now c.halt_all.new.workers run
      (c.is_stopped.ensures.yes c.if-is_stopped.true) c.halt_all.ensures;
}

pub returns-then-is_stopped-clause-rounds : goal.returns-then-is_stopped-clause-rounds
returns-then-is_stopped-clause-rounds c = λ f gone.
    gone-halted c.args.run.now.0 f c.args.run.now.1 c.args.workers.now c.halt_all.new.workers c.halt_all.ensures gone

pub returns-then-all_ended-clause-over : goal.returns-then-all_ended-clause-over
returns-then-all_ended-clause-over c = λ _ p. record {
  many = refl;
  opening = refl;
  over = λ l f run. over-ended p l f c.args.run.now c.args.workers.now run (c.all_ended.ensures c.if-all_ended.true);
}

pub returns-then-none_goes-clause-over : goal.returns-then-none_goes-clause-over
returns-then-none_goes-clause-over c = λ _ p. record {
  many = c.in_ok-lock_all.ensures.many;
  opening = refl;
  over = λ l f run. over-locked p l f c.args.run.now c.args.workers.now c.lock_all.new.workers run
      (c.none_goes.ensures c.if-none_goes.true) (c.is_stopped.ensures.no c.if-is_stopped.false) c.in_ok-lock_all.ensures;
}

pub returns-then-none_goes-clause-rounds : goal.returns-then-none_goes-clause-rounds
returns-then-none_goes-clause-rounds c = λ f gone.
    gone-locked c.args.run.now.0 f c.args.run.now.1 c.args.workers.now c.lock_all.new.workers c.in_ok-lock_all.ensures gone
