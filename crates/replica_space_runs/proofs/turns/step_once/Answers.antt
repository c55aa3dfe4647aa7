use Rattle.std.proofs.Common.{subst, ◌∙◌}
use Rattle.upc_rounds_base.proofs.Ending.{paused-own}
use Rattle.replica_space_tasks.specs.layer.Kept.{Grew}
use Rattle.replica_space_parts.proofs.Stepping.{step-idle}
use Rattle.replica_space_runs.proofs.turns.step_once.Goals as goal

pub returns-clause-moved : goal.returns-clause-moved
returns-clause-moved c =
    let w = c.in_ok-work.ensures in let s = c.in_ok-pause.ensures in let m = c.step.new.self.recorder in let p = c.in_ok-pause.pause in
    record {
      same = record { thread = s.same.thread ∙ w.same.0.thread; limits = s.same.limits ∙ w.same.0.limits };
      own = λ _. paused-own p m s.pause;
      idle = λ _. step-idle p m c.work.new.self.recorder.wish s.pause s.leaves;
      kept = λ f h. s.kept c.args.code.now f (w.kept f c.args.run.now.0 c.args.run.now.1 h);
      grew = subst (λ t. Grew t c.args.run.now.1 c.step.new.run.1) w.same.0.thread s.grew;
      opening = s.«opening»;
    }
