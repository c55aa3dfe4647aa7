use Rattle.std.proofs.Common.{◌≡◌, ◌<◌, List, None}
use Rattle.upc_values.specs.declared.action.Reply.{Reply}
use Rattle.stack_machine.specs.layer.Machine.{listed}
use Rattle.stack_machine.specs.code.Standing.{Stands}
use Rattle.stack_machine.specs.code.Ahead.{weight}
use Rattle.stack_machine.specs.code.Kept.{IsHolding}
use Rattle.stack_machine.specs.code.Tasks.{task_seen}
use Rattle.stack_machine.proofs.calls.Task.turns.Given as goal

abbrev pub invariant-loop-halt : goal.invariant-loop-halt
invariant-loop-halt l = record {
  along : (given : List Reply)
      → Stands l.code l.runner.number l.runner.budget given (listed l.initial.self.progress.reply) (task_seen l.initial.self)
      → Stands l.code l.runner.number l.runner.budget given (listed l.self.progress.reply) (task_seen l.self);
  held : IsHolding l.code.threads l.code.shapes (task_seen l.self);
  in_time : l.self.progress.ticks < l.runner.budget;
  closed : l.under_way ≡ None;
}

abbrev pub decreases-loop-halt : goal.decreases-loop-halt
decreases-loop-halt l = weight l.code.functions l.runner.budget (task_seen l.self)
