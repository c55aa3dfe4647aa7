use Rattle.std.proofs.Common.{◌≡◌, ℕ, List}
use Rattle.upc_values.specs.declared.action.Reply.{Reply}
use Rattle.stack_machine.specs.code.Bodies.{Body}
use Rattle.stack_machine.specs.code.Calls.{WritesHeld, left_of, turns_left}
use Rattle.stack_machine.specs.code.Kept.{HoldsHeld}
use Rattle.stack_machine.specs.code.Walking.{IsInside}
use Rattle.stack_machine.proofs.progress.Progress.walk_on.Given as goal

abbrev pub invariant-loop-halt : goal.invariant-loop-halt
invariant-loop-halt l = record {
  goes : (thread budget : ℕ) (given : List Reply) (b : Body)
      → IsInside l.code thread budget given l.place (left_of l.code.shapes l.initial.walk) b l.initial.self
      → IsInside l.code thread budget given l.place (left_of l.code.shapes l.walk) b l.self;
  values : WritesHeld l.code.threads l.code.shapes (left_of l.code.shapes l.walk);
  store : HoldsHeld l.code.threads l.code.shapes l.self.store;
  kept : l.self ≡ record l.initial.self { store = l.self.store; reply = l.self.reply };
}

abbrev pub decreases-loop-halt : goal.decreases-loop-halt
decreases-loop-halt l = turns_left l.walk l.self.reply
