use Rattle.std.proofs.Common.{◌≡◌, ℕ, List, drop}
use Rattle.block_layout.specs.declared.kind.Shape.{Shape}
use Rattle.upc_values.specs.declared.action.Action.{Action}
use Rattle.thread_steps.specs.States.{Thread}
use Rattle.stack_code.specs.layer.Steps.{received}
use Rattle.stack_machine.specs.code.Kept.{AreHeld, HoldsHeld}
use Rattle.stack_machine.specs.code.Turns.{state_seen}
use Rattle.stack_machine.proofs.progress.Progress.receive.Given as goal

abbrev pub invariant-loop-i : goal.invariant-loop-i
invariant-loop-i l = record {
  run : (τ : Thread) (before : List Action)
      → received τ l.place 0 l.cells l.given (state_seen before l.initial.self)
      ≡ received τ l.place l.i (drop l.i l.cells) (drop l.i l.given) (state_seen before l.self);
  kept : l.self ≡ record l.initial.self { store = l.self.store };
  held : (threads : ℕ) (shapes : List Shape) → HoldsHeld threads shapes l.initial.self.store
      → AreHeld threads shapes l.given → HoldsHeld threads shapes l.self.store;
}
