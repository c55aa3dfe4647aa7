-- Parameters, one by one.
use Rattle.std.specs.Prelude.{ℕ, Option}
use Rattle.upc_text.specs.declared.place.Place.{Place}
use Rattle.upc_values.specs.declared.scalar.Value.{Value}
use Rattle.thread_steps.specs.States.{Thread, Doing, ◌>>=◌}
use Rattle.thread_steps.specs.Blocks.{local_object}
use Rattle.stack_code.specs.declared.instruction.CellAccess.{CellAccess}
use Rattle.stack_code.specs.layer.Steps.{kept_in}

-- The i-th parameter gets the value of its argument (C99 6.5.2.2).
unfoldable pub received_one : Thread → Place → ℕ → Option CellAccess → Value → Doing (Unit {0})
received_one τ at i c v = do
  p ← local_object i
  kept_in τ c at p v
