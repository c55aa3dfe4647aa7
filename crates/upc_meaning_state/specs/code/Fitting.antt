-- Replies to reads, and Beats.
use Rattle.std.specs.Prelude.{ℕ, ◌%◌, ◌==◌, Bool, false, List, Option, None}
use Rattle.block_layout.specs.declared.kind.Kind.{Kind}
use Rattle.block_layout.specs.declared.kind.Shape.{Shape}
use Rattle.upc_values.specs.declared.action.Action.TheVariants as act
use Rattle.upc_values.specs.declared.action.Reply.{Reply}
use Rattle.upc_values.specs.declared.action.Reply.TheVariants.{Value}
use Rattle.upc_values.specs.Formed.{is_read}
use Rattle.thread_steps.specs.States.{Thread, Doing, ◌>>◌, skip, choose}
use Rattle.thread_steps.specs.Actions.{ask}

-- A reply fits a read of a cell of this kind.
abbrev pub fits_read : ℕ → List Shape → Option Kind → Reply → Bool
fits_read threads shapes kind (Value v) = is_read threads shapes kind v
fits_read threads shapes kind r = false

-- A Beat, where so many ticks are a multiple of 1,024.
abbrev pub beat : Thread → ℕ → Doing (Unit {0})
beat τ n = choose (n % 1024 == 0) (do ask τ None act.Beat; skip) skip
