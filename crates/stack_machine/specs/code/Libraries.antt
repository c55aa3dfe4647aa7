-- Calls of the library as the machine takes them.
use Rattle.std.specs.Prelude.{Bool}
use Rattle.upc_text.specs.declared.place.Place.{Place}
use Rattle.upc_values.specs.declared.scalar.Scalar.{Scalar}
use Rattle.upc_values.specs.declared.scalar.Value.{Value}
use Rattle.upc_values.specs.declared.scalar.Value.TheVariants as value
use Rattle.upc_values.specs.Expansion.{Expansion}
use Rattle.thread_steps.specs.States.{Thread, Doing, ◌>>=◌, ◌>>◌, give, skip, choose}
use Rattle.thread_steps.specs.Actions.{meet}
use Rattle.thread_steps.specs.Accesses.{library_steps}

-- A call of the library, step by step, whose scalar is given as a value (C99 7.19.6.3, UPC 7).
abbrev pub expanded_to : Thread → Place → Expansion Scalar → Doing Value
expanded_to τ at x = do
  v ← library_steps τ at x
  give (value.Scalar v)

-- A call of the library, step by step, which begins only where all threads may meet if it is collective (UPC 6.6.1,
-- 7.3).
abbrev pub met_then : Bool → Thread → Place → Expansion Scalar → Doing Value
met_then collective τ at x = do
  choose collective (meet τ at) skip
  expanded_to τ at x
