-- What does not change while a thread runs a program.
use Rattle.std.specs.Prelude.{ℕ, List, [], Option, Some, None, pos, slice_get}
use Rattle.block_layout.specs.declared.place.ObjectRef.{ObjectRef}
use Rattle.block_layout.specs.Pointers.{null}
use Rattle.upc_values.specs.declared.scalar.Scalar.TheVariants.{Shared}
use Rattle.upc_values.specs.declared.scalar.Value.{Value}
use Rattle.upc_values.specs.declared.scalar.Value.TheVariants as value
use Rattle.upc_types.specs.Types.{CType, Structs}
use Rattle.typed_tree.specs.Tree.{Function}
use Rattle.typed_tree.specs.Programs.{Checked, start_of}
use Rattle.typed_tree.specs.declared.beginning.SharedDecl.{SharedDecl}
use Rattle.typed_tree.specs.Initials.{numbered}
use Rattle.thread_steps.specs.States.{Thread}

-- A program that a thread runs: its functions by number, its structs with the numbers of pointer types, its declared
-- shared objects in order, and the thread.
pub record Running : Type 0 where
  pub functions : List Function
  pub structs : Structs
  pub shared : List SharedDecl
  pub thread : Thread

-- The program as this thread runs it, with a budget of ticks.
abbrev pub running : Checked → (thread budget : ℕ) → Running
running program thread budget = record {
  functions = program.functions;
  structs = (start_of program).structs;
  shared = (start_of program).shared_objects;
  thread = record { number = thread; threads = program.threads; budget = budget; shapes = (start_of program).shapes };
}

-- The pointer-to-shared to the place on thread 0 where an object begins; without an object it is null (UPC 6.5.1.1).
abbrev pub start_in : Option ObjectRef → Value
start_in (Some object) = value.Scalar (Shared (record { object = object; thread = 0; phase = 0; offset = pos 0 }))
start_in None = value.Scalar (Shared null)

-- Where a declared shared object begins, by its number from 1 on: on thread 0 (UPC 6.5.1.1).
abbrev pub shared_object : Running → ℕ → Value
shared_object ρ number = start_in (numbered ρ.shared number)

-- The types of the parameters of the function with this number; a function that is missing has none (C99 6.9.1).
abbrev pub parameters_of : Running → ℕ → List CType
parameters_of ρ number = elim (slice_get ρ.functions number) [ Some f ↦ f.parameters | None ↦ [] ]
