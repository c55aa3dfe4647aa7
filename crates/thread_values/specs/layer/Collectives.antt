-- Collective calls by their arguments (UPC 7.3).
use Rattle.std.specs.Prelude.{ℕ, List, Option, Some, None}
use Rattle.upc_values.specs.declared.scalar.Scalar.{Scalar}
use Rattle.upc_values.specs.declared.scalar.Value.{Value}
use Rattle.upc_values.specs.declared.library.LibraryCall.{LibraryCall}
use Rattle.upc_values.specs.declared.library.LibraryCall.TheVariants as call
use Rattle.upc_values.specs.LibraryCalls.{scalars}
use Rattle.thread_steps.specs.Library.{met_with}

-- The number of a collective call that asks for many actions, from 5 to 12; no other call has one (UPC 7.3).
abbrev pub collective_number : LibraryCall → Option ℕ
collective_number call.Broadcast = Some 5
collective_number call.Scatter = Some 6
collective_number call.Gather = Some 7
collective_number call.GatherAll = Some 8
collective_number call.Exchange = Some 9
collective_number call.Permute = Some 10
collective_number (call.Reduce k) = Some 11
collective_number (call.PrefixReduce k) = Some 12
collective_number c = None

-- The scalars with which all threads meet in a call that makes no elements.
abbrev pub scalars_met : LibraryCall → List Value → List Scalar
scalars_met c args = scalars (met_with c 0 args)
