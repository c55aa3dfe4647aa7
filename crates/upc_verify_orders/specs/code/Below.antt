-- The operations of a journal, as one list.
use Rattle.std.specs.Prelude.{ℕ, List, [], ◌++◌}
use Rattle.upc_values.specs.declared.journal.Journal.{Journal}
use Rattle.upc_values.specs.Operations.{Operation}
use Rattle.upc_values.specs.Orders.{operations_of}

-- The operations of the first n threads, each thread's in program order.
abbrev pub operations_below : Journal → ℕ → List Operation
operations_below j ℕ.zero = []
operations_below j (ℕ.suc n) = operations_below j n ++ operations_of j n
