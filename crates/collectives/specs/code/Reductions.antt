-- The program's operators of reductions as the definitions have them.
use Rattle.std.specs.Prelude.{Option, Some, None}
use Rattle.upc_values.specs.Reductions as said
use Rattle.collectives.specs.declared.reduction.Reduction.{Reduction}
use Rattle.collectives.specs.declared.reduction.Reduction.TheVariants as reduction

-- the operator of the definitions
abbrev pub reduction_in : Reduction → said.Reduction
reduction_in reduction.Sum = said.Sum
reduction_in reduction.Product = said.Product
reduction_in reduction.BitsAnd = said.Bits_and
reduction_in reduction.BitsOr = said.Bits_or
reduction_in reduction.BitsXor = said.Bits_xor
reduction_in reduction.Both = said.Both
reduction_in reduction.Either = said.Either
reduction_in reduction.Least = said.Least
reduction_in reduction.Greatest = said.Greatest

-- The operator of the definitions, where there is one.
abbrev pub reduction_option : Option Reduction → Option said.Reduction
reduction_option (Some r) = Some (reduction_in r)
reduction_option None = None
