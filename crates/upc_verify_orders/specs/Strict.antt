-- The strict order that a list of the strict operations makes.
use Rattle.std.specs.Prelude.{◌≡◌, ◌<◌, true, ◌||◌, List}
use Rattle.upc_values.specs.Lists.{Precedes}
use Rattle.upc_values.specs.Operations.{Operation}
use Rattle.upc_values.specs.Orders.{rank}

-- Two operations are of one thread, one of them strict, and stand so in program order.
abbrev pub IsWritten : Operation → Operation → Type 0
IsWritten a b = (a.thread ≡ b.thread) × ((a.strict || b.strict) ≡ true) × (rank a < rank b)

-- The strict order: strict operations as in the list, operations of one thread, one of them strict, by program order,
-- and what follows by transitivity (UPC Appendix B).
pub data StrictBy (set : Operation → Type 0) (strict : List Operation) : Operation → Operation → Type 0 where
  As_listed : (a b : Operation) → Precedes strict a b → StrictBy set strict a b
  As_written : (a b : Operation) → set a → set b → IsWritten a b → StrictBy set strict a b
  Through : (a b c : Operation) → StrictBy set strict a b → StrictBy set strict b c → StrictBy set strict a c
