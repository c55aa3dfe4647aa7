-- The value that a cell's form in memory stands for.
use Rattle.std.specs.Prelude.{List, map}
use Rattle.upc_values.specs.declared.scalar.Scalar.TheVariants as scalar
use Rattle.upc_values.specs.declared.scalar.Value.{Value}
use Rattle.upc_values.specs.declared.scalar.Value.TheVariants as value
use Rattle.private_store.specs.declared.held.Held.{Held}
use Rattle.private_store.specs.declared.held.Held.TheVariants.{Number, Shared, Lock, Local}

-- The value for which a cell's form in memory stands.
abbrev pub held_value : Held → Value
held_value (Number n) = value.Scalar (scalar.Int n)
held_value (Shared p) = value.Scalar (scalar.Shared p)
held_value (Lock l) = value.Scalar (scalar.Lock l)
held_value (Local p) = value.Local p

-- The values for which the forms of some cells stand, in order.
abbrev pub held_values : List Held → List Value
held_values held = map held_value held
