-- Which operations an order is of, by their names.
use Rattle.std.specs.Prelude.{ℕ, Bool, true, ◌==◌, ◌||◌, List, map, filter}
use Rattle.std.specs.List.{range_with_len}
use Rattle.upc_values.specs.declared.order.Op.{Op}
use Rattle.order_builder.specs.declared.names.Named.{Named}
use Rattle.order_builder.specs.declared.part.Part.{Part}
use Rattle.order_builder.specs.declared.part.Part.TheVariants.{Whole, Strict, Shown}

-- The operation is in the part.
abbrev pub is_in : Part → Named → Bool
is_in Whole n = true
is_in Strict n = n.strict
is_in (Shown t) n = (n.name.thread == t) || (n.name.write || n.strict)

-- The names of the operations that are in the part.
abbrev pub order_of : Part → List Named → List Op
order_of part names = map (λ n. n.name) (filter (is_in part) names)

-- The names of the operations in the order of each of so many threads.
abbrev pub shown_below : List Named → ℕ → List (List Op)
shown_below names n = map (λ t. order_of (Shown t) names) (range_with_len 0 n)
