-- The numbers of first operations, as a map has them.
use Rattle.std.specs.Prelude.{ℕ, Option}
use Rattle.std.specs.BTreeMap.{get}
use Rattle.std.specs.declared.cmp.Ordering.{Ordering}
use Rattle.std.specs.Ordering.{nat_cmp, ordering_then}
use Rattle.block_layout.specs.declared.place.Loc.{Loc}
use Rattle.upc_values.specs.Operations.{Place, Cell, Sync}
use Rattle.upc_verify_orders.specs.declared.numbers.Key.{Key}
use Rattle.upc_verify_orders.specs.declared.numbers.Firsts.{Firsts}

-- The order of locations in the map.
abbrev pub key_cmp : Key → Key → Ordering
key_cmp p q =
    ordering_then (nat_cmp p.object q.object)
    (ordering_then (nat_cmp p.thread q.thread) (nat_cmp p.offset q.offset))

-- A location, as the map has it.
abbrev pub key_of : Loc → Key
key_of l = record { object = l.object; thread = l.thread; offset = l.offset }

-- The number that is kept for a place.
abbrev pub looked : Firsts → Place → Option ℕ
looked f (Cell l) = get key_cmp f.cells (key_of l)
looked f Sync = f.sync
