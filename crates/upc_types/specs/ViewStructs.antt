-- The structs of the code, seen without where they lie in memory.
use Rattle.std.specs.Prelude.{map, reverse}
use Rattle.upc_types.specs.declared.structs.Structs as structs_type
use Rattle.upc_types.specs.Types as types_spec
use Rattle.upc_types.specs.View.{view, view_completed}

-- The structs of the code, seen without where they lie in memory: how many there are, those that are complete, the one
-- completed last first, and the targets of pointer types by number.
abbrev pub view_structs : structs_type.Structs → types_spec.Structs
view_structs x = record {
  declared = x.declared;
  completed = reverse (map view_completed x.completed.items);
  targets = map view x.targets.list.items;
}
