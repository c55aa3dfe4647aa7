use Rattle.std.proofs.Common.{◌≡◌, ◌++◌, map, drop}
use Rattle.upc_types.specs.View.{view}
use Rattle.upc_types.specs.ViewStructs.{view_structs}
use Rattle.source_meaning.specs.Types.{shape_of}
use Rattle.block_layout.specs.Shapes.{IsShape}
use Rattle.upc_values.specs.Lists.{Each}
use Rattle.upc_meaning_settings.proofs.shapes.Shapes.push_types.Given as goal

abbrev pub invariant-loop-t : goal.invariant-loop-t
invariant-loop-t l =
    record {
      told : l.self.items.items ++ map (shape_of (view_structs l.setting.structs.now)) (map view (drop l.t-index l.types))
          ≡ l.initial.self.items.items ++ map (shape_of (view_structs l.setting.structs.now)) (map view l.types);
      valid : Each IsShape l.initial.self.items.items → Each IsShape l.self.items.items;
    }
