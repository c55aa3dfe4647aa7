use Rattle.std.proofs.Common.{◌≡◌, ◌++◌, map, drop}
use Rattle.typed_tree.specs.ViewStatements.{view_object}
use Rattle.source_meaning.specs.Statements.{shapes_of}
use Rattle.upc_meaning_settings.specs.layer.Settings.{running_seen}
use Rattle.block_layout.specs.Shapes.{IsShape}
use Rattle.upc_values.specs.Lists.{Each}
use Rattle.upc_meaning_settings.proofs.shapes.Shapes.push_objects.Given as goal

abbrev pub invariant-loop-object : goal.invariant-loop-object
invariant-loop-object l =
    record {
      told : l.self.items.items ++ shapes_of (running_seen l.setting) (map view_object (drop l.object-index l.objects))
          ≡ l.initial.self.items.items ++ shapes_of (running_seen l.setting) (map view_object l.objects);
      valid : Each IsShape l.initial.self.items.items → Each IsShape l.self.items.items;
    }
