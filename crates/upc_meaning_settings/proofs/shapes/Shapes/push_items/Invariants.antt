use Rattle.std.proofs.Common.{◌≡◌, ◌++◌, drop}
use Rattle.typed_tree.specs.ViewStatements.{view_items}
use Rattle.source_meaning.specs.Statements.{shapes_of, objects_in}
use Rattle.upc_meaning_settings.specs.layer.Settings.{running_seen}
use Rattle.block_layout.specs.Shapes.{IsShape}
use Rattle.upc_values.specs.Lists.{Each}
use Rattle.upc_meaning_settings.proofs.shapes.Shapes.push_items.Given as goal

abbrev pub invariant-loop-item : goal.invariant-loop-item
invariant-loop-item l =
    record {
      told : l.self.items.items ++ shapes_of (running_seen l.setting) (objects_in (view_items (drop l.item-index l.items)))
          ≡ l.initial.self.items.items ++ shapes_of (running_seen l.setting) (objects_in (view_items l.items));
      valid : Each IsShape l.initial.self.items.items → Each IsShape l.self.items.items;
    }
