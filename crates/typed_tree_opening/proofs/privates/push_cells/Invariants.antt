use Rattle.std.proofs.Common.{◌≡◌, ◌*◌, ◌++◌, drop}
use Rattle.std.proofs.Math.IntN.{pos}
use Rattle.block_layout.specs.Shapes.{kind_size}
use Rattle.typed_tree_opening.specs.code.ViewSettings.{view_setting}
use Rattle.typed_tree.specs.Initials.{cells_from}
use Rattle.typed_tree_opening.proofs.privates.push_cells.Given as goal

abbrev pub invariant-loop-constant : goal.invariant-loop-constant
invariant-loop-constant l = record {
  rest : l.initials.items ++ cells_from (view_setting l.setting) l.object l.kind
      (l.constant-index * kind_size l.kind) (drop l.constant-index l.constants)
      ≡ l.initial.initials.items ++ cells_from (view_setting l.setting) l.object l.kind 0 l.constants;
  offset : l.offset ≡ pos (l.constant-index * kind_size l.kind);
}
