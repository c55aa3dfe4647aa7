use Rattle.std.proofs.Common.{◌≡◌, ◌++◌, map, drop}
use Rattle.typed_tree_opening.specs.code.ViewSettings.{view_setting}
use Rattle.typed_tree.specs.Initials.{shared_from}
use Rattle.typed_tree.specs.Objects.{shared_in}
use Rattle.typed_tree.specs.ViewStatements.{view_object}
use Rattle.typed_tree_opening.proofs.initials.shared_initials.Given as goal

abbrev pub invariant-loop-object : goal.invariant-loop-object
invariant-loop-object l = record {
  rest : l.initials.items ++ shared_from (view_setting l.setting) l.number
      (shared_in (map view_object (drop l.object-index l.objects)))
      ≡ shared_from (view_setting l.setting) 1 (shared_in (map view_object l.objects));
}
