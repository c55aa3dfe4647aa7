use Rattle.std.proofs.Common.{◌≡◌, ◌++◌, ◌≤◌, map, drop}
use Rattle.typed_tree_opening.specs.code.ViewSettings.{view_setting}
use Rattle.typed_tree.specs.Initials.{private_from}
use Rattle.typed_tree.specs.Objects.{private_in}
use Rattle.typed_tree.specs.ViewStatements.{view_object}
use Rattle.typed_tree_opening.proofs.privates.private_initials.Given as goal

abbrev pub invariant-loop-object : goal.invariant-loop-object
invariant-loop-object l = record {
  rest : l.initials.items ++ private_from (view_setting l.setting) l.number
      (private_in (map view_object (drop l.object-index l.objects)))
      ≡ private_from (view_setting l.setting) 0 (private_in (map view_object l.objects));
  few : l.number ≤ l.object-index;
}
