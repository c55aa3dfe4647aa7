use Rattle.std.proofs.Common.{◌≡◌, ◌+◌, ◌≤◌, map, drop, length}
use Rattle.typed_tree.specs.Objects.{private_in}
use Rattle.typed_tree.specs.ViewStatements.{view_object}
use Rattle.typed_tree_opening.proofs.objects.count_private.Given as goal

abbrev pub invariant-loop-object : goal.invariant-loop-object
invariant-loop-object l = record {
  rest : l.count + length (private_in (map view_object (drop l.object-index l.objects)))
      ≡ length (private_in (map view_object l.objects));
  few : l.count ≤ l.object-index;
}
