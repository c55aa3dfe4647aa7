use Rattle.std.proofs.Common.{◌≡◌, ◌+◌, length, drop}
use Rattle.typed_tree.specs.ViewStatements.{view_items}
use Rattle.source_meaning.specs.Statements.{objects_in}
use Rattle.gen_stmt.proofs.shapes.count_all.Given as goal

abbrev pub invariant-loop-item : goal.invariant-loop-item
invariant-loop-item l =
    l.all + length (objects_in (view_items (drop l.item-index l.items)))
    ≡ l.count + length (objects_in (view_items l.items))
