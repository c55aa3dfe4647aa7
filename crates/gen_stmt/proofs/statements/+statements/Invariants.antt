use Rattle.std.proofs.Common.{◌≡◌, ◌+◌, length, drop}
use Rattle.typed_tree.specs.ViewStatements.{view_arms, view_items, view_switch_items}
use Rattle.source_meaning.specs.Statements.{objects_in}
use Rattle.gen_expr.specs.layer.ViewSource.{view_source}
use Rattle.gen_stmt.specs.layer.Codes.{arms_code, items_code}
use Rattle.gen_stmt.specs.code.Parts.{labelled_of}
use Rattle.gen_stmt.specs.code.Views.{view_exits, view_labelled, view_standing, with_count}
use Rattle.gen_stmt.proofs.statements.+statements.Given as goal

abbrev pub invariant-items_of-loop-i : goal.invariant-items_of-loop-i
invariant-items_of-loop-i l = record {
  scope :
      l.count + length (objects_in (view_items (drop l.i l.items)))
      ≡ l.standing.count + length (objects_in (view_items l.items));
  told :
      l.out
      ≡ items_code (view_source l.source) (with_count l.count (view_standing l.standing)) (view_exits l.exits)
      (view_items (drop l.i l.items));
}

abbrev pub invariant-put_arms-loop-i : goal.invariant-put_arms-loop-i
invariant-put_arms-loop-i l =
    l.out
    ≡ arms_code (view_source l.source) (view_standing l.standing) (view_exits l.exits) l.place
    (view_arms (drop l.i l.arms)) l.fn.out (length l.fn.out)

abbrev pub invariant-labelled_of-loop-i : goal.invariant-labelled_of-loop-i
invariant-labelled_of-loop-i l =
    view_labelled l.body
    ≡ labelled_of (view_source l.source) (view_standing l.standing) (view_exits l.exits)
    (view_switch_items (drop l.i l.items))
