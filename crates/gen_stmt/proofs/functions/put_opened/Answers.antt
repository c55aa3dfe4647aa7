use Rattle.typed_tree.specs.ViewStatements.{view_function, view_items}
use Rattle.gen_expr.specs.layer.Sources.{running_of}
use Rattle.gen_expr.specs.layer.ViewSource.{view_source}
use Rattle.gen_stmt.specs.code.Views.{view_exits, view_standing}
use Rattle.gen_stmt.proofs.Behind.{on_ok, opened_whole}
use Rattle.gen_stmt.proofs.functions.put_opened.Goals as goal

pub returns : goal.returns
returns c =
    let ς = view_source c.args.source in
    on_ok c.put_leave.result _ _
    (opened_whole ς (view_function c.args.function.now) c.args.place c.args.strict (view_items c.args.items.now)
    (view_standing c.in_body-standing.result) (view_exits c.in_function.result) c.args.code.now.items
    c.put_opening.new.code.items c.put_all.new.code.items c.put_leave.new.code.items c.in_ok-body.body.items
    c.in_ok-put_opening.ensures (c.in_body-standing.ensures (running_of ς)) c.in_function.ensures c.in_ok-body.ensures
    c.in_ok-put_all.ensures)
    c.put_leave.ensures
