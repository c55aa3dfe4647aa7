use Rattle.std.proofs.Common.{◌++◌, ◌∙◌, ap}
use Rattle.typed_tree.specs.declared.tree.Statement.{Statement}
use Rattle.typed_tree.specs.ViewStatements.{view_function, view_statement}
use Rattle.gen_expr.specs.layer.Sources.{running_of}
use Rattle.gen_expr.specs.layer.ViewSource.{view_source}
use Rattle.gen_stmt.specs.layer.Codes.{statement_code}
use Rattle.gen_stmt.specs.code.Views.{view_exits, view_standing}
use Rattle.gen_stmt.proofs.Behind.{on_ok, plain_whole}
use Rattle.gen_stmt.proofs.functions.put_plain.Goals as goal

pub returns : goal.returns
returns c =
    let ς = view_source c.args.source in
    let κ = view_standing c.in_body-standing.result in
    let ω = view_exits c.in_function.result in
    let f = c.args.function.now in
    let first = c.put_receive.new.code.items in
    on_ok c.put_statement.result _ _
    (λ h. plain_whole ς (view_function f) f.place (view_statement f.body.value) κ ω c.args.code.now.items first
    c.put_statement.new.code.items c.new-cells.result.items c.new-cells.ensures.items c.in_ok-put_receive.ensures
    (c.in_body-standing.ensures (running_of ς)) c.in_function.ensures
    (h ∙ ap (λ (s : Statement). first ++ statement_code ς κ ω (view_statement s)) c.deref.ensures))
    c.put_statement.ensures
