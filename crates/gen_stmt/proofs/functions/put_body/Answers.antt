use Rattle.std.proofs.Common.{List, ◌∙◌, ap, sym}
use Rattle.typed_tree.specs.declared.tree.Item.{Item}
use Rattle.typed_tree.specs.declared.tree.Statement.{Statement}
use Rattle.typed_tree.specs.Tree.{Stands}
use Rattle.typed_tree.specs.ViewStatements.{view_function, view_items, view_statement, view_statement_kind}
use Rattle.typed_tree.proofs.StatementRows.{block_is}
use Rattle.gen_expr.specs.layer.ViewSource.{view_source}
use Rattle.gen_stmt.specs.layer.Programs.{body_code, opened_code}
use Rattle.gen_stmt.proofs.Behind.{on_ok, behind}
use Rattle.gen_stmt.proofs.functions.put_body.Goals as goal

pub returns-in-Block : goal.returns-in-Block
returns-in-Block c =
    let ς = view_source c.args.source in
    let s = c.in-Block in
    let f = view_function c.args.function.now in
    let b = c.deref.result.now in
    let at = c.deref-in-Block.result.now.place in
    let v = ap view_statement_kind s.is ∙ block_is s.strict s.items in
    on_ok c.put_opened.result _ _
    (behind c.args.code.now.items c.put_opened.new.code.items _ _
    (ap (λ (xs : List Item). opened_code ς f at s.strict (view_items xs)) c.as_slice.ensures.value
    ∙ ap (λ (x : Statement). opened_code ς f x.place s.strict (view_items s.items.items))
    (c.deref-in-Block.ensures ∙ sym c.deref.ensures)
    ∙ sym (ap (λ k. body_code ς f (Stands b.place k)) v)
    ∙ ap (λ (x : Statement). body_code ς f (view_statement x)) c.deref.ensures))
    c.put_opened.ensures
