use Rattle.std.proofs.Common.{Err, Ok, sym, subst}
use Rattle.std.proofs.lemmas.Result.{err_from_is_err_and}
use Rattle.typed_tree.specs.Tree as k
use Rattle.typed_tree.specs.ViewStatements.{view_statement, view_value}
use Rattle.typing_rules.specs.layer.Views.{view_around}
use Rattle.upc_checker_scopes.specs.layer.Ends.{Meets, boxed}
use Rattle.upc_checker_scopes.specs.Walk.{Walk, facts_in}
use Rattle.upc_checker_nodes.specs.Judged.{returned_node}
use Rattle.upc_checker_nodes.proofs.Judged.{judges_returned, refuses, returns_is}
use Rattle.upc_checker_nodes.proofs.statements.returns.Goals as goal

pub returns-in_err-judged : goal.returns-in_err-judged
returns-in_err-judged c = λ ξ s.
    let A = view_around c.args.around in
    let a = view_value c.args.value in
    let x = returned_node A a in
    let y = k.Stands c.args.at (k.Return a) in
    let e = c.in_err-judged.field-0.0 in
    let p = err_from_is_err_and c.from_residual.result c.from_residual.ensures.1 in
    rw (p.1, p.2) (subst (λ (w : Walk k.Statement). Meets (λ (x : k.Statement). x) (w s) s (Err e)) (sym (returns_is ξ A c.args.at a))
    (refuses (λ (x : k.Statement). x) ξ c.args.at x y s c.judge_returned.result e (c.judge_returned.ensures (facts_in ξ s)) c.in_err-judged.ensures.err))

pub returns : goal.returns
returns c = λ ξ s.
    let A = view_around c.args.around in
    let a = view_value c.args.value in
    let x = returned_node A a in
    let y = k.Stands c.args.at (k.Return a) in
    let r = c.in_ok-x.x in
    subst (λ (w : Walk k.Statement). Meets (boxed view_statement) (w s) s (Ok r)) (sym (returns_is ξ A c.args.at a))
    (judges_returned ξ A c.args.at a s c.judge_returned.result r (c.judge_returned.ensures (facts_in ξ s)) c.in_ok-judged.ensures.ok c.in_ok-x.ensures)
