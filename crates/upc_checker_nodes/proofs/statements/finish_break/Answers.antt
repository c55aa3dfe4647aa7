use Rattle.std.proofs.Common.{refl}
use Rattle.std.proofs.lemmas.Result.{err_from_is_err_and}
use Rattle.typing_rules.specs.Nodes as n
use Rattle.typed_tree.specs.Tree as k
use Rattle.typed_tree.specs.ViewStatements.{view_statement}
use Rattle.typing_rules.specs.layer.Views.{view_around}
use Rattle.upc_checker_scopes.specs.Walk.{facts_in}
use Rattle.upc_checker_nodes.proofs.Judged.{judges, refuses}
use Rattle.upc_checker_scopes.specs.layer.Ends.{boxed}
use Rattle.upc_checker_nodes.proofs.statements.finish_break.Goals as goal

pub returns-in_err-judged : goal.returns-in_err-judged
returns-in_err-judged c = λ ξ s.
    let x = n.Break (view_around c.args.around) in
    let y = k.Stands c.args.at k.Break in
    let p = err_from_is_err_and c.from_residual.result c.from_residual.ensures.1 in
    rw (p.1, p.2) (refuses (λ (x : k.Statement). x) ξ c.args.at x y s c.breaks.result c.in_err-judged.field-0.0 (c.breaks.ensures (facts_in ξ s)) c.in_err-judged.ensures.err)

pub returns : goal.returns
returns c = λ ξ s.
    let x = n.Break (view_around c.args.around) in
    let y = k.Stands c.args.at k.Break in
    judges (boxed view_statement) ξ c.args.at x y s c.breaks.result c.in_ok-x.x (c.breaks.ensures (facts_in ξ s)) c.in_ok-judged.ensures.ok refl c.in_ok-x.ensures
