use Rattle.std.proofs.Common.{refl, ◌∙◌, ap, map}
use Rattle.std.proofs.lemmas.Result.{err_from_is_err_and}
use Rattle.typing_rules.specs.Nodes as n
use Rattle.typing_rules.specs.Rules.{lowest}
use Rattle.typed_tree.specs.Tree as k
use Rattle.typed_tree.specs.ViewStatements.{view_arms, view_last, view_statement}
use Rattle.typed_tree.specs.ViewStatements.{attr_tested}
use Rattle.upc_checker_scopes.specs.Walk.{facts_in}
use Rattle.upc_checker_nodes.proofs.Judged.{judges, refuses}
use Rattle.upc_checker_scopes.specs.layer.Ends.{boxed}
use Rattle.upc_checker_nodes.proofs.statements.finish_if.Goals as goal

pub returns-in_err-judged : goal.returns-in_err-judged
returns-in_err-judged c = λ ξ s.
    let x = n.Tests (map attr_tested c.args.arms.items) in
    let why = c.tests.ensures (facts_in ξ s) ∙ ap (λ xs. lowest (facts_in ξ s) (n.Tests (map attr_tested xs))) c.as_slice.ensures.value in
    let y = k.Stands c.args.at (k.If (view_arms c.args.arms.items) (view_last c.args.last)) in
    let p = err_from_is_err_and c.from_residual.result c.from_residual.ensures.1 in
    rw (p.1, p.2) (refuses (λ (x : k.Statement). x) ξ c.args.at x y s c.tests.result c.in_err-judged.field-0.0 why c.in_err-judged.ensures.err)

pub returns : goal.returns
returns c = λ ξ s.
    let x = n.Tests (map attr_tested c.args.arms.items) in
    let why = c.tests.ensures (facts_in ξ s) ∙ ap (λ xs. lowest (facts_in ξ s) (n.Tests (map attr_tested xs))) c.as_slice.ensures.value in
    let y = k.Stands c.args.at (k.If (view_arms c.args.arms.items) (view_last c.args.last)) in
    judges (boxed view_statement) ξ c.args.at x y s c.tests.result c.in_ok-x.x why c.in_ok-judged.ensures.ok refl c.in_ok-x.ensures
