use Rattle.std.proofs.Common.{refl, ◌∙◌, ap}
use Rattle.std.proofs.lemmas.Result.{err_from_is_err_and}
use Rattle.typing_rules.specs.Nodes as n
use Rattle.typing_rules.specs.Rules.{lowest}
use Rattle.typing_rules.specs.Nodes.{view_attr}
use Rattle.typed_tree.specs.Tree as k
use Rattle.typed_tree.specs.ViewStatements.{view_statement, view_switch_items}
use Rattle.typed_tree.specs.ViewTree.{view_expr}
use Rattle.upc_checker_scopes.specs.layer.Ends.{boxed}
use Rattle.upc_checker_scopes.specs.Walk.{facts_in}
use Rattle.upc_checker_nodes.proofs.Judged.{judges, refuses}
use Rattle.upc_checker_nodes.proofs.statements.finish_switch.Goals as goal

pub returns-in_err-judged : goal.returns-in_err-judged
returns-in_err-judged c = λ ξ s.
    let x = n.Switch (view_attr c.args.a.value.attr) c.args.labelled.labels.items c.args.labelled.defaults in
    let why = (rw c.deref.ensures at (c.in_ok-rule.ensures (facts_in ξ s))) ∙ ap (λ xs. lowest (facts_in ξ s) (n.Switch (view_attr c.args.a.value.attr) xs c.args.labelled.defaults)) c.as_slice-labels.ensures.value in
    let y = k.Stands c.args.at (k.Switch (view_expr c.args.a.value) (view_switch_items c.args.labelled.items.items)) in
    let p = err_from_is_err_and c.from_residual-in_err-judged.result c.from_residual-in_err-judged.ensures.1 in
    rw (p.1, p.2) (refuses (λ (x : k.Statement). x) ξ c.args.at x y s c.in_ok-rule.rule c.in_err-judged.field-0.0 why c.in_err-judged.ensures.err)

pub returns : goal.returns
returns c = λ ξ s.
    let x = n.Switch (view_attr c.args.a.value.attr) c.args.labelled.labels.items c.args.labelled.defaults in
    let why = (rw c.deref.ensures at (c.in_ok-rule.ensures (facts_in ξ s))) ∙ ap (λ xs. lowest (facts_in ξ s) (n.Switch (view_attr c.args.a.value.attr) xs c.args.labelled.defaults)) c.as_slice-labels.ensures.value in
    let y = k.Stands c.args.at (k.Switch (view_expr c.args.a.value) (view_switch_items c.args.labelled.items.items)) in
    judges (boxed view_statement) ξ c.args.at x y s c.in_ok-rule.rule c.in_ok-x.x why c.in_ok-judged.ensures.ok refl c.in_ok-x.ensures
