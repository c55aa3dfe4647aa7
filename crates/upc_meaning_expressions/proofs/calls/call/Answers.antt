use Rattle.std.proofs.Common.{ap, ◌∙◌, map}
use Rattle.upc_types.specs.View.{view}
use Rattle.typing_rules.specs.Nodes.{view_attr}
use Rattle.typed_tree.specs.Tree.{Call, exprs_of}
use Rattle.typed_tree.specs.ViewTree.{view_expr, view_kind}
use Rattle.upc_meaning_settings.specs.layer.Settings.{running_seen}
use Rattle.upc_meaning_work.proofs.Branches.{function_goes}
use Rattle.upc_meaning_work.specs.layer.Evaluations.{seen}
use Rattle.upc_meaning_expressions.proofs.calls.call.Goals as goal

pub returns-in_ok-push_arguments-in-Function : goal.returns-in_ok-push_arguments-in-Function
returns-in_ok-push_arguments-in-Function c =
    let e = c.args.e.now in
    let args = exprs_of (map view_expr c.args.args.now) in
    function_goes (running_seen c.args.setting) c.args.strict e.place (view_attr e.attr) (view_kind e.kind)
    (seen c.args.evaluation.now) (seen c.push_arguments.new.evaluation) c.in-Function.number args
    (map view c.parameters_of-types.result.now)
    (c.requires ∙ ap (λ x. Call x args) c.in-Function.is) c.parameters_of-types.ensures
    c.in_ok-push_arguments-in-Function.ensures
