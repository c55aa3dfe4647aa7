use Rattle.std.proofs.Common.{ap, ◌∙◌, map}
use Rattle.typing_rules.specs.Nodes.{view_attr}
use Rattle.typed_tree.specs.Tree.{Call, exprs_of}
use Rattle.typed_tree.specs.ViewTree.{view_expr, view_kind}
use Rattle.upc_meaning_settings.specs.layer.Settings.{running_seen}
use Rattle.upc_meaning_work.proofs.Callings.{function_calls}
use Rattle.upc_meaning_work.specs.layer.Evaluations.{seen}
use Rattle.upc_meaning_expressions.proofs.calling.call_target.Goals as goal

pub returns-in-Function : goal.returns-in-Function
returns-in-Function c =
    let e = c.args.e.now in
    let s = seen c.args.evaluation.now in
    let list = exprs_of (map view_expr c.args.list.now) in
    rw (function_calls (running_seen c.args.setting) s s e.place (view_attr e.attr) (view_kind e.kind)
    c.in-Function.number list c.args.args.now (c.requires.kind ∙ ap (λ x. Call x list) c.in-Function.is))
    c.enter.ensures

pub call_library-requires-clause-kind : goal.call_library-requires-clause-kind
call_library-requires-clause-kind c =
    c.requires.kind ∙ ap (λ x. Call x (exprs_of (map view_expr c.args.list.now))) c.in-Library.is
