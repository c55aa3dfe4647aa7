use Rattle.std.proofs.Common.{◌≡◌, true, ap, ◌∙◌, map, arith}
use Rattle.std.proofs.lemmas.List.{nil_from_length}
use Rattle.typing_rules.specs.Nodes.{view_attr}
use Rattle.typed_tree.specs.declared.tree.Target.TheVariants.{Library}
use Rattle.typed_tree.specs.Tree.{Call, exprs_of}
use Rattle.typed_tree.specs.ViewTree.{view_expr, view_kind}
use Rattle.source_meaning.specs.layer.Parts.{is_printf}
use Rattle.upc_meaning_settings.specs.layer.Settings.{running_seen}
use Rattle.upc_meaning_work.proofs.Branches.{printf_none}
use Rattle.upc_meaning_work.specs.layer.Evaluations.{seen}
use Rattle.upc_meaning_expressions.proofs.calls.library.Goals as goal

pub returns-in_ok-push_value-in-None : goal.returns-in_ok-push_value-in-None
returns-in_ok-push_value-in-None c =
    let e = c.args.e.now in
    let p : is_printf c.args.call ≡ true = grind (arith, c.is_printf.ensures, c.if-not-is_printf.false) in
    printf_none (running_seen c.args.setting) c.args.strict e.place (view_attr e.attr) (view_kind e.kind)
    (seen c.args.evaluation.now) (seen c.push_value.new.self) c.args.call p
    (c.requires ∙ ap (λ l. Call (Library c.args.call) (exprs_of (map view_expr l)))
    (nil_from_length _ c.in-None.ensures.cases))
    c.in_ok-push_value-in-None.ensures
