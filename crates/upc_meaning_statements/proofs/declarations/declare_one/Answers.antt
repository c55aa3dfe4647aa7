use Rattle.std.proofs.Common.{[], ◌∷◌, map, sym, ap, ◌∙◌}
use Rattle.typed_tree.specs.declared.tree.Expr.{Expr}
use Rattle.typed_tree.specs.Tree.{InitialValue, place_of}
use Rattle.typed_tree.specs.ViewTree.{view_expr}
use Rattle.typed_tree.specs.ViewStatements.{view_initial, view_object}
use Rattle.source_meaning.specs.Types.{conversion}
use Rattle.source_meaning.specs.Expressions.{type_of}
use Rattle.upc_meaning_settings.specs.layer.Settings.{running_seen}
use Rattle.upc_meaning_work.specs.layer.Seen.{more_works}
use Rattle.upc_meaning_work.specs.layer.Items.{Value, Convert, Keep, Declare}
use Rattle.upc_meaning_work.specs.layer.ViewItems.{view_standing}
use Rattle.upc_meaning_work.proofs.Declaring.{declare_value}
use Rattle.upc_meaning_work.specs.layer.Evaluations.{seen}
use Rattle.upc_meaning_statements.proofs.declarations.declare_one.Goals as goal

pub returns-in_ok-push_initial-in-Value : goal.returns-in_ok-push_initial-in-Value
returns-in_ok-push_initial-in-Value c =
    let κ = view_standing c.args.standing in
    let x = view_object c.args.object.now in
    let xs = map view_object c.args.more.now in
    let a = view_expr c.deref.result.now in
    declare_value (running_seen c.args.setting) κ (seen c.args.evaluation.now) (seen c.push_initial.new.evaluation) x
    xs a c.object-place.result
    (ap view_initial c.in-Value.is ∙ ap (λ (e : Expr). InitialValue (view_expr e)) (sym c.deref.ensures))
    c.object-place.ensures
    (c.in_ok-push_initial-in-Value.ensures
    ∙ ap (more_works (Value κ.strict a ∷ Convert (conversion (type_of a) x.ctype) (place_of a)
    ∷ Keep κ.strict x.at x.ctype ∷ []))
    (c.in_ok-push_one-in-Value.ensures ∙ ap (more_works (Declare κ xs ∷ [])) c.in_ok-push_value-in-Value.ensures))
