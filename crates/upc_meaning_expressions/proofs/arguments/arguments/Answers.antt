use Rattle.std.proofs.Common.{◌≡◌, ◌+◌, refl, ap, ◌∙◌, map}
use Rattle.std.proofs.lemmas.List.{nil_from_length}
use Rattle.typed_tree.specs.Tree.{NoExprs, AndExpr, exprs_of}
use Rattle.typed_tree.specs.ViewTree.{view_expr}
use Rattle.upc_meaning_settings.specs.layer.Settings.{running_seen}
use Rattle.upc_meaning_work.specs.layer.ViewItems.{casts_of}
use Rattle.upc_meaning_work.proofs.Branches.{no_more, argument_goes}
use Rattle.upc_meaning_work.specs.layer.Evaluations.{seen}
use Rattle.upc_meaning_expressions.proofs.arguments.arguments.Goals as goal

pub returns-in_default : goal.returns-in_default
returns-in_default c =
    let s = seen c.args.evaluation.now in
    let args = exprs_of (map view_expr c.args.more.now) in
    let none : args ≡ NoExprs =
    ap (λ l. exprs_of (map view_expr l)) (nil_from_length _ c.in_default.ensures.cases) in
    rw (no_more (running_seen c.args.setting) c.args.strict (view_expr c.args.call.now)
    (casts_of c.args.parameters args) args c.args.done s s none) c.call_now.ensures

pub returns-in_ok-push_argument-in-Some-next_cast :
    goal.returns-in_ok-push_argument-in-Some-next_cast
returns-in_ok-push_argument-in-Some-next_cast c =
    let a = view_expr c.in-Some.a.now in
    let more = exprs_of (map view_expr c.in-Some.rest.now) in
    let args = exprs_of (map view_expr c.args.more.now) in
    let is : args ≡ AndExpr a more = ap (λ l. exprs_of (map view_expr l)) c.in-Some.ensures.cases.0 in
    argument_goes (running_seen c.args.setting) c.args.strict (view_expr c.args.call.now)
    (casts_of c.args.parameters args) args c.args.done (seen c.args.evaluation.now) (seen
    c.push_argument.new.evaluation)
    a more c.in-Some-next_cast.cast (casts_of c.in-Some-next_cast.behind more) (c.args.done + 1) is
    (ap (casts_of c.args.parameters) is ∙ c.in-Some-next_cast.ensures more) refl
    c.in_ok-push_argument-in-Some-next_cast.ensures
