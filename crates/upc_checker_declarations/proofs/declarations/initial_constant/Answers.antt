use Rattle.std.proofs.Common.{true, Ok, sym, ◌∙◌}
use Rattle.std.proofs.lemmas.Result.{err_from_is_err_and}
use Rattle.typed_tree.specs.ViewTree.{view_expr}
use Rattle.upc_checker_expressions.specs.Expressions.{constantly}
use Rattle.upc_checker_scopes.specs.layer.Views.{view_setting}
use Rattle.upc_checker_scopes.proofs.Walks.{goes, stops, gives}
use Rattle.upc_checker_declarations.proofs.declarations.initial_constant.Goals as goal

pub returns-in_err-constantly : goal.returns-in_err-constantly
returns-in_err-constantly c = λ s.
    let id = λ (u : Unit {0}). u in
    let w = constantly (view_setting c.args.setting) (view_expr c.args.a.now) in
    let file = sym c.is_file.ensures ∙ c.if-is_file.true in
    let p = err_from_is_err_and c.from_residual.result c.from_residual.ensures.1 in
    rw (file, p.1, p.2) (stops id w _ s s c.in_err-constantly.field-0.0 (c.in_err-constantly.ensures s))

pub returns-in_ok-constantly : goal.returns-in_ok-constantly
returns-in_ok-constantly c = λ s.
    let id = λ (u : Unit {0}). u in
    let w = constantly (view_setting c.args.setting) (view_expr c.args.a.now) in
    let file = sym c.is_file.ensures ∙ c.if-is_file.true in
    rw file (goes id w _ s s s c.in_ok-constantly.field-0 (Ok (tt {0})) (c.in_ok-constantly.ensures s) (gives s (tt {0})))
