use Rattle.std.proofs.Common.{false, Ok, Err, sym, ap, ◌∙◌, subst}
use Rattle.std.proofs.lemmas.Result.{err_from_is_err_and}
use Rattle.typing_rules.specs.Meanings.{Signature}
use Rattle.typing_rules.specs.Nodes.{DeclaresFunction}
use Rattle.typing_rules.specs.Rules.{lowest}
use Rattle.typed_tree.specs.Scopes.{State, with_function}
use Rattle.typed_tree.specs.layer.ViewEnv.{view_env}
use Rattle.typing_rules.specs.layer.Views.{view_signature}
use Rattle.upc_checker_scopes.specs.Known as stands
use Rattle.upc_checker_declarations.specs.Declarations as pure
use Rattle.upc_checker_scopes.specs.layer.Ends.{Comes}
use Rattle.upc_checker_scopes.specs.layer.Views.{view_setting, state_with}
use Rattle.upc_checker_scopes.specs.Walk.{judge, look, facts_in}
use Rattle.upc_checker_scopes.proofs.Walks.{goes, stops, looks, updates, judge_goes, judge_stops}
use Rattle.upc_checker_declarations.proofs.declarations.declares_function.Goals as goal

pub returns-in_err-judged : goal.returns-in_err-judged
returns-in_err-judged c = λ tags.
    let ξ = view_setting c.args.setting in
    let s = state_with tags c.args.known.now in
    let sig = view_signature c.args.signature.now in
    let f = λ (s : State). stands.prototype_again ξ (view_env c.args.env.now) s c.args.name sig in
    let id = λ (u : Unit {0}). u in
    let x = DeclaresFunction (f s) c.args.forms sig in
    let φ = facts_in ξ s in
    let rule = c.declares_function.ensures φ ∙ ap (λ b. lowest φ (DeclaresFunction b c.args.forms sig)) (c.prototype_again-again.ensures tags) in
    let e = c.in_err-judged.field-0.0 in
    let p = err_from_is_err_and c.from_residual.result c.from_residual.ensures.1 in
    rw (p.1, p.2)
    (goes id (look f) _ s s s (f s) (Err e) (looks f s)
    (stops id (judge ξ c.args.place x) _ s s e (judge_stops ξ c.args.place x s c.declares_function.result e rule c.in_err-judged.ensures.err)))

pub returns : goal.returns
returns c = λ tags.
    let ξ = view_setting c.args.setting in
    let Γ = view_env c.args.env.now in
    let s = state_with tags c.args.known.now in
    let sig = view_signature c.args.signature.now in
    let f = λ (s : State). stands.prototype_again ξ Γ s c.args.name sig in
    let id = λ (u : Unit {0}). u in
    let x = DeclaresFunction (f s) c.args.forms sig in
    let φ = facts_in ξ s in
    let rule = c.declares_function.ensures φ ∙ ap (λ b. lowest φ (DeclaresFunction b c.args.forms sig)) (c.prototype_again-again.ensures tags) in
    let t = with_function c.args.name sig false s in
    let w = pure.declares_function ξ Γ c.args.place c.args.name c.args.forms sig in
    let done : Comes (w s) t (tt {0}) =
    goes id (look f) _ s s t (f s) (Ok (tt {0})) (looks f s)
    (goes id (judge ξ c.args.place x) _ s s t (tt {0}) (Ok (tt {0})) (judge_goes ξ c.args.place x s c.declares_function.result rule c.in_ok-judged.ensures.ok)
    (updates (with_function c.args.name sig false) s)) in
    let after = c.in_ok-note_function.ensures.ok tags ∙ ap (λ (g : Signature). with_function c.args.name g false s) c.in_ok-copy.ensures in
    subst (λ (u : State). Comes (w s) u (tt {0})) (sym after) done
