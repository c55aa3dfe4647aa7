use Rattle.std.proofs.Common.{Result, Ok, Err, refl}
use Rattle.std.proofs.lemmas.Result.{err_from_is_err_and}
use Rattle.upc_text.specs.declared.faults.Stop.{Stop}
use Rattle.upc_tree.specs.layer.View.{view}
use Rattle.typed_tree.specs.declared.tree.Affinity.{Affinity}
use Rattle.typed_tree.specs.declared.tree.Affinity.TheVariants as variant
use Rattle.typing_rules.specs.Nodes as n
use Rattle.typing_rules.specs.Nodes.{view_attr}
use Rattle.typed_tree.specs.Tree as k
use Rattle.typed_tree.specs.layer.ViewEnv.{view_env}
use Rattle.typed_tree.specs.ViewStatements.{view_affinity}
use Rattle.typed_tree.specs.ViewTree.{view_expr}
use Rattle.upc_checker_expressions.specs.Expressions.{walk}
use Rattle.upc_checker_scopes.specs.layer.Views.{view_setting, state_of}
use Rattle.upc_checker_scopes.specs.Walk.{facts_in}
use Rattle.upc_checker_scopes.proofs.Walks.{goes, stops}
use Rattle.upc_checker_nodes.proofs.Judged.{judges, refuses}
use Rattle.upc_checker_heads.proofs.heads.walk_affinity.Goals as goal

pub returns-in_err-a-in-Value : goal.returns-in_err-a-in-Value
returns-in_err-a-in-Value c =
    let ξ = view_setting c.args.setting in
    let Γ = view_env c.args.env.now in
    let s = state_of c.args.tags.now c.args.known.now in
    let e = c.in_err-a-in-Value.field-0.0 in
    let p = err_from_is_err_and c.from_residual.result c.from_residual.ensures.1 in
    let id = λ (x : k.Affinity). x in
    rw (c.in-Value.is, p.1, p.2)
    (stops id (walk ξ Γ n.Plain (view c.in-Value.value.value)) _ s s e (rw c.deref.ensures at c.in_err-a-in-Value.ensures))

pub returns-in_err-judged-in-Value : goal.returns-in_err-judged-in-Value
returns-in_err-judged-in-Value c =
    let ξ = view_setting c.args.setting in
    let Γ = view_env c.args.env.now in
    let s = state_of c.args.tags.now c.args.known.now in
    let t = (state_of c.walk.new.tags c.walk.new.known) in
    let a = c.in_ok-a-in-Value.a.value in
    let x = n.Affinity (view_attr a.attr) in
    let why = rw c.deref-in-Value.ensures at (c.affinity.ensures (facts_in ξ t)) in
    let e = c.in_err-judged-in-Value.field-0.0 in
    let p = err_from_is_err_and c.from_residual-in_err-judged-in-Value.result c.from_residual-in_err-judged-in-Value.ensures.1 in
    let id = λ (x : k.Affinity). x in
    rw (c.in-Value.is, p.1, p.2)
    (goes id (walk ξ Γ n.Plain (view c.in-Value.value.value)) _ s t t (view_expr a) (Err e) (rw c.deref.ensures at c.in_ok-a-in-Value.ensures)
    (refuses id ξ a.place x (k.AtValue (view_expr a)) t c.affinity.result e why (rw c.deref-in-Value-2.ensures at c.in_err-judged-in-Value.ensures.err)))

pub returns-in_ok-judged-in-Value : goal.returns-in_ok-judged-in-Value
returns-in_ok-judged-in-Value c =
    let ξ = view_setting c.args.setting in
    let Γ = view_env c.args.env.now in
    let s = state_of c.args.tags.now c.args.known.now in
    let t = (state_of c.walk.new.tags c.walk.new.known) in
    let a = c.in_ok-a-in-Value.a.value in
    let x = n.Affinity (view_attr a.attr) in
    let why = rw c.deref-in-Value.ensures at (c.affinity.ensures (facts_in ξ t)) in
    let made : Result Affinity Stop = Ok (variant.Value c.in_ok-a-in-Value.a) in
    rw c.in-Value.is
    (goes view_affinity (walk ξ Γ n.Plain (view c.in-Value.value.value)) _ s t t (view_expr a) made (rw c.deref.ensures at c.in_ok-a-in-Value.ensures)
    (judges view_affinity ξ a.place x (k.AtValue (view_expr a)) t c.affinity.result (variant.Value c.in_ok-a-in-Value.a) why c.in_ok-judged-in-Value.ensures.ok refl refl))
