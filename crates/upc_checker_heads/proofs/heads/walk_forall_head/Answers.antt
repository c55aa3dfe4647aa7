use Rattle.std.proofs.Common.{refl, sym, ap, map, Result, Ok, Err}
use Rattle.std.proofs.lemmas.Result.{err_from_is_err_and}
use Rattle.upc_text.specs.declared.faults.Stop.{Stop}
use Rattle.upc_tree.specs.layer.ViewStatement as trees
use Rattle.typed_tree.specs.Tree as k
use Rattle.typed_tree.specs.layer.ViewEnv.{view_env}
use Rattle.typed_tree.specs.ViewStatements.{view_head, view_affinity, view_object, view_value}
use Rattle.upc_checker_heads.specs.Heads as pure
use Rattle.upc_checker_scopes.specs.layer.Views.{view_setting, state_of}
use Rattle.upc_checker_scopes.proofs.Walks.{goes, stops, gives}
use Rattle.upc_checker_heads.proofs.heads.walk_forall_head.Goals as goal

pub returns-in_err-begun : goal.returns-in_err-begun
returns-in_err-begun c =
    let ξ = view_setting c.args.setting in
    let Γ = view_env c.args.env.now in
    let s = state_of c.args.tags.now c.args.known.now in
    let h = c.args.head.now in
    let e = c.in_err-begun.field-0.0 in
    let p = err_from_is_err_and c.from_residual.result c.from_residual.ensures.1 in
    let id = λ (x : pure.Headed). x in
    rw (p.1, p.2)
    (stops id (pure.walk_first ξ Γ (trees.view_first h.first.value)) _ s s e (rw c.deref.ensures at c.in_err-begun.ensures))

pub returns-in_err-test : goal.returns-in_err-test
returns-in_err-test c =
    let ξ = view_setting c.args.setting in
    let Γ = view_env c.args.env.now in
    let s = state_of c.args.tags.now c.args.known.now in
    let h = c.args.head.now in
    let b : pure.Begun = record { scope = view_env c.walk_first.new.env; objects = map view_object c.in_ok-begun.begun.objects.items; first = view_value c.in_ok-begun.begun.first } in
    let Δ = view_env c.walk_first.new.env in
    let e = c.in_err-test.field-0.0 in
    let p = err_from_is_err_and c.from_residual-in_err-test.result c.from_residual-in_err-test.ensures.1 in
    let id = λ (x : pure.Headed). x in
    rw (p.1, p.2)
    (goes id (pure.walk_first ξ Γ (trees.view_first h.first.value)) _ s (state_of c.walk_first.new.tags c.walk_first.new.known) (state_of c.walk_first.new.tags c.walk_first.new.known) b (Err e) (rw c.deref.ensures at c.in_ok-begun.ensures)
    (stops id (pure.walk_value ξ Δ (trees.view_value h.test)) _ (state_of c.walk_first.new.tags c.walk_first.new.known) (state_of c.walk_first.new.tags c.walk_first.new.known) e c.in_err-test.ensures))

pub returns-in_err-step : goal.returns-in_err-step
returns-in_err-step c =
    let ξ = view_setting c.args.setting in
    let Γ = view_env c.args.env.now in
    let s = state_of c.args.tags.now c.args.known.now in
    let h = c.args.head.now in
    let b : pure.Begun = record { scope = view_env c.walk_first.new.env; objects = map view_object c.in_ok-begun.begun.objects.items; first = view_value c.in_ok-begun.begun.first } in
    let Δ = view_env c.walk_first.new.env in
    let e = c.in_err-step.field-0.0 in
    let p = err_from_is_err_and c.from_residual-in_err-step.result c.from_residual-in_err-step.ensures.1 in
    let id = λ (x : pure.Headed). x in
    rw (p.1, p.2)
    (goes id (pure.walk_first ξ Γ (trees.view_first h.first.value)) _ s (state_of c.walk_first.new.tags c.walk_first.new.known) (state_of c.walk_first.new.tags c.walk_first.new.known) b (Err e) (rw c.deref.ensures at c.in_ok-begun.ensures)
    (goes id (pure.walk_value ξ Δ (trees.view_value h.test)) _ (state_of c.walk_first.new.tags c.walk_first.new.known) (state_of c.walk_value.new.tags c.walk_value.new.known) (state_of c.walk_value.new.tags c.walk_value.new.known) (view_value c.in_ok-test.test) (Err e) c.in_ok-test.ensures
    (stops id (pure.walk_value ξ Δ (trees.view_value h.step)) _ (state_of c.walk_value.new.tags c.walk_value.new.known) (state_of c.walk_value.new.tags c.walk_value.new.known) e c.in_err-step.ensures)))

pub returns-in_err-affinity : goal.returns-in_err-affinity
returns-in_err-affinity c =
    let ξ = view_setting c.args.setting in
    let Γ = view_env c.args.env.now in
    let s = state_of c.args.tags.now c.args.known.now in
    let h = c.args.head.now in
    let b : pure.Begun = record { scope = view_env c.walk_first.new.env; objects = map view_object c.in_ok-begun.begun.objects.items; first = view_value c.in_ok-begun.begun.first } in
    let Δ = view_env c.walk_first.new.env in
    let e = c.in_err-affinity.field-0.0 in
    let p = err_from_is_err_and c.from_residual-in_err-affinity.result c.from_residual-in_err-affinity.ensures.1 in
    let id = λ (x : pure.Headed). x in
    rw (p.1, p.2)
    (goes id (pure.walk_first ξ Γ (trees.view_first h.first.value)) _ s (state_of c.walk_first.new.tags c.walk_first.new.known) (state_of c.walk_first.new.tags c.walk_first.new.known) b (Err e) (rw c.deref.ensures at c.in_ok-begun.ensures)
    (goes id (pure.walk_value ξ Δ (trees.view_value h.test)) _ (state_of c.walk_first.new.tags c.walk_first.new.known) (state_of c.walk_value.new.tags c.walk_value.new.known) (state_of c.walk_value.new.tags c.walk_value.new.known) (view_value c.in_ok-test.test) (Err e) c.in_ok-test.ensures
    (goes id (pure.walk_value ξ Δ (trees.view_value h.step)) _ (state_of c.walk_value.new.tags c.walk_value.new.known) (state_of c.walk_value-2.new.tags c.walk_value-2.new.known) (state_of c.walk_value-2.new.tags c.walk_value-2.new.known) (view_value c.in_ok-step.step) (Err e) c.in_ok-step.ensures
    (stops id (pure.walk_affinity ξ Δ (trees.view_affinity h.affinity.value)) _ (state_of c.walk_value-2.new.tags c.walk_value-2.new.known) (state_of c.walk_value-2.new.tags c.walk_value-2.new.known) e (rw c.deref-2.ensures at c.in_err-affinity.ensures)))))

pub returns : goal.returns
returns c =
    let ξ = view_setting c.args.setting in
    let Γ = view_env c.args.env.now in
    let s = state_of c.args.tags.now c.args.known.now in
    let h = c.args.head.now in
    let b : pure.Begun = record { scope = view_env c.walk_first.new.env; objects = map view_object c.in_ok-begun.begun.objects.items; first = view_value c.in_ok-begun.begun.first } in
    let Δ = view_env c.walk_first.new.env in
    let seen = λ (head : k.Head). let z : pure.Headed = record { scope = Δ; head = head; affinity = (view_affinity c.in_ok-affinity.affinity) } in z in
    let y = seen (view_head c.in_ok-head.head.value) in
    let made : Result pure.Headed Stop = Ok y in
    (goes (λ (x : pure.Headed). x) (pure.walk_first ξ Γ (trees.view_first h.first.value)) _ s (state_of c.walk_first.new.tags c.walk_first.new.known) (state_of c.walk_affinity.new.tags c.walk_affinity.new.known) b made (rw c.deref.ensures at c.in_ok-begun.ensures)
    (goes (λ (x : pure.Headed). x) (pure.walk_value ξ Δ (trees.view_value h.test)) _ (state_of c.walk_first.new.tags c.walk_first.new.known) (state_of c.walk_value.new.tags c.walk_value.new.known) (state_of c.walk_affinity.new.tags c.walk_affinity.new.known) (view_value c.in_ok-test.test) made c.in_ok-test.ensures
    (goes (λ (x : pure.Headed). x) (pure.walk_value ξ Δ (trees.view_value h.step)) _ (state_of c.walk_value.new.tags c.walk_value.new.known) (state_of c.walk_value-2.new.tags c.walk_value-2.new.known) (state_of c.walk_affinity.new.tags c.walk_affinity.new.known) (view_value c.in_ok-step.step) made c.in_ok-step.ensures
    (goes (λ (x : pure.Headed). x) (pure.walk_affinity ξ Δ (trees.view_affinity h.affinity.value)) _ (state_of c.walk_value-2.new.tags c.walk_value-2.new.known) (state_of c.walk_affinity.new.tags c.walk_affinity.new.known) (state_of c.walk_affinity.new.tags c.walk_affinity.new.known) (view_affinity c.in_ok-affinity.affinity) made (rw c.deref-2.ensures at c.in_ok-affinity.ensures)
    (record { fine = refl; state = refl; value = ap seen (sym c.in_ok-head.ensures) })))))
