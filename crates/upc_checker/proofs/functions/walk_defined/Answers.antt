use Rattle.std.proofs.Common.{false, List, [], ◌∷◌, ◌++◌, map, Result, Ok, Err, sym, ap, ◌∙◌, subst}
use Rattle.std.proofs.lemmas.Result.{err_from_is_err_and}
use Rattle.upc_text.specs.declared.faults.Stop.{Stop}
use Rattle.upc_tree.specs.Statement.{Compound}
use Rattle.upc_tree.specs.layer.ViewStatement as trees
use Rattle.upc_types.specs.Types.{CType}
use Rattle.typing_rules.specs.declared.setting.Enclosing.TheVariants as enclosing
use Rattle.typing_rules.specs.Faults.{first_fault}
use Rattle.typing_rules.specs.Meanings.{Function}
use Rattle.typing_rules.specs.Nodes as n
use Rattle.typing_rules.specs.Values.{value_type}
use Rattle.typing_rules.specs.layer.Views.{view_signature}
use Rattle.typed_tree.specs.Scopes.{spelling, with_entry}
use Rattle.typed_tree.specs.Tree as k
use Rattle.typed_tree.specs.layer.ViewEnv.{view_env}
use Rattle.typed_tree.specs.ViewStatements.{view_function, view_statement}
use Rattle.upc_checker_scopes.specs.layer.Ends.{Stops, Comes}
use Rattle.upc_checker_scopes.specs.layer.Views.{view_setting, state_of, state_with}
use Rattle.upc_checker_scopes.specs.layer.ViewTags.{view_tags}
use Rattle.upc_checker_scopes.specs.Walk.{judge}
use Rattle.upc_checker_scopes.proofs.Walks.{goes, stops, gives}
use Rattle.upc_checker_statements.specs.Statements.{walk_block}
use Rattle.upc_checker.specs.Units as pure
use Rattle.upc_checker.specs.Units.{Made, body_around}
use Rattle.upc_checker.specs.code.ViewEarlier.{view_earlier}
use Rattle.upc_checker.proofs.functions.walk_defined.Goals as goal

pub returns-in_err-body : goal.returns-in_err-body
returns-in_err-body c = λ file objects.
    let ξ = view_setting c.args.setting in
    let s = state_of c.args.tags.now c.args.known.now in
    let fun = c.args.function.now in
    let signature = view_signature c.args.signature in
    let was = view_earlier c.args.was in
    let body = trees.view_compound fun.body.value in
    let Δ = view_env c.args.scope.now in
    let before : Made = record { scope = file; objects = objects; functions = map view_function c.args.functions.now.items } in
    let id = λ (m : Made). m in
    let tags = view_tags c.args.tags.now in
    let around = λ (t : CType). let a : n.Around = record { result = t; breaks = enclosing.Nothing; loops = false; forall = false } in a in
    let wb = λ (t : CType) (b : Compound). walk_block ξ Δ (around t) c.args.strict b s in
    let s1 = state_of c.args.tags.now c.walk_block.new.known in
    let e = c.in_err-body.field-0.0 in
    let p = err_from_is_err_and c.from_residual-in_err-body.result c.from_residual-in_err-body.ensures.1 in
    let hb = subst (λ (b : Compound). Stops (first_fault (wb (value_type signature.result) b).seen) e) (ap trees.view_compound c.deref.ensures)
    (subst (λ (t : CType). Stops (first_fault (wb t (trees.view_compound c.deref.result.now)).seen) e) c.in_ok-gives.ensures c.in_err-body.ensures) in
    rw (p.1, p.2) (stops id (walk_block ξ Δ (body_around signature.result) c.args.strict body) _ s s1 e hb)

pub returns-in_err-judge_definition : goal.returns-in_err-judge_definition
returns-in_err-judge_definition c = λ file objects.
    let ξ = view_setting c.args.setting in
    let s = state_of c.args.tags.now c.args.known.now in
    let fun = c.args.function.now in
    let signature = view_signature c.args.signature in
    let was = view_earlier c.args.was in
    let body = trees.view_compound fun.body.value in
    let Δ = view_env c.args.scope.now in
    let before : Made = record { scope = file; objects = objects; functions = map view_function c.args.functions.now.items } in
    let id = λ (m : Made). m in
    let tags = view_tags c.args.tags.now in
    let around = λ (t : CType). let a : n.Around = record { result = t; breaks = enclosing.Nothing; loops = false; forall = false } in a in
    let wb = λ (t : CType) (b : Compound). walk_block ξ Δ (around t) c.args.strict b s in
    let s1 = state_of c.args.tags.now c.walk_block.new.known in
    let x = view_statement c.in_ok-body.body.value in
    let hb = subst (λ (b : Compound). Comes (wb (value_type signature.result) b) s1 x) (ap trees.view_compound c.deref.ensures)
    (subst (λ (t : CType). Comes (wb t (trees.view_compound c.deref.result.now)) s1 x) c.in_ok-gives.ensures c.in_ok-body.ensures) in
    let block = walk_block ξ Δ (body_around signature.result) c.args.strict body in
    let wj = judge ξ c.args.place (n.Defines was.again was.differs c.args.forms signature) in
    let e = c.in_err-judge_definition.field-0.0 in
    let p = err_from_is_err_and c.from_residual-in_err-judge_definition.result c.from_residual-in_err-judge_definition.ensures.1 in
    let r : Result Made Stop = Err e in
    rw (p.1, p.2) (goes id block _ s s1 s1 x r hb (stops id wj _ s1 s1 e (c.in_err-judge_definition.ensures tags)))

pub returns : goal.returns
returns c = λ file objects.
    let ξ = view_setting c.args.setting in
    let s = state_of c.args.tags.now c.args.known.now in
    let fun = c.args.function.now in
    let signature = view_signature c.args.signature in
    let was = view_earlier c.args.was in
    let body = trees.view_compound fun.body.value in
    let Δ = view_env c.args.scope.now in
    let before : Made = record { scope = file; objects = objects; functions = map view_function c.args.functions.now.items } in
    let id = λ (m : Made). m in
    let tags = view_tags c.args.tags.now in
    let around = λ (t : CType). let a : n.Around = record { result = t; breaks = enclosing.Nothing; loops = false; forall = false } in a in
    let wb = λ (t : CType) (b : Compound). walk_block ξ Δ (around t) c.args.strict b s in
    let s1 = state_of c.args.tags.now c.walk_block.new.known in
    let x = view_statement c.in_ok-body.body.value in
    let hb = subst (λ (b : Compound). Comes (wb (value_type signature.result) b) s1 x) (ap trees.view_compound c.deref.ensures)
    (subst (λ (t : CType). Comes (wb t (trees.view_compound c.deref.result.now)) s1 x) c.in_ok-gives.ensures c.in_ok-body.ensures) in
    let block = walk_block ξ Δ (body_around signature.result) c.args.strict body in
    let wj = judge ξ c.args.place (n.Defines was.again was.differs c.args.forms signature) in
    let s2 = state_with tags c.judge_definition.new.known in
    let made = pure.with_definition ξ before c.args.place fun.name.number signature x in
    let r : Result Made Stop = Ok made in
    let h = goes id block _ s s1 s2 x r hb (goes id wj _ s1 s2 s2 (tt {0}) r (c.in_ok-judge_definition.ensures tags) (gives s2 made)) in
    let with = λ (xs : List k.Function). let m : Made = record { scope = with_entry fun.name.number (Function signature) file; objects = objects; functions = xs } in m in
    let one = λ (t : CType). let y : k.Function = record { at = c.args.place; name = spelling ξ fun.name.number; result = t; parameters = signature.parameters; body = x } in y in
    let all = c.in_ok-add_function.ensures ∙ ap (λ t. before.functions ++ (one t ∷ [])) c.in_ok-gives.ensures in
    record { fine = h.fine; state = h.state; value = h.value ∙ ap with (sym all) }
