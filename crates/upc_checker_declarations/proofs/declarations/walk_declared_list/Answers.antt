use Rattle.std.proofs.Common.{List, [], map, Result, Ok, Err, subst}
use Rattle.std.proofs.lemmas.Result.{err_from_is_err_and}
use Rattle.upc_text.specs.declared.faults.Stop.{Stop}
use Rattle.upc_tree.specs.declared.declaration.NextDeclared.{NextDeclared}
use Rattle.upc_tree.specs.layer.Lists.{next_declareds_of}
use Rattle.upc_tree.specs.layer.ViewStatement.{view_next_declared, view_declared}
use Rattle.typed_tree.specs.declared.tree.Object.{Object}
use Rattle.typing_rules.specs.Faults.{first_fault}
use Rattle.typed_tree.specs.layer.ViewEnv.{view_env}
use Rattle.typed_tree.specs.ViewStatements.{view_object}
use Rattle.upc_checker_declarations.specs.Declarations as pure
use Rattle.upc_checker_declarations.specs.Declarations.{Behind}
use Rattle.upc_checker_scopes.specs.layer.Ends.{Stops, Comes}
use Rattle.upc_checker_scopes.specs.layer.Views.{view_setting, state_of}
use Rattle.upc_checker_types.specs.layer.ViewShapes.{view_shaped}
use Rattle.upc_checker_scopes.proofs.Walks.{goes, stops}
use Rattle.upc_checker_declarations.proofs.declarations.walk_declared_list.Goals as goal

pub returns-in_err-walk_declared-in-Some : goal.returns-in_err-walk_declared-in-Some
returns-in_err-walk_declared-in-Some c =
    let ξ = view_setting c.args.setting in
    let t = view_shaped c.args.t.now in
    let s = state_of c.args.tags.now c.args.known.now in
    let none = λ (xs : List Object). let b : Behind = record { scope = view_env c.args.env.now; objects = map view_object xs } in b in
    let one = λ (xs : List Object). pure.walk_declared ξ c.args.place t (none xs) (view_declared c.in-Some.list.value.first.value) in
    let id = λ (b : Behind). b in
    let e = c.in_err-walk_declared-in-Some.field-0.0 in
    let h = subst (λ (xs : List Object). Stops (first_fault (one xs s).seen) e) c.new-objects.ensures.items (rw (c.deref-in-Some.ensures, c.deref.ensures) at c.in_err-walk_declared-in-Some.ensures) in
    let p = err_from_is_err_and c.from_residual.result c.from_residual.ensures.1 in
    rw (c.in-Some.is, p.1, p.2) (stops id (one []) _ s s e h)

pub returns-in_err-walk_next_declareds-in-Some : goal.returns-in_err-walk_next_declareds-in-Some
returns-in_err-walk_next_declareds-in-Some c =
    let ξ = view_setting c.args.setting in
    let t = view_shaped c.args.t.now in
    let s = state_of c.args.tags.now c.args.known.now in
    let none = λ (xs : List Object). let b : Behind = record { scope = view_env c.args.env.now; objects = map view_object xs } in b in
    let one = λ (xs : List Object). pure.walk_declared ξ c.args.place t (none xs) (view_declared c.in-Some.list.value.first.value) in
    let id = λ (b : Behind). b in
    let s1 = state_of c.walk_declared.new.tags c.walk_declared.new.known in
    let b1 : Behind = record { scope = view_env c.walk_declared.new.env; objects = map view_object c.walk_declared.new.objects.items } in
    let h = subst (λ (xs : List Object). Comes (one xs s) s1 b1) c.new-objects.ensures.items (rw (c.deref-in-Some.ensures, c.deref.ensures) at c.in_ok-walk_declared-in-Some.ensures) in
    let more = λ (xs : List NextDeclared). pure.walk_next_declareds ξ c.args.place t b1 (next_declareds_of (map view_next_declared xs)) in
    let e = c.in_err-walk_next_declareds-in-Some.field-0.0 in
    let k = subst (λ (xs : List NextDeclared). Stops (first_fault (more xs s1).seen) e) (rw c.deref-in-Some-2.ensures at c.as_slice-more.ensures.value) c.in_err-walk_next_declareds-in-Some.ensures in
    let p = err_from_is_err_and c.from_residual-in_err-walk_next_declareds-in-Some.result c.from_residual-in_err-walk_next_declareds-in-Some.ensures.1 in
    rw (c.in-Some.is, p.1, p.2) (goes id (one []) _ s s1 s1 b1 (Err e) h k)

pub returns-in_ok-walk_next_declareds-in-Some : goal.returns-in_ok-walk_next_declareds-in-Some
returns-in_ok-walk_next_declareds-in-Some c =
    let ξ = view_setting c.args.setting in
    let t = view_shaped c.args.t.now in
    let s = state_of c.args.tags.now c.args.known.now in
    let none = λ (xs : List Object). let b : Behind = record { scope = view_env c.args.env.now; objects = map view_object xs } in b in
    let one = λ (xs : List Object). pure.walk_declared ξ c.args.place t (none xs) (view_declared c.in-Some.list.value.first.value) in
    let id = λ (b : Behind). b in
    let s1 = state_of c.walk_declared.new.tags c.walk_declared.new.known in
    let b1 : Behind = record { scope = view_env c.walk_declared.new.env; objects = map view_object c.walk_declared.new.objects.items } in
    let h = subst (λ (xs : List Object). Comes (one xs s) s1 b1) c.new-objects.ensures.items (rw (c.deref-in-Some.ensures, c.deref.ensures) at c.in_ok-walk_declared-in-Some.ensures) in
    let more = λ (xs : List NextDeclared). pure.walk_next_declareds ξ c.args.place t b1 (next_declareds_of (map view_next_declared xs)) in
    let s2 = state_of c.walk_next_declareds.new.tags c.walk_next_declareds.new.known in
    let b2 : Behind = record { scope = view_env c.walk_next_declareds.new.env; objects = map view_object c.walk_next_declareds.new.objects.items } in
    let k = subst (λ (xs : List NextDeclared). Comes (more xs s1) s2 b2) (rw c.deref-in-Some-2.ensures at c.as_slice-more.ensures.value) c.in_ok-walk_next_declareds-in-Some.ensures in
    let r : Result Behind Stop = Ok b2 in
    rw c.in-Some.is (goes id (one []) _ s s1 s2 b1 r h k)
