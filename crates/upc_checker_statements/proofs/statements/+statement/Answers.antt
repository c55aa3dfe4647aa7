use Rattle.std.proofs.Common.{Box, ◌+◌, ◌∷◌, ◌++◌, [], List, map, drop, Bool, Some, Result, Ok, Err, refl, sym, ap, ◌∙◌, subst, arith, Vec, Global}
use Rattle.std.proofs.lemmas.List.{append-nil, drop_all}
use Rattle.std.proofs.lemmas.Result.{err_from_is_err_and}
use Rattle.upc_text.specs.declared.faults.Stop.{Stop}
use Rattle.upc_tree.proofs.StatementRows.{compound_is, if_is, switch_is}
use Rattle.upc_tree.specs.declared.statement.SwitchItem.{SwitchItem as SwitchTree}
use Rattle.upc_tree.specs.Statement as tree
use Rattle.upc_tree.specs.declared.statement.ForHead.{ForHead as ForHeadTree}
use Rattle.upc_tree.specs.declared.statement.ForallHead.{ForallHead as ForallHeadTree}
use Rattle.upc_tree.specs.declared.statement.Statement.{Statement as Tree}
use Rattle.typed_tree.specs.declared.tree.Statement.{Statement}
use Rattle.upc_checker_scopes.specs.layer.Ends.{Comes, Meets, Stops, boxed}
use Rattle.upc_tree.specs.layer.Lists.{block_items_of, else_ifs_of, switch_items_of}
use Rattle.upc_tree.specs.layer.ViewStatement as trees
use Rattle.upc_tree.specs.layer.View.{view}
use Rattle.typing_rules.specs.Faults.{first_fault}
use Rattle.upc_checker_nodes.specs.declared.statement_parts.Labelled.{Labelled as RustLabelled}
use Rattle.upc_checker_expressions.specs.Expressions.{constantly, walk}
use Rattle.upc_tree.specs.declared.statement.BlockItem.{BlockItem}
use Rattle.upc_tree.specs.declared.statement.ElseIf.{ElseIf}
use Rattle.typed_tree.specs.declared.tree.Arm.{Arm}
use Rattle.typed_tree.specs.declared.tree.Item as item
use Rattle.typed_tree.specs.declared.tree.Item.{Item}
use Rattle.typing_rules.specs.Attributes.{base}
use Rattle.typing_rules.specs.Nodes as n
use Rattle.typing_rules.specs.Nodes.{view_attr}
use Rattle.typed_tree.specs.Scopes.{Env, Within, inside}
use Rattle.typed_tree.specs.Tree as k
use Rattle.typing_rules.specs.Values.{base_kind}
use Rattle.typed_tree.specs.layer.ViewEnv.{view_env, with_outer}
use Rattle.typed_tree.specs.ViewStatements.{view_affinity, view_arms, view_head, view_item, view_items, view_last, view_object, view_statement, view_switch_items}
use Rattle.typed_tree.specs.ViewTree.{view_expr}
use Rattle.typing_rules.specs.layer.Views.{view_around}
use Rattle.typed_tree.specs.ViewStatements.{attr_tested}
use Rattle.upc_checker_declarations.specs.Declarations as declarations
use Rattle.upc_checker_declarations.specs.Declarations.{Behind}
use Rattle.upc_checker_statements.specs.Statements as pure
use Rattle.upc_checker_statements.specs.Statements.{Armed, Headed, Labelled}
use Rattle.upc_checker_scopes.specs.layer.Views.{view_setting, state_of, state_with}
use Rattle.upc_checker_scopes.specs.layer.ViewTags.{view_tags}
use Rattle.upc_checker_scopes.specs.Walk.{Walk, andthen, enclosed, give, judge}
use Rattle.upc_checker_scopes.proofs.Walks.{goes, stops, gives}
use Rattle.upc_checker_scopes.proofs.Turns.{IsLeft, behind, goes_by, stops_by, list_begins, list_stops, list_done}
use Rattle.upc_checker_statements.proofs.StatementTurns.{labelled_end, labelled_nothing, left_grouped, left_same, more_of_if, arm_pushed, armed_behind, arms_behind, case_pushed, default_pushed, labelled_behind, statement_pushed, items_behind, left_goes, left_rest, one_more, encloses_part, scoped_is}
use Rattle.upc_checker_statements.specs.code.Parts.{scoped_part}
use denote.Param.Weighed.{most}
use Rattle.upc_tree.proofs.statement.ElseIf.TheLaws as else_if
use Rattle.upc_tree.proofs.statement.Statement.TheLaws as statement
use Rattle.upc_checker_statements.proofs.statements.+statement.Goals as goal
use Rattle.upc_checker_statements.proofs.statements.+statement.Goals.{walk_items-in-Declaration+in_ok-objects-in-Declaration+in_ok-push-in-Declaration, walk_items-in-Statement+in_ok-x-in-Statement+in_ok-push-in-Statement, walk_labelled-in-Case+in_ok-label-in-Case+in_ok-push-in-Case+in_ok-push-in-Case-2, walk_labelled-in-Default+in_ok-defaults-in-Default+in_ok-push-in-Default, walk_labelled-in-Statement+in_ok-x-in-Statement+in_ok-push-in-Statement}
use Rattle.upc_values.proofs.Membership.{left_from}

pub walk_while-returns-in_err-test : goal.walk_while-returns-in_err-test
walk_while-returns-in_err-test t c =
    let ξ = view_setting c.args.here.setting in
    let A = view_around c.args.here.around in
    let strict = c.args.here.strict in
    let Γ = view_env c.args.env.now in
    let s = state_of c.args.tags.now c.args.known.now in
    let test = trees.view_test c.args.test.now in
    let id = λ (x : k.Statement). x in
    let s1 = state_of c.walk_test.new.tags c.walk_test.new.known in
    let e = c.in_err-test.field-0.0 in
    let p = err_from_is_err_and c.from_residual.result c.from_residual.ensures.1 in
    rw (p.1, p.2) (stops id (pure.walk_test ξ Γ test) _ s s1 e c.in_err-test.ensures)

pub walk_while-returns-in_err-body : goal.walk_while-returns-in_err-body
walk_while-returns-in_err-body t c =
    let ξ = view_setting c.args.here.setting in
    let A = view_around c.args.here.around in
    let strict = c.args.here.strict in
    let Γ = view_env c.args.env.now in
    let s = state_of c.args.tags.now c.args.known.now in
    let test = trees.view_test c.args.test.now in
    let body = trees.view_statement c.args.body.now in
    let id = λ (x : k.Statement). x in
    let s1 = state_of c.walk_test.new.tags c.walk_test.new.known in
    let s2 = state_of c.walk_test.new.tags c.walk_part.new.known in
    let e = c.in_err-body.field-0.0 in
    let p = err_from_is_err_and c.from_residual-in_err-body.result c.from_residual-in_err-body.ensures.1 in
    rw (p.1, p.2) (goes id (pure.walk_test ξ Γ test) _ s s1 s2 (view_expr c.in_ok-test.test.value) (Err e) c.in_ok-test.ensures
    (stops id (enclosed (pure.walk_statement ξ (inside Γ) (pure.in_loop A) strict body)) _ s1 s2 e (rw c.in_loop.ensures at c.in_err-body.ensures)))

pub walk_while-returns : goal.walk_while-returns
walk_while-returns t c =
    let ξ = view_setting c.args.here.setting in
    let A = view_around c.args.here.around in
    let strict = c.args.here.strict in
    let Γ = view_env c.args.env.now in
    let s = state_of c.args.tags.now c.args.known.now in
    let test = trees.view_test c.args.test.now in
    let body = trees.view_statement c.args.body.now in
    let s1 = state_of c.walk_test.new.tags c.walk_test.new.known in
    let s2 = state_of c.walk_test.new.tags c.walk_part.new.known in
    let r = c.finish_while.result in
    goes (boxed view_statement) (pure.walk_test ξ Γ test) _ s s1 s2 (view_expr c.in_ok-test.test.value) r c.in_ok-test.ensures
    (goes (boxed view_statement) (enclosed (pure.walk_statement ξ (inside Γ) (pure.in_loop A) strict body)) _ s1 s2 s2 (view_statement c.in_ok-body.body.value) r (rw c.in_loop.ensures at c.in_ok-body.ensures) (c.finish_while.ensures ξ s2))

pub walk_do_while-returns-in_err-body : goal.walk_do_while-returns-in_err-body
walk_do_while-returns-in_err-body t c =
    let ξ = view_setting c.args.here.setting in
    let A = view_around c.args.here.around in
    let strict = c.args.here.strict in
    let Γ = view_env c.args.env.now in
    let s = state_of c.args.tags.now c.args.known.now in
    let body = trees.view_statement c.args.body.now in
    let id = λ (x : k.Statement). x in
    let s1 = state_of c.args.tags.now c.walk_part.new.known in
    let e = c.in_err-body.field-0.0 in
    let p = err_from_is_err_and c.from_residual.result c.from_residual.ensures.1 in
    rw (p.1, p.2) (stops id (enclosed (pure.walk_statement ξ (inside Γ) (pure.in_loop A) strict body)) _ s s1 e (rw c.in_loop.ensures at c.in_err-body.ensures))

pub walk_do_while-returns-in_err-test : goal.walk_do_while-returns-in_err-test
walk_do_while-returns-in_err-test t c =
    let ξ = view_setting c.args.here.setting in
    let A = view_around c.args.here.around in
    let strict = c.args.here.strict in
    let Γ = view_env c.args.env.now in
    let s = state_of c.args.tags.now c.args.known.now in
    let test = trees.view_test c.args.test.now in
    let body = trees.view_statement c.args.body.now in
    let id = λ (x : k.Statement). x in
    let s1 = state_of c.args.tags.now c.walk_part.new.known in
    let s2 = state_of c.walk_test.new.tags c.walk_test.new.known in
    let e = c.in_err-test.field-0.0 in
    let p = err_from_is_err_and c.from_residual-in_err-test.result c.from_residual-in_err-test.ensures.1 in
    rw (p.1, p.2) (goes id (enclosed (pure.walk_statement ξ (inside Γ) (pure.in_loop A) strict body)) _ s s1 s2 (view_statement c.in_ok-body.body.value) (Err e) (rw c.in_loop.ensures at c.in_ok-body.ensures)
    (stops id (pure.walk_test ξ Γ test) _ s1 s2 e c.in_err-test.ensures))

pub walk_do_while-returns : goal.walk_do_while-returns
walk_do_while-returns t c =
    let ξ = view_setting c.args.here.setting in
    let A = view_around c.args.here.around in
    let strict = c.args.here.strict in
    let Γ = view_env c.args.env.now in
    let s = state_of c.args.tags.now c.args.known.now in
    let test = trees.view_test c.args.test.now in
    let body = trees.view_statement c.args.body.now in
    let s1 = state_of c.args.tags.now c.walk_part.new.known in
    let s2 = state_of c.walk_test.new.tags c.walk_test.new.known in
    let r = c.finish_do_while.result in
    goes (boxed view_statement) (enclosed (pure.walk_statement ξ (inside Γ) (pure.in_loop A) strict body)) _ s s1 s2 (view_statement c.in_ok-body.body.value) r (rw c.in_loop.ensures at c.in_ok-body.ensures)
    (goes (boxed view_statement) (pure.walk_test ξ Γ test) _ s1 s2 s2 (view_expr c.in_ok-test.test.value) r c.in_ok-test.ensures (c.finish_do_while.ensures ξ s2))

pub walk_switch-returns-in_err-a : goal.walk_switch-returns-in_err-a
walk_switch-returns-in_err-a t c =
    let ξ = view_setting c.args.here.setting in
    let A = view_around c.args.here.around in
    let strict = c.args.here.strict in
    let Γ = view_env c.args.env.now in
    let s = state_of c.args.tags.now c.args.known.now in
    let test = trees.view_test c.args.test.now in
    let id = λ (x : k.Statement). x in
    let s1 = state_of c.walk_test.new.tags c.walk_test.new.known in
    let e = c.in_err-a.field-0.0 in
    let p = err_from_is_err_and c.from_residual.result c.from_residual.ensures.1 in
    rw (p.1, p.2) (stops id (pure.walk_test ξ Γ test) _ s s1 e c.in_err-a.ensures)

pub walk_switch-returns-in_err-labelled : goal.walk_switch-returns-in_err-labelled
walk_switch-returns-in_err-labelled t c =
    let ξ = view_setting c.args.here.setting in
    let A = view_around c.args.here.around in
    let strict = c.args.here.strict in
    let Γ = view_env c.args.env.now in
    let s = state_of c.args.tags.now c.args.known.now in
    let test = trees.view_test c.args.test.now in
    let items = switch_items_of (map trees.view_switch_item c.args.items.now) in
    let id = λ (x : k.Statement). x in
    let s1 = state_of c.walk_test.new.tags c.walk_test.new.known in
    let s2 = state_of c.walk_test.new.tags c.walk_switch_body.new.known in
    let kind = base_kind (base (view_attr c.in_ok-a.a.value.attr)) in
    let e = c.in_err-labelled.field-0.0 in
    let p = err_from_is_err_and c.from_residual-in_err-labelled.result c.from_residual-in_err-labelled.ensures.1 in
    rw (p.1, p.2) (goes id (pure.walk_test ξ Γ test) _ s s1 s2 (view_expr c.in_ok-a.a.value) (Err e) c.in_ok-a.ensures
    (stops id (enclosed (pure.walk_switch ξ (inside Γ) (pure.in_switch A) strict kind items)) _ s1 s2 e (rw (c.in_switch.ensures, c.deref.ensures) at c.in_err-labelled.ensures)))

pub walk_switch-returns : goal.walk_switch-returns
walk_switch-returns t c =
    let ξ = view_setting c.args.here.setting in
    let A = view_around c.args.here.around in
    let strict = c.args.here.strict in
    let Γ = view_env c.args.env.now in
    let s = state_of c.args.tags.now c.args.known.now in
    let test = trees.view_test c.args.test.now in
    let items = switch_items_of (map trees.view_switch_item c.args.items.now) in
    let s1 = state_of c.walk_test.new.tags c.walk_test.new.known in
    let s2 = state_of c.walk_test.new.tags c.walk_switch_body.new.known in
    let kind = base_kind (base (view_attr c.in_ok-a.a.value.attr)) in
    let l = c.in_ok-labelled.labelled in
    let x : Labelled = record { items = view_switch_items l.items.items; labels = l.labels.items; defaults = l.defaults } in
    let r = c.finish_switch.result in
    goes (boxed view_statement) (pure.walk_test ξ Γ test) _ s s1 s2 (view_expr c.in_ok-a.a.value) r c.in_ok-a.ensures
    (goes (boxed view_statement) (enclosed (pure.walk_switch ξ (inside Γ) (pure.in_switch A) strict kind items)) _ s1 s2 s2 x r (rw (c.in_switch.ensures, c.deref.ensures) at c.in_ok-labelled.ensures) (c.finish_switch.ensures ξ s2))

pub walk_for-returns-in_err-head : goal.walk_for-returns-in_err-head
walk_for-returns-in_err-head t c =
    let ξ = view_setting c.args.here.setting in
    let A = view_around c.args.here.around in
    let strict = c.args.here.strict in
    let Γ = view_env c.args.env.now in
    let s = state_of c.args.tags.now c.args.known.now in
    let head = trees.view_for c.args.head.now in
    let id = λ (x : k.Statement). x in
    let s1 = state_of c.walk_for_head.new.tags c.walk_for_head.new.known in
    let e = c.in_err-head.field-0.0 in
    let p = err_from_is_err_and c.from_residual.result c.from_residual.ensures.1 in
    rw (p.1, p.2) (stops id (pure.walk_for_head ξ Γ head) _ s s1 e c.in_err-head.ensures)

pub walk_for-returns-in_err-body : goal.walk_for-returns-in_err-body
walk_for-returns-in_err-body t c =
    let ξ = view_setting c.args.here.setting in
    let A = view_around c.args.here.around in
    let strict = c.args.here.strict in
    let Γ = view_env c.args.env.now in
    let s = state_of c.args.tags.now c.args.known.now in
    let head = trees.view_for c.args.head.now in
    let body = trees.view_statement c.args.body.now in
    let Δ = view_env c.walk_for_head.new.env in
    let x : Headed = record { scope = Δ; head = view_head c.in_ok-head.head.value; affinity = k.Everyone } in
    let id = λ (x : k.Statement). x in
    let s1 = state_of c.walk_for_head.new.tags c.walk_for_head.new.known in
    let s2 = state_of c.walk_for_head.new.tags c.walk_part.new.known in
    let e = c.in_err-body.field-0.0 in
    let p = err_from_is_err_and c.from_residual-in_err-body.result c.from_residual-in_err-body.ensures.1 in
    rw (p.1, p.2) (goes id (pure.walk_for_head ξ Γ head) _ s s1 s2 x (Err e) c.in_ok-head.ensures
    (stops id (enclosed (pure.walk_statement ξ (inside Δ) (pure.in_loop A) strict body)) _ s1 s2 e (rw c.in_loop.ensures at c.in_err-body.ensures)))

pub walk_for-returns : goal.walk_for-returns
walk_for-returns t c =
    let ξ = view_setting c.args.here.setting in
    let A = view_around c.args.here.around in
    let strict = c.args.here.strict in
    let Γ = view_env c.args.env.now in
    let s = state_of c.args.tags.now c.args.known.now in
    let head = trees.view_for c.args.head.now in
    let body = trees.view_statement c.args.body.now in
    let Δ = view_env c.walk_for_head.new.env in
    let x : Headed = record { scope = Δ; head = view_head c.in_ok-head.head.value; affinity = k.Everyone } in
    let s1 = state_of c.walk_for_head.new.tags c.walk_for_head.new.known in
    let s2 = state_of c.walk_for_head.new.tags c.walk_part.new.known in
    let r = c.finish_for.result in
    goes (boxed view_statement) (pure.walk_for_head ξ Γ head) _ s s1 s2 x r c.in_ok-head.ensures
    (goes (boxed view_statement) (enclosed (pure.walk_statement ξ (inside Δ) (pure.in_loop A) strict body)) _ s1 s2 s2 (view_statement c.in_ok-body.body.value) r (rw c.in_loop.ensures at c.in_ok-body.ensures) (c.finish_for.ensures ξ s2))

pub walk_forall-returns-in_err-headed : goal.walk_forall-returns-in_err-headed
walk_forall-returns-in_err-headed t c =
    let ξ = view_setting c.args.here.setting in
    let A = view_around c.args.here.around in
    let strict = c.args.here.strict in
    let Γ = view_env c.args.env.now in
    let s = state_of c.args.tags.now c.args.known.now in
    let head = trees.view_forall c.args.head.now in
    let id = λ (x : k.Statement). x in
    let s1 = state_of c.walk_forall_head.new.tags c.walk_forall_head.new.known in
    let e = c.in_err-headed.field-0.0 in
    let p = err_from_is_err_and c.from_residual.result c.from_residual.ensures.1 in
    rw (p.1, p.2) (stops id (pure.walk_forall_head ξ Γ head) _ s s1 e c.in_err-headed.ensures)

pub walk_forall-returns-in_err-body : goal.walk_forall-returns-in_err-body
walk_forall-returns-in_err-body t c =
    let ξ = view_setting c.args.here.setting in
    let A = view_around c.args.here.around in
    let strict = c.args.here.strict in
    let Γ = view_env c.args.env.now in
    let s = state_of c.args.tags.now c.args.known.now in
    let head = trees.view_forall c.args.head.now in
    let body = trees.view_statement c.args.body.now in
    let Δ = view_env c.walk_forall_head.new.env in
    let x : Headed = record { scope = Δ; head = view_head c.in_ok-headed.headed.head.value; affinity = view_affinity c.in_ok-headed.headed.affinity } in
    let id = λ (x : k.Statement). x in
    let s1 = state_of c.walk_forall_head.new.tags c.walk_forall_head.new.known in
    let s2 = state_of c.walk_forall_head.new.tags c.walk_part.new.known in
    let e = c.in_err-body.field-0.0 in
    let p = err_from_is_err_and c.from_residual-in_err-body.result c.from_residual-in_err-body.ensures.1 in
    rw (p.1, p.2) (goes id (pure.walk_forall_head ξ Γ head) _ s s1 s2 x (Err e) c.in_ok-headed.ensures
    (stops id (enclosed (pure.walk_statement ξ (inside Δ) (pure.in_forall A) strict body)) _ s1 s2 e (rw c.in_forall.ensures at c.in_err-body.ensures)))

pub walk_forall-returns : goal.walk_forall-returns
walk_forall-returns t c =
    let ξ = view_setting c.args.here.setting in
    let A = view_around c.args.here.around in
    let strict = c.args.here.strict in
    let Γ = view_env c.args.env.now in
    let s = state_of c.args.tags.now c.args.known.now in
    let head = trees.view_forall c.args.head.now in
    let body = trees.view_statement c.args.body.now in
    let Δ = view_env c.walk_forall_head.new.env in
    let x : Headed = record { scope = Δ; head = view_head c.in_ok-headed.headed.head.value; affinity = view_affinity c.in_ok-headed.headed.affinity } in
    let s1 = state_of c.walk_forall_head.new.tags c.walk_forall_head.new.known in
    let s2 = state_of c.walk_forall_head.new.tags c.walk_part.new.known in
    let r = c.finish_forall.result in
    goes (boxed view_statement) (pure.walk_forall_head ξ Γ head) _ s s1 s2 x r c.in_ok-headed.ensures
    (goes (boxed view_statement) (enclosed (pure.walk_statement ξ (inside Δ) (pure.in_forall A) strict body)) _ s1 s2 s2 (view_statement c.in_ok-body.body.value) r (rw c.in_forall.ensures at c.in_ok-body.ensures) (c.finish_forall.ensures ξ s2))

pub walk_inside-returns-in-If : goal.walk_inside-returns-in-If
walk_inside-returns-in-If t c = c.walk_if.ensures

pub walk_inside-returns-in-Switch : goal.walk_inside-returns-in-Switch
walk_inside-returns-in-Switch t c =
    let v = ap trees.view_statement c.in-Switch.is ∙ switch_is c.in-Switch.word c.in-Switch.test c.in-Switch.open c.in-Switch.body c.in-Switch.close in
    rw v (rw (c.deref.ensures, c.as_slice.ensures.value) at c.walk_switch.ensures)

pub walk_inside-returns-in-While : goal.walk_inside-returns-in-While
walk_inside-returns-in-While t c =
    rw (ap trees.view_statement c.in-While.is) (rw (c.deref-in-While.ensures, c.deref-in-While-2.ensures) at c.walk_while.ensures)

pub walk_inside-returns-in-DoWhile : goal.walk_inside-returns-in-DoWhile
walk_inside-returns-in-DoWhile t c =
    rw (ap trees.view_statement c.in-DoWhile.is) (rw (c.deref-in-DoWhile.ensures, c.deref-in-DoWhile-2.ensures) at c.walk_do_while.ensures)

pub walk_inside-returns-in-For : goal.walk_inside-returns-in-For
walk_inside-returns-in-For t c =
    rw (ap trees.view_statement c.in-For.is) (rw (c.deref-in-For.ensures, c.deref-in-For-2.ensures) at c.walk_for.ensures)

pub walk_inside-returns-in-Forall : goal.walk_inside-returns-in-Forall
walk_inside-returns-in-Forall t c =
    rw (ap trees.view_statement c.in-Forall.is) (rw (c.deref-in-Forall.ensures, c.deref-in-Forall-2.ensures) at c.walk_forall.ensures)

pub walk_scoped-returns : goal.walk_scoped-returns
walk_scoped-returns t c =
    let ξ = view_setting c.args.here.setting in
    let A = view_around c.args.here.around in
    let strict = c.args.here.strict in
    let Γ = view_env c.args.env.now in
    let s = state_of c.args.tags.now c.args.known.now in
    let x = trees.view_statement c.args.statement.now in
    let tags = view_tags c.args.tags.now in
    let own = view_tags c.enclosed-inner.result in
    let last = view_tags c.walk_inside.new.tags in
    let after = state_of c.args.tags.now c.walk_inside.new.known in
    let r = c.walk_inside.result in
    let h = encloses_part (boxed view_statement) (scoped_part ξ strict x A) (inside Γ) (view_env c.in_ok-scope.scope) tags own last c.args.known.now c.walk_inside.new.known r c.in_ok-scope.ensures c.enclosed-inner.ensures c.walk_inside.ensures in
    subst (λ (w : Walk k.Statement). Meets (boxed view_statement) (w s) after r) (sym (scoped_is ξ Γ A strict x c.requires)) h

pub walk_statement-returns-in-Compound : goal.walk_statement-returns-in-Compound
walk_statement-returns-in-Compound t c =
    let v = ap trees.view_statement c.in-Compound.is ∙ compound_is c.in-Compound.compound in
    rw v (rw c.deref.ensures at c.walk_compound.ensures)

pub walk_statement-returns-in-If : goal.walk_statement-returns-in-If
walk_statement-returns-in-If t c = c.walk_scoped.ensures

pub walk_statement-returns-in-Expression : goal.walk_statement-returns-in-Expression
walk_statement-returns-in-Expression t c = c.walk_simple.ensures

pub walk_part-returns : goal.walk_part-returns
walk_part-returns t c =
    let ξ = view_setting c.args.here.setting in
    let A = view_around c.args.here.around in
    let x = trees.view_statement c.args.statement.now in
    let W = λ (Δ : Env). pure.walk_statement ξ Δ A c.args.here.strict x in
    encloses_part (boxed view_statement) W (inside (view_env c.args.env.now)) (view_env c.in_ok-scope.scope) (view_tags c.args.tags.now) (view_tags c.enclosed-inner.result) (view_tags c.walk_statement.new.tags) c.args.known.now c.walk_statement.new.known c.walk_statement.result c.in_ok-scope.ensures c.enclosed-inner.ensures c.walk_statement.ensures

pub walk_switch_body-returns : goal.walk_switch_body-returns
walk_switch_body-returns t c =
    let ξ = view_setting c.args.here.setting in
    let A = view_around c.args.here.around in
    let kind = base_kind (base (view_attr c.args.a.now)) in
    let items = switch_items_of (map trees.view_switch_item c.args.items.now) in
    let W = λ (Δ : Env). pure.walk_switch ξ Δ A c.args.here.strict kind items in
    let view = λ (x : RustLabelled). let y : Labelled = record { items = view_switch_items x.items.items; labels = x.labels.items; defaults = x.defaults } in y in
    encloses_part view W (inside (view_env c.args.env.now)) (view_env c.in_ok-scope.scope) (view_tags c.args.tags.now) (view_tags c.enclosed-inner.result) (view_tags c.walk_labelled.new.tags) c.args.known.now c.walk_labelled.new.known c.walk_labelled.result c.in_ok-scope.ensures c.enclosed-inner.ensures c.walk_labelled.ensures

pub walk_compound-returns : goal.walk_compound-returns
walk_compound-returns t c =
    let ξ = view_setting c.args.here.setting in
    let A = view_around c.args.here.around in
    let s = state_of c.args.tags.now c.args.known.now in
    let after = state_of c.args.tags.now c.walk_block.new.known in
    let W = λ (Δ : Env). pure.walk_block ξ Δ A c.args.here.strict (trees.view_compound c.args.compound.now) s in
    subst (λ (Δ : Env). Meets (boxed view_statement) (W Δ) after c.walk_block.result) c.in_ok-scope.ensures c.walk_block.ensures

pub walk_if-returns-in_err-test-in-If : goal.walk_if-returns-in_err-test-in-If
walk_if-returns-in_err-test-in-If t c =
    let ξ = view_setting c.args.here.setting in
    let A = view_around c.args.here.around in
    let strict = c.args.here.strict in
    let Γ = view_env c.args.env.now in
    let s = state_of c.args.tags.now c.args.known.now in
    let word = c.in-If.word in
    let test = trees.view_test c.in-If.test.value in
    let body = trees.view_statement c.in-If.body.value in
    let more = trees.view_else_ifs c.in-If.more in
    let last = trees.view_otherwise c.in-If.otherwise in
    let v = ap trees.view_statement c.in-If.is ∙ if_is word c.in-If.test c.in-If.body c.in-If.more c.in-If.otherwise in
    let one = pure.walk_test ξ Γ test in
    let s1 = state_of c.walk_test.new.tags c.walk_test.new.known in
    let id = λ (x : k.Statement). x in
    let e = c.in_err-test-in-If.field-0.0 in
    let p = err_from_is_err_and c.from_residual.result c.from_residual.ensures.1 in
    let failed : Result k.Statement Stop = Err e in
    rw (v, p.1, p.2) (stops id one _ s s1 e (rw c.deref.ensures at c.in_err-test-in-If.ensures))

pub walk_if-returns-in_err-body-in-If : goal.walk_if-returns-in_err-body-in-If
walk_if-returns-in_err-body-in-If t c =
    let ξ = view_setting c.args.here.setting in
    let A = view_around c.args.here.around in
    let strict = c.args.here.strict in
    let Γ = view_env c.args.env.now in
    let s = state_of c.args.tags.now c.args.known.now in
    let word = c.in-If.word in
    let test = trees.view_test c.in-If.test.value in
    let body = trees.view_statement c.in-If.body.value in
    let more = trees.view_else_ifs c.in-If.more in
    let last = trees.view_otherwise c.in-If.otherwise in
    let v = ap trees.view_statement c.in-If.is ∙ if_is word c.in-If.test c.in-If.body c.in-If.more c.in-If.otherwise in
    let one = pure.walk_test ξ Γ test in
    let s1 = state_of c.walk_test.new.tags c.walk_test.new.known in
    let two = enclosed (pure.walk_statement ξ (inside Γ) A strict body) in
    let s2 = state_of c.walk_test.new.tags c.walk_part.new.known in
    let a = view_expr c.in_ok-test-in-If.test.value in
    let h1 = rw c.deref.ensures at c.in_ok-test-in-If.ensures in
    let id = λ (x : k.Statement). x in
    let e = c.in_err-body-in-If.field-0.0 in
    let p = err_from_is_err_and c.from_residual-in_err-body-in-If.result c.from_residual-in_err-body-in-If.ensures.1 in
    let failed : Result k.Statement Stop = Err e in
    rw (v, p.1, p.2) (goes id one _ s s1 s2 a failed h1 (stops id two _ s1 s2 e (rw c.deref-in-If.ensures at c.in_err-body-in-If.ensures)))

pub walk_if-returns-in_err-arms-in-If : goal.walk_if-returns-in_err-arms-in-If
walk_if-returns-in_err-arms-in-If t c =
    let ξ = view_setting c.args.here.setting in
    let A = view_around c.args.here.around in
    let strict = c.args.here.strict in
    let Γ = view_env c.args.env.now in
    let s = state_of c.args.tags.now c.args.known.now in
    let word = c.in-If.word in
    let test = trees.view_test c.in-If.test.value in
    let body = trees.view_statement c.in-If.body.value in
    let more = trees.view_else_ifs c.in-If.more in
    let last = trees.view_otherwise c.in-If.otherwise in
    let v = ap trees.view_statement c.in-If.is ∙ if_is word c.in-If.test c.in-If.body c.in-If.more c.in-If.otherwise in
    let one = pure.walk_test ξ Γ test in
    let s1 = state_of c.walk_test.new.tags c.walk_test.new.known in
    let two = enclosed (pure.walk_statement ξ (inside Γ) A strict body) in
    let s2 = state_of c.walk_test.new.tags c.walk_part.new.known in
    let a = view_expr c.in_ok-test-in-If.test.value in
    let h1 = rw c.deref.ensures at c.in_ok-test-in-If.ensures in
    let Δ = inside Γ in
    let three = pure.walk_else_ifs ξ Γ Δ A strict more in
    let b = view_statement c.in_ok-body-in-If.body.value in
    let h2 = rw c.deref-in-If.ensures at c.in_ok-body-in-If.ensures in
    let joined = λ (x : Armed). pure.with_arm a b x in
    let s3 = state_of c.walk_else_ifs.new.tags c.walk_else_ifs.new.known in
    let walks = λ (xs : List ElseIf). andthen (pure.walk_else_ifs ξ Γ Δ A strict (else_ifs_of (map trees.view_else_if xs))) (λ x. give (joined x)) s2 in
    let id = λ (x : k.Statement). x in
    let e = c.in_err-arms-in-If.field-0.0 in
    let p = err_from_is_err_and c.from_residual-in_err-arms-in-If.result c.from_residual-in_err-arms-in-If.ensures.1 in
    let failed : Result k.Statement Stop = Err e in
    let stopped = subst (λ (xs : List ElseIf). Stops (first_fault (walks xs).seen) e) c.as_slice.ensures.value (rw (c.into_inner.ensures, c.in_ok-scope-in-If.ensures) at c.in_err-arms-in-If.ensures) in
    rw (v, p.1, p.2) (goes id one _ s s1 s3 a failed h1 (goes id two _ s1 s2 s3 b failed h2 (stops id three _ s2 s3 e (stops_by three joined s2 e stopped))))

pub walk_if-returns-in_err-last-in-If : goal.walk_if-returns-in_err-last-in-If
walk_if-returns-in_err-last-in-If t c =
    let ξ = view_setting c.args.here.setting in
    let A = view_around c.args.here.around in
    let strict = c.args.here.strict in
    let Γ = view_env c.args.env.now in
    let s = state_of c.args.tags.now c.args.known.now in
    let word = c.in-If.word in
    let test = trees.view_test c.in-If.test.value in
    let body = trees.view_statement c.in-If.body.value in
    let more = trees.view_else_ifs c.in-If.more in
    let last = trees.view_otherwise c.in-If.otherwise in
    let v = ap trees.view_statement c.in-If.is ∙ if_is word c.in-If.test c.in-If.body c.in-If.more c.in-If.otherwise in
    let one = pure.walk_test ξ Γ test in
    let s1 = state_of c.walk_test.new.tags c.walk_test.new.known in
    let two = enclosed (pure.walk_statement ξ (inside Γ) A strict body) in
    let s2 = state_of c.walk_test.new.tags c.walk_part.new.known in
    let a = view_expr c.in_ok-test-in-If.test.value in
    let h1 = rw c.deref.ensures at c.in_ok-test-in-If.ensures in
    let Δ = inside Γ in
    let three = pure.walk_else_ifs ξ Γ Δ A strict more in
    let b = view_statement c.in_ok-body-in-If.body.value in
    let h2 = rw c.deref-in-If.ensures at c.in_ok-body-in-If.ensures in
    let joined = λ (x : Armed). pure.with_arm a b x in
    let s3 = state_of c.walk_else_ifs.new.tags c.walk_else_ifs.new.known in
    let walks = λ (xs : List ElseIf). andthen (pure.walk_else_ifs ξ Γ Δ A strict (else_ifs_of (map trees.view_else_if xs))) (λ x. give (joined x)) s2 in
    let d : Armed = record { arms = view_arms c.in_ok-arms-in-If.arms.items; tests = map attr_tested c.in_ok-arms-in-If.arms.items; scope = view_env c.walk_else_ifs.new.scope } in
    let came = subst (λ (xs : List ElseIf). Comes (walks xs) s3 d) c.as_slice.ensures.value (rw (c.into_inner.ensures, c.in_ok-scope-in-If.ensures) at c.in_ok-arms-in-If.ensures) in
    let s4 = state_of c.walk_else_ifs.new.tags c.walk_otherwise.new.known in
    let four = λ (y : Armed). pure.walk_otherwise ξ y.scope A strict last in
    let go = λ (y : Armed). andthen (four y) (λ o. andthen (judge ξ word.place (n.Tests y.tests)) (λ u. give (k.Stands word.place (k.If y.arms o)))) in
    let id = λ (x : k.Statement). x in
    let e = c.in_err-last-in-If.field-0.0 in
    let p = err_from_is_err_and c.from_residual-in_err-last-in-If.result c.from_residual-in_err-last-in-If.ensures.1 in
    let failed : Result k.Statement Stop = Err e in
    rw (v, p.1, p.2) (goes id one _ s s1 s4 a failed h1 (goes id two _ s1 s2 s4 b failed h2 (goes_by id three joined go s2 s3 s4 d failed came
    (stops id (four d) _ s3 s4 e c.in_err-last-in-If.ensures))))

pub walk_if-returns : goal.walk_if-returns
walk_if-returns t c =
    let ξ = view_setting c.args.here.setting in
    let A = view_around c.args.here.around in
    let strict = c.args.here.strict in
    let Γ = view_env c.args.env.now in
    let s = state_of c.args.tags.now c.args.known.now in
    let word = c.in-If.word in
    let test = trees.view_test c.in-If.test.value in
    let body = trees.view_statement c.in-If.body.value in
    let more = trees.view_else_ifs c.in-If.more in
    let last = trees.view_otherwise c.in-If.otherwise in
    let v = ap trees.view_statement c.in-If.is ∙ if_is word c.in-If.test c.in-If.body c.in-If.more c.in-If.otherwise in
    let one = pure.walk_test ξ Γ test in
    let s1 = state_of c.walk_test.new.tags c.walk_test.new.known in
    let two = enclosed (pure.walk_statement ξ (inside Γ) A strict body) in
    let s2 = state_of c.walk_test.new.tags c.walk_part.new.known in
    let a = view_expr c.in_ok-test-in-If.test.value in
    let h1 = rw c.deref.ensures at c.in_ok-test-in-If.ensures in
    let Δ = inside Γ in
    let three = pure.walk_else_ifs ξ Γ Δ A strict more in
    let b = view_statement c.in_ok-body-in-If.body.value in
    let h2 = rw c.deref-in-If.ensures at c.in_ok-body-in-If.ensures in
    let joined = λ (x : Armed). pure.with_arm a b x in
    let s3 = state_of c.walk_else_ifs.new.tags c.walk_else_ifs.new.known in
    let walks = λ (xs : List ElseIf). andthen (pure.walk_else_ifs ξ Γ Δ A strict (else_ifs_of (map trees.view_else_if xs))) (λ x. give (joined x)) s2 in
    let d : Armed = record { arms = view_arms c.in_ok-arms-in-If.arms.items; tests = map attr_tested c.in_ok-arms-in-If.arms.items; scope = view_env c.walk_else_ifs.new.scope } in
    let came = subst (λ (xs : List ElseIf). Comes (walks xs) s3 d) c.as_slice.ensures.value (rw (c.into_inner.ensures, c.in_ok-scope-in-If.ensures) at c.in_ok-arms-in-If.ensures) in
    let s4 = state_of c.walk_else_ifs.new.tags c.walk_otherwise.new.known in
    let four = λ (y : Armed). pure.walk_otherwise ξ y.scope A strict last in
    let go = λ (y : Armed). andthen (four y) (λ o. andthen (judge ξ word.place (n.Tests y.tests)) (λ u. give (k.Stands word.place (k.If y.arms o)))) in
    let r = c.finish_if.result in
    rw v (goes (boxed view_statement) one _ s s1 s4 a r h1 (goes (boxed view_statement) two _ s1 s2 s4 b r h2 (goes_by (boxed view_statement) three joined go s2 s3 s4 d r came
    (goes (boxed view_statement) (four d) _ s3 s4 s4 (view_last c.in_ok-last-in-If.last) r c.in_ok-last-in-If.ensures (c.finish_if.ensures ξ s4)))))

pub walk_items-loop-part-init : goal.walk_items-loop-part-init
walk_items-loop-part-init t c =
    let w = pure.walk_items (view_setting c.args.here.setting) (view_env c.args.env.now) (view_around c.args.here.around) c.args.here.strict (block_items_of (map trees.view_block_item c.args.items.now)) in
    rw c.new-all.ensures.items (list_begins w (state_of c.args.tags.now c.args.known.now))

pub walk_items-returns-in_err-objects-in-Declaration : goal.walk_items-returns-in_err-objects-in-Declaration
walk_items-returns-in_err-objects-in-Declaration t c =
    let ξ = view_setting c.args.here.setting in
    let A = view_around c.args.here.around in
    let strict = c.args.here.strict in
    let w = λ (Γ : Env) (xs : List BlockItem). pure.walk_items ξ Γ A strict (block_items_of (map trees.view_block_item xs)) in
    let whole = w (view_env c.args.env.now) c.args.items.now (state_of c.args.tags.now c.args.known.now) in
    let Γ = view_env c.loop-part.env in
    let s = state_of c.loop-part.tags c.loop-part.known in
    let all = c.loop-part.all.items in
    let f = behind view_item all in
    let rest = drop (c.loop-part.part-index + 1) c.args.items.now in
    let next = left_from c.args.items.now c.loop-part.part-index c.part-item.result c.loop-part-test.true c.part-item.is in
    let h0 = subst (λ (xs : List BlockItem). IsLeft whole f (w Γ xs) s) next c.loop-part.invariant in
    let h = subst (λ (x : BlockItem). IsLeft whole f (w Γ (x ∷ rest)) s) c.in-Declaration.is h0 in
    let one = declarations.walk_declaration ξ Γ (trees.view_declaration c.in-Declaration.declaration.value) in
    let e = c.in_err-objects-in-Declaration.field-0.0 in
    let p = err_from_is_err_and c.from_residual.result c.from_residual.ensures.1 in
    rw (p.1, p.2) (list_stops (λ (xs : k.Items). xs) whole f one _ s s e h (rw c.deref.ensures at c.in_err-objects-in-Declaration.ensures))

pub walk_items-returns-in_err-x-in-Statement : goal.walk_items-returns-in_err-x-in-Statement
walk_items-returns-in_err-x-in-Statement t c =
    let ξ = view_setting c.args.here.setting in
    let A = view_around c.args.here.around in
    let strict = c.args.here.strict in
    let w = λ (Γ : Env) (xs : List BlockItem). pure.walk_items ξ Γ A strict (block_items_of (map trees.view_block_item xs)) in
    let whole = w (view_env c.args.env.now) c.args.items.now (state_of c.args.tags.now c.args.known.now) in
    let Γ = view_env c.loop-part.env in
    let s = state_of c.loop-part.tags c.loop-part.known in
    let all = c.loop-part.all.items in
    let f = behind view_item all in
    let rest = drop (c.loop-part.part-index + 1) c.args.items.now in
    let next = left_from c.args.items.now c.loop-part.part-index c.part-item.result c.loop-part-test.true c.part-item.is in
    let h0 = subst (λ (xs : List BlockItem). IsLeft whole f (w Γ xs) s) next c.loop-part.invariant in
    let h = subst (λ (x : BlockItem). IsLeft whole f (w Γ (x ∷ rest)) s) c.in-Statement.is h0 in
    let one = pure.walk_statement ξ Γ A strict (trees.view_statement c.in-Statement.statement.value) in
    let e = c.in_err-x-in-Statement.field-0.0 in
    let p = err_from_is_err_and c.from_residual-in_err-x-in-Statement.result c.from_residual-in_err-x-in-Statement.ensures.1 in
    rw (p.1, p.2) (list_stops (λ (xs : k.Items). xs) whole f one _ s s e h (rw c.deref-in-Statement.ensures at c.in_err-x-in-Statement.ensures))

pub walk_items-returns : goal.walk_items-returns
walk_items-returns t c =
    let ξ = view_setting c.args.here.setting in
    let A = view_around c.args.here.around in
    let strict = c.args.here.strict in
    let w = λ (Γ : Env) (xs : List BlockItem). pure.walk_items ξ Γ A strict (block_items_of (map trees.view_block_item xs)) in
    let whole = w (view_env c.args.env.now) c.args.items.now (state_of c.args.tags.now c.args.known.now) in
    let Γ = view_env c.loop-part.env in
    let s = state_of c.loop-part.tags c.loop-part.known in
    let all = c.loop-part.all.items in
    let f = behind view_item all in
    let none = drop_all c.loop-part.part-index c.args.items.now (omega (arith, c.loop-part-test.false)) in
    let h = subst (λ (xs : List BlockItem). IsLeft whole f (w Γ xs) s) none c.loop-part.invariant in
    list_done (λ (xs : Vec Item Global). view_items xs.items) whole f k.NoItems s c.loop-part.all h (items_behind all)

pub walk_else_ifs-returns-in_err-test : goal.walk_else_ifs-returns-in_err-test
walk_else_ifs-returns-in_err-test t c =
    let ξ = view_setting c.args.here.setting in
    let A = view_around c.args.here.around in
    let strict = c.args.here.strict in
    let Γ = view_env c.args.env.now in
    let w = λ (Δ : Env) (xs : List ElseIf). pure.walk_else_ifs ξ Γ Δ A strict (else_ifs_of (map trees.view_else_if xs)) in
    let Δ = view_env c.loop-part.scope in
    let first = λ (x : Armed). pure.with_arm (view_expr c.args.first.test.value) (view_statement c.args.first.body) x in
    let whole = andthen (w (view_env c.args.scope.now) c.args.more.now) (λ x. give (first x)) (state_of c.args.tags.now c.args.known.now) in
    let s = state_of c.loop-part.tags c.loop-part.known in
    let all = c.loop-part.arms.items in
    let f = armed_behind all in
    let next = left_from c.args.more.now c.loop-part.part-index c.part-item.result c.loop-part-test.true c.part-item.is in
    let h0 = subst (λ (xs : List ElseIf). IsLeft whole f (w Δ xs) s) next c.loop-part.invariant in
    let part = c.part-item.result in
    let one = pure.walk_test ξ Δ (trees.view_test part.test.value) in
    let e = c.in_err-test.field-0.0 in
    let p = err_from_is_err_and c.from_residual-in_err-test.result c.from_residual-in_err-test.ensures.1 in
    rw (p.1, p.2) (list_stops (λ (x : Armed). x) whole f one _ s s e h0 (rw c.deref.ensures at c.in_err-test.ensures))

pub walk_else_ifs-returns-in_err-body : goal.walk_else_ifs-returns-in_err-body
walk_else_ifs-returns-in_err-body t c =
    let ξ = view_setting c.args.here.setting in
    let A = view_around c.args.here.around in
    let strict = c.args.here.strict in
    let Γ = view_env c.args.env.now in
    let w = λ (Δ : Env) (xs : List ElseIf). pure.walk_else_ifs ξ Γ Δ A strict (else_ifs_of (map trees.view_else_if xs)) in
    let Δ = view_env c.loop-part.scope in
    let first = λ (x : Armed). pure.with_arm (view_expr c.args.first.test.value) (view_statement c.args.first.body) x in
    let whole = andthen (w (view_env c.args.scope.now) c.args.more.now) (λ x. give (first x)) (state_of c.args.tags.now c.args.known.now) in
    let s = state_of c.loop-part.tags c.loop-part.known in
    let all = c.loop-part.arms.items in
    let f = armed_behind all in
    let next = left_from c.args.more.now c.loop-part.part-index c.part-item.result c.loop-part-test.true c.part-item.is in
    let h0 = subst (λ (xs : List ElseIf). IsLeft whole f (w Δ xs) s) next c.loop-part.invariant in
    let part = c.part-item.result in
    let one = pure.walk_test ξ Δ (trees.view_test part.test.value) in
    let two = enclosed (pure.walk_statement ξ (inside Δ) A strict (trees.view_statement part.body.value)) in
    let t = state_of c.walk_test.new.tags c.walk_test.new.known in
    let h = left_goes whole f one _ s t (view_expr c.in_ok-test.test.value) h0 (rw c.deref.ensures at c.in_ok-test.ensures) in
    let e = c.in_err-body.field-0.0 in
    let p = err_from_is_err_and c.from_residual-in_err-body.result c.from_residual-in_err-body.ensures.1 in
    rw (p.1, p.2) (list_stops (λ (x : Armed). x) whole f two _ t t e h (rw c.deref-in-loop-part.ensures at c.in_err-body.ensures))

pub walk_else_ifs-loop-part-preserved : goal.walk_else_ifs-loop-part-preserved
walk_else_ifs-loop-part-preserved t c =
    let ξ = view_setting c.args.here.setting in
    let A = view_around c.args.here.around in
    let strict = c.args.here.strict in
    let Γ = view_env c.args.env.now in
    let w = λ (Δ : Env) (xs : List ElseIf). pure.walk_else_ifs ξ Γ Δ A strict (else_ifs_of (map trees.view_else_if xs)) in
    let Δ = view_env c.loop-part.scope in
    let first = λ (x : Armed). pure.with_arm (view_expr c.args.first.test.value) (view_statement c.args.first.body) x in
    let whole = andthen (w (view_env c.args.scope.now) c.args.more.now) (λ x. give (first x)) (state_of c.args.tags.now c.args.known.now) in
    let s = state_of c.loop-part.tags c.loop-part.known in
    let all = c.loop-part.arms.items in
    let f = armed_behind all in
    let rest = drop (c.loop-part.part-index + 1) c.args.more.now in
    let next = left_from c.args.more.now c.loop-part.part-index c.part-item.result c.loop-part-test.true c.part-item.is in
    let h0 = subst (λ (xs : List ElseIf). IsLeft whole f (w Δ xs) s) next c.loop-part.invariant in
    let part = c.part-item.result in
    let one = pure.walk_test ξ Δ (trees.view_test part.test.value) in
    let two = enclosed (pure.walk_statement ξ (inside Δ) A strict (trees.view_statement part.body.value)) in
    let t = state_of c.walk_test.new.tags c.walk_test.new.known in
    let u = state_of c.walk_test.new.tags c.walk_part.new.known in
    let x : Arm = record { test = c.in_ok-test.test; body = c.in_ok-body.body.value } in
    let put = c.in_ok-push-2.ensures.items ∙ ap (λ (y : Statement). let z : Arm = record { test = c.in_ok-test.test; body = y } in all ++ (z ∷ [])) c.into_inner.ensures in
    let h = left_goes whole f one _ s t (view_expr x.test.value) h0 (rw c.deref.ensures at c.in_ok-test.ensures) in
    let both = left_goes whole f two _ t u (view_statement x.body) h (rw c.deref-in-loop-part.ensures at c.in_ok-body.ensures) in
    let g = armed_behind c.push-in-loop-part.new.self.items in
    let next = left_rest whole f g (pure.with_arm (view_expr x.test.value) (view_statement x.body)) (w (pure.deeper Γ Δ) rest) u both
    (λ ys. arm_pushed all c.push-in-loop-part.new.self.items x ys put) in
    let deep = c.within.ensures ∙ c.alone.ensures (Within Γ) ∙ ap (with_outer (Within Γ)) c.in_ok-inner.ensures in
    subst (λ (Θ : Env). IsLeft whole g (w Θ rest) u) (sym deep) next

pub walk_else_ifs-returns : goal.walk_else_ifs-returns
walk_else_ifs-returns t c =
    let ξ = view_setting c.args.here.setting in
    let A = view_around c.args.here.around in
    let strict = c.args.here.strict in
    let Γ = view_env c.args.env.now in
    let w = λ (Δ : Env) (xs : List ElseIf). pure.walk_else_ifs ξ Γ Δ A strict (else_ifs_of (map trees.view_else_if xs)) in
    let Δ = view_env c.loop-part.scope in
    let first = λ (x : Armed). pure.with_arm (view_expr c.args.first.test.value) (view_statement c.args.first.body) x in
    let whole = andthen (w (view_env c.args.scope.now) c.args.more.now) (λ x. give (first x)) (state_of c.args.tags.now c.args.known.now) in
    let s = state_of c.loop-part.tags c.loop-part.known in
    let all = c.loop-part.arms.items in
    let f = armed_behind all in
    let none = drop_all c.loop-part.part-index c.args.more.now (omega (arith, c.loop-part-test.false)) in
    let h = subst (λ (xs : List ElseIf). IsLeft whole f (w Δ xs) s) none c.loop-part.invariant in
    let end : Armed = record { arms = k.NoArms; tests = []; scope = Δ } in
    list_done (λ (xs : Vec Arm Global). record { arms = view_arms xs.items; tests = map attr_tested xs.items; scope = Δ }) whole f end s c.loop-part.arms h (rw (arms_behind all, append-nil) refl)

pub walk_otherwise-returns-in_err-x-in-Else : goal.walk_otherwise-returns-in_err-x-in-Else
walk_otherwise-returns-in_err-x-in-Else t c =
    let ξ = view_setting c.args.here.setting in
    let A = view_around c.args.here.around in
    let strict = c.args.here.strict in
    let Γ = view_env c.args.env.now in
    let s = state_of c.args.tags.now c.args.known.now in
    let e = c.in_err-x-in-Else.field-0.0 in
    let p = err_from_is_err_and c.from_residual.result c.from_residual.ensures.1 in
    let id = λ (x : k.StatementOption). x in
    let W = λ (Δ : Env). pure.walk_statement ξ Δ A strict (trees.view_statement c.deref.result.now) in
    let failed : Result k.Statement Stop = Err e in
    let h = encloses_part (λ (x : k.Statement). x) W Γ Γ (view_tags c.args.tags.now) (view_tags c.enclosed-inner.result) (view_tags c.walk_statement.new.tags) c.args.known.now c.walk_statement.new.known failed refl c.enclosed-inner.ensures c.in_err-x-in-Else.ensures in
    let t1 = state_of c.args.tags.now c.walk_statement.new.known in
    let v = ap trees.view_otherwise c.in-Else.is ∙ ap (λ (b : Tree). tree.Else c.in-Else.word (trees.view_statement b)) (sym c.deref.ensures) in
    rw (v, p.1, p.2) (stops id (enclosed (W Γ)) _ s t1 e h)

pub walk_otherwise-returns-in_ok-x-in-Else : goal.walk_otherwise-returns-in_ok-x-in-Else
walk_otherwise-returns-in_ok-x-in-Else t c =
    let ξ = view_setting c.args.here.setting in
    let A = view_around c.args.here.around in
    let strict = c.args.here.strict in
    let Γ = view_env c.args.env.now in
    let s = state_of c.args.tags.now c.args.known.now in
    let W = λ (Δ : Env). pure.walk_statement ξ Δ A strict (trees.view_statement c.deref.result.now) in
    let t1 = state_of c.args.tags.now c.walk_statement.new.known in
    let x = c.in_ok-x-in-Else.x in
    let made : Result (Box Statement Global) Stop = Ok x in
    let h = encloses_part (boxed view_statement) W Γ Γ (view_tags c.args.tags.now) (view_tags c.enclosed-inner.result) (view_tags c.walk_statement.new.tags) c.args.known.now c.walk_statement.new.known made refl c.enclosed-inner.ensures c.in_ok-x-in-Else.ensures in
    let v = ap trees.view_otherwise c.in-Else.is ∙ ap (λ (b : Tree). tree.Else c.in-Else.word (trees.view_statement b)) (sym c.deref.ensures) in
    rw v (goes view_last (enclosed (W Γ)) _ s t1 t1 (view_statement x.value) (Ok (Some x)) h (gives t1 (k.TheStatement (view_statement x.value))))

pub walk_block-returns-in_err-parts : goal.walk_block-returns-in_err-parts
walk_block-returns-in_err-parts t c =
    let ξ = view_setting c.args.setting in
    let A = view_around c.args.around in
    let Γ = view_env c.args.env.now in
    let x = c.args.compound.now in
    let b = c.strict_behind-strict.result in
    let says = c.strict_behind-strict.ensures ∙ ap (pure.strict_behind c.args.strict) c.as_slice-pragmas.ensures.value in
    let at = x.open.place in
    let w = λ (strict : Bool) (xs : List BlockItem). pure.walk_items ξ Γ A strict (block_items_of (map trees.view_block_item xs)) in
    let W = λ (strict : Bool) (xs : List BlockItem). andthen (w strict xs) (λ ys. give (k.Stands at (k.Block strict ys))) in
    let tags = view_tags c.args.tags.now in
    let own = view_tags c.enclosed-inner.result in
    let known = c.args.known.now in
    let s0 = state_with own known in
    let t1 = state_of c.walk_items.new.tags c.walk_items.new.known in
    let s = state_with tags known in
    let after = state_with tags c.walk_items.new.known in
    let slice = c.as_slice-items.result.now in
    let e = c.in_err-parts.field-0.0 in
    let p = err_from_is_err_and c.from_residual.result c.from_residual.ensures.1 in
    let id = λ (x : k.Statement). x in
    let failed : Result k.Statement Stop = Err e in
    let h = encloses_part id (λ (Δ : Env). W b slice) Γ Γ tags own (view_tags c.walk_items.new.tags) known c.walk_items.new.known failed refl c.enclosed-inner.ensures
    (stops id (w b slice) _ s0 t1 e c.in_err-parts.ensures) in
    let one = subst (λ (xs : List BlockItem). Meets id (enclosed (W b xs) s) after failed) c.as_slice-items.ensures.value h in
    rw (p.1, p.2) (subst (λ (strict : Bool). Meets id (enclosed (W strict x.items.items) s) after failed) says one)

pub walk_block-returns : goal.walk_block-returns
walk_block-returns t c =
    let ξ = view_setting c.args.setting in
    let A = view_around c.args.around in
    let Γ = view_env c.args.env.now in
    let x = c.args.compound.now in
    let b = c.strict_behind-strict.result in
    let says = c.strict_behind-strict.ensures ∙ ap (pure.strict_behind c.args.strict) c.as_slice-pragmas.ensures.value in
    let at = x.open.place in
    let w = λ (strict : Bool) (xs : List BlockItem). pure.walk_items ξ Γ A strict (block_items_of (map trees.view_block_item xs)) in
    let W = λ (strict : Bool) (xs : List BlockItem). andthen (w strict xs) (λ ys. give (k.Stands at (k.Block strict ys))) in
    let tags = view_tags c.args.tags.now in
    let own = view_tags c.enclosed-inner.result in
    let known = c.args.known.now in
    let s0 = state_with own known in
    let t1 = state_of c.walk_items.new.tags c.walk_items.new.known in
    let s = state_with tags known in
    let after = state_with tags c.walk_items.new.known in
    let slice = c.as_slice-items.result.now in
    let ys = view_items c.in_ok-parts.parts.items in
    let made : Result (Box Statement Global) Stop = Ok c.in_ok-block.field-0 in
    let h = encloses_part (boxed view_statement) (λ (Δ : Env). W b slice) Γ Γ tags own (view_tags c.walk_items.new.tags) known c.walk_items.new.known made refl c.enclosed-inner.ensures
    (goes (boxed view_statement) (w b slice) _ s0 t1 t1 ys made c.in_ok-parts.ensures (record { fine = refl; state = refl; value = sym c.in_ok-block.ensures })) in
    let one = subst (λ (xs : List BlockItem). Meets (boxed view_statement) (enclosed (W b xs) s) after made) c.as_slice-items.ensures.value h in
    subst (λ (strict : Bool). Meets (boxed view_statement) (enclosed (W strict x.items.items) s) after made) says one

pub walk_labelled-returns-in_err-x-in-Statement : goal.walk_labelled-returns-in_err-x-in-Statement
walk_labelled-returns-in_err-x-in-Statement t c =
    let ξ = view_setting c.args.here.setting in
    let A = view_around c.args.here.around in
    let strict = c.args.here.strict in
    let Γ = view_env c.args.env.now in
    let kind = base_kind (base (view_attr c.args.a.now)) in
    let w = λ (xs : List SwitchTree). pure.walk_switch ξ Γ A strict kind (switch_items_of (map trees.view_switch_item xs)) in
    let whole = w c.args.items.now (state_of c.args.tags.now c.args.known.now) in
    let s = state_of c.loop-part.tags c.loop-part.known in
    let all = c.loop-part.all in
    let f = labelled_behind all.items.items all.labels.items all.defaults in
    let rest = drop (c.loop-part.part-index + 1) c.args.items.now in
    let next = left_from c.args.items.now c.loop-part.part-index c.part-item.result c.loop-part-test.true c.part-item.is in
    let h0 = subst (λ (xs : List SwitchTree). IsLeft whole f (w xs) s) next c.loop-part.invariant in
    let h = subst (λ (x : SwitchTree). IsLeft whole f (w (x ∷ rest)) s) c.in-Statement.is h0 in
    let id = λ (x : Labelled). x in
    let one = pure.walk_statement ξ Γ A strict (trees.view_statement c.in-Statement.statement.value) in
    let t1 = state_of c.walk_statement.new.tags c.walk_statement.new.known in
    let e = c.in_err-x-in-Statement.field-0.0 in
    let p = err_from_is_err_and c.from_residual-in_err-x-in-Statement.result c.from_residual-in_err-x-in-Statement.ensures.1 in
    rw (p.1, p.2) (list_stops id whole f one _ s t1 e h (rw c.deref-in-Statement.ensures at c.in_err-x-in-Statement.ensures))

pub walk_labelled-loop-part-init : goal.walk_labelled-loop-part-init
walk_labelled-loop-part-init t c =
    let ξ = view_setting c.args.here.setting in
    let A = view_around c.args.here.around in
    let strict = c.args.here.strict in
    let Γ = view_env c.args.env.now in
    let kind = base_kind (base (view_attr c.args.a.now)) in
    let w = λ (xs : List SwitchTree). pure.walk_switch ξ Γ A strict kind (switch_items_of (map trees.view_switch_item xs)) in
    let s = state_of c.args.tags.now c.args.known.now in
    let whole = w c.args.items.now in
    rw (c.new.ensures.items, c.new-2.ensures.items)
    (left_same (whole s) (λ (y : Labelled). y) (labelled_behind [] [] 0) whole s (list_begins whole s) labelled_nothing)

pub walk_labelled-returns : goal.walk_labelled-returns
walk_labelled-returns t c =
    let ξ = view_setting c.args.here.setting in
    let A = view_around c.args.here.around in
    let strict = c.args.here.strict in
    let Γ = view_env c.args.env.now in
    let kind = base_kind (base (view_attr c.args.a.now)) in
    let w = λ (xs : List SwitchTree). pure.walk_switch ξ Γ A strict kind (switch_items_of (map trees.view_switch_item xs)) in
    let whole = w c.args.items.now (state_of c.args.tags.now c.args.known.now) in
    let s = state_of c.loop-part.tags c.loop-part.known in
    let all = c.loop-part.all in
    let f = labelled_behind all.items.items all.labels.items all.defaults in
    let none = drop_all c.loop-part.part-index c.args.items.now (omega (arith, c.loop-part-test.false)) in
    let h = subst (λ (xs : List SwitchTree). IsLeft whole f (w xs) s) none c.loop-part.invariant in
    let end : Labelled = record { items = k.NoSwitchItems; labels = []; defaults = 0 } in
    let view = λ (x : RustLabelled). let y : Labelled = record { items = view_switch_items x.items.items; labels = x.labels.items; defaults = x.defaults } in y in
    list_done view whole f end s all h (labelled_end all.items.items all.labels.items all.defaults)

pub walk_items-loop-part-preserved : goal.walk_items-loop-part-preserved
walk_items-loop-part-preserved t c =
    let ξ = view_setting c.args.here.setting in
    let A = view_around c.args.here.around in
    let strict = c.args.here.strict in
    let walks = λ (Γ : Env) (xs : List BlockItem). pure.walk_items ξ Γ A strict (block_items_of (map trees.view_block_item xs)) in
    let whole = walks (view_env c.args.env.now) c.args.items.now (state_of c.args.tags.now c.args.known.now) in
    let Γ = view_env c.loop-part.env in
    let s = state_of c.loop-part.tags c.loop-part.known in
    let all = c.loop-part.all.items in
    let f = behind view_item all in
    let rest = drop (c.loop-part.part-index + 1) c.args.items.now in
    let next = left_from c.args.items.now c.loop-part.part-index c.part-item.result c.loop-part-test.true c.part-item.is in
    let h0 = subst (λ (xs : List BlockItem). IsLeft whole f (walks Γ xs) s) next c.loop-part.invariant in
    elim c.match-part.branch [
      | walk_items-in-Declaration+in_ok-objects-in-Declaration+in_ok-push-in-Declaration w ↦
          let h = subst (λ (x : BlockItem). IsLeft whole f (walks Γ (x ∷ rest)) s) w.in-Declaration.is h0 in
          let one = declarations.walk_declaration ξ Γ (trees.view_declaration w.in-Declaration.declaration.value) in
          let b : Behind = record { scope = view_env w.walk_declaration.new.env; objects = map view_object w.in_ok-objects-in-Declaration.objects.items } in
          let t = state_of w.walk_declaration.new.tags w.walk_declaration.new.known in
          let after = left_goes whole f one _ s t b h (rw w.deref.ensures at w.in_ok-objects-in-Declaration.ensures) in
          rw (w.all-is, w.env-is, w.tags-is, w.known-is)
          (left_rest whole f (behind view_item w.push.new.self.items) (k.AndObjects b.objects) (walks b.scope rest) t after
          (λ ys. one_more view_item all w.push.new.self.items (item.Declare w.in_ok-objects-in-Declaration.objects) ys w.in_ok-push-in-Declaration.ensures.items))
      | walk_items-in-Statement+in_ok-x-in-Statement+in_ok-push-in-Statement w ↦
          let h = subst (λ (x : BlockItem). IsLeft whole f (walks Γ (x ∷ rest)) s) w.in-Statement.is h0 in
          let one = pure.walk_statement ξ Γ A strict (trees.view_statement w.in-Statement.statement.value) in
          let t = state_of w.walk_statement.new.tags w.walk_statement.new.known in
          let after = left_goes whole f one _ s t (view_statement w.in_ok-x-in-Statement.x.value) h (rw w.deref-in-Statement.ensures at w.in_ok-x-in-Statement.ensures) in
          rw (w.all-is, w.env-is, w.tags-is, w.known-is)
          (left_rest whole f (behind view_item w.push-in-Statement.new.self.items) (k.AndStatement (view_statement w.in_ok-x-in-Statement.x.value)) (walks Γ rest) t after
          (λ ys. one_more view_item all w.push-in-Statement.new.self.items (item.Do w.in_ok-x-in-Statement.x) ys w.in_ok-push-in-Statement.ensures.items))
    ]

pub walk_labelled-loop-part-preserved : goal.walk_labelled-loop-part-preserved
walk_labelled-loop-part-preserved t c =
    let ξ = view_setting c.args.here.setting in
    let A = view_around c.args.here.around in
    let strict = c.args.here.strict in
    let Γ = view_env c.args.env.now in
    let kind = base_kind (base (view_attr c.args.a.now)) in
    let walks = λ (xs : List SwitchTree). pure.walk_switch ξ Γ A strict kind (switch_items_of (map trees.view_switch_item xs)) in
    let whole = walks c.args.items.now (state_of c.args.tags.now c.args.known.now) in
    let s = state_of c.loop-part.tags c.loop-part.known in
    let all = c.loop-part.all in
    let f = labelled_behind all.items.items all.labels.items all.defaults in
    let rest = drop (c.loop-part.part-index + 1) c.args.items.now in
    let next = left_from c.args.items.now c.loop-part.part-index c.part-item.result c.loop-part-test.true c.part-item.is in
    let h0 = subst (λ (xs : List SwitchTree). IsLeft whole f (walks xs) s) next c.loop-part.invariant in
    elim c.match-part.branch [
      | walk_labelled-in-Case+in_ok-label-in-Case+in_ok-push-in-Case+in_ok-push-in-Case-2 w ↦
          let h = subst (λ (x : SwitchTree). IsLeft whole f (walks (x ∷ rest)) s) w.in-Case.is h0 in
          let one = walk ξ Γ n.Plain (view w.in-Case.value.value) in
          let two = λ (a : k.Expr). constantly ξ a in
          let t1 = state_of w.walk_label.new.tags w.walk_label.new.known in
          let l = w.in_ok-label-in-Case.label in
          let h1 = left_grouped whole f one two _ s h in
          let h2 = left_goes whole f (andthen one two) _ s t1 l h1 (rw w.deref.ensures at w.in_ok-label-in-Case.ensures) in
          let zs = w.push-in-Case.new.self.items in
          let ks = w.push.new.self.items in
          rw (w.all-is, w.tags-is, w.known-is)
          (left_rest whole f (labelled_behind zs ks all.defaults) (pure.with_case kind l) (walks rest) t1 h2
          (λ ys. case_pushed kind all.items.items zs all.labels.items ks all.defaults w.case_item.result l ys w.in_ok-push-in-Case-2.ensures.items w.in_ok-push-in-Case.ensures.items w.case_item.ensures))
      | walk_labelled-in-Default+in_ok-defaults-in-Default+in_ok-push-in-Default w ↦
          let h = subst (λ (x : SwitchTree). IsLeft whole f (walks (x ∷ rest)) s) w.in-Default.is h0 in
          let zs = w.push-in-Default.new.self.items in
          let many = w.in_ok-defaults-in-Default.defaults in
          rw (w.all-is, w.tags-is, w.known-is)
          (left_rest whole f (labelled_behind zs all.labels.items many) pure.with_default (walks rest) s h
          (λ ys. default_pushed all.items.items zs all.labels.items all.defaults many ys w.in_ok-push-in-Default.ensures.items w.in_ok-defaults-in-Default.ensures))
      | walk_labelled-in-Statement+in_ok-x-in-Statement+in_ok-push-in-Statement w ↦
          let h = subst (λ (x : SwitchTree). IsLeft whole f (walks (x ∷ rest)) s) w.in-Statement.is h0 in
          let one = pure.walk_statement ξ Γ A strict (trees.view_statement w.in-Statement.statement.value) in
          let t1 = state_of w.walk_statement.new.tags w.walk_statement.new.known in
          let x = w.in_ok-x-in-Statement.x in
          let h1 = left_goes whole f one _ s t1 (view_statement x.value) h (rw w.deref-in-Statement.ensures at w.in_ok-x-in-Statement.ensures) in
          let zs = w.push-in-Statement.new.self.items in
          rw (w.all-is, w.tags-is, w.known-is)
          (left_rest whole f (labelled_behind zs all.labels.items all.defaults) (pure.with_statement (view_statement x.value)) (walks rest) t1 h1
          (λ ys. statement_pushed all.items.items zs all.labels.items all.defaults x ys w.in_ok-push-in-Statement.ensures.items))
    ]

pub walk_labelled-returns-in_err-label-in-Case : goal.walk_labelled-returns-in_err-label-in-Case
walk_labelled-returns-in_err-label-in-Case t c =
    let ξ = view_setting c.args.here.setting in
    let A = view_around c.args.here.around in
    let strict = c.args.here.strict in
    let Γ = view_env c.args.env.now in
    let kind = base_kind (base (view_attr c.args.a.now)) in
    let w = λ (xs : List SwitchTree). pure.walk_switch ξ Γ A strict kind (switch_items_of (map trees.view_switch_item xs)) in
    let whole = w c.args.items.now (state_of c.args.tags.now c.args.known.now) in
    let s = state_of c.loop-part.tags c.loop-part.known in
    let all = c.loop-part.all in
    let f = labelled_behind all.items.items all.labels.items all.defaults in
    let rest = drop (c.loop-part.part-index + 1) c.args.items.now in
    let next = left_from c.args.items.now c.loop-part.part-index c.part-item.result c.loop-part-test.true c.part-item.is in
    let h0 = subst (λ (xs : List SwitchTree). IsLeft whole f (w xs) s) next c.loop-part.invariant in
    let h = subst (λ (x : SwitchTree). IsLeft whole f (w (x ∷ rest)) s) c.in-Case.is h0 in
    let id = λ (x : Labelled). x in
    let one = walk ξ Γ n.Plain (view c.in-Case.value.value) in
    let two = λ (a : k.Expr). constantly ξ a in
    let t1 = state_of c.walk_label.new.tags c.walk_label.new.known in
    let h1 = left_grouped whole f one two _ s h in
    let e = c.in_err-label-in-Case.field-0.0 in
    let p = err_from_is_err_and c.from_residual.result c.from_residual.ensures.1 in
    rw (p.1, p.2) (list_stops id whole f (andthen one two) _ s t1 e h1 (rw c.deref.ensures at c.in_err-label-in-Case.ensures))
