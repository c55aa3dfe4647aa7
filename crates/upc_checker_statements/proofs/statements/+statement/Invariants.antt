use Rattle.std.proofs.Common.{map, drop}
use Rattle.upc_tree.specs.layer.Lists.{block_items_of, else_ifs_of, switch_items_of}
use Rattle.upc_tree.specs.layer.ViewStatement.{view_block_item, view_else_if, view_switch_item}
use Rattle.typing_rules.specs.Attributes.{base}
use Rattle.typing_rules.specs.Nodes.{view_attr}
use Rattle.typed_tree.specs.Scopes.{Env}
use Rattle.typing_rules.specs.Values.{base_kind}
use Rattle.typed_tree.specs.layer.ViewEnv.{view_env}
use Rattle.typed_tree.specs.ViewStatements.{view_item, view_statement}
use Rattle.typed_tree.specs.ViewTree.{view_expr}
use Rattle.typing_rules.specs.layer.Views.{view_around}
use Rattle.upc_checker_statements.specs.Statements as pure
use Rattle.upc_checker_statements.specs.Statements.{Armed}
use Rattle.upc_checker_scopes.specs.layer.Views.{view_setting, state_of}
use Rattle.upc_checker_scopes.specs.Walk.{andthen, give}
use Rattle.upc_checker_scopes.proofs.Turns.{IsLeft, behind}
use Rattle.upc_checker_statements.proofs.StatementTurns.{armed_behind, labelled_behind}
use Rattle.upc_checker_statements.proofs.statements.+statement.Given as goal

-- what is left decides
abbrev pub invariant-walk_items-loop-part : goal.invariant-walk_items-loop-part
invariant-walk_items-loop-part l =
    let w = λ (Γ : Env). pure.walk_items (view_setting l.here.setting) Γ (view_around l.here.around) l.here.strict in
    IsLeft (w (view_env l.fn.env) (block_items_of (map view_block_item l.items)) (state_of l.fn.tags l.fn.known)) (behind view_item l.all.items)
    (w (view_env l.env) (block_items_of (map view_block_item (drop l.part-index l.items)))) (state_of l.tags l.known)

abbrev pub invariant-walk_labelled-loop-part : goal.invariant-walk_labelled-loop-part
invariant-walk_labelled-loop-part l =
    let w = pure.walk_switch (view_setting l.here.setting) (view_env l.env) (view_around l.here.around) l.here.strict (base_kind (base (view_attr l.a))) in
    IsLeft (w (switch_items_of (map view_switch_item l.items)) (state_of l.fn.tags l.fn.known)) (labelled_behind l.all.items.items l.all.labels.items l.all.defaults)
    (w (switch_items_of (map view_switch_item (drop l.part-index l.items)))) (state_of l.tags l.known)

abbrev pub invariant-walk_else_ifs-loop-part : goal.invariant-walk_else_ifs-loop-part
invariant-walk_else_ifs-loop-part l =
    let w = λ (Δ : Env). pure.walk_else_ifs (view_setting l.here.setting) (view_env l.env) Δ (view_around l.here.around) l.here.strict in
    let first = λ (x : Armed). pure.with_arm (view_expr l.fn.first.test.value) (view_statement l.fn.first.body) x in
    IsLeft (andthen (w (view_env l.fn.scope) (else_ifs_of (map view_else_if l.more))) (λ x. give (first x)) (state_of l.fn.tags l.fn.known)) (armed_behind l.arms.items)
    (w (view_env l.scope) (else_ifs_of (map view_else_if (drop l.part-index l.more)))) (state_of l.tags l.known)
