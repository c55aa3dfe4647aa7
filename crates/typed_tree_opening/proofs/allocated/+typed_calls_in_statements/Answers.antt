use Rattle.std.proofs.Common.{map, ap, ◌∙◌, rules, arith}
use Rattle.std.proofs.lemmas.Grind.{common_steps}
use Rattle.upc_types.specs.View.{view}
use Rattle.upc_types.specs.ViewStructs.{view_structs}
use Rattle.typed_tree.specs.ViewStatements.{view_statement_kind}
use Rattle.typed_tree.proofs.StatementRows.{block_is, if_is, switch_is}
use Rattle.typed_tree.specs.Allocated.{allocated_by}
use Rattle.typed_tree_opening.proofs.Allocations.{item_step, switch_step}
use Rattle.typed_tree_opening.proofs.allocated.+typed_calls_in_statements.Goals as goal

pub push_statement-returns-in-Block : goal.push_statement-returns-in-Block
push_statement-returns-in-Block t c =
    let v = ap (allocated_by (view_structs c.args.structs.now))
    (ap view_statement_kind c.in-Block.is ∙ block_is c.in-Block.field-0 c.in-Block.items) in
    first_of (search rules, grind (arith, common_steps))

pub push_statement-returns-in_ok-push_arms-in-If : goal.push_statement-returns-in_ok-push_arms-in-If
push_statement-returns-in_ok-push_arms-in-If t c =
    let v = ap (allocated_by (view_structs c.args.structs.now))
    (ap view_statement_kind c.in-If.is ∙ if_is c.in-If.arms c.in-If.last) in
    first_of (search rules, grind (arith, common_steps))

pub push_statement-returns-in_ok-push_expr-in-Switch : goal.push_statement-returns-in_ok-push_expr-in-Switch
push_statement-returns-in_ok-push_expr-in-Switch t c =
    let v = ap (allocated_by (view_structs c.args.structs.now))
    (ap view_statement_kind c.in-Switch.is ∙ switch_is c.in-Switch.value c.in-Switch.items) in
    first_of (search rules, grind (arith, common_steps))

pub push_items-loop-item-preserved : goal.push_items-loop-item-preserved
push_items-loop-item-preserved t c =
    item_step (view_structs c.args.structs.now) c.args.items.now c.loop-item.item-index c.item-item.result
    (map view c.push_item.new.out.items) (map view c.loop-item.out.items)
    c.loop-item-test.true c.item-item.is c.in_ok-push_item.ensures
    ∙ c.loop-item.invariant

pub push_switch-loop-item-preserved : goal.push_switch-loop-item-preserved
push_switch-loop-item-preserved t c =
    switch_step (view_structs c.args.structs.now) c.args.items.now c.loop-item.item-index c.item-item.result
    (map view c.push_switch_item.new.out.items) (map view c.loop-item.out.items)
    c.loop-item-test.true c.item-item.is c.in_ok-push_switch_item.ensures
    ∙ c.loop-item.invariant
