use Rattle.std.proofs.Common.{List, sym, ap, ◌∙◌}
use Rattle.typed_tree.specs.declared.tree.Arm.{Arm}
use Rattle.typed_tree.specs.declared.tree.Expr.{Expr}
use Rattle.typed_tree.specs.declared.tree.Item.{Item}
use Rattle.typed_tree.specs.declared.tree.SwitchItem.{SwitchItem}
use Rattle.typed_tree.specs.Tree.{Stands, StatementKind, Block, If, Switch}
use Rattle.typed_tree.specs.ViewTree.{view_expr}
use Rattle.typed_tree.specs.ViewStatements.{view_arms, view_items, view_last, view_statement_kind, view_switch_items}
use Rattle.typed_tree.proofs.StatementRows.{block_is, if_is, switch_is}
use Rattle.upc_meaning_settings.specs.layer.Settings.{running_seen}
use Rattle.upc_meaning_work.specs.layer.Seen.{with_item}
use Rattle.upc_meaning_work.specs.layer.Items.{Run}
use Rattle.upc_meaning_work.specs.layer.ViewItems.{view_standing}
use Rattle.upc_meaning_work.proofs.Stating.{if_goes}
use Rattle.upc_meaning_work.specs.layer.Evaluations.{seen}
use Rattle.upc_meaning.proofs.ByKind.{went_as}
use Rattle.upc_meaning.proofs.running.run.Goals as goal

pub returns-in-Block : goal.returns-in-Block
returns-in-Block c =
    let b = c.in-Block in
    went_as (running_seen c.args.setting) (view_standing c.args.standing) (seen c.args.evaluation.now)
    c.args.s.now.place (view_statement_kind c.args.s.now.kind) (Block b.strict (view_items c.as_slice-items.result.now))
    (ap view_statement_kind b.is ∙ block_is b.strict b.items
    ∙ ap (λ (xs : List Item). Block b.strict (view_items xs)) (sym c.as_slice-items.ensures.value))
    c.block.new.evaluation c.block.result c.block.ensures

pub returns-in_ok-switch-in-Switch : goal.returns-in_ok-switch-in-Switch
returns-in_ok-switch-in-Switch c =
    let b = c.in-Switch in
    let ρ = running_seen c.args.setting in
    let κ = view_standing c.args.standing in
    let s = seen c.args.evaluation.now in
    ap (λ (k : StatementKind). with_item ρ (Run κ (Stands c.args.s.now.place k)) s)
    (ap view_statement_kind b.is ∙ switch_is b.e b.items
    ∙ ap (λ (e : Expr). Switch (view_expr e) (view_switch_items b.items.items)) (sym c.deref.ensures)
    ∙ ap (λ (xs : List SwitchItem). Switch (view_expr c.deref.result.now) (view_switch_items xs))
    (sym c.as_slice-items-in-Switch.ensures.value))
    ∙ c.in_ok-switch-in-Switch.ensures

pub returns-in_ok-arms-in-If : goal.returns-in_ok-arms-in-If
returns-in_ok-arms-in-If c =
    let b = c.in-If in
    let ρ = running_seen c.args.setting in
    let κ = view_standing c.args.standing in
    let s = seen c.args.evaluation.now in
    ap (λ (k : StatementKind). with_item ρ (Run κ (Stands c.args.s.now.place k)) s)
    (ap view_statement_kind b.is ∙ if_is b.arms b.last
    ∙ ap (λ (xs : List Arm). If (view_arms xs) (view_last b.last)) (sym c.as_slice-arms.ensures.value))
    ∙ if_goes ρ κ s s c.args.s.now.place (view_arms c.as_slice-arms.result.now) (view_last b.last)
    ∙ c.in_ok-arms-in-If.ensures
