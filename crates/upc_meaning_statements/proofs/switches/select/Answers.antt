use Rattle.std.proofs.Common.{[], ◌∷◌, ap, ◌∙◌, rules}
use Rattle.std.proofs.lemmas.Int.{to_z-of_z}
use mir.Syntax.{w128}
use mir.Val.{SFits, of_z, to_z}
use Rattle.typing_rules.specs.Rules.{label_kind}
use Rattle.typed_tree.specs.ViewStatements.{view_switch_items}
use Rattle.upc_meaning_settings.specs.layer.Settings.{running_seen}
use Rattle.upc_meaning_work.specs.layer.Seen.{more_works}
use Rattle.upc_meaning_work.specs.layer.Items.{Cases}
use Rattle.upc_meaning_work.specs.layer.ViewItems.{view_standing}
use Rattle.upc_meaning_work.proofs.Selecting.{select_goes, select_none}
use Rattle.upc_meaning_work.specs.layer.Evaluations.{seen}
use Rattle.upc_meaning_statements.proofs.switches.select.Goals as goal

pub returns-in-None : goal.returns-in-None
returns-in-None c =
    let read : SFits w128 c.number_of.result = search rules in
    let fits : SFits w128 c.in_ok-label.label = search rules in
    select_none (running_seen c.args.setting) (view_standing c.args.standing) (seen c.args.evaluation.now)
    (seen c.leave_so.new.self) c.args.kind (view_switch_items c.args.items.now) c.pop_value-v.result
    (to_z w128 (of_z w128 c.in_ok-label.label)) (seen c.pop_value-v.new.self) c.pop_value-v.ensures.value
    c.pop_value-v.ensures.rest
    (to_z-of_z w128 c.in_ok-label.label fits ∙ c.in_ok-label.ensures
    ∙ ap (label_kind c.args.kind) (to_z-of_z w128 c.number_of.result read ∙ c.number_of.ensures.value))
    c.in-None.ensures c.leave_so.ensures

pub returns-in_ok-push_one-in-Some : goal.returns-in_ok-push_one-in-Some
returns-in_ok-push_one-in-Some c =
    let κ = view_standing c.args.standing in
    let more = view_switch_items c.in-Some.more.now in
    let read : SFits w128 c.number_of.result = search rules in
    let fits : SFits w128 c.in_ok-label.label = search rules in
    select_goes (running_seen c.args.setting) κ (seen c.args.evaluation.now) (seen c.push_one.new.self) c.args.kind
    (view_switch_items c.args.items.now) more c.pop_value-v.result (to_z w128 (of_z w128 c.in_ok-label.label))
    (seen c.pop_value-v.new.self) c.pop_value-v.ensures.value c.pop_value-v.ensures.rest
    (to_z-of_z w128 c.in_ok-label.label fits ∙ c.in_ok-label.ensures
    ∙ ap (label_kind c.args.kind) (to_z-of_z w128 c.number_of.result read ∙ c.number_of.ensures.value))
    c.in-Some.ensures (c.in_ok-push_one-in-Some.ensures ∙ ap (more_works (Cases κ more ∷ [])) c.leave_so.ensures)
