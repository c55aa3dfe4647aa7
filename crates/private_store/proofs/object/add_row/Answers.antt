use Rattle.std.proofs.Common.{ap, ◌∙◌}
use Rattle.upc_values.specs.Shapes.{blank_value}
use Rattle.private_store.specs.code.Held.{held_values}
use Rattle.private_store.proofs.RowCells.{row_more_blank, values_pushed}
use Rattle.private_store.proofs.object.add_row.Goals as goal

pub loop-at-preserved : goal.loop-at-preserved
loop-at-preserved c =
    let held = c.loop-at.held.items in
    ap held_values c.in_ok-push.ensures.items
    ∙ values_pushed held c.of.result (blank_value c.args.kind) (c.of.ensures ∙ c.blank_value.ensures.value)
    ∙ row_more_blank (held_values held) c.args.kind c.loop-at.at (held_values c.args.held.now.items) c.loop-at.invariant
