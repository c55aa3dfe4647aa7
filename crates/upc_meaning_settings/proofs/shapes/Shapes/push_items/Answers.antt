use Rattle.std.proofs.Common.{◌∙◌}
use Rattle.upc_meaning_settings.specs.layer.Settings.{running_seen}
use Rattle.source_meaning.proofs.Rows.{item_step}
use Rattle.upc_meaning_settings.proofs.shapes.Shapes.push_items.Goals as goal

pub loop-item-preserved : goal.loop-item-preserved
loop-item-preserved c =
    record {
      told =
          item_step (running_seen c.args.setting) c.args.items.now c.loop-item.item-index c.item-item.result
          c.push_item.new.self.items.items c.loop-item.self.items.items c.loop-item-test.true c.item-item.is
          c.in_ok-push_item.ensures.value
          ∙ c.loop-item.invariant.told;
      valid = λ h. c.in_ok-push_item.ensures.valid (c.loop-item.invariant.valid h);
    }
