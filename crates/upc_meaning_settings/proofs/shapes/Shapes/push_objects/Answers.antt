use Rattle.std.proofs.Common.{◌∙◌}
use Rattle.upc_meaning_settings.specs.layer.Settings.{running_seen}
use Rattle.source_meaning.proofs.Rows.{object_step}
use Rattle.upc_meaning_settings.proofs.shapes.Shapes.push_objects.Goals as goal

pub loop-object-preserved : goal.loop-object-preserved
loop-object-preserved c =
    record {
      told =
          object_step (running_seen c.args.setting) c.args.objects.now c.loop-object.object-index
          c.object-item.result c.push.new.self.items.items c.loop-object.self.items.items c.loop-object-test.true
          c.object-item.is c.in_ok-push.ensures.value
          ∙ c.loop-object.invariant.told;
      valid = λ h. c.in_ok-push.ensures.valid (c.loop-object.invariant.valid h);
    }
