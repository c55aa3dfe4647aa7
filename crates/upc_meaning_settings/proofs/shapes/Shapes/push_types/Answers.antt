use Rattle.std.proofs.Common.{◌∙◌}
use Rattle.upc_types.specs.ViewStructs.{view_structs}
use Rattle.source_meaning.proofs.Rows.{type_step}
use Rattle.upc_meaning_settings.proofs.shapes.Shapes.push_types.Goals as goal

pub loop-t-preserved : goal.loop-t-preserved
loop-t-preserved c =
    record {
      told =
          type_step (view_structs c.args.setting.structs.now) c.args.types.now c.loop-t.t-index c.t-item.result
          c.push.new.self.items.items c.loop-t.self.items.items c.loop-t-test.true c.t-item.is c.in_ok-push.ensures.value
          ∙ c.loop-t.invariant.told;
      valid = λ h. c.in_ok-push.ensures.valid (c.loop-t.invariant.valid h);
    }
