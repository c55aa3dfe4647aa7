use Rattle.std.proofs.Common.{◌∙◌, false}
use Rattle.upc_values.specs.Lists.{Pairwise}
use Rattle.upc_verify_orders.specs.declared.program.Mark.{Mark}
use Rattle.upc_verify_orders.specs.code.Program.{InOrder}
use Rattle.upc_verify_orders.proofs.Owns.{own-step}
use Rattle.upc_verify_orders.proofs.program.keeps_own.Goals as goal

abbrev none : Mark
none = record { rank = 0; strict = false; write = false; place = 0 }

pub loop-mark-preserved : goal.loop-mark-preserved
loop-mark-preserved c =
    record {
      any = c.follow.ensures.any ∙ c.loop-mark.invariant.any;
      wrote = c.follow.ensures.wrote ∙ c.loop-mark.invariant.wrote;
      keeps =
          own-step c.loop-mark.passed c.follow.new.self c.args.marks.now (Pairwise InOrder c.args.marks.now) c.loop-mark.mark-index none c.loop-mark-test.true
          c.follow.ensures.after (c.may_follow.ensures.0 c.if-not-may_follow.false) c.loop-mark.invariant.keeps;
    }
