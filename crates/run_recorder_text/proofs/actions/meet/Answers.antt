use Rattle.std.proofs.Common.{map, length, decimal}
use Rattle.std.proofs.lemmas.Result.{on_ok_weaker}
use Rattle.run_recorder_text.specs.Words.{scalar_text}
use Rattle.run_recorder_text.proofs.Joins.{meet_joined}
use Rattle.run_recorder_text.proofs.actions.meet.Goals as goal

pub returns : goal.returns
returns c = on_ok_weaker c.args-2.result (λ e.
    meet_joined c.args.out.now.items _ _ _ _ _ (decimal c.args.call) (decimal (length c.args.values.now))
    (map scalar_text c.args.values.now) c.in_ok-put.ensures c.in_ok-number.ensures c.in_ok-put-2.ensures
    c.in_ok-number-2.ensures e) c.args-2.ensures
