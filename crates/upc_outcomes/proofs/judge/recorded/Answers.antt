use Rattle.std.proofs.Common.{refl, rules}
use Rattle.upc_top.proofs.Records.{has-text}
use Rattle.upc_outcomes.proofs.judge.recorded.Goals as goal

pub returns-in-Ok : goal.returns-in-Ok
returns-in-Ok c =
    (refl, c.in-Ok.ensures, has-text c.args.journal c.in-Ok.orders c.requires c.in-Ok.ensures (search rules))
