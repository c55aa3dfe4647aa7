use Rattle.std.proofs.lemmas.Result.{on_ok_weaker}
use Rattle.upc_values.specs.Drain.{emptied}
use Rattle.order_builder.proofs.walk.Walk.pass_last.Goals as goal

pub returns : goal.returns
returns c = on_ok_weaker c.pass.result (λ e w s. e (emptied w) (c.in_ok-empty.ensures w s)) c.pass.ensures
