use Rattle.std.proofs.Common.{◌≡◌, is_some, true, arith}
use Rattle.upc_rounds_teams.proofs.Crews.{numbered-workers}
use Rattle.upc_rounds_teams.proofs.ends.all_ended.Goals as goal

pub returns : goal.returns
returns c = λ yes.
    numbered-workers (λ i k. is_some k.«end» ≡ true) c.args.places.now (λ i d lt.
    let t = c.loop-at-test.false in let e = c.loop-at.auto.at-end in c.loop-at.invariant i d (omega (arith, lt, t, e)))
