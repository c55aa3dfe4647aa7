use Rattle.std.proofs.Common.{◌≡◌, Some, false, arith}
use Rattle.upc_values.specs.declared.record.End.{End}
use Rattle.upc_values.specs.Ends.{stops}
use Rattle.upc_rounds_teams.proofs.Crews.{numbered-workers}
use Rattle.upc_rounds_teams.proofs.ends.stopped.Goals as goal

pub returns : goal.returns
returns c =
    numbered-workers (λ i k. (e : End) → k.«end» ≡ Some e → stops e ≡ false) c.args.places.now (λ i d lt.
    let t = c.loop-at-test.false in let e = c.loop-at.auto.at-end in c.loop-at.invariant i d (omega (arith, lt, t, e)))
