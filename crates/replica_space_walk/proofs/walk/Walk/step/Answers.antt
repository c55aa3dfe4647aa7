use Rattle.std.proofs.Common.{sym, subst}
use Rattle.replica_space_walk.specs.code.Walking.{IsAt, after}
use Rattle.replica_space_walk.proofs.walk.Walk.step.Goals as goal

pub returns-in_ok-deliver-in-Delivered-clause-shows : goal.returns-in_ok-deliver-in-Delivered-clause-shows
returns-in_ok-deliver-in-Delivered-clause-shows c = λ n x h low.
    let by = c.args.event.now.by in
    subst (λ d. IsAt n (after n (record { by = by; deed = d }) x) c.deliver.new.self) (sym c.in-Delivered.is)
    (c.in_ok-deliver-in-Delivered.ensures.shows n by x h)
