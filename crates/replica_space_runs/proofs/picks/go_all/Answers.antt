use Rattle.std.proofs.Common.{◌∙◌}
use Rattle.replica_space_runs.proofs.picks.go_all.Goals as goal

pub rounds-requires : goal.rounds-requires
rounds-requires g c = let r = c.requires in (r.0, r.1, c.in_ok-pick_all.ensures.crew r.0 r.1 r.2)

pub returns : goal.returns
returns g c =
    let a = c.in_ok-pick_all.ensures in let b = c.in_ok-rounds.ensures in
    record { many = b.many ∙ a.many; opening = b.«opening» ∙ a.«opening»; over = λ l f run. b.over l f (a.crew l f run) }
