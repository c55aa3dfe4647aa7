use Rattle.std.proofs.Common.{◌≡◌, ◌++◌, take, map}
use Rattle.outcomes.specs.code.Prefixed.{begun}
use Rattle.outcomes.proofs.schedules.add_begun.Given as goal

abbrev pub invariant-loop-picks : goal.invariant-loop-picks
invariant-loop-picks l =
    map (λ v. v.items) l.all.items ≡ map (λ v. v.items) l.initial.all.items ++ begun l.first (map (λ v. v.items) (take l.picks-index l.lists))
