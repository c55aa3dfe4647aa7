use Rattle.std.proofs.Common.{◌≡◌, ◌++◌, [], ◌∷◌, map}
use Rattle.outcomes.proofs.Prefixes.{begun_from}
use Rattle.outcomes.proofs.schedules.+every_list.Given as goal

abbrev pub decreases-every_list : goal.decreases-every_list
decreases-every_list l = l.most

abbrev pub invariant-loop-first : goal.invariant-loop-first
invariant-loop-first l =
    map (λ v. v.items) l.all.items ++ begun_from l.threads (map (λ v. v.items) l.shorter.items) l.first
    ≡ [] ∷ begun_from l.threads (map (λ v. v.items) l.shorter.items) 0
