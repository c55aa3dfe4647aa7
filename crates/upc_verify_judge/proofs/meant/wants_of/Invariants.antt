use Rattle.std.proofs.Common.{◌≡◌, map, take, option_copied}
use Rattle.upc_values.specs.Outcomes as outcomes
use Rattle.upc_verify_judge.proofs.meant.wants_of.Given as goal

-- what those so far want
abbrev pub invariant-loop-one : goal.invariant-loop-one
invariant-loop-one l = map option_copied l.wants.items ≡ map (λ m. outcomes.wanted m.«end») (take l.one-index l.meant)
