use Rattle.std.proofs.Common.{◌≡◌, ◌++◌, drop}
use Rattle.outcomes.specs.Text.{more_picks}
use Rattle.outcomes.proofs.text.add_more_picks.Given as goal

abbrev pub invariant-loop-pick : goal.invariant-loop-pick
invariant-loop-pick l = l.text.items ++ more_picks (drop l.pick-index l.picks) ≡ l.initial.text.items ++ more_picks l.picks
