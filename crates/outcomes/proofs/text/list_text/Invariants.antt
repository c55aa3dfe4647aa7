use Rattle.std.proofs.Common.{◌≡◌, ◌++◌, drop, map}
use Rattle.outcomes.specs.Tally.{listed}
use Rattle.outcomes.specs.Text.{list_text}
use Rattle.outcomes.proofs.text.list_text.Given as goal

abbrev pub invariant-loop-row : goal.invariant-loop-row
invariant-loop-row l = l.text.items ++ list_text l.many (map listed (drop l.row-index l.rows)) ≡ list_text l.many (map listed l.rows)
