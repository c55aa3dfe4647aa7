use Rattle.std.proofs.Common.{◌≡◌, ◌++◌, true, drop}
use Rattle.outcomes.specs.Text.{indented}
use Rattle.outcomes.proofs.text.add_indented.Given as goal

abbrev pub invariant-loop-byte : goal.invariant-loop-byte
invariant-loop-byte l = l.out.items ++ indented l.begins (drop l.byte-index l.text) ≡ l.initial.out.items ++ indented true l.text
