use Rattle.std.proofs.Common.{◌≡◌, Some, drop}
use Rattle.upc_top_words.specs.Values.{◌>>=◌}
use Rattle.upc_outcomes_words.specs.Picks.{read, steps, finished}
use Rattle.upc_outcomes_words.proofs.picks.numbers.Given as goal

abbrev pub invariant-loop-byte : goal.invariant-loop-byte
invariant-loop-byte l =
    (steps (Some record { done = l.done.items; now = l.now }) (drop l.byte-index l.text) >>= finished) ≡ read l.text
