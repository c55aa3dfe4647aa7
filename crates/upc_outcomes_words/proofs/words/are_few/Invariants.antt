use Rattle.std.proofs.Common.{◌≡◌, ◌≤◌}
use Rattle.upc_outcomes_words.specs.Values.{lists_count}
use Rattle.upc_outcomes_words.proofs.words.are_few.Given as goal

abbrev pub invariant-loop : goal.invariant-loop
invariant-loop l = record {
  counted : l.count ≡ lists_count l.threads l.counter;
  few : l.count ≤ 100000;
}
