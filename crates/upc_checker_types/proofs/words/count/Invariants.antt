use Rattle.std.proofs.Common.{◌≡◌, ◌+◌, ◌≤◌, drop}
use Rattle.upc_checker_types.specs.Specifiers as pure
use Rattle.upc_checker_types.proofs.words.count.Given as goal

abbrev pub invariant-loop-other : goal.invariant-loop-other
invariant-loop-other l = record {
  rest : l.count + pure.count l.word (drop l.other-index l.words) ≡ pure.count l.word l.words;
  most : l.count ≤ l.other-index;
}
