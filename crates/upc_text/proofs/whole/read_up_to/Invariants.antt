use Rattle.std.proofs.Common.{◌≡◌, ◌≤◌, ◌-◌, ◌+◌, ℕ, List, vec_len}
use Rattle.upc_text.specs.Outside.{StandsAt}
use Rattle.upc_text.proofs.whole.read_up_to.Given as goal

abbrev pub invariant-loop-chunk : goal.invariant-loop-chunk
invariant-loop-chunk g l = record {
  front : StandsAt (g.S.Sources.bytes_of l.fn.files l.name) 0 l.bytes.items;
  counts : (other : List ℕ) → g.S.Sources.faults l.fn.files other ≤ g.S.Sources.faults l.files other;
  same : (other : List ℕ) → g.S.Sources.bytes_of l.files other ≡ g.S.Sources.bytes_of l.fn.files other;
}

abbrev pub decreases-loop-chunk : goal.decreases-loop-chunk
decreases-loop-chunk g l = l.most + 1 - vec_len l.bytes
