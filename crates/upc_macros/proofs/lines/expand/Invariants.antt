use Rattle.std.proofs.Common.{◌-◌, ◌≤◌, length}
use Rattle.upc_macros.specs.code.Lines.{IsExpandedTo}
use Rattle.upc_macros.specs.code.Known.{AreKnown}
use Rattle.upc_macros.proofs.lines.expand.Given as goal

abbrev pub invariant-loop-at : goal.invariant-loop-at
invariant-loop-at l = record {
  lines : IsExpandedTo l.source l.tokens (length l.lexed.names) l.at l.macros.items l.expanded.items;
  since : l.known.since ≤ l.at;
  known : AreKnown l.source l.tokens l.macros.items l.expanded.items l.known;
}

abbrev pub decreases-loop-at : goal.decreases-loop-at
decreases-loop-at l = length l.tokens - l.at
