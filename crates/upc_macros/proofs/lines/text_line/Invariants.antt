use Rattle.std.proofs.Common.{◌≡◌, take}
use Rattle.upc_macros.specs.Expansion.{text_items}
use Rattle.upc_macros.specs.code.Table.{seen, Takes}
use Rattle.upc_macros.specs.code.Known.{AreKnown}
use Rattle.upc_macros.proofs.lines.text_line.Given as goal

abbrev pub invariant-loop-token : goal.invariant-loop-token
invariant-loop-token l = record {
  macros : l.macros.items ≡ l.fn.macros.items;
  since : l.known.since ≡ l.fn.known.since;
  known : AreKnown l.source l.tokens l.fn.macros.items l.expanded.items l.known;
  taken : Takes l.fn.expanded.items l.expanded.items (text_items l.source (seen l.tokens l.fn.macros.items) (take l.token-index l.line));
}
