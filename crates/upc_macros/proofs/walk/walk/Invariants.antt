use Rattle.std.proofs.Common.{◌-◌, ◌≡◌, [], ◌∷◌, length, suc}
use Rattle.std.specs.Prelude.{reverse}
use Rattle.upc_macros.specs.code.Walk.{pending, put_back, IsWalk}
use Rattle.upc_macros.specs.code.Known.{AreKnown, IsListening, AreBegun}
use Rattle.upc_macros.proofs.WalkLemmas.{work}
use Rattle.upc_macros.proofs.walk.walk.Given as goal

abbrev pub invariant-loop-frame : goal.invariant-loop-frame
invariant-loop-frame l = record {
  same : length l.macros.items ≡ length l.fn.macros.items;
  walk : IsWalk l.source l.tokens l.place l.fn.expanded.items (pending l.source l.tokens (length l.fn.macros.items - 1) l.fn.macros.items (l.fn.first ∷ [])) (put_back l.fn.macros.items l.fn.first) l.macros.items (l.frame ∷ reverse l.stack.items) l.expanded.items;
  since : l.known.since ≡ l.fn.known.since;
  known : AreKnown l.source l.tokens (put_back l.fn.macros.items l.fn.first) l.expanded.items l.known;
  listening : IsListening l.tokens (put_back l.fn.macros.items l.fn.first) l.macros.items (length l.expanded.items) l.bound l.frame (reverse l.stack.items);
  begun : AreBegun l.source l.tokens (pending l.source l.tokens (length l.fn.macros.items - 1) l.fn.macros.items (l.fn.first ∷ [])) (length l.fn.expanded.items) (length l.macros.items - suc (length (reverse l.stack.items))) l.macros.items (l.frame ∷ reverse l.stack.items);
}

abbrev pub decreases-loop-frame : goal.decreases-loop-frame
decreases-loop-frame l = work l.tokens (length l.macros.items - suc (length (reverse l.stack.items))) l.macros.items (l.frame ∷ reverse l.stack.items)
