use Rattle.std.proofs.Common.{◌≡◌, ◌+◌, take}
use Rattle.private_store.specs.Live.{bytes_in}
use Rattle.private_store.proofs.blocks.fit.Given as goal

abbrev pub invariant-loop-shape : goal.invariant-loop-shape
invariant-loop-shape l = l.left + bytes_in (take l.shape-index l.shapes) ≡ l.most
