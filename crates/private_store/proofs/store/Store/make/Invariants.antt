use Rattle.std.proofs.Common.{◌≡◌, take}
use Rattle.private_store.specs.Beginnings.{begun}
use Rattle.private_store.proofs.store.Store.make.Given as goal

abbrev pub invariant-loop-initial : goal.invariant-loop-initial
invariant-loop-initial l = l.store ≡ begun l.shapes (take l.initial-index l.initials)
