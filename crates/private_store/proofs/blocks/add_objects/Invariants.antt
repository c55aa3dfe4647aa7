use Rattle.std.proofs.Common.{◌≡◌, ◌+◌, ◌++◌, take}
use Rattle.private_store.specs.Live.{bytes_in, blank_things}
use Rattle.private_store.proofs.blocks.add_objects.Given as goal

abbrev pub invariant-loop-shape : goal.invariant-loop-shape
invariant-loop-shape l = record {
  at : l.number ≡ l.first + l.shape-index;
  so_far : l.objects ≡ l.initial.objects ++ blank_things l.first (take l.shape-index l.shapes);
  counted : l.bytes ≡ bytes_in (take l.shape-index l.shapes);
}
