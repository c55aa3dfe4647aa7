use Rattle.std.proofs.Common.{◌≡◌, map, length}
use Rattle.std.specs.List.{range_with_len}
use Rattle.upc_values.specs.Views.{element}
use Rattle.upc_library.specs.layer.Spots.{pointer_of}
use Rattle.collectives.proofs.permute.permutation.Given as goal

abbrev pub invariant-loop-i : goal.invariant-loop-i
invariant-loop-i l = record {
  elements : map pointer_of l.elements.items ≡ map (λ i. element l.start 1 4 l.thread.threads i) (range_with_len 0 l.i);
  many : length l.elements.items ≡ l.i;
}
