use Rattle.std.proofs.Common.{◌≡◌, ◌+◌, drop}
use Rattle.typed_tree.specs.Elements.{number_among}
use Rattle.typed_tree_opening.proofs.elements.number_among.Given as goal

abbrev pub invariant-loop-known : goal.invariant-loop-known
invariant-loop-known l = record {
  rest : l.number + number_among (drop l.known-index l.shapes) l.shape ≡ number_among l.shapes l.shape;
  most : l.number ≡ l.known-index;
}
