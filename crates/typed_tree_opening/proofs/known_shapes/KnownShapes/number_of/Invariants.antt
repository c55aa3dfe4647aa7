use Rattle.std.proofs.Common.{◌≡◌, ℕ, ◌<◌, ◌≤◌, false, length, get_or}
use Rattle.typed_tree.specs.layer.Parts.{same_shape}
use Rattle.block_layout.specs.declared.kind.Shape.{Shape}
use Rattle.upc_types.proofs.PlacesOfNumbers.{IsAt, up_to}
use Rattle.typed_tree_opening.specs.code.Apart.{code_of, codes_of}
use Rattle.typed_tree_opening.proofs.known_shapes.KnownShapes.number_of.Given as goal

-- None from here on is equal.
abbrev pub invariant-loop-at : goal.invariant-loop-at
invariant-loop-at l = record {
  at : IsAt (codes_of l.self.list.items) (code_of l.shape) l.at;
  rest : (i : ℕ) (d : Shape) → up_to l.at ≤ i → i < length l.self.list.items →
      same_shape (get_or l.self.list.items i d) l.shape ≡ false;
}

abbrev pub decreases-loop-at : goal.decreases-loop-at
decreases-loop-at l = up_to l.at
