-- The tests of the elements of a reduction.
use Rattle.std.proofs.Common.{ℕ, Bool, not, List, [], ◌∷◌}
use Rattle.std.specs.List.{list_any}
use Rattle.block_layout.specs.declared.place.SharedPtr.{SharedPtr}
use Rattle.block_layout.specs.declared.kind.Kind.{Kind}
use Rattle.block_layout.specs.declared.kind.Shape.{Shape}
use Rattle.block_layout.specs.declared.run_error.TheConstants.{OUT_OF_OBJECT, POINTER_RANGE, CELL_TYPE}
use Rattle.block_layout.specs.Shapes.{kind_size}
use Rattle.upc_values.specs.Views.{leaves_range, leaves_piece, is_cell}

abbrev pub cell_tests : ℕ → List Shape → Kind → List SharedPtr → List (Bool × ℕ)
cell_tests threads shapes k ps =
    (list_any (leaves_range (kind_size k)) ps, POINTER_RANGE)
    ∷ (list_any (leaves_piece threads (kind_size k)) ps, OUT_OF_OBJECT)
    ∷ (list_any (λ p. not (is_cell shapes k p)) ps, CELL_TYPE)
    ∷ []
