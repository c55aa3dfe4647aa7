-- The tests of the work of a collective call, in order, each with its run error.
use Rattle.std.specs.Prelude.{ℕ, ◌==◌, Bool, not, ◌&&◌, ◌||◌, List, [], ◌∷◌}
use Rattle.std.specs.List.{list_any}
use Rattle.block_layout.specs.declared.place.SharedPtr.{SharedPtr}
use Rattle.block_layout.specs.declared.kind.Kind.TheVariants as kind
use Rattle.block_layout.specs.declared.kind.Shape.{Shape}
use Rattle.block_layout.specs.declared.run_error.TheConstants.{OUT_OF_OBJECT, POINTER_RANGE, CELL_TYPE}
use Rattle.upc_values.specs.Expansions as said
use Rattle.upc_values.specs.Expansions.{Part}
use Rattle.upc_values.specs.Views.{leaves_range, leaves_piece, is_cell}

-- of parts of so many bytes
abbrev pub move_tests : ℕ → List Shape → ℕ → List Part → List (Bool × ℕ)
move_tests threads shapes n xs =
    (list_any (λ x. leaves_range n x.into || leaves_range n x.from) xs, POINTER_RANGE)
    ∷ (list_any (λ x. leaves_piece threads n x.into || leaves_piece threads n x.from) xs, OUT_OF_OBJECT)
    ∷ (list_any (said.differ threads shapes 0 n) xs, CELL_TYPE)
    ∷ []

-- of the elements of a permutation, and of a block of so many bytes where there is at least one
abbrev pub permute_tests : ℕ → List Shape → ℕ → List SharedPtr → SharedPtr → List (Bool × ℕ)
permute_tests threads shapes n ps own =
    (list_any (leaves_range 4) ps || (not (n == 0) && leaves_range n own), POINTER_RANGE)
    ∷ (list_any (leaves_piece threads 4) ps || (not (n == 0) && leaves_piece threads n own), OUT_OF_OBJECT)
    ∷ (list_any (λ p. not (is_cell shapes kind.Int p)) ps || (not (n == 0) && said.cut threads shapes 0 n own), CELL_TYPE)
    ∷ []
