-- The targets of the pointers in an object (C99 6.2.5), in the order of its cells; an array has those of its leaf
-- element.
use Rattle.std.specs.Prelude.{ℕ, ◌==◌, if◌then◌else◌, List, [], ◌∷◌, ◌++◌}
use Rattle.std.specs.List.{fold, flat_map}
use Rattle.upc_types.specs.Types.{CType, Base, Struct, Pointer, base_of, Member, Completed, Structs}
use Rattle.upc_types.specs.Cells.{leaf_base, noted}

-- The targets of the pointers in an object that is no array, where those in each struct are known.
abbrev pub leaf_targets : (ℕ → List CType) → Base → List CType
leaf_targets structs (Pointer target) = target ∷ []
leaf_targets structs (Struct number) = structs number
leaf_targets structs b = []

-- The targets of the pointers in the members of the struct with this number, in order; an incomplete one has none.
abbrev pub struct_targets : List Completed → ℕ → List CType
struct_targets [] number = []
struct_targets (c ∷ older) number =
    if c.number == number
    then flat_map (λ m. leaf_targets (struct_targets older) (leaf_base (base_of m.ctype))) c.members
    else struct_targets older number

-- The structs after the target of each pointer in an object of these types was given a number, in the order of the
-- objects and of their cells, where none that is alike had one (C99 6.2.5).
abbrev pub with_targets : Structs → List CType → Structs
with_targets structs ts =
    let leaves = flat_map (λ t. leaf_targets (struct_targets structs.completed) (leaf_base (base_of t))) ts in
    record structs { targets = fold noted structs.targets leaves }
