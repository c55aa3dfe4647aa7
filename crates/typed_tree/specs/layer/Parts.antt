-- Parts of definitions that code and proofs speak of by a name of their own.
use Rattle.std.specs.Prelude.{ℕ, ℤ, ◌==◌, Bool, true, false, ◌&&◌, if◌then◌else◌, List, [], ◌∷◌, ◌++◌}
use Rattle.block_layout.specs.declared.kind.Kind.{Kind}
use Rattle.block_layout.specs.declared.kind.Shape.{Shape}
use Rattle.block_layout.specs.declared.place.ObjectRef.{ObjectRef}
use Rattle.block_layout.specs.declared.place.SharedPtr.{SharedPtr}
use Rattle.block_layout.specs.Cells.{same_cells}
use Rattle.block_layout.specs.Pointers.{null}
use Rattle.upc_types.specs.Types.{CType, base_of, Member, Completed, Structs}
use Rattle.upc_types.specs.Cells.{leaf_base, noted}
use Rattle.typing_rules.specs.declared.attribute.Constant.{Constant}
use Rattle.typing_rules.specs.declared.setting.Home.{Home}
use Rattle.typing_rules.specs.declared.setting.Home.TheVariants.{Private}
use Rattle.typing_rules.specs.Constants.{cast_constant}
use Rattle.typing_rules.specs.Rules.{has_size}
use Rattle.typed_tree.specs.declared.beginning.SharedDecl.{SharedDecl}
use Rattle.typed_tree.specs.Elements.{with_shape}
use Rattle.typed_tree.specs.Targets.{leaf_targets, struct_targets}
use Rattle.typed_tree.specs.Initials.{known_or_zero, fits}

-- Whether an object that lies there is a private one of the file.
abbrev pub is_private : Home → Bool
is_private (Private number) = true
is_private home = false

-- Where a declared shared object lies.
abbrev pub object_of : SharedDecl → ObjectRef
object_of x = x.object

-- Whether two shapes have the same size and the same cells.
abbrev pub same_shape : Shape → Shape → Bool
same_shape a b = a.size == b.size && same_cells a.cells b.cells

-- The shapes with numbers after each of these was given a number, where no equal one had one.
abbrev pub with_shapes : List Shape → List Shape → List Shape
with_shapes xs [] = xs
with_shapes xs (s ∷ ss) = with_shapes (with_shape xs s) ss

-- The targets of the pointers in these members, in order, where those in each struct are known.
abbrev pub members_targets : (ℕ → List CType) → List Member → List CType
members_targets structs [] = []
members_targets structs (m ∷ ms) = leaf_targets structs (leaf_base (base_of m.ctype)) ++ members_targets structs ms

-- The targets of the pointers in objects of these types, in the order of the objects and of their cells (C99 6.2.5).
abbrev pub types_targets : List Completed → List CType → List CType
types_targets completed [] = []
types_targets completed (t ∷ ts) =
    leaf_targets (struct_targets completed) (leaf_base (base_of t)) ++ types_targets completed ts

-- The targets with numbers after each of these was given a number, where none that is alike had one.
abbrev pub noted_all : List CType → List CType → List CType
noted_all targets [] = targets
noted_all targets (t ∷ ts) = noted_all (noted targets t) ts

-- The structs after each of these targets of pointers was given a number, where none that is alike had one.
abbrev pub with_noted : Structs → List CType → Structs
with_noted structs ts =
    record { declared = structs.declared; completed = structs.completed; targets = noted_all structs.targets ts }

-- The integer with which an object of this kind begins by a constant: the constant's value, converted, and 0 where it
-- has no integer value (C99 6.3.1.3).
abbrev pub integer_in : Kind → Constant → ℤ
integer_in kind c = known_or_zero (cast_constant kind c)

-- A pointer-to-shared with this block, or null where its thread, phase or offset is out of range.
abbrev pub fitting : ℕ → ℕ → SharedPtr → SharedPtr
fitting threads block p = if fits threads block p then p else null

-- This type, where it has a layout: it is complete, and has no more bytes than an object can have.
abbrev pub laid : Structs → CType → List CType
laid s t = if has_size s t then t ∷ [] else []
