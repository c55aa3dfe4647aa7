-- The objects of a file, and its shared objects with where they lie (UPC 6.5.1.1).
use Rattle.std.specs.Prelude.{ℕ, ◌+◌, ◌*◌, min, Bool, true, false, List, [], ◌∷◌, filter}
use Rattle.std.specs.List.{sum_by}
use Rattle.block_layout.specs.declared.kind.Shape.{Shape}
use Rattle.block_layout.specs.declared.place.ObjectRef.{ObjectRef}
use Rattle.upc_types.specs.Types.{CType, Structs, base_of, block_of}
use Rattle.upc_types.specs.Layout.{size}
use Rattle.upc_types.specs.Cells.{leaves}
use Rattle.typing_rules.specs.declared.setting.Home.{Home}
use Rattle.typing_rules.specs.declared.setting.Home.TheVariants.{Private, Shared}
use Rattle.typing_rules.specs.Constants.{block_or_none}
use Rattle.typed_tree.specs.Tree.{DeclaredObject}
use Rattle.typed_tree.specs.declared.beginning.SharedDecl.{SharedDecl}
use Rattle.typed_tree.specs.Elements.{element_shape, number_among}

-- Whether an object that lies there is a shared one.
abbrev pub is_shared : Home → Bool
is_shared (Shared number) = true
is_shared home = false

-- The shared objects among these, in order.
abbrev pub shared_in : List DeclaredObject → List DeclaredObject
shared_in objects = filter (λ x. is_shared x.home) objects

-- The private objects of the file among these, in order.
abbrev pub private_in : List DeclaredObject → List DeclaredObject
private_in objects = filter (λ x. elim x.home [ Private number ↦ true | _ ↦ false ]) objects

-- The type of a declared object.
abbrev pub type_of : DeclaredObject → CType
type_of x = x.ctype

-- The bytes of these objects in all.
abbrev pub bytes_in : Structs → List DeclaredObject → ℕ
bytes_in structs objects = sum_by (λ x. size structs x.ctype) objects

-- The most bytes that the private objects of the file may have in all (limit 4).
abbrev pub most_private_bytes : ℕ
most_private_bytes = 1048576

-- The most bytes that the shared objects may have in all (limit 5).
abbrev pub most_shared_bytes : ℕ
most_shared_bytes = 16777216

-- Where a shared object of this number and type lies, after so many bytes of others (UPC 6.5.1.1). Its block is in
-- bytes, and no longer than the object.
abbrev pub lies : Structs → List Shape → ℕ → ℕ → CType → ObjectRef
lies structs shapes number base t = record {
  number = number;
  total = size structs t;
  block = min (block_or_none (block_of t) * (element_shape structs t).size) (size structs t);
  home = 0;
  shape = number_among shapes (element_shape structs t);
  base = base;
}

-- A shared object with this number, after so many bytes of others: its name, where it lies, its block in elements, and
-- the number and size of its leaf elements (UPC 6.5.1.1).
abbrev pub placed : Structs → List Shape → ℕ → ℕ → DeclaredObject → SharedDecl
placed structs shapes number base x = record {
  name = x.name;
  object = lies structs shapes number base x.ctype;
  block = block_or_none (block_of x.ctype);
  elements = leaves (base_of x.ctype);
  size = (element_shape structs x.ctype).size;
}

-- Shared objects, numbered from this number on, each after the bytes of the one before it, and the first after so many
-- bytes of others (UPC 6.5.1.1).
abbrev pub placed_from : Structs → List Shape → ℕ → ℕ → List DeclaredObject → List SharedDecl
placed_from structs shapes number base [] = []
placed_from structs shapes number base (x ∷ xs) =
    placed structs shapes number base x ∷ placed_from structs shapes (number + 1) (base + size structs x.ctype) xs
