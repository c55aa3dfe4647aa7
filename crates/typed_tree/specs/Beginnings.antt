-- What a checked program begins with (C99 6.7.8, UPC 6.5.1).
use Rattle.std.specs.Prelude.{ℕ, List, ◌++◌, length, map}
use Rattle.block_layout.specs.declared.kind.Shape.{Shape}
use Rattle.block_layout.specs.declared.place.Loc.{Loc}
use Rattle.block_layout.specs.declared.place.LocalPtr.{LocalPtr}
use Rattle.upc_values.specs.declared.scalar.Scalar.{Scalar}
use Rattle.upc_values.specs.Openings.{Opening}
use Rattle.upc_types.specs.Types.{CType, Structs, base_of}
use Rattle.upc_types.specs.Cells.{object_shape}
use Rattle.upc_types.specs.ViewStructs.{view_structs}
use Rattle.typed_tree.specs.Tree.{DeclaredObject}
use Rattle.typed_tree.specs.declared.beginning.Beginning as b
use Rattle.typed_tree.specs.declared.beginning.SharedDecl.{SharedDecl}
use Rattle.upc_values.specs.declared.scalar.Value.{Value}
use Rattle.typed_tree.specs.Targets.{with_targets}
use Rattle.typed_tree.specs.Elements.{element_shapes}
use Rattle.typed_tree.specs.Objects.{shared_in, private_in, type_of, placed_from}
use Rattle.typed_tree.specs.Initials.{Setting, shared_from, private_from}

-- What a program begins with: its structs, where each pointer in an object has a type with a number, the shapes of
-- shared elements by number, the shared objects with their initial values, and the shapes of the private objects of the
-- file with their initial values (C99 6.7.8, UPC 6.5.1).
pub record Beginning : Type 0 where
  pub structs : Structs
  pub shapes : List Shape
  pub shared_objects : List SharedDecl
  pub initials : List (Loc × Scalar)
  pub private_shapes : List Shape
  pub private_initials : List (LocalPtr × Value)

-- What a program of the code begins with, seen without where it lies in memory.
abbrev pub view_beginning : b.Beginning → Beginning
view_beginning x = record {
  structs = view_structs x.structs;
  shapes = x.shapes.items;
  shared_objects = x.shared_objects.items;
  initials = x.initials.items;
  private_shapes = x.private_shapes.items;
  private_initials = x.private_initials.items;
}

-- What a program of so many threads with these objects of the file begins with, where it allocates elements of these
-- types, and these structs have a number for the type of each pointer in an object.
abbrev pub begun : ℕ → Structs → List DeclaredObject → List CType → Beginning
begun threads structs objects allocated =
    let shapes = element_shapes structs (map type_of (shared_in objects) ++ allocated) in
    let shared = placed_from structs shapes 1 0 (shared_in objects) in
    let privates = length (private_in objects) in
    let σ : Setting = record { threads = threads; privates = privates; structs = structs; shared = shared } in
    record {
      structs = structs;
      shapes = shapes;
      shared_objects = shared;
      initials = shared_from σ 1 (shared_in objects);
      private_shapes = map (λ x. object_shape structs (base_of x.ctype)) (private_in objects);
      private_initials = private_from σ 0 (private_in objects);
    }

-- What a program of so many threads with these structs and objects of the file begins with, where it allocates elements
-- of the types `allocated`, and its functions have parameters and objects of the types `inside` (C99 6.7.8, UPC 6.5.1).
abbrev pub beginning_of : ℕ → Structs → List DeclaredObject → List CType → List CType → Beginning
beginning_of threads structs objects allocated inside =
    begun threads (with_targets structs (map type_of objects ++ allocated ++ inside)) objects allocated

-- The shared part of what a program of so many threads begins with: its shared objects, their initial values, and the
-- shapes of shared elements (UPC 6.5.1.1).
abbrev pub opening_in : ℕ → Beginning → Opening
opening_in threads b = record {
  threads = threads;
  declared = map (λ x. x.object) b.shared_objects;
  initials = b.initials;
  shapes = b.shapes;
}
