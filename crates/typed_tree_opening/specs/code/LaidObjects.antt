-- What contracts say of the types of objects.
use Rattle.std.specs.Prelude.{List, map}
use Rattle.upc_types.specs.Types.{CType, Structs}
use Rattle.typed_tree.specs.Tree.{DeclaredObject}
use Rattle.typed_tree.specs.Objects.{type_of}
use Rattle.typed_tree.specs.LocalObjects.{with_layout}

-- The types of these objects, where they have a layout: they are complete, and have no more bytes than an object can
-- have.
abbrev pub laid_objects : Structs → List DeclaredObject → List CType
laid_objects s xs = with_layout s (map type_of xs)
