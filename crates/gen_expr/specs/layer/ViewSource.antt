-- What contracts see of what code is made from.
use Rattle.std.specs.Prelude.{List, map}
use Rattle.upc_types.specs.ViewStructs.{view_structs}
use Rattle.typed_tree.specs.Beginnings.{Beginning}
use Rattle.typed_tree.specs.Tree.{Function}
use Rattle.typed_tree.specs.ViewStatements.{view_function}
use Rattle.gen_expr.specs.declared.source.Source as sources
use Rattle.gen_expr.specs.layer.Sources.{Source}

-- What the code generator makes code from, as contracts see it.
abbrev pub view_source : sources.Source → Source
view_source x = record {
  functions = map view_function x.functions.now;
  structs = view_structs x.structs.now;
  shared = x.shared.now;
  shapes = x.shapes.now;
}

-- What the code of these functions is made from, in a program with this beginning.
abbrev pub source_with : List Function → Beginning → Source
source_with functions b =
    record { functions = functions; structs = b.structs; shared = b.shared_objects; shapes = b.shapes }
