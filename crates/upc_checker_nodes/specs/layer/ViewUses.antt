-- What contracts see of the uses of arguments.
use Rattle.std.specs.Prelude.{List, [], ◌∷◌, map}
use Rattle.upc_types.specs.View.{view}
use Rattle.typing_rules.specs.Nodes as node
use Rattle.typing_rules.specs.Nodes.{Use}
use Rattle.upc_checker_nodes.specs.declared.called.Uses.{Uses}
use Rattle.upc_checker_nodes.specs.declared.called.Uses.TheVariants as uses_variant

-- How the code uses the arguments of a call, as contracts see it: each converts into the type of its parameter, the
-- first is a format, or none has a use of its own (C99 6.5.2.2).
abbrev pub view_uses : Uses → List Use
view_uses (uses_variant.Into types) = map node.Into (map view types.now)
view_uses uses_variant.Prints = node.Prints ∷ []
view_uses uses_variant.Plain = []
