-- What contracts see of what a source has declared and defined.
use Rattle.std.specs.Prelude.{map}
use Rattle.typed_tree.specs.Scopes.{Env}
use Rattle.typed_tree.specs.ViewStatements.{view_object, view_function}
use Rattle.upc_checker.specs.declared.units.Made as made
use Rattle.upc_checker.specs.Units.{Made}

-- What the code has of the objects and functions of a source, as contracts see it, with this scope.
abbrev pub view_made : Env → made.Made → Made
view_made scope x =
    record { scope = scope; objects = map view_object x.objects.items; functions = map view_function x.functions.items }
