-- What contracts see of a member that is found.
use Rattle.std.specs.Prelude.{Option, Some, None}
use Rattle.upc_types.specs.View.{view}
use Rattle.typing_rules_checks.specs.declared.reached.Found as found_type
use Rattle.typing_rules.specs.Attributes.{Found}

-- A member that a struct has under a name, if it has one, seen without where its type lies in memory.
abbrev pub view_found : Option found_type.Found → Option Found
view_found None = None
view_found (Some x) = Some record { index = x.index; offset = x.offset; ctype = view x.ctype.now }
