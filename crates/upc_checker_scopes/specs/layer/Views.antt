-- What contracts see of the code's setting and of what it knows.
use Rattle.std.specs.Prelude.{List, map, reverse}
use Rattle.upc_types.specs.ViewStructs.{view_structs}
use Rattle.typed_tree.specs.Scopes.{Setting, Tag, KnownFunction, State}
use Rattle.typing_rules.specs.Attributes.{Facts}
use Rattle.upc_checker_scopes.specs.layer.ViewTags.{view_tags}
use Rattle.upc_checker_scopes.specs.declared.source.Setting as settings
use Rattle.upc_checker_scopes.specs.declared.tags.Tags as tags_type
use Rattle.upc_checker_scopes.specs.declared.known.Known as known_type
use Rattle.upc_checker_scopes.specs.declared.functions.Functions as functions_type
use Rattle.upc_checker_scopes.specs.code.ViewFunctions.{view_function}

-- The setting that the code holds, with the limit of 65,535 (C99 5.2.4.1).
abbrev pub view_setting : settings.Setting → Setting
view_setting x = record { names = x.names.now; threads = x.threads; defined = x.defined.now.names.items; most = 65535 }

-- What nodes may look at, as the code holds it: the structs and the number of threads.
abbrev pub facts_of : settings.Setting → known_type.Known → Facts
facts_of x known = record { structs = view_structs known.structs; threads = x.threads }

-- The functions that the code holds, the latest first.
abbrev pub view_functions : functions_type.Functions → List KnownFunction
view_functions x = reverse (map view_function x.list.items)

-- What the code knows, with these tags in scope.
abbrev pub state_with : List Tag → known_type.Known → State
state_with tags x =
    record {
      tags = tags;
      structs = view_structs x.structs;
      functions = view_functions x.functions;
      come = x.come;
      above = x.above;
    }

-- What the code knows, with the tags in scope that it holds.
abbrev pub state_of : tags_type.Tags → known_type.Known → State
state_of tags x = state_with (view_tags tags) x
