-- What contracts see of the table of type words.
use Rattle.std.specs.Prelude.{List, Option, Some, None}
use Rattle.upc_types.specs.Types as types
use Rattle.upc_types.specs.View.{view_base}
use Rattle.upc_types.specs.declared.ctype.Base.{Base}
use Rattle.upc_checker_types.specs.declared.words.WordType.{WordType}
use Rattle.upc_checker_types.specs.declared.words.WordType.TheVariants as word_type
use Rattle.upc_tree.specs.declared.mark.TypeWord.{TypeWord}
use denote.Ref.{Bor}
use Rattle.upc_checker_types.specs.Specifiers.{Row}

-- The type in a row of the code's table of words, as contracts see it.
abbrev pub view_word_type : WordType → types.Base
view_word_type word_type.Void = types.Void
view_word_type (word_type.Integer kind) = types.Integer kind
view_word_type word_type.Lock = types.LockObject

-- A row of the code's table of words, as contracts see it.
abbrev pub view_row : Bor (List TypeWord) × WordType → Row
view_row x = record { words = x.0.now; base = view_word_type x.1 }

-- The type that the code has found for words, if any, as contracts see it.
abbrev pub view_found : Option Base → Option types.Base
view_found None = None
view_found (Some b) = Some (view_base b)
