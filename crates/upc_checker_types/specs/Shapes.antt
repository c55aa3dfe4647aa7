-- What stands around specifiers, and what stars and sizes make of their type (C99 6.7, UPC 6.5).
use Rattle.std.specs.Prelude.{ℕ, Bool, true, false, ◌&&◌, if◌then◌else◌, [], ◌∷◌, Option, Some, None, pos, int_le}
use Rattle.std.specs.Prelude.{unsigned_abs}
use Rattle.upc_text.specs.declared.place.Place.{Place}
use Rattle.upc_tree.specs.Expression.{Pointers, NoPointers, AndPointer, Dimensions, NoDimensions, AndDimension}
use Rattle.upc_types.specs.Types.{CType}
use Rattle.typing_rules.specs.declared.attribute.Constant.{Constant as Value}
use Rattle.typing_rules.specs.declared.attribute.Constant.TheVariants.{Known}
use Rattle.typing_rules.specs.Values.{value_type, is_array}
use Rattle.typing_rules.specs.Nodes.{Formed}
use Rattle.upc_checker_types.specs.Specifiers.{Shaped, array_of, elements}

-- The block size that a constant gives: its value where that is from 0 to UPC_MAX_BLOCK_SIZE; any other constant, which
-- rule 5 refuses, counts as 1 (UPC 6.5.1.1).
abbrev pub block_size : Value → ℕ
block_size (Known v) = if int_le (pos 0) v && int_le v (pos 16777216) then unsigned_abs v else 1
block_size other = 1

-- The type of a parameter that is declared with this type: an array becomes a pointer to its first element
-- (C99 6.7.5.3).
abbrev pub adjusted : CType → CType
adjusted t = if is_array t then value_type t else t

-- What stands around specifiers: where they are refused, whether `[*]` may stand there and whether `static` may, and
-- whether they declare nothing but a tag.
pub record Specifying : Type 0 where
  pub at : Place
  pub star : Bool
  pub static : Bool
  pub alone : Bool

-- What stands around the specifiers of a type name, a parameter or members: neither `[*]` nor `static` may stand there,
-- and they do not declare a tag alone (C99 6.7.2.1, 6.7.5.3, 6.7.6).
abbrev pub in_type : Place → Specifying
in_type at = record { at = at; star = false; static = false; alone = false }

-- No star stands here in a declarator (C99 6.7.5.1).
abbrev pub is_none : Pointers → Bool
is_none NoPointers = true
is_none (AndPointer star quals more) = false

-- At least one size in brackets stands here in a declarator (C99 6.7.5.2).
abbrev pub has_sizes : Dimensions → Bool
has_sizes NoDimensions = false
has_sizes (AndDimension left size right more) = true

-- The type of a type name or a parameter, which fits only where its specifiers fit too (C99 6.7.5.3, 6.7.6).
abbrev pub named_type : Bool → Shaped → Shaped
named_type forms t = record t { forms = forms && t.forms }

-- The type of a parameter that is declared as an array, with or without a size, before it becomes a pointer
-- (C99 6.7.5.3).
abbrev pub parameter_array : ℕ → Shaped → Option Value → Formed
parameter_array threads s None = record { forms = s.forms; ctype = array_of s.ctype 1; sizes = [] }
parameter_array threads s (Some size) =
    record { forms = s.forms; ctype = array_of s.ctype (elements size); sizes = size ∷ [] }
