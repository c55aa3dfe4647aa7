-- The types that specifiers and qualifiers form (C99 6.7.1 to 6.7.3, UPC 6.5.1).
use Rattle.std.specs.Prelude.{ℕ, ◌+◌, ◌-◌, ◌*◌, ◌/◌, min, nat_eq, nat_le, ◌==◌, Bool, true, false, ◌&&◌, ◌||◌, not}
use Rattle.std.specs.Prelude.{if◌then◌else◌, List, [], ◌∷◌, ◌++◌, length, Option, Some, None, pos, int_le}
use Rattle.std.specs.Prelude.{unsigned_abs}
use Rattle.std.specs.List.{list_all}
use Rattle.block_layout.specs.declared.kind.Kind.TheVariants as kinds
use Rattle.upc_tree.specs.declared.mark.TypeWord.{TypeWord}
use Rattle.upc_tree.specs.declared.mark.TypeWord.TheVariants.{Static, Void, Char, Short, Int, Long, Signed, Unsigned}
use Rattle.upc_tree.specs.declared.mark.TypeWord.TheVariants.{SizeT, PtrdiffT, LockT, OpT, FlagT}
use Rattle.upc_types.specs.declared.ctype.Access.{Access}
use Rattle.upc_types.specs.declared.ctype.Access.TheVariants as access
use Rattle.upc_types.specs.Types as types_spec
use Rattle.upc_types.specs.Types.{CType, Qualified, Base}
use Rattle.typing_rules.specs.declared.attribute.Constant.{Constant}
use Rattle.typing_rules.specs.declared.attribute.Constant.TheVariants.{Known}
use Rattle.typing_rules.specs.Nodes.{Formed}

-- ---- words

-- Words that form a type, in any order, and the type that they form (C99 6.7.2).
pub record Row : Type 0 where
  pub words : List TypeWord
  pub base : Base

-- The row of these words and this type.
abbrev pub row : List TypeWord → Base → Row
row words base = record { words = words; base = base }

-- All rows: the words of each type of C99, where `long long` is the same type as `long`, and the types of the library
-- (C99 6.7.2, 7.17; UPC 7).
abbrev pub rows : List Row
rows =
    row (Void ∷ []) types_spec.Void ∷
    row (Char ∷ []) (types_spec.Integer kinds.Char) ∷
    row (Signed ∷ Char ∷ []) (types_spec.Integer kinds.Char) ∷
    row (Unsigned ∷ Char ∷ []) (types_spec.Integer kinds.UChar) ∷
    row (Short ∷ []) (types_spec.Integer kinds.Short) ∷
    row (Signed ∷ Short ∷ []) (types_spec.Integer kinds.Short) ∷
    row (Short ∷ Int ∷ []) (types_spec.Integer kinds.Short) ∷
    row (Signed ∷ Short ∷ Int ∷ []) (types_spec.Integer kinds.Short) ∷
    row (Unsigned ∷ Short ∷ []) (types_spec.Integer kinds.UShort) ∷
    row (Unsigned ∷ Short ∷ Int ∷ []) (types_spec.Integer kinds.UShort) ∷
    row (Int ∷ []) (types_spec.Integer kinds.Int) ∷
    row (Signed ∷ []) (types_spec.Integer kinds.Int) ∷
    row (Signed ∷ Int ∷ []) (types_spec.Integer kinds.Int) ∷
    row (Unsigned ∷ []) (types_spec.Integer kinds.UInt) ∷
    row (Unsigned ∷ Int ∷ []) (types_spec.Integer kinds.UInt) ∷
    row (Long ∷ []) (types_spec.Integer kinds.Long) ∷
    row (Signed ∷ Long ∷ []) (types_spec.Integer kinds.Long) ∷
    row (Long ∷ Int ∷ []) (types_spec.Integer kinds.Long) ∷
    row (Signed ∷ Long ∷ Int ∷ []) (types_spec.Integer kinds.Long) ∷
    row (Unsigned ∷ Long ∷ []) (types_spec.Integer kinds.ULong) ∷
    row (Unsigned ∷ Long ∷ Int ∷ []) (types_spec.Integer kinds.ULong) ∷
    row (Long ∷ Long ∷ []) (types_spec.Integer kinds.Long) ∷
    row (Signed ∷ Long ∷ Long ∷ []) (types_spec.Integer kinds.Long) ∷
    row (Long ∷ Long ∷ Int ∷ []) (types_spec.Integer kinds.Long) ∷
    row (Signed ∷ Long ∷ Long ∷ Int ∷ []) (types_spec.Integer kinds.Long) ∷
    row (Unsigned ∷ Long ∷ Long ∷ []) (types_spec.Integer kinds.ULong) ∷
    row (Unsigned ∷ Long ∷ Long ∷ Int ∷ []) (types_spec.Integer kinds.ULong) ∷
    row (SizeT ∷ []) (types_spec.Integer kinds.ULong) ∷
    row (PtrdiffT ∷ []) (types_spec.Integer kinds.Long) ∷
    row (LockT ∷ []) types_spec.LockObject ∷
    row (OpT ∷ []) (types_spec.Integer kinds.Int) ∷
    row (FlagT ∷ []) (types_spec.Integer kinds.Int) ∷ []

-- The two words are the same.
abbrev pub is_word : TypeWord → TypeWord → Bool
is_word Static Static = true
is_word Void Void = true
is_word Char Char = true
is_word Short Short = true
is_word Int Int = true
is_word Long Long = true
is_word Signed Signed = true
is_word Unsigned Unsigned = true
is_word SizeT SizeT = true
is_word PtrdiffT PtrdiffT = true
is_word LockT LockT = true
is_word OpT OpT = true
is_word FlagT FlagT = true
is_word v w = false

-- How often a word stands among others.
abbrev pub count : TypeWord → List TypeWord → ℕ
count w [] = 0
count w (v ∷ vs) = (if is_word w v then 1 else 0) + count w vs

-- The words that form types: all words of specifiers but `static` (C99 6.7.2).
abbrev pub type_words : List TypeWord
type_words = Void ∷ Char ∷ Short ∷ Int ∷ Long ∷ Signed ∷ Unsigned ∷ SizeT ∷ PtrdiffT ∷ LockT ∷ OpT ∷ FlagT ∷ []

-- The words of one list are those of the other, each as often, in any order; `static` does not count.
abbrev pub same_words : List TypeWord → List TypeWord → Bool
same_words xs ys = list_all (λ w. count w xs == count w ys) type_words

-- The type of the first row with these words, in any order; none where no row has them (C99 6.7.2).
abbrev pub base_among : List Row → List TypeWord → Option Base
base_among [] words = None
base_among (r ∷ rs) words = if same_words r.words words then Some r.base else base_among rs words

-- ---- qualifiers

-- A layout (UPC 6.5.1.1): a block size, 0 for indefinite, or `[*]`.
pub data Layout : Type 0 where
  Blocks : (size : ℕ) → Layout
  Star : Layout

-- The qualifiers at one place: const, the layout of each `shared`, and whether strict and relaxed stand there
-- (C99 6.7.3, UPC 6.5.1).
pub record Quals : Type 0 where
  pub constant : Bool
  pub layouts : List Layout
  pub strict : Bool
  pub relaxed : Bool

-- No qualifier.
abbrev pub no_quals : Quals
no_quals = record { constant = false; layouts = []; strict = false; relaxed = false }

-- The qualifiers of two lists taken together (C99 6.7.3).
abbrev pub both_quals : Quals → Quals → Quals
both_quals p q = record {
  constant = p.constant || q.constant;
  layouts = p.layouts ++ q.layouts;
  strict = p.strict || q.strict;
  relaxed = p.relaxed || q.relaxed;
}

-- Qualifiers go together: `shared` stands at most once, strict and relaxed do not both stand, and neither stands
-- without `shared` (UPC 6.5.1).
abbrev pub quals_fit : Quals → Bool
quals_fit q =
    nat_le (length q.layouts) 1 && not (q.strict && q.relaxed) && (nat_eq (length q.layouts) 1 || not (q.strict ||
    q.relaxed))

-- The block size of a layout; `[*]` counts as 1 until the sizes of its array are known (UPC 6.5.1.1).
abbrev pub layout_block : Layout → ℕ
layout_block (Blocks size) = size
layout_block Star = 1

-- The block size of the first `shared`, if there is one (UPC 6.5.1.1).
abbrev pub first_block : List Layout → Option ℕ
first_block [] = None
first_block (l ∷ ls) = Some (layout_block l)

-- The layout of the first `shared` is `[*]` (UPC 6.5.1.1).
abbrev pub first_star : List Layout → Bool
first_star (Star ∷ ls) = true
first_star ls = false

-- Whether a type says strict, relaxed or neither; where both stand, which rule 4 refuses, it counts as strict
-- (UPC 6.5.1).
abbrev pub access_by : Bool → Bool → Access
access_by true relaxed = access.Strict
access_by false true = access.Relaxed
access_by false false = access.Unsaid

-- The type with this base and these qualifiers (C99 6.7.3, UPC 6.5.1).
abbrev pub qualify : Base → Quals → CType
qualify b q = Qualified b q.constant (first_block q.layouts) (access_by q.strict q.relaxed)

-- ---- specifiers

-- What stands among specifiers: words, structs by their numbers, and qualifiers (C99 6.7).
pub record Specified : Type 0 where
  pub words : List TypeWord
  pub structs : List ℕ
  pub quals : Quals

-- No specifier.
abbrev pub nothing_specified : Specified
nothing_specified = record { words = []; structs = []; quals = no_quals }

-- The specifiers of two lists taken together (C99 6.7).
abbrev pub both_specified : Specified → Specified → Specified
both_specified p q =
    record { words = p.words ++ q.words; structs = p.structs ++ q.structs; quals = both_quals p.quals q.quals }

-- None of the words forms types, so that each of them is `static`.
abbrev pub no_types : List TypeWord → Bool
no_types words = list_all (λ w. count w words == 0) type_words

-- The type that words and structs form without qualifiers: that of the words where there is no struct, or that of one
-- struct where no word forms types (C99 6.7.2).
abbrev pub base_of_parts : List TypeWord → List ℕ → Option Base
base_of_parts words [] = base_among rows words
base_of_parts words (number ∷ []) = if no_types words then Some (types_spec.Struct number) else None
base_of_parts words more = None

-- The type that specifiers form without their qualifiers, if they form one (C99 6.7.2).
abbrev pub specified_base : Specified → Option Base
specified_base s = base_of_parts s.words s.structs

-- The type that specifiers form, or int where they form none: such specifiers are refused, and the walk goes on with
-- int.
abbrev pub base_or_int : Option Base → Base
base_or_int None = types_spec.Integer kinds.Int
base_or_int (Some b) = b

-- There is a type.
abbrev pub is_formed : Option Base → Bool
is_formed None = false
is_formed (Some b) = true

-- The specifiers form a type, and their qualifiers go together (C99 6.7.2, 6.7.3, UPC 6.5.1): this is known where they
-- end.
abbrev pub forms_type : Specified → Bool
forms_type s = is_formed (specified_base s) && quals_fit s.quals

-- The specifiers form a type, and their qualifiers go together; `static` stands once at most, and only where it may
-- (C99 6.7.1 to 6.7.3, UPC 6.5.1).
abbrev pub specifiers_form : Bool → Specified → Bool
specifiers_form static s = forms_type s && nat_le (count Static s.words) (if static then 1 else 0)

-- ---- what specifiers, pointers and sizes make

-- A type so far, made of specifiers and stars: whether its parts fit, the type, and whether its last layout is `[*]`.
pub record Shaped : Type 0 where
  pub forms : Bool
  pub ctype : CType
  pub star : Bool

-- The type that specifiers form with their qualifiers. Those that form none are refused at their end, and what stands
-- here for their type is never used.
abbrev pub specified_type : Specified → Shaped
specified_type s = record {
  forms = true;
  ctype = qualify (base_or_int (specified_base s)) s.quals;
  star = first_star s.quals.layouts;
}

-- A pointer to the type so far, with qualifiers of its own (C99 6.7.5.1).
abbrev pub pointer_to : Shaped → Quals → Shaped
pointer_to s q =
    record {
      forms = s.forms && quals_fit q;
      ctype = qualify (types_spec.Pointer s.ctype) q;
      star = first_star
          q.layouts;
    }

-- The number of elements that a size gives: its value, 1 where it is no constant of at least 1, and 16,777,217 where it
-- is more than an object can have.
abbrev pub elements : Constant → ℕ
elements (Known v) =
    if int_le (pos 1) v then (if int_le v (pos 16777216) then unsigned_abs v else 16777217) else 1
elements c = 1

-- How many elements an array with these sizes has in all; 16,777,217 where it has more than an object can.
abbrev pub all_elements : List Constant → ℕ
all_elements [] = 1
all_elements (c ∷ cs) = min (elements c * all_elements cs) 16777217

-- An array of so many elements of a type, which has the qualifiers of its elements (C99 6.7.3).
abbrev pub array_of : CType → ℕ → CType
array_of (Qualified b c s x) n = Qualified (types_spec.Array (Qualified b c s x) n) c s x

-- The array with these sizes, outermost first, of elements of this type (C99 6.7.5.2).
abbrev pub arrays_of : CType → List Constant → CType
arrays_of t [] = t
arrays_of t (c ∷ cs) = array_of (arrays_of t cs) (elements c)

-- The block of `[*]`: the least with which no thread has two blocks of so many elements (UPC 6.5.1.1).
abbrev pub star_size : ℕ → ℕ → ℕ
star_size threads n = (n + (threads - 1)) / threads

-- The same type, shared with this block (UPC 6.5.1.1).
abbrev pub with_block : ℕ → CType → CType
with_block block (Qualified b c s x) = Qualified b c (Some block) x

-- The type of an array's elements by its sizes: with `[*]` as its layout the block follows from them (UPC 6.5.1.1).
abbrev pub element_type : ℕ → Shaped → List Constant → CType
element_type threads s sizes = if s.star then with_block (star_size threads (all_elements sizes)) s.ctype else s.ctype

-- The type that specifiers and stars make with the sizes after the name (C99 6.7.5.2, UPC 6.5.1.1).
abbrev pub formed : ℕ → Shaped → List Constant → Formed
formed threads s sizes =
    record { forms = s.forms; ctype = arrays_of (element_type threads s sizes) sizes; sizes = sizes }
