-- What each token is to an expression or a type.
use Rattle.std.specs.Prelude.{ℕ, Bool, true, false, not, Option, Some, None}
use Rattle.upc_lexer.specs.declared.token.TokenKind.{TokenKind}
use Rattle.upc_lexer.specs.declared.token.TokenKind.TheVariants as tokens
use Rattle.upc_lexer.specs.declared.token.Punct.{Punct}
use Rattle.upc_lexer.specs.declared.token.Punct.TheVariants as punct
use Rattle.upc_lexer.specs.declared.token.Word.{Word}
use Rattle.upc_lexer.specs.declared.token.Word.TheVariants as words
use Rattle.upc_tree.specs.declared.mark.UnaryMark.TheVariants as unary_mark
use Rattle.upc_tree.specs.declared.mark.PostfixMark.TheVariants as postfix_mark
use Rattle.upc_tree.specs.declared.mark.MemberMark.TheVariants as member_mark
use Rattle.upc_tree.specs.declared.mark.BinaryMark.{BinaryMark}
use Rattle.upc_tree.specs.declared.mark.BinaryMark.TheVariants as binary_mark
use Rattle.upc_tree.specs.declared.mark.AssignMark.{AssignMark}
use Rattle.upc_tree.specs.declared.mark.AssignMark.TheVariants as assign_mark
use Rattle.upc_tree.specs.declared.mark.SizeWord.TheVariants as size_word
use Rattle.upc_tree.specs.declared.mark.TypeWord.{TypeWord}
use Rattle.upc_tree.specs.declared.mark.TypeWord.TheVariants as type_word
use Rattle.upc_tree.specs.Marks.{binary_level}
use Rattle.upc_parser_ground.specs.declared.start.Prefix.{Prefix}
use Rattle.upc_parser_ground.specs.declared.start.Prefix.TheVariants as prefix
use Rattle.upc_parser_ground.specs.declared.start.Suffix.{Suffix}
use Rattle.upc_parser_ground.specs.declared.start.Suffix.TheVariants as suffix
use Rattle.upc_parser_ground.specs.declared.start.Joint.{Joint}
use Rattle.upc_parser_ground.specs.declared.start.Joint.TheVariants as joint
use Rattle.upc_parser_ground.specs.declared.start.QualWord.{QualWord}
use Rattle.upc_parser_ground.specs.declared.start.QualWord.TheVariants as qual
use Rattle.upc_parser_ground.specs.declared.start.SpecStart.{SpecStart}
use Rattle.upc_parser_ground.specs.declared.start.SpecStart.TheVariants as spec

-- What an expression begins with, by its first token: an operator, a size operator, or something else (C99 6.5.3).
abbrev pub prefix_of : TokenKind → Prefix
prefix_of (tokens.Punct punct.Ampersand) = prefix.Unary unary_mark.AddressOf
prefix_of (tokens.Punct punct.Star) = prefix.Unary unary_mark.Dereference
prefix_of (tokens.Punct punct.Plus) = prefix.Unary unary_mark.Plus
prefix_of (tokens.Punct punct.Minus) = prefix.Unary unary_mark.Minus
prefix_of (tokens.Punct punct.Tilde) = prefix.Unary unary_mark.Complement
prefix_of (tokens.Punct punct.Exclamation) = prefix.Unary unary_mark.Not
prefix_of (tokens.Punct punct.PlusPlus) = prefix.Unary unary_mark.Increment
prefix_of (tokens.Punct punct.MinusMinus) = prefix.Unary unary_mark.Decrement
prefix_of (tokens.Word words.Sizeof) = prefix.Size size_word.Sizeof
prefix_of (tokens.Word words.UpcLocalsizeof) = prefix.Size size_word.Localsizeof
prefix_of (tokens.Word words.UpcBlocksizeof) = prefix.Size size_word.Blocksizeof
prefix_of (tokens.Word words.UpcElemsizeof) = prefix.Size size_word.Elemsizeof
prefix_of _ = prefix.Other

-- What goes on with an expression directly after it, by the next token (C99 6.5.2).
abbrev pub suffix_of : TokenKind → Option Suffix
suffix_of (tokens.Punct punct.LBracket) = Some suffix.Subscript
suffix_of (tokens.Punct punct.LParen) = Some suffix.Call
suffix_of (tokens.Punct punct.Dot) = Some (suffix.Member member_mark.Dot)
suffix_of (tokens.Punct punct.Arrow) = Some (suffix.Member member_mark.Arrow)
suffix_of (tokens.Punct punct.PlusPlus) = Some (suffix.Step postfix_mark.Increment)
suffix_of (tokens.Punct punct.MinusMinus) = Some (suffix.Step postfix_mark.Decrement)
suffix_of _ = None

-- The assignment operator that a mark is, where it is one (C99 6.5.16).
abbrev pub assign_of : Punct → Option AssignMark
assign_of punct.Equal = Some assign_mark.Assign
assign_of punct.StarEqual = Some assign_mark.Multiply
assign_of punct.SlashEqual = Some assign_mark.Divide
assign_of punct.PercentEqual = Some assign_mark.Remainder
assign_of punct.PlusEqual = Some assign_mark.Add
assign_of punct.MinusEqual = Some assign_mark.Subtract
assign_of punct.ShiftLeftEqual = Some assign_mark.ShiftLeft
assign_of punct.ShiftRightEqual = Some assign_mark.ShiftRight
assign_of punct.AmpersandEqual = Some assign_mark.BitAnd
assign_of punct.CaretEqual = Some assign_mark.BitXor
assign_of punct.BarEqual = Some assign_mark.BitOr
assign_of _ = None

-- The operator between two operands that a mark is, where it is one (C99 6.5.5 to 6.5.14).
abbrev pub binary_of : Punct → Option BinaryMark
binary_of punct.Star = Some binary_mark.Multiply
binary_of punct.Slash = Some binary_mark.Divide
binary_of punct.Percent = Some binary_mark.Remainder
binary_of punct.Plus = Some binary_mark.Add
binary_of punct.Minus = Some binary_mark.Subtract
binary_of punct.ShiftLeft = Some binary_mark.ShiftLeft
binary_of punct.ShiftRight = Some binary_mark.ShiftRight
binary_of punct.Less = Some binary_mark.Less
binary_of punct.Greater = Some binary_mark.Greater
binary_of punct.LessEqual = Some binary_mark.LessEqual
binary_of punct.GreaterEqual = Some binary_mark.GreaterEqual
binary_of punct.EqualEqual = Some binary_mark.Equal
binary_of punct.NotEqual = Some binary_mark.NotEqual
binary_of punct.Ampersand = Some binary_mark.BitAnd
binary_of punct.Caret = Some binary_mark.BitXor
binary_of punct.Bar = Some binary_mark.BitOr
binary_of punct.AndAnd = Some binary_mark.And
binary_of punct.OrOr = Some binary_mark.Or
binary_of _ = None

-- The comma or the question mark that a mark is, where it is one (C99 6.5.15, 6.5.17).
abbrev pub other_joint : Punct → Option Joint
other_joint punct.Comma = Some joint.Comma
other_joint punct.Question = Some joint.Question
other_joint _ = None

-- An assignment operator where there is one, else an operator between two operands, else another joint.
abbrev pub first_joint : Option AssignMark → Option BinaryMark → Option Joint → Option Joint
first_joint (Some mark) binary other = Some (joint.Assign mark)
first_joint None (Some mark) other = Some (joint.Binary mark)
first_joint None None other = other

-- How a mark joins an expression to a further one, where it does (C99 6.5.5 to 6.5.17).
abbrev pub joint_by : Punct → Option Joint
joint_by mark = first_joint (assign_of mark) (binary_of mark) (other_joint mark)

-- How a token joins an expression to a further one, where it does (C99 6.5.5 to 6.5.17).
abbrev pub joint_of : TokenKind → Option Joint
joint_of (tokens.Punct mark) = joint_by mark
joint_of _ = None

-- How tightly the expression is joined that a joint makes (C99 6.5).
abbrev pub joint_level : Joint → ℕ
joint_level joint.Comma = 0
joint_level (joint.Assign mark) = 1
joint_level joint.Question = 2
joint_level (joint.Binary mark) = binary_level mark

-- The least level of the expression before a joint (C99 6.5).
abbrev pub left_least : Joint → ℕ
left_least joint.Comma = 1
left_least (joint.Assign mark) = 14
left_least joint.Question = 3
left_least (joint.Binary mark) = binary_level mark

-- The qualifier that a word is, where it is one (C99 6.7.3, UPC 6.5.1).
abbrev pub qual_of : Word → Option QualWord
qual_of words.Const = Some qual.Const
qual_of words.Strict = Some qual.Strict
qual_of words.Relaxed = Some qual.Relaxed
qual_of words.Shared = Some qual.Shared
qual_of _ = None

-- The qualifier that a token begins, where it begins one (C99 6.7.3, UPC 6.5.1).
abbrev pub qual_start : TokenKind → Option QualWord
qual_start (tokens.Word w) = qual_of w
qual_start _ = None

-- The specifier that a word is by itself, where it is one and no qualifier (C99 6.7.1, 6.7.2; UPC 7).
abbrev pub type_of : Word → Option TypeWord
type_of words.Static = Some type_word.Static
type_of words.Void = Some type_word.Void
type_of words.Char = Some type_word.Char
type_of words.Short = Some type_word.Short
type_of words.Int = Some type_word.Int
type_of words.Long = Some type_word.Long
type_of words.Signed = Some type_word.Signed
type_of words.Unsigned = Some type_word.Unsigned
type_of words.SizeT = Some type_word.SizeT
type_of words.PtrdiffT = Some type_word.PtrdiffT
type_of words.UpcLockT = Some type_word.LockT
type_of words.UpcOpT = Some type_word.OpT
type_of words.UpcFlagT = Some type_word.FlagT
type_of _ = None

-- The specifier of a struct, where a word begins one (C99 6.7.2.1).
abbrev pub struct_of : Word → Option SpecStart
struct_of words.Struct = Some spec.Struct
struct_of _ = None

-- A specifier that is a word where there is one, else a qualifier, else another beginning.
abbrev pub first_spec : Option TypeWord → Option QualWord → Option SpecStart → Option SpecStart
first_spec (Some word) qual other = Some (spec.Type word)
first_spec None (Some word) other = Some (spec.Qual word)
first_spec None None other = other

-- The specifier or qualifier that a word begins, where it begins one (C99 6.7).
abbrev pub spec_by : Word → Option SpecStart
spec_by word = first_spec (type_of word) (qual_of word) (struct_of word)

-- The specifier or qualifier that a token begins, where it begins one (C99 6.7).
abbrev pub spec_start : TokenKind → Option SpecStart
spec_start (tokens.Word word) = spec_by word
spec_start _ = None

-- Whether there is something.
abbrev pub is_some : {A : Type 0} → Option A → Bool
is_some (Some x) = true
is_some None = false

-- Whether a token begins a qualifier (C99 6.7.3, UPC 6.5.1).
abbrev pub is_qual : TokenKind → Bool
is_qual kind = is_some (qual_start kind)

-- Whether what begins a specifier or qualifier goes on with a list of them, which takes no `static` at block scope.
abbrev pub takes_spec : Bool → Option SpecStart → Bool
takes_spec local None = false
takes_spec local (Some (spec.Type type_word.Static)) = not local
takes_spec local (Some _) = true

-- Whether a token goes on with a list of specifiers and qualifiers, which takes no `static` at block scope (C99 6.7).
abbrev pub is_spec : Bool → TokenKind → Bool
is_spec local kind = takes_spec local (spec_start kind)

-- Whether a token is a string literal (C99 6.4.5).
abbrev pub is_string : TokenKind → Bool
is_string (tokens.Str bytes) = true
is_string _ = false
