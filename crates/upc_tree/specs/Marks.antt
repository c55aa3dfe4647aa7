-- How the operators and words are spelled, and how tightly the operators bind.
use Rattle.std.specs.Prelude.{ℕ}
use Rattle.upc_lexer.specs.declared.token.Punct.{Punct}
use Rattle.upc_lexer.specs.declared.token.Punct.TheVariants as punct
use Rattle.upc_lexer.specs.declared.token.Word.{Word}
use Rattle.upc_lexer.specs.declared.token.Word.TheVariants as keyword
use Rattle.upc_tree.specs.declared.mark.UnaryMark.{UnaryMark}
use Rattle.upc_tree.specs.declared.mark.UnaryMark.TheVariants as unary_mark
use Rattle.upc_tree.specs.declared.mark.PostfixMark.{PostfixMark}
use Rattle.upc_tree.specs.declared.mark.PostfixMark.TheVariants as postfix_mark
use Rattle.upc_tree.specs.declared.mark.MemberMark.{MemberMark}
use Rattle.upc_tree.specs.declared.mark.MemberMark.TheVariants as member_mark
use Rattle.upc_tree.specs.declared.mark.BinaryMark.{BinaryMark}
use Rattle.upc_tree.specs.declared.mark.BinaryMark.TheVariants as binary_mark
use Rattle.upc_tree.specs.declared.mark.AssignMark.{AssignMark}
use Rattle.upc_tree.specs.declared.mark.AssignMark.TheVariants as assign_mark
use Rattle.upc_tree.specs.declared.mark.SizeWord.{SizeWord}
use Rattle.upc_tree.specs.declared.mark.SizeWord.TheVariants as size_words
use Rattle.upc_tree.specs.declared.mark.ConstantWord.{ConstantWord}
use Rattle.upc_tree.specs.declared.mark.ConstantWord.TheVariants as constant_word_variant
use Rattle.upc_tree.specs.declared.mark.TypeWord.{TypeWord}
use Rattle.upc_tree.specs.declared.mark.TypeWord.TheVariants as type_words
use Rattle.upc_tree.specs.declared.mark.BarrierWord.{BarrierWord}
use Rattle.upc_tree.specs.declared.mark.BarrierWord.TheVariants as barrier_word_variant

-- The mark of each operator that stands before its operand (C99 6.5.3).
abbrev pub unary_punct : UnaryMark → Punct
unary_punct unary_mark.AddressOf = punct.Ampersand
unary_punct unary_mark.Dereference = punct.Star
unary_punct unary_mark.Plus = punct.Plus
unary_punct unary_mark.Minus = punct.Minus
unary_punct unary_mark.Complement = punct.Tilde
unary_punct unary_mark.Not = punct.Exclamation
unary_punct unary_mark.Increment = punct.PlusPlus
unary_punct unary_mark.Decrement = punct.MinusMinus

-- The mark of each operator that stands after its operand (C99 6.5.2.4).
abbrev pub postfix_punct : PostfixMark → Punct
postfix_punct postfix_mark.Increment = punct.PlusPlus
postfix_punct postfix_mark.Decrement = punct.MinusMinus

-- The mark of each operator that stands before the name of a member (C99 6.5.2.3).
abbrev pub member_punct : MemberMark → Punct
member_punct member_mark.Dot = punct.Dot
member_punct member_mark.Arrow = punct.Arrow

-- The mark of each operator that stands between two operands (C99 6.5.5 to 6.5.14).
abbrev pub binary_punct : BinaryMark → Punct
binary_punct binary_mark.Multiply = punct.Star
binary_punct binary_mark.Divide = punct.Slash
binary_punct binary_mark.Remainder = punct.Percent
binary_punct binary_mark.Add = punct.Plus
binary_punct binary_mark.Subtract = punct.Minus
binary_punct binary_mark.ShiftLeft = punct.ShiftLeft
binary_punct binary_mark.ShiftRight = punct.ShiftRight
binary_punct binary_mark.Less = punct.Less
binary_punct binary_mark.Greater = punct.Greater
binary_punct binary_mark.LessEqual = punct.LessEqual
binary_punct binary_mark.GreaterEqual = punct.GreaterEqual
binary_punct binary_mark.Equal = punct.EqualEqual
binary_punct binary_mark.NotEqual = punct.NotEqual
binary_punct binary_mark.BitAnd = punct.Ampersand
binary_punct binary_mark.BitXor = punct.Caret
binary_punct binary_mark.BitOr = punct.Bar
binary_punct binary_mark.And = punct.AndAnd
binary_punct binary_mark.Or = punct.OrOr

-- The mark of each assignment operator (C99 6.5.16).
abbrev pub assign_punct : AssignMark → Punct
assign_punct assign_mark.Assign = punct.Equal
assign_punct assign_mark.Multiply = punct.StarEqual
assign_punct assign_mark.Divide = punct.SlashEqual
assign_punct assign_mark.Remainder = punct.PercentEqual
assign_punct assign_mark.Add = punct.PlusEqual
assign_punct assign_mark.Subtract = punct.MinusEqual
assign_punct assign_mark.ShiftLeft = punct.ShiftLeftEqual
assign_punct assign_mark.ShiftRight = punct.ShiftRightEqual
assign_punct assign_mark.BitAnd = punct.AmpersandEqual
assign_punct assign_mark.BitXor = punct.CaretEqual
assign_punct assign_mark.BitOr = punct.BarEqual

-- The word of each size operator (C99 6.5.3.4, UPC 6.4.1).
abbrev pub size_word : SizeWord → Word
size_word size_words.Sizeof = keyword.Sizeof
size_word size_words.Localsizeof = keyword.UpcLocalsizeof
size_word size_words.Blocksizeof = keyword.UpcBlocksizeof
size_word size_words.Elemsizeof = keyword.UpcElemsizeof

-- The word of each expression that is a single word (UPC 6.3).
abbrev pub constant_word : ConstantWord → Word
constant_word constant_word_variant.Mythread = keyword.Mythread
constant_word constant_word_variant.Threads = keyword.Threads
constant_word constant_word_variant.MaxBlockSize = keyword.UpcMaxBlockSize

-- The word of each specifier that is a single word and no qualifier (C99 6.7.1, 6.7.2, UPC 7).
abbrev pub type_word : TypeWord → Word
type_word type_words.Static = keyword.Static
type_word type_words.Void = keyword.Void
type_word type_words.Char = keyword.Char
type_word type_words.Short = keyword.Short
type_word type_words.Int = keyword.Int
type_word type_words.Long = keyword.Long
type_word type_words.Signed = keyword.Signed
type_word type_words.Unsigned = keyword.Unsigned
type_word type_words.SizeT = keyword.SizeT
type_word type_words.PtrdiffT = keyword.PtrdiffT
type_word type_words.LockT = keyword.UpcLockT
type_word type_words.OpT = keyword.UpcOpT
type_word type_words.FlagT = keyword.UpcFlagT

-- The word of a notify, of a wait and of a barrier (UPC 6.6.1).
abbrev pub barrier_word : BarrierWord → Word
barrier_word barrier_word_variant.Notify = keyword.UpcNotify
barrier_word barrier_word_variant.Wait = keyword.UpcWait
barrier_word barrier_word_variant.Barrier = keyword.UpcBarrier

-- How tightly an expression is joined: a comma expression has level 0, an assignment 1, a conditional 2, the operators
-- between two operands 3 to 12, a cast 13, what begins with an operator 14, and everything else 15 (C99 6.5).

-- How tightly an operator between two operands binds, from 3 for `||` to 12 for `*`, `/` and `%` (C99 6.5.5 to 6.5.14).
abbrev pub binary_level : BinaryMark → ℕ
binary_level binary_mark.Or = 3
binary_level binary_mark.And = 4
binary_level binary_mark.BitOr = 5
binary_level binary_mark.BitXor = 6
binary_level binary_mark.BitAnd = 7
binary_level binary_mark.Equal = 8
binary_level binary_mark.NotEqual = 8
binary_level binary_mark.Less = 9
binary_level binary_mark.Greater = 9
binary_level binary_mark.LessEqual = 9
binary_level binary_mark.GreaterEqual = 9
binary_level binary_mark.ShiftLeft = 10
binary_level binary_mark.ShiftRight = 10
binary_level binary_mark.Add = 11
binary_level binary_mark.Subtract = 11
binary_level binary_mark.Multiply = 12
binary_level binary_mark.Divide = 12
binary_level binary_mark.Remainder = 12

-- The least level of the operand after an operator: `++` and `--` take no cast (C99 6.5.3).
abbrev pub operand_level : UnaryMark → ℕ
operand_level unary_mark.Increment = 14
operand_level unary_mark.Decrement = 14
operand_level _ = 13
