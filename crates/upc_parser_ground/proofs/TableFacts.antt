-- What the proofs need of the tables.
use Rattle.std.proofs.Common.{◌≡◌, ℕ, ◌+◌, ◌<◌, ◌≤◌, Bool, true, false, Option, Some, None, refl, ap, arith}
use denote.Enum.Bare.{same_true}
use Rattle.upc_lexer.specs.declared.token.TokenKind.{TokenKind}
use Rattle.upc_lexer.specs.declared.token.TokenKind.TheVariants as k
use Rattle.upc_lexer.specs.declared.token.Punct.{Punct}
use Rattle.upc_lexer.specs.declared.token.Punct.TheVariants as p
use Rattle.upc_lexer.specs.contracts.token.Punct as punct
use Rattle.upc_lexer.specs.declared.token.Word.{Word}
use Rattle.upc_lexer.specs.declared.token.Word.TheVariants as w
use Rattle.upc_lexer.specs.contracts.token.Word as word
use Rattle.upc_tree.specs.declared.mark.UnaryMark.{UnaryMark}
use Rattle.upc_tree.specs.declared.mark.UnaryMark.TheVariants as u
use Rattle.upc_tree.specs.declared.mark.PostfixMark.{PostfixMark}
use Rattle.upc_tree.specs.declared.mark.PostfixMark.TheVariants as f
use Rattle.upc_tree.specs.declared.mark.MemberMark.{MemberMark}
use Rattle.upc_tree.specs.declared.mark.MemberMark.TheVariants as m
use Rattle.upc_tree.specs.declared.mark.BinaryMark.{BinaryMark}
use Rattle.upc_tree.specs.declared.mark.BinaryMark.TheVariants as b
use Rattle.upc_tree.specs.declared.mark.AssignMark.{AssignMark}
use Rattle.upc_tree.specs.declared.mark.AssignMark.TheVariants as a
use Rattle.upc_tree.specs.declared.mark.SizeWord.{SizeWord}
use Rattle.upc_tree.specs.declared.mark.SizeWord.TheVariants as s
use Rattle.upc_tree.specs.declared.mark.TypeWord.{TypeWord}
use Rattle.upc_tree.specs.declared.mark.TypeWord.TheVariants as t
use Rattle.upc_tree.specs.Marks.{unary_punct, postfix_punct, member_punct, binary_punct, assign_punct, size_word, type_word, binary_level}
use Rattle.upc_parser_ground.specs.declared.start.Prefix.TheVariants as prefix
use Rattle.upc_parser_ground.specs.declared.start.Suffix.{Suffix}
use Rattle.upc_parser_ground.specs.declared.start.Suffix.TheVariants as suffix
use Rattle.upc_parser_ground.specs.declared.start.Joint.{Joint}
use Rattle.upc_parser_ground.specs.declared.start.Joint.TheVariants as joint
use Rattle.upc_parser_ground.specs.declared.start.QualWord.{QualWord}
use Rattle.upc_parser_ground.specs.declared.start.QualWord.TheVariants as q
use Rattle.upc_parser_ground.specs.declared.start.SpecStart.{SpecStart}
use Rattle.upc_parser_ground.specs.declared.start.SpecStart.TheVariants as spec
use Rattle.upc_parser_ground.specs.layer.Outcome.{is_punct, is_word}
use Rattle.upc_parser_ground.specs.layer.Tables.{prefix_of, suffix_of, joint_by, joint_of, joint_level, left_least, qual_of, spec_by, qual_start, spec_start, is_spec, is_qual, takes_spec}

-- ---- a mark or a word that passes is that one

pub is_punct_is : (mark : Punct) (x : TokenKind) → is_punct mark x ≡ true → x ≡ k.Punct mark
is_punct_is mark (k.Punct other) h = ap k.Punct (same_true punct.the_type tt other mark h)
is_punct_is mark _ h = absurd cc

pub is_word_is : (w : Word) (x : TokenKind) → is_word w x ≡ true → x ≡ k.Word w
is_word_is w (k.Word other) h = ap k.Word (same_true word.the_type tt other w h)
is_word_is w _ h = absurd cc

-- ---- what is spelled is read so

pub unary_back : (mark : UnaryMark) → prefix_of (k.Punct (unary_punct mark)) ≡ prefix.Unary mark
unary_back u.AddressOf = refl
unary_back _ = refl

pub size_back : (w : SizeWord) → prefix_of (k.Word (size_word w)) ≡ prefix.Size w
size_back s.Sizeof = refl
size_back _ = refl

pub postfix_back : (mark : PostfixMark) → suffix_of (k.Punct (postfix_punct mark)) ≡ Some (suffix.Step mark)
postfix_back f.Increment = refl
postfix_back f.Decrement = refl

pub member_back : (mark : MemberMark) → suffix_of (k.Punct (member_punct mark)) ≡ Some (suffix.Member mark)
member_back m.Dot = refl
member_back m.Arrow = refl

-- the mark of a joint
abbrev pub joint_punct : Joint → Punct
joint_punct joint.Comma = p.Comma
joint_punct (joint.Assign mark) = assign_punct mark
joint_punct joint.Question = p.Question
joint_punct (joint.Binary mark) = binary_punct mark

binary_joint : (mark : BinaryMark) → (joint_of (k.Punct (binary_punct mark)) ≡ Some (joint.Binary mark)) × (suffix_of (k.Punct (binary_punct mark)) ≡ None)
binary_joint b.Multiply = (refl, refl)
binary_joint _ = (refl, refl)

assign_joint : (mark : AssignMark) → (joint_of (k.Punct (assign_punct mark)) ≡ Some (joint.Assign mark)) × (suffix_of (k.Punct (assign_punct mark)) ≡ None)
assign_joint a.Assign = (refl, refl)
assign_joint _ = (refl, refl)

pub joint_back : (j : Joint) → (joint_of (k.Punct (joint_punct j)) ≡ Some j) × (suffix_of (k.Punct (joint_punct j)) ≡ None)
joint_back joint.Comma = (refl, refl)
joint_back (joint.Assign mark) = assign_joint mark
joint_back joint.Question = (refl, refl)
joint_back (joint.Binary mark) = binary_joint mark

pub type_back : (w : TypeWord) → spec_start (k.Word (type_word w)) ≡ Some (spec.Type w)
type_back t.Static = refl
type_back _ = refl

-- ---- what is read is spelled so

abbrev some_of : {A : Type 0} → A → Option A
some_of x = Some x

the_some : {A : Type 0} (x y : A) → some_of x ≡ some_of y → x ≡ y
the_some x y h = cc

the_unary : (x y : UnaryMark) → prefix.Unary x ≡ prefix.Unary y → x ≡ y
the_unary x y h = cc

the_size : (x y : SizeWord) → prefix.Size x ≡ prefix.Size y → x ≡ y
the_size x y h = cc

abbrev unary_kind : UnaryMark → TokenKind
unary_kind mark = k.Punct (unary_punct mark)

abbrev size_kind : SizeWord → TokenKind
size_kind w = k.Word (size_word w)

word_no_unary : (x : Word) (mark : UnaryMark) → prefix_of (k.Word x) ≡ prefix.Unary mark → ⊥
word_no_unary w.Break mark h = cc
word_no_unary _ mark h = cc

punct_no_size : (x : Punct) (s : SizeWord) → prefix_of (k.Punct x) ≡ prefix.Size s → ⊥
punct_no_size p.LBracket s h = cc
punct_no_size _ s h = cc

pub unary_forth : (x : TokenKind) (mark : UnaryMark) → prefix_of x ≡ prefix.Unary mark → x ≡ k.Punct (unary_punct mark)
unary_forth (k.Punct p.Ampersand) mark h = ap unary_kind (the_unary _ _ h)
unary_forth (k.Punct p.Star) mark h = ap unary_kind (the_unary _ _ h)
unary_forth (k.Punct p.Plus) mark h = ap unary_kind (the_unary _ _ h)
unary_forth (k.Punct p.Minus) mark h = ap unary_kind (the_unary _ _ h)
unary_forth (k.Punct p.Tilde) mark h = ap unary_kind (the_unary _ _ h)
unary_forth (k.Punct p.Exclamation) mark h = ap unary_kind (the_unary _ _ h)
unary_forth (k.Punct p.PlusPlus) mark h = ap unary_kind (the_unary _ _ h)
unary_forth (k.Punct p.MinusMinus) mark h = ap unary_kind (the_unary _ _ h)
unary_forth (k.Word x) mark h = absurd (word_no_unary x mark h)
unary_forth _ mark h = absurd cc

pub size_forth : (x : TokenKind) (w : SizeWord) → prefix_of x ≡ prefix.Size w → x ≡ k.Word (size_word w)
size_forth (k.Word w.Sizeof) s h = ap size_kind (the_size _ _ h)
size_forth (k.Word w.UpcLocalsizeof) s h = ap size_kind (the_size _ _ h)
size_forth (k.Word w.UpcBlocksizeof) s h = ap size_kind (the_size _ _ h)
size_forth (k.Word w.UpcElemsizeof) s h = ap size_kind (the_size _ _ h)
size_forth (k.Punct x) s h = absurd (punct_no_size x s h)
size_forth _ s h = absurd cc

-- the mark of what goes on directly after an expression
abbrev pub suffix_punct : Suffix → Punct
suffix_punct suffix.Subscript = p.LBracket
suffix_punct suffix.Call = p.LParen
suffix_punct (suffix.Member mark) = member_punct mark
suffix_punct (suffix.Step mark) = postfix_punct mark

abbrev suffix_kind : Suffix → TokenKind
suffix_kind mark = k.Punct (suffix_punct mark)

pub suffix_forth : (x : TokenKind) (mark : Suffix) → suffix_of x ≡ Some mark → x ≡ k.Punct (suffix_punct mark)
suffix_forth (k.Punct p.LBracket) mark h = ap suffix_kind (the_some _ _ h)
suffix_forth (k.Punct p.LParen) mark h = ap suffix_kind (the_some _ _ h)
suffix_forth (k.Punct p.Dot) mark h = ap suffix_kind (the_some _ _ h)
suffix_forth (k.Punct p.Arrow) mark h = ap suffix_kind (the_some _ _ h)
suffix_forth (k.Punct p.PlusPlus) mark h = ap suffix_kind (the_some _ _ h)
suffix_forth (k.Punct p.MinusMinus) mark h = ap suffix_kind (the_some _ _ h)
suffix_forth _ mark h = absurd cc

joint_by_forth : (x : Punct) (j : Joint) → joint_by x ≡ Some j → x ≡ joint_punct j
joint_by_forth p.Comma j h = ap joint_punct (the_some _ _ h)
joint_by_forth p.Question j h = ap joint_punct (the_some _ _ h)
joint_by_forth p.Equal j h = ap joint_punct (the_some _ _ h)
joint_by_forth p.StarEqual j h = ap joint_punct (the_some _ _ h)
joint_by_forth p.SlashEqual j h = ap joint_punct (the_some _ _ h)
joint_by_forth p.PercentEqual j h = ap joint_punct (the_some _ _ h)
joint_by_forth p.PlusEqual j h = ap joint_punct (the_some _ _ h)
joint_by_forth p.MinusEqual j h = ap joint_punct (the_some _ _ h)
joint_by_forth p.ShiftLeftEqual j h = ap joint_punct (the_some _ _ h)
joint_by_forth p.ShiftRightEqual j h = ap joint_punct (the_some _ _ h)
joint_by_forth p.AmpersandEqual j h = ap joint_punct (the_some _ _ h)
joint_by_forth p.CaretEqual j h = ap joint_punct (the_some _ _ h)
joint_by_forth p.BarEqual j h = ap joint_punct (the_some _ _ h)
joint_by_forth p.Star j h = ap joint_punct (the_some _ _ h)
joint_by_forth p.Slash j h = ap joint_punct (the_some _ _ h)
joint_by_forth p.Percent j h = ap joint_punct (the_some _ _ h)
joint_by_forth p.Plus j h = ap joint_punct (the_some _ _ h)
joint_by_forth p.Minus j h = ap joint_punct (the_some _ _ h)
joint_by_forth p.ShiftLeft j h = ap joint_punct (the_some _ _ h)
joint_by_forth p.ShiftRight j h = ap joint_punct (the_some _ _ h)
joint_by_forth p.Less j h = ap joint_punct (the_some _ _ h)
joint_by_forth p.Greater j h = ap joint_punct (the_some _ _ h)
joint_by_forth p.LessEqual j h = ap joint_punct (the_some _ _ h)
joint_by_forth p.GreaterEqual j h = ap joint_punct (the_some _ _ h)
joint_by_forth p.EqualEqual j h = ap joint_punct (the_some _ _ h)
joint_by_forth p.NotEqual j h = ap joint_punct (the_some _ _ h)
joint_by_forth p.Ampersand j h = ap joint_punct (the_some _ _ h)
joint_by_forth p.Caret j h = ap joint_punct (the_some _ _ h)
joint_by_forth p.Bar j h = ap joint_punct (the_some _ _ h)
joint_by_forth p.AndAnd j h = ap joint_punct (the_some _ _ h)
joint_by_forth p.OrOr j h = ap joint_punct (the_some _ _ h)
joint_by_forth _ j h = absurd cc

pub joint_forth : (x : TokenKind) (j : Joint) → joint_of x ≡ Some j → x ≡ k.Punct (joint_punct j)
joint_forth (k.Punct mark) j h = ap k.Punct (joint_by_forth mark j h)
joint_forth _ j h = absurd cc

-- the word of a qualifier
abbrev pub qual_word : QualWord → Word
qual_word q.Const = w.Const
qual_word q.Strict = w.Strict
qual_word q.Relaxed = w.Relaxed
qual_word q.Shared = w.Shared

qual_of_forth : (x : Word) (word : QualWord) → qual_of x ≡ Some word → x ≡ qual_word word
qual_of_forth w.Const word h = ap qual_word (the_some _ _ h)
qual_of_forth w.Strict word h = ap qual_word (the_some _ _ h)
qual_of_forth w.Relaxed word h = ap qual_word (the_some _ _ h)
qual_of_forth w.Shared word h = ap qual_word (the_some _ _ h)
qual_of_forth _ word h = absurd cc

pub qual_forth : (x : TokenKind) (word : QualWord) → qual_start x ≡ Some word → x ≡ k.Word (qual_word word)
qual_forth (k.Word x) word h = ap k.Word (qual_of_forth x word h)
qual_forth _ word h = absurd cc

-- the word that begins a specifier
abbrev pub spec_word : SpecStart → Word
spec_word (spec.Type word) = type_word word
spec_word (spec.Qual word) = qual_word word
spec_word spec.Struct = w.Struct

spec_by_forth : (x : Word) (start : SpecStart) → spec_by x ≡ Some start → x ≡ spec_word start
spec_by_forth w.Static start h = ap spec_word (the_some _ _ h)
spec_by_forth w.Void start h = ap spec_word (the_some _ _ h)
spec_by_forth w.Char start h = ap spec_word (the_some _ _ h)
spec_by_forth w.Short start h = ap spec_word (the_some _ _ h)
spec_by_forth w.Int start h = ap spec_word (the_some _ _ h)
spec_by_forth w.Long start h = ap spec_word (the_some _ _ h)
spec_by_forth w.Signed start h = ap spec_word (the_some _ _ h)
spec_by_forth w.Unsigned start h = ap spec_word (the_some _ _ h)
spec_by_forth w.SizeT start h = ap spec_word (the_some _ _ h)
spec_by_forth w.PtrdiffT start h = ap spec_word (the_some _ _ h)
spec_by_forth w.UpcLockT start h = ap spec_word (the_some _ _ h)
spec_by_forth w.UpcOpT start h = ap spec_word (the_some _ _ h)
spec_by_forth w.UpcFlagT start h = ap spec_word (the_some _ _ h)
spec_by_forth w.Const start h = ap spec_word (the_some _ _ h)
spec_by_forth w.Strict start h = ap spec_word (the_some _ _ h)
spec_by_forth w.Relaxed start h = ap spec_word (the_some _ _ h)
spec_by_forth w.Shared start h = ap spec_word (the_some _ _ h)
spec_by_forth w.Struct start h = ap spec_word (the_some _ _ h)
spec_by_forth _ start h = absurd cc

pub spec_forth : (x : TokenKind) (start : SpecStart) → spec_start x ≡ Some start → x ≡ k.Word (spec_word start)
spec_forth (k.Word x) start h = ap k.Word (spec_by_forth x start h)
spec_forth _ start h = absurd cc

-- ---- levels

pub binary_some : (mark : BinaryMark) → 3 ≤ binary_level mark
binary_some b.Multiply = omega arith
binary_some _ = omega arith

pub binary_small : (mark : BinaryMark) → binary_level mark ≤ 12
binary_small b.Multiply = omega arith
binary_small _ = omega arith

pub joint_small : (j : Joint) → joint_level j ≤ 12
joint_small joint.Comma = omega arith
joint_small (joint.Assign mark) = omega arith
joint_small joint.Question = omega arith
joint_small (joint.Binary mark) = binary_small mark

-- the least level of what stands after a joint
abbrev pub right_least : Joint → ℕ
right_least joint.Comma = 1
right_least (joint.Assign mark) = 1
right_least joint.Question = 2
right_least (joint.Binary mark) = binary_level mark + 1

pub joint_left : (j : Joint) → joint_level j ≤ left_least j
joint_left joint.Comma = omega arith
joint_left (joint.Assign mark) = omega arith
joint_left joint.Question = omega arith
joint_left (joint.Binary mark) = omega arith

pub joint_right : (j : Joint) → joint_level j ≤ right_least j
joint_right joint.Comma = omega arith
joint_right (joint.Assign mark) = omega arith
joint_right joint.Question = omega arith
joint_right (joint.Binary mark) = omega arith

-- what stands to the left of a joint ends before it
pub sides : (j before : Joint) → left_least j ≤ joint_level before → joint_level j < right_least before
sides joint.Comma joint.Comma h = absurd (omega arith)
sides joint.Comma (joint.Assign mark) h = omega arith
sides joint.Comma joint.Question h = omega arith
sides joint.Comma (joint.Binary mark) h = omega arith
sides (joint.Assign mark) before h = absurd (omega (arith, joint_small before))
sides joint.Question joint.Comma h = absurd (omega arith)
sides joint.Question (joint.Assign mark) h = absurd (omega arith)
sides joint.Question joint.Question h = absurd (omega arith)
sides joint.Question (joint.Binary mark) h = omega (arith, binary_some mark)
sides (joint.Binary mark) joint.Comma h = absurd (omega (arith, binary_some mark))
sides (joint.Binary mark) (joint.Assign other) h = absurd (omega (arith, binary_some mark))
sides (joint.Binary mark) joint.Question h = absurd (omega (arith, binary_some mark))
sides (joint.Binary mark) (joint.Binary other) h = omega arith

-- ---- tests that exclude each other

pub qual_is_spec : (local : Bool) (x : TokenKind) → is_spec local x ≡ false → is_qual x ≡ false
qual_is_spec local (k.Word w.Const) h = absurd cc
qual_is_spec local (k.Word w.Strict) h = absurd cc
qual_is_spec local (k.Word w.Relaxed) h = absurd cc
qual_is_spec local (k.Word w.Shared) h = absurd cc
qual_is_spec local _ h = refl

takes_any : (local : Bool) (start : Option SpecStart) → takes_spec false start ≡ false → takes_spec local start ≡ false
takes_any local None h = refl
takes_any local (Some (spec.Type t.Static)) h = absurd cc
takes_any local (Some (spec.Type w)) h = absurd cc
takes_any local (Some (spec.Qual w)) h = absurd cc
takes_any local (Some spec.Struct) h = absurd cc

-- what is no specifier anywhere is none at block scope
pub spec_any : (local : Bool) (x : TokenKind) → is_spec false x ≡ false → is_spec local x ≡ false
spec_any local x h = takes_any local (spec_start x) h
