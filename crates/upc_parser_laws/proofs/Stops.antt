-- What may follow a tree, and how a tree begins.
use Rattle.std.proofs.Common.{◌≡◌, ℕ, ◌<◌, ◌≤◌, Bool, true, false, List, [], ◌∷◌, Option, Some, None, refl, sym, subst, arith}
use Rattle.upc_lexer.specs.declared.token.TokenKind.{TokenKind}
use Rattle.upc_lexer.specs.declared.token.TokenKind.TheVariants as k
use Rattle.upc_lexer.specs.declared.token.Token.{Token}
use Rattle.upc_lexer.specs.declared.token.Punct.{Punct}
use Rattle.upc_lexer.specs.declared.token.Punct.TheVariants as p
use Rattle.upc_lexer.specs.declared.token.Word.{Word}
use Rattle.upc_lexer.specs.declared.token.Word.TheVariants as w
use Rattle.upc_tree.specs.declared.span.Span.{Span}
use Rattle.upc_tree.specs.declared.span.Name.{Name}
use Rattle.upc_tree.specs.declared.mark.UnaryMark.{UnaryMark}
use Rattle.upc_tree.specs.declared.mark.UnaryMark.TheVariants as u
use Rattle.upc_tree.specs.declared.mark.SizeWord.{SizeWord}
use Rattle.upc_tree.specs.declared.mark.SizeWord.TheVariants as s
use Rattle.upc_tree.specs.declared.mark.ConstantWord.{ConstantWord}
use Rattle.upc_tree.specs.declared.mark.ConstantWord.TheVariants as c
use Rattle.upc_tree.specs.declared.mark.TypeWord.{TypeWord}
use Rattle.upc_tree.specs.declared.mark.TypeWord.TheVariants as t
use Rattle.upc_tree.specs.Marks.{unary_punct, postfix_punct, member_punct, binary_punct, assign_punct, size_word, constant_word, type_word}
use Rattle.upc_tree.specs.Tokens.{punct, word, name_token}
use Rattle.upc_tree.specs.Expression.{Expr, Named, Number, Character, Strings, Constant, Paren, Subscript, Call, MemberOf, Postfix, Unary, SizeOfExpr, SizeOfType, Cast, Binary, Assign, Conditional, Comma, Specs, NoSpecs, AndSpec, Spec, WordSpec, QualSpec, TagSpec, StructSpec, Qual, Const, Strict, Relaxed, Shared, Pointers, NoPointers, AndPointer, Dimensions, NoDimensions, AndDimension, Declarator, ObjectDeclarator, FunctionDeclarator, Parameter, Parametric, NextParameters, NoNextParameters, AndParameter, ParameterArray, NoArray, UnsizedArray, SizedArray, spell_name, spell, spell_arguments, spell_next_exprs, spell_specs, spell_spec, spell_qual, spell_pointers, spell_dimensions, spell_declarator, spell_parameters, spell_parameter, spell_next_parameters, spell_array}
use Rattle.upc_tree.specs.Proper.{level, IsSome, KeepsSizes, KeepsArray, is_void, open_pointers, Proper}
use Rattle.upc_tree.specs.Declaration.{is_static, NoStatic}
use Rattle.upc_parser_ground.specs.declared.start.Joint.{Joint}
use Rattle.upc_parser_ground.specs.declared.start.SpecStart.TheVariants as spec
use Rattle.upc_parser_ground.specs.layer.Outcome.{is_punct, is_word, starts, starts_two}
use Rattle.upc_parser_ground.specs.layer.Tables.{suffix_of, joint_of, joint_level, is_spec, is_qual, is_string, takes_spec}
use Rattle.upc_parser_types.specs.layer.Expression.{opens_type}
use Rattle.upc_parser_ground.proofs.TableFacts.{is_punct_is, joint_punct, joint_back, joint_small, binary_small, type_back, qual_is_spec}
use Rattle.upc_parser_ground.proofs.Sequence.{apart, unlike, no_both}

-- ---- what does not go on with an expression

abbrev pub Looser : ℕ → Option Joint → Type 0
Looser m None = Unit {0}
Looser m (Some j) = joint_level j < m

abbrev pub Stops : ℕ → List Token → Type 0
Stops m [] = Unit {0}
Stops m (x ∷ ts) = (suffix_of x.kind ≡ None) × (is_string x.kind ≡ false) × Looser m (joint_of x.kind)

looser_to : (m m' : ℕ) (o : Option Joint) → m ≤ m' → Looser m o → Looser m' o
looser_to m m' None le h = tt
looser_to m m' (Some j) le h = omega arith

looser_all : (m : ℕ) (o : Option Joint) → 13 ≤ m → Looser m o
looser_all m None le = tt
looser_all m (Some j) le = omega (arith, joint_small j)

pub stops_to : (m m' : ℕ) (ts : List Token) → m ≤ m' → Stops m ts → Stops m' ts
stops_to m m' [] le h = tt
stops_to m m' (x ∷ ts) le h = (h.0, h.1, looser_to m m' (joint_of x.kind) le h.2)

pub stops_13 : (m m' : ℕ) (ts : List Token) → 13 ≤ m' → Stops m ts → Stops m' ts
stops_13 m m' [] le h = tt
stops_13 m m' (x ∷ ts) le h = (h.0, h.1, looser_all m' (joint_of x.kind) le)

pub stops_joint : (m : ℕ) (j : Joint) (at : Span) (ts : List Token) → joint_level j < m → Stops m (punct (joint_punct j) at ∷ ts)
stops_joint m j at ts h = let e = joint_back j in (e.1, refl, subst (Looser m) (sym e.0) h)

-- ---- how an expression begins

abbrev pub begins : TokenKind → Bool
begins (k.Name number) = true
begins (k.Number value kind) = true
begins (k.Character value) = true
begins (k.Str bytes) = true
begins (k.Word w.Mythread) = true
begins (k.Word w.Threads) = true
begins (k.Word w.UpcMaxBlockSize) = true
begins (k.Word w.Sizeof) = true
begins (k.Word w.UpcLocalsizeof) = true
begins (k.Word w.UpcBlocksizeof) = true
begins (k.Word w.UpcElemsizeof) = true
begins (k.Punct p.LParen) = true
begins (k.Punct p.Ampersand) = true
begins (k.Punct p.Star) = true
begins (k.Punct p.Plus) = true
begins (k.Punct p.Minus) = true
begins (k.Punct p.Tilde) = true
begins (k.Punct p.Exclamation) = true
begins (k.Punct p.PlusPlus) = true
begins (k.Punct p.MinusMinus) = true
begins _ = false

constant_begins : (w : ConstantWord) → begins (k.Word (constant_word w)) ≡ true
constant_begins c.Mythread = refl
constant_begins _ = refl

unary_begins : (mark : UnaryMark) → begins (k.Punct (unary_punct mark)) ≡ true
unary_begins u.AddressOf = refl
unary_begins _ = refl

size_begins : (w : SizeWord) → begins (k.Word (size_word w)) ≡ true
size_begins s.Sizeof = refl
size_begins _ = refl

pub expr_begins : (u : Expr) (rest : List Token) → starts begins (spell u rest) ≡ true
expr_begins (Named name) rest = refl
expr_begins (Number value kind span) rest = refl
expr_begins (Character value span) rest = refl
expr_begins (Strings first more) rest = refl
expr_begins (Constant w span) rest = constant_begins w
expr_begins (Paren l e r) rest = refl
expr_begins (Subscript a l e r) rest = expr_begins a (punct p.LBracket l ∷ spell e (punct p.RBracket r ∷ rest))
expr_begins (Call a l e) rest = expr_begins a (punct p.LParen l ∷ spell_arguments e rest)
expr_begins (MemberOf a m s x) rest = expr_begins a (punct (member_punct m) s ∷ name_token x ∷ rest)
expr_begins (Postfix a m s) rest = expr_begins a (punct (postfix_punct m) s ∷ rest)
expr_begins (Unary m s e) rest = unary_begins m
expr_begins (SizeOfExpr w s e) rest = size_begins w
expr_begins (SizeOfType w s l t r) rest = size_begins w
expr_begins (Cast l t r e) rest = refl
expr_begins (Binary a m s b) rest = expr_begins a (punct (binary_punct m) s ∷ spell b rest)
expr_begins (Assign a m s b) rest = expr_begins a (punct (assign_punct m) s ∷ spell b rest)
expr_begins (Conditional t q y c z) rest = expr_begins t (punct p.Question q ∷ spell y (punct p.Colon c ∷ spell z rest))
expr_begins (Comma e m) rest = expr_begins e (spell_next_exprs m rest)

-- what begins an expression is none of these marks
no_punct_by : (mark : Punct) → begins (k.Punct mark) ≡ false → (x : TokenKind) → begins x ≡ true → (b : Bool) → is_punct mark x ≡ b → is_punct mark x ≡ false
no_punct_by mark off x h false e = e
no_punct_by mark off x h true e = absurd (no_both (begins (k.Punct mark)) (subst (λ y. begins y ≡ true) (is_punct_is mark x e) h) off)

pub begins_no_punct : (mark : Punct) → (begins (k.Punct mark) ≡ false) → (x : TokenKind) → begins x ≡ true → is_punct mark x ≡ false
begins_no_punct mark off x h = no_punct_by mark off x h (is_punct mark x) refl

begins_no_spec : (local : Bool) (x : TokenKind) → begins x ≡ true → is_spec local x ≡ false
begins_no_spec local (k.Word w.Break) h = cc
begins_no_spec local _ h = cc

pub expr_no_punct : (mark : Punct) → begins (k.Punct mark) ≡ false → (u : Expr) (rest : List Token) → starts (is_punct mark) (spell u rest) ≡ false
expr_no_punct mark off u rest = apart begins (is_punct mark) (spell u rest) (begins_no_punct mark off) (expr_begins u rest)

pub expr_no_spec : (local : Bool) (u : Expr) (rest : List Token) → starts (is_spec local) (spell u rest) ≡ false
expr_no_spec local u rest = apart begins (is_spec local) (spell u rest) (begins_no_spec local) (expr_begins u rest)

unary_no_fill : (mark : UnaryMark) (at : Span) (ts : List Token) → starts (is_punct p.RBracket) ts ≡ false → starts_two (is_punct p.Star) (is_punct p.RBracket) (punct (unary_punct mark) at ∷ ts) ≡ false
unary_no_fill u.Dereference at ts h = h
unary_no_fill _ at ts h = refl

-- a star that begins an expression is not followed by a bracket
pub expr_no_fill : (u : Expr) (rest : List Token) → starts_two (is_punct p.Star) (is_punct p.RBracket) (spell u rest) ≡ false
expr_no_fill (Named name) rest = refl
expr_no_fill (Number value kind span) rest = refl
expr_no_fill (Character value span) rest = refl
expr_no_fill (Strings first more) rest = refl
expr_no_fill (Constant w span) rest = refl
expr_no_fill (Paren l e r) rest = refl
expr_no_fill (Subscript a l e r) rest = expr_no_fill a (punct p.LBracket l ∷ spell e (punct p.RBracket r ∷ rest))
expr_no_fill (Call a l e) rest = expr_no_fill a (punct p.LParen l ∷ spell_arguments e rest)
expr_no_fill (MemberOf a m s x) rest = expr_no_fill a (punct (member_punct m) s ∷ name_token x ∷ rest)
expr_no_fill (Postfix a m s) rest = expr_no_fill a (punct (postfix_punct m) s ∷ rest)
expr_no_fill (Unary m s e) rest = unary_no_fill m s (spell e rest) (expr_no_punct p.RBracket refl e rest)
expr_no_fill (SizeOfExpr w s e) rest = refl
expr_no_fill (SizeOfType w s l t r) rest = refl
expr_no_fill (Cast l t r e) rest = refl
expr_no_fill (Binary a m s b) rest = expr_no_fill a (punct (binary_punct m) s ∷ spell b rest)
expr_no_fill (Assign a m s b) rest = expr_no_fill a (punct (assign_punct m) s ∷ spell b rest)
expr_no_fill (Conditional t q y c z) rest = expr_no_fill t (punct p.Question q ∷ spell y (punct p.Colon c ∷ spell z rest))
expr_no_fill (Comma e m) rest = expr_no_fill e (spell_next_exprs m rest)

unary_no_type : (mark : UnaryMark) (at : Span) (ts : List Token) → opens_type (punct (unary_punct mark) at ∷ ts) ≡ false
unary_no_type u.AddressOf at ts = refl
unary_no_type _ at ts = refl

-- an expression that is no cast and joins nothing does not begin with a type in parentheses
pub expr_no_type : (u : Expr) (rest : List Token) → Proper u → 14 ≤ level u → opens_type (spell u rest) ≡ false
expr_no_type (Named name) rest pr lv = refl
expr_no_type (Number value kind span) rest pr lv = refl
expr_no_type (Character value span) rest pr lv = refl
expr_no_type (Strings first more) rest pr lv = refl
expr_no_type (Constant w span) rest pr lv = refl
expr_no_type (Paren l e r) rest pr lv = expr_no_spec false e (punct p.RParen r ∷ rest)
expr_no_type (Subscript a l e r) rest pr lv = expr_no_type a (punct p.LBracket l ∷ spell e (punct p.RBracket r ∷ rest)) pr.1 (omega (arith, pr.0))
expr_no_type (Call a l e) rest pr lv = expr_no_type a (punct p.LParen l ∷ spell_arguments e rest) pr.1 (omega (arith, pr.0))
expr_no_type (MemberOf a m s x) rest pr lv = expr_no_type a (punct (member_punct m) s ∷ name_token x ∷ rest) pr.1 (omega (arith, pr.0))
expr_no_type (Postfix a m s) rest pr lv = expr_no_type a (punct (postfix_punct m) s ∷ rest) pr.1 (omega (arith, pr.0))
expr_no_type (Unary m s e) rest pr lv = unary_no_type m s (spell e rest)
expr_no_type (SizeOfExpr w s e) rest pr lv = refl
expr_no_type (SizeOfType w s l t r) rest pr lv = refl
expr_no_type (Cast l t r e) rest pr lv = absurd (omega arith)
expr_no_type (Binary a m s b) rest pr lv = absurd (omega (arith, binary_small m))
expr_no_type (Assign a m s b) rest pr lv = absurd (omega arith)
expr_no_type (Conditional t q y c z) rest pr lv = absurd (omega arith)
expr_no_type (Comma e m) rest pr lv = absurd (omega arith)

-- ---- a bracket that would be a layout

abbrev pub StopsOpen : Bool → List Token → Type 0
StopsOpen false ts = Unit {0}
StopsOpen true ts = starts (is_punct p.LBracket) ts ≡ false

pub stops_open : (b : Bool) (ts : List Token) → starts (is_punct p.LBracket) ts ≡ false → StopsOpen b ts
stops_open false ts h = tt
stops_open true ts h = h

pub stops_closed : (b : Bool) (ts : List Token) → b ≡ false → StopsOpen b ts
stops_closed false ts h = tt
stops_closed true ts h = absurd cc

-- ---- how types begin

pub qual_begins : (q : Qual) (rest : List Token) → starts is_qual (spell_qual q rest) ≡ true
qual_begins (Const a) rest = refl
qual_begins (Strict a) rest = refl
qual_begins (Relaxed a) rest = refl
qual_begins (Shared a l) rest = refl

pub qual_no_punct : (mark : Punct) (q : Qual) (rest : List Token) → starts (is_punct mark) (spell_qual q rest) ≡ false
qual_no_punct mark (Const a) rest = refl
qual_no_punct mark (Strict a) rest = refl
qual_no_punct mark (Relaxed a) rest = refl
qual_no_punct mark (Shared a l) rest = refl

pub spec_no_punct : (mark : Punct) (s : Spec) (rest : List Token) → starts (is_punct mark) (spell_spec s rest) ≡ false
spec_no_punct mark (WordSpec w a) rest = refl
spec_no_punct mark (QualSpec q) rest = qual_no_punct mark q rest
spec_no_punct mark (TagSpec a x) rest = refl
spec_no_punct mark (StructSpec a x l m r) rest = refl

-- `static` is a specifier elsewhere than at block scope
abbrev pub Allowed : Bool → Spec → Type 0
Allowed false s = Unit {0}
Allowed true s = is_static s ≡ false

abbrev pub AllAllowed : Bool → Specs → Type 0
AllAllowed false s = Unit {0}
AllAllowed true s = NoStatic s

type_begins : (local : Bool) (w : TypeWord) (a : Span) → Allowed local (WordSpec w a) → takes_spec local (Some (spec.Type w)) ≡ true
type_begins false t.Static a h = refl
type_begins true t.Static a h = absurd cc
type_begins local _ a h = refl

qual_spec_begins : (local : Bool) (q : Qual) (rest : List Token) → starts (is_spec local) (spell_qual q rest) ≡ true
qual_spec_begins local (Const a) rest = refl
qual_spec_begins local (Strict a) rest = refl
qual_spec_begins local (Relaxed a) rest = refl
qual_spec_begins local (Shared a l) rest = refl

pub spec_begins : (local : Bool) (s : Spec) (rest : List Token) → Allowed local s → starts (is_spec local) (spell_spec s rest) ≡ true
spec_begins local (WordSpec w a) rest h = rw (type_back w) (type_begins local w a h)
spec_begins local (QualSpec q) rest h = qual_spec_begins local q rest
spec_begins local (TagSpec a x) rest h = refl
spec_begins local (StructSpec a x l m r) rest h = refl

pub specs_no_punct : (mark : Punct) (s : Specs) (rest : List Token) → IsSome s → starts (is_punct mark) (spell_specs s rest) ≡ false
specs_no_punct mark NoSpecs rest h = absurd h
specs_no_punct mark (AndSpec s m) rest h = spec_no_punct mark s (spell_specs m rest)

-- ---- what follows specifiers and stars

pub record Quiet (ts : List Token) : Type 0 where
  pub no_spec : starts (is_spec false) ts ≡ false
  pub no_star : starts (is_punct p.Star) ts ≡ false
  pub no_brace : starts (is_punct p.LBrace) ts ≡ false

pub quiet_qual : (ts : List Token) → Quiet ts → starts is_qual ts ≡ false
quiet_qual ts q = unlike (is_spec false) is_qual ts (qual_is_spec false) q.no_spec

pub quiet_name : (x : Name) (ts : List Token) → Quiet (name_token x ∷ ts)
quiet_name x ts = record { no_spec = refl; no_star = refl; no_brace = refl }

pub quiet_sizes : (d : Dimensions) (ts : List Token) → Quiet ts → Quiet (spell_dimensions d ts)
quiet_sizes NoDimensions ts q = q
quiet_sizes (AndDimension l e r m) ts q = record { no_spec = refl; no_star = refl; no_brace = refl }

pub open_sizes : (b : Bool) (d : Dimensions) (ts : List Token) → KeepsSizes b d → starts (is_punct p.LBracket) ts ≡ false → StopsOpen b (spell_dimensions d ts)
open_sizes b NoDimensions ts keeps h = stops_open b ts h
open_sizes b (AndDimension l e r m) ts keeps h = stops_closed b _ keeps

-- a comma or a closing parenthesis
abbrev pub closes : TokenKind → Bool
closes (k.Punct p.Comma) = true
closes (k.Punct p.RParen) = true
closes _ = false

abbrev pub is_name : TokenKind → Bool
is_name (k.Name number) = true
is_name _ = false

closes_no_spec : (x : TokenKind) → closes x ≡ true → is_spec false x ≡ false
closes_no_spec (k.Punct p.Comma) h = refl
closes_no_spec (k.Word w.Break) h = cc
closes_no_spec _ h = cc

closes_no_star : (x : TokenKind) → closes x ≡ true → is_punct p.Star x ≡ false
closes_no_star (k.Punct p.Comma) h = refl
closes_no_star _ h = cc

closes_no_brace : (x : TokenKind) → closes x ≡ true → is_punct p.LBrace x ≡ false
closes_no_brace (k.Punct p.Comma) h = refl
closes_no_brace _ h = cc

closes_no_bracket : (x : TokenKind) → closes x ≡ true → is_punct p.LBracket x ≡ false
closes_no_bracket (k.Punct p.Comma) h = refl
closes_no_bracket _ h = cc

closes_no_name : (x : TokenKind) → closes x ≡ true → is_name x ≡ false
closes_no_name (k.Name number) h = absurd cc
closes_no_name _ h = refl

pub closed_quiet : (ts : List Token) → starts closes ts ≡ true → Quiet ts
closed_quiet ts h = record {
  no_spec = apart closes (is_spec false) ts closes_no_spec h;
  no_star = apart closes (is_punct p.Star) ts closes_no_star h;
  no_brace = apart closes (is_punct p.LBrace) ts closes_no_brace h;
}

pub closed_bracket : (ts : List Token) → starts closes ts ≡ true → starts (is_punct p.LBracket) ts ≡ false
closed_bracket ts h = apart closes (is_punct p.LBracket) ts closes_no_bracket h

pub closed_name : (ts : List Token) → starts closes ts ≡ true → starts is_name ts ≡ false
closed_name ts h = apart closes is_name ts closes_no_name h

pub closed_next : (m : NextParameters) (r : Span) (ts : List Token) → starts closes (spell_next_parameters m (punct p.RParen r ∷ ts)) ≡ true
closed_next NoNextParameters r ts = refl
closed_next (AndParameter c f m) r ts = refl

pub quiet_array : (a : ParameterArray) (ts : List Token) → starts closes ts ≡ true → Quiet (spell_array a ts)
quiet_array NoArray ts h = closed_quiet ts h
quiet_array (UnsizedArray l r) ts h = record { no_spec = refl; no_star = refl; no_brace = refl }
quiet_array (SizedArray l e r) ts h = record { no_spec = refl; no_star = refl; no_brace = refl }

pub quiet_named : (x : Option Name) (a : ParameterArray) (ts : List Token) → starts closes ts ≡ true → Quiet (spell_name x (spell_array a ts))
quiet_named None a ts h = quiet_array a ts h
quiet_named (Some x) a ts h = quiet_name x (spell_array a ts)

pub open_named : (b : Bool) (x : Option Name) (a : ParameterArray) (ts : List Token) → KeepsArray b x a → starts closes ts ≡ true → StopsOpen b (spell_name x (spell_array a ts))
open_named b None NoArray ts keeps h = stops_open b ts (closed_bracket ts h)
open_named b None (UnsizedArray l r) ts keeps h = stops_closed b _ keeps
open_named b None (SizedArray l e r) ts keeps h = stops_closed b _ keeps
open_named b (Some x) a ts keeps h = stops_open b _ refl

pub array_no_name : (a : ParameterArray) (ts : List Token) → starts closes ts ≡ true → starts is_name (spell_array a ts) ≡ false
array_no_name NoArray ts h = closed_name ts h
array_no_name (UnsizedArray l r) ts h = refl
array_no_name (SizedArray l e r) ts h = refl

-- what may stand after specifiers
pub record Behind (local : Bool) (b : Bool) (ts : List Token) : Type 0 where
  pub no_spec : starts (is_spec local) ts ≡ false
  pub no_brace : starts (is_punct p.LBrace) ts ≡ false
  pub stops : StopsOpen b ts

pub behind_stars : (b : Bool) (q : Pointers) (ts : List Token) → Quiet ts → StopsOpen (open_pointers b q) ts → Behind false b (spell_pointers q ts)
behind_stars b NoPointers ts quiet stops = record { no_spec = quiet.no_spec; no_brace = quiet.no_brace; stops = stops }
behind_stars b (AndPointer s q m) ts quiet stops = record { no_spec = refl; no_brace = refl; stops = stops_open b _ refl }

-- stars and a name stand after specifiers anywhere
pub behind_named : (local b : Bool) (q : Pointers) (x : Name) (ts : List Token) → Behind local b (spell_pointers q (name_token x ∷ ts))
behind_named local b NoPointers x ts = record { no_spec = refl; no_brace = refl; stops = stops_open b _ refl }
behind_named local b (AndPointer s q m) x ts = record { no_spec = refl; no_brace = refl; stops = stops_open b _ refl }

pub behind_declarator : (local b : Bool) (d : Declarator) (ts : List Token) → Behind local b (spell_declarator d ts)
behind_declarator local b (ObjectDeclarator q x d) ts = behind_named local b q x (spell_dimensions d ts)
behind_declarator local b (FunctionDeclarator q x r) ts = behind_named local b q x (spell_parameters r ts)

-- ---- `(void)`

void_second : (q : Pointers) (x : Option Name) (a : ParameterArray) (m : NextParameters) (r span : Span) (ts : List Token) → is_void (Parametric (AndSpec (WordSpec t.Void span) NoSpecs) q x a) m ≡ false
    → starts (is_punct p.RParen) (spell_pointers q (spell_name x (spell_array a (spell_next_parameters m (punct p.RParen r ∷ ts))))) ≡ false
void_second NoPointers None NoArray NoNextParameters r span ts h = absurd cc
void_second NoPointers None NoArray (AndParameter c f m) r span ts h = refl
void_second NoPointers None (UnsizedArray l i) m r span ts h = refl
void_second NoPointers None (SizedArray l e i) m r span ts h = refl
void_second NoPointers (Some x) a m r span ts h = refl
void_second (AndPointer s q n) x a m r span ts h = refl

qual_no_void : (q : Qual) (ts : List Token) → starts_two (is_word w.Void) (is_punct p.RParen) (spell_qual q ts) ≡ false
qual_no_void (Const a) ts = refl
qual_no_void (Strict a) ts = refl
qual_no_void (Relaxed a) ts = refl
qual_no_void (Shared a l) ts = refl

abbrev void : Word
void = w.Void

void_by : (w : TypeWord) (s : Span) (n : Specs) (q : Pointers) (x : Option Name) (a : ParameterArray) (m : NextParameters) (r : Span) (ts : List Token) → is_void (Parametric (AndSpec (WordSpec w s) n) q x a) m ≡ false
    → starts_two (is_word void) (is_punct p.RParen) (word (type_word w) s ∷ spell_specs n (spell_pointers q (spell_name x (spell_array a (spell_next_parameters m (punct p.RParen r ∷ ts)))))) ≡ false
void_by t.Void s NoSpecs q x a m r ts h = void_second q x a m r s ts h
void_by t.Void s (AndSpec s2 n) q x a m r ts h = spec_no_punct p.RParen s2 _
void_by _ s n q x a m r ts h = refl

abbrev pub HasSpec : Parameter → Type 0
HasSpec (Parametric s q x a) = IsSome s

pub not_void : (f : Parameter) (m : NextParameters) (r : Span) (ts : List Token) → HasSpec f → is_void f m ≡ false
    → starts_two (is_word w.Void) (is_punct p.RParen) (spell_parameter f (spell_next_parameters m (punct p.RParen r ∷ ts))) ≡ false
not_void (Parametric NoSpecs q x a) m r ts some h = absurd some
not_void (Parametric (AndSpec (WordSpec w s) n) q x a) m r ts some h = void_by w s n q x a m r ts h
not_void (Parametric (AndSpec (QualSpec q1) n) q x a) m r ts some h = qual_no_void q1 _
not_void (Parametric (AndSpec (TagSpec a1 x1) n) q x a) m r ts some h = refl
not_void (Parametric (AndSpec (StructSpec a1 x1 l1 m1 r1) n) q x a) m r ts some h = refl
