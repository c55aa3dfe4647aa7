-- What is read as a type is proper, and its tokens are those that were taken.
use Rattle.std.proofs.Common.{◌≡◌, ℕ, suc, ◌≤◌, Bool, true, false, List, [], ◌∷◌, Option, Some, None, Ok, refl, sym, ap, ◌∙◌, subst, arith}
use Rattle.upc_lexer.specs.declared.token.Token.{Token}
use Rattle.upc_lexer.specs.declared.token.TokenKind.{TokenKind}
use Rattle.upc_lexer.specs.declared.token.TokenKind.TheVariants as k
use Rattle.upc_lexer.specs.declared.token.Punct.TheVariants as p
use Rattle.upc_lexer.specs.declared.token.Word.TheVariants as w
use Rattle.upc_tree.specs.declared.span.Span.{Span}
use Rattle.upc_tree.specs.declared.span.Name.{Name}
use Rattle.upc_tree.specs.Marks.{type_word}
use Rattle.upc_tree.specs.Tokens.{token, punct, word, name_token}
use Rattle.upc_tree.specs.Expression.{Expr, Arguments, NextExprs, TypeName, Specs, NoSpecs, AndSpec, Spec, WordSpec, QualSpec, TagSpec, StructSpec, Quals, Qual, Shared, Layout, Pointers, NoPointers, Dimensions, NoDimensions, AndDimension, Members, NextDeclarators, Declarator, Parameters, Parameter, Parametric, NextParameters, NoNextParameters, ParameterArray, NoArray, UnsizedArray, SizedArray, spell_name, spell, spell_arguments, spell_next_exprs, spell_type, spell_specs, spell_spec, spell_quals, spell_qual, spell_layout, spell_pointers, spell_dimensions, spell_members, spell_next_declarators, spell_declarator, spell_parameters, spell_parameter, spell_next_parameters, spell_array, height, height_arguments, height_next_exprs, height_type, height_specs, height_spec, height_quals, height_qual, height_layout, height_pointers, height_dimensions, height_members, height_next_declarators, height_declarator, height_parameters, height_parameter, height_next_parameters, height_array}
use Rattle.upc_tree.specs.Proper.{level, IsSome, KeepsSizes, IsUnsized, open_qual, open_quals, open_spec, open_specs, open_pointers, Proper, ProperArguments, ProperNextExprs, ProperType, ProperSpecs, ProperSpec, ProperQuals, ProperQual, ProperLayout, ProperPointers, ProperDimensions, ProperMembers, ProperNextDeclarators, ProperDeclarator, ProperParameters, ProperParameter, ProperNextParameters, ProperArray}
use Rattle.upc_tree.specs.layer.Lists.{spell_member, height_member, specs_of, quals_of, pointers_of, dimensions_of, members_of, next_declarators_of, next_parameters_of, next_exprs_of}
use Rattle.upc_parser_ground.specs.layer.Outcome.{is_punct, is_word, starts, starts_two, expect_punct, expect_word}
use Rattle.upc_parser_ground.specs.layer.Tables.{spec_start, is_spec, is_qual}
use Rattle.upc_parser_types.specs.layer.Expression.{Level, dimension, dimensions, empty_layout, star_layout, star_fills, block_layout, layout, qual_by, qual, quals, pointer, pointers, spec, spec_from, specs, qual_from, struct_by, plain_type, type_name, unsized_array, sized_array, array, optional_name, optional_by, parameter, next_parameter, next_parameters, no_parameters, void_parameters, some_parameters, parameters_in, parameters, declarator_by, declarator, next_declarator, next_declarators, member, members, struct_body, structure, next_expr, next_exprs, some_arguments, arguments}
use Rattle.upc_tree.specs.declared.mark.TypeWord.{TypeWord}
use Rattle.upc_tree.specs.declared.mark.TypeWord.TheVariants as t
use Rattle.std.proofs.Common.{inl, inr}
use Rattle.upc_tree.specs.Proper.{IsMore, KeepsArray, is_void}
use Rattle.upc_parser_ground.specs.declared.start.QualWord.{QualWord}
use Rattle.upc_parser_ground.specs.declared.start.QualWord.TheVariants as q
use Rattle.upc_parser_ground.specs.declared.start.SpecStart.{SpecStart}
use Rattle.upc_parser_ground.specs.declared.start.SpecStart.TheVariants as start
use Rattle.upc_parser_ground.specs.declared.cursor.Fault.TheVariants.{NoTree}
use Rattle.upc_parser_ground.specs.layer.Outcome.{span_of}
use Rattle.upc_parser_ground.specs.layer.Tables.{qual_start}
use Rattle.upc_parser_ground.specs.layer.Outcome.{name}
use Rattle.upc_parser_ground.proofs.TableFacts.{qual_word, qual_forth, spec_forth}
use Rattle.upc_parser_ground.proofs.Sequence.{bind_ok, done, ok_is, if_ok, either, behind, punct_ok, word_ok, name_ok}
use Rattle.upc_parser_ground.proofs.Lists.{Follows, Finding, found, listed_finds}
use Rattle.upc_parser_laws.proofs.Listings.{spell_next_expr, height_next_expr, GoodNextExpr, spell_pointer, height_pointer, GoodPointer, spell_dimension, height_dimension, GoodDimension, GoodMember, spell_next_declarator, height_next_declarator, GoodNextDeclarator, spell_next_parameter, height_next_parameter, GoodNextParameter, next_exprs_kind, quals_kind, pointers_kind, dimensions_kind, members_kind, next_declarators_kind, next_parameters_kind}
use Rattle.upc_parser_laws.proofs.Stops.{StopsOpen, Allowed, AllAllowed}
use Rattle.upc_parser_laws.proofs.CompleteTypes.{IsStruct, GoodSpec, GoodSpecs, local_kind, FollowQual, Freely}

-- ---- what each parser finds

pub record FoundExpr (n least : ℕ) (ts : List Token) (x : Expr × List Token) : Type 0 where
  pub parts : ts ≡ spell x.0 x.1
  pub proper : Proper x.0
  pub tight : least ≤ level x.0
  pub high : height x.0 ≤ n

abbrev pub GoodStruct : Spec → Type 0
GoodStruct s = IsStruct s × ProperSpec s

pub record Finds (n : ℕ) (L : Level) : Type 0 where
  pub expr : (least : ℕ) (ts : List Token) (x : Expr × List Token) → least ≤ 14 → L.expr least ts ≡ Ok x → FoundExpr n least ts x
  pub arguments : (ts : List Token) (x : Arguments × List Token) → L.arguments ts ≡ Ok x → Finding spell_arguments height_arguments ProperArguments Freely n ts x
  pub structure : (ts : List Token) (x : Spec × List Token) → L.structure ts ≡ Ok x → Finding spell_spec height_spec GoodStruct Freely n ts x

-- ---- what follows the last of a list

abbrev pub OpenSpec : Spec → List Token → Type 0
OpenSpec s ts = StopsOpen (open_spec s) ts

abbrev pub OpenPointer : Span × Quals → List Token → Type 0
OpenPointer x ts = StopsOpen (open_quals false x.1) ts

quals_last : (q : Qual) (xs : List Qual) (rest : List Token) → Follows spell_qual FollowQual (q ∷ xs) rest → StopsOpen (open_quals (open_qual q) (quals_of xs)) rest
quals_last q [] rest f = f.0
quals_last q (x ∷ xs) rest f = quals_last x xs rest f.1

quals_open : (l : List Qual) (rest : List Token) → Follows spell_qual FollowQual l rest → StopsOpen (open_quals false (quals_of l)) rest
quals_open [] rest f = tt
quals_open (x ∷ xs) rest f = quals_last x xs rest f

specs_last : (s : Spec) (xs : List Spec) (rest : List Token) → Follows spell_spec OpenSpec (s ∷ xs) rest → StopsOpen (open_specs (open_spec s) (specs_of xs)) rest
specs_last s [] rest f = f.0
specs_last s (x ∷ xs) rest f = specs_last x xs rest f.1

specs_open : (l : List Spec) (rest : List Token) → Follows spell_spec OpenSpec l rest → StopsOpen (open_specs false (specs_of l)) rest
specs_open [] rest f = tt
specs_open (x ∷ xs) rest f = specs_last x xs rest f

-- what follows stars, where what stands before them is known
abbrev pub OpenPointers : Pointers → List Token → Type 0
OpenPointers u rest = (b : Bool) → StopsOpen b (spell_pointers u rest) → StopsOpen (open_pointers b u) rest

pointers_last : (p : Span × Quals) (xs : List (Span × Quals)) (rest : List Token) → Follows spell_pointer OpenPointer (p ∷ xs) rest → StopsOpen (open_pointers (open_quals false p.1) (pointers_of xs)) rest
pointers_last p [] rest f = f.0
pointers_last p (x ∷ xs) rest f = pointers_last x xs rest f.1

pointers_open : (l : List (Span × Quals)) (rest : List Token) → Follows spell_pointer OpenPointer l rest → OpenPointers (pointers_of l) rest
pointers_open [] rest f b st = st
pointers_open (x ∷ xs) rest f b st = pointers_last x xs rest f

keeps_sizes : (b : Bool) (d : Dimensions) (rest : List Token) → StopsOpen b (spell_dimensions d rest) → KeepsSizes b d
keeps_sizes b NoDimensions rest st = tt
keeps_sizes false (AndDimension l e r m) rest st = refl
keeps_sizes true (AndDimension l e r m) rest st = absurd cc

keeps_array : (b : Bool) (x : Option Name) (a : ParameterArray) (rest : List Token) → StopsOpen b (spell_name x (spell_array a rest)) → KeepsArray b x a
keeps_array b None NoArray rest st = tt
keeps_array b (Some x) NoArray rest st = tt
keeps_array b (Some x) (UnsizedArray l r) rest st = tt
keeps_array b (Some x) (SizedArray l e r) rest st = tt
keeps_array false None (UnsizedArray l r) rest st = refl
keeps_array true None (UnsizedArray l r) rest st = absurd cc
keeps_array false None (SizedArray l e r) rest st = refl
keeps_array true None (SizedArray l e r) rest st = absurd cc

-- what a list at block scope takes is allowed there
allowed_type : (w : TypeWord) (a : Span) (rest : List Token) → starts (is_spec true) (word (type_word w) a ∷ rest) ≡ true → Allowed true (WordSpec w a)
allowed_type t.Static a rest on = absurd cc
allowed_type _ a rest on = refl

allowed_of : (local : Bool) (s : Spec) (rest : List Token) → starts (is_spec local) (spell_spec s rest) ≡ true → Allowed local s
allowed_of false s rest on = tt
allowed_of true (WordSpec w a) rest on = allowed_type w a rest on
allowed_of true (QualSpec q) rest on = refl
allowed_of true (TagSpec a x) rest on = refl
allowed_of true (StructSpec a x l m r) rest on = refl

some_specs : (l : List Spec) (x : Spec) (xs : List Spec) → l ≡ x ∷ xs → IsSome (specs_of l)
some_specs l x xs e = subst (λ (l : List Spec). IsSome (specs_of l)) (sym e) tt

pub some_exprs : (l : List (Span × Expr)) (x : Span × Expr) (xs : List (Span × Expr)) → l ≡ x ∷ xs → IsMore (next_exprs_of l)
some_exprs l x xs e = subst (λ (l : List (Span × Expr)). IsMore (next_exprs_of l)) (sym e) tt

-- `void` alone is not read as a parameter
void_is : (f : Parameter) (m : NextParameters) (r : Span) (rest : List Token) → starts_two (is_word w.Void) (is_punct p.RParen) (spell_parameter f (spell_next_parameters m (punct p.RParen r ∷ rest))) ≡ false → is_void f m ≡ false
void_is (Parametric (AndSpec (WordSpec t.Void s) NoSpecs) NoPointers None NoArray) NoNextParameters r rest h = absurd cc
void_is _ _ r rest h = refl

-- a struct is no open qualifier
struct_closed : (s : Spec) (ts : List Token) → IsStruct s → OpenSpec s ts
struct_closed (WordSpec w a) ts is = absurd is
struct_closed (QualSpec q) ts is = absurd is
struct_closed (TagSpec a x) ts is = tt
struct_closed (StructSpec a x l m r) ts is = tt

module _ (n : ℕ) (L : Level) (ih : Finds n L) where
  -- ---- sizes and layouts

  dimension_finds : (ts : List Token) (x : (Span × Expr × Span) × List Token) → dimension L ts ≡ Ok x → Finding spell_dimension height_dimension GoodDimension Freely n ts x
  unfolding dimension
  dimension_finds ts x e =
      let a = bind_ok (expect_punct p.LBracket ts) _ x e in
      let b = bind_ok (L.expr 2 a.0.1) _ x a.2 in
      let c = bind_ok (expect_punct p.RBracket b.0.1) _ x b.2 in
      let f = ih.expr 2 a.0.1 b.0 (omega arith) b.1 in
      found c.2 (record {
        parts = punct_ok p.LBracket ts a.0 a.1 ∙ behind _ (f.parts ∙ ap (spell b.0.0) (punct_ok p.RBracket b.0.1 c.0 c.1));
        good = (f.tight, f.proper);
        low = f.high;
        follow = tt;
      })

  pub dimensions_finds : (ts : List Token) (x : Dimensions × List Token) → dimensions L ts ≡ Ok x → Finding spell_dimensions height_dimensions ProperDimensions Freely n ts x
  unfolding dimensions
  dimensions_finds ts x e =
      let f = listed_finds dimensions_of (starts (is_punct p.LBracket)) (dimension L) spell_dimension spell_dimensions height_dimension height_dimensions GoodDimension ProperDimensions Freely n dimensions_kind (λ ts x on e. dimension_finds ts x e) ts x e in
      record { parts = f.parts; good = f.good; low = f.low; follow = tt }

  abbrev FollowLayout : Span → Layout → List Token → Type 0
  FollowLayout word u ts = StopsOpen (open_qual (Shared word u)) ts

  empty_layout_finds : (word : Span) (ts : List Token) (x : Layout × List Token) → empty_layout L ts ≡ Ok x → Finding spell_layout height_layout ProperLayout (FollowLayout word) n ts x
  unfolding empty_layout
  empty_layout_finds word ts x e =
      let a = bind_ok (expect_punct p.LBracket ts) _ x e in
      let b = bind_ok (expect_punct p.RBracket a.0.1) _ x a.2 in
      found b.2 (record { parts = punct_ok p.LBracket ts a.0 a.1 ∙ behind _ (punct_ok p.RBracket a.0.1 b.0 b.1); good = tt; low = omega arith; follow = tt })

  star_layout_finds : (word : Span) (ts : List Token) (x : Layout × List Token) → star_layout L ts ≡ Ok x → Finding spell_layout height_layout ProperLayout (FollowLayout word) n ts x
  unfolding star_layout
  star_layout_finds word ts x e =
      let a = bind_ok (expect_punct p.LBracket ts) _ x e in
      let b = bind_ok (expect_punct p.Star a.0.1) _ x a.2 in
      let c = bind_ok (expect_punct p.RBracket b.0.1) _ x b.2 in
      found c.2 (record { parts = punct_ok p.LBracket ts a.0 a.1 ∙ behind _ (punct_ok p.Star a.0.1 b.0 b.1 ∙ behind _ (punct_ok p.RBracket b.0.1 c.0 c.1)); good = tt; low = omega arith; follow = tt })

  block_layout_finds : (word : Span) (ts : List Token) (x : Layout × List Token) → block_layout L ts ≡ Ok x → Finding spell_layout height_layout ProperLayout (FollowLayout word) n ts x
  unfolding block_layout
  block_layout_finds word ts x e =
      let a = bind_ok (dimension L ts) _ x e in
      let f = dimension_finds ts a.0 a.1 in
      found a.2 (record { parts = f.parts; good = f.good; low = f.low; follow = tt })

  layout_finds : (word : Span) (ts : List Token) (x : Layout × List Token) → layout L ts ≡ Ok x → Finding spell_layout height_layout ProperLayout (FollowLayout word) n ts x
  unfolding layout
  layout_finds word ts x e = elim (either (starts (is_punct p.LBracket) ts) _ _ (done x) e) [
    | inl a ↦ elim (either (starts_two (is_punct p.LBracket) (is_punct p.RBracket) ts) _ _ (done x) a.1) [
      | inl b ↦ empty_layout_finds word ts x b.1
      | inr b ↦ elim (either (star_fills ts) _ _ (done x) b.1) [
        | inl c ↦ star_layout_finds word ts x c.1
        | inr c ↦ block_layout_finds word ts x c.1
      ]
    ]
    | inr a ↦ found a.1 (record { parts = refl; good = tt; low = omega arith; follow = a.0 })
  ]

  -- ---- qualifiers and stars

  qual_by_finds : (w : QualWord) (at : Span) (ts : List Token) (x : Qual × List Token) → qual_by L w at ts ≡ Ok x → Finding spell_qual height_qual ProperQual FollowQual n (word (qual_word w) at ∷ ts) x
  unfolding qual_by
  qual_by_finds q.Const at ts x e = found e (record { parts = refl; good = tt; low = omega arith; follow = tt })
  qual_by_finds q.Strict at ts x e = found e (record { parts = refl; good = tt; low = omega arith; follow = tt })
  qual_by_finds q.Relaxed at ts x e = found e (record { parts = refl; good = tt; low = omega arith; follow = tt })
  qual_by_finds q.Shared at ts x e =
      let a = bind_ok (layout L ts) _ x e in
      let f = layout_finds at ts a.0 a.1 in
      found a.2 (record { parts = behind _ f.parts; good = f.good; low = f.low; follow = f.follow })

  -- the first token of what was read
  first_is : {X : Type 0} {spell : X → List Token → List Token} {height : X → ℕ} {Good : X → Type 0} {Follow : X → List Token → Type 0} (y z : Token) (ts : List Token) (x : X × List Token)
      → y ≡ z → Finding spell height Good Follow n (z ∷ ts) x → Finding spell height Good Follow n (y ∷ ts) x
  first_is {spell = spell} {height = height} {Good = Good} {Follow = Follow} y z ts x e f = subst (λ q. Finding spell height Good Follow n (q ∷ ts) x) (sym e) f

  qual_from_finds : (o : Option QualWord) (y : Token) (ts : List Token) (x : Qual × List Token) → qual_start y.kind ≡ o → qual_from L o (span_of y) ts ≡ Ok x → Finding spell_qual height_qual ProperQual FollowQual n (y ∷ ts) x
  qual_from_finds None y ts x o e = absurd cc
  qual_from_finds (Some w) y ts x o e =
      first_is y (word (qual_word w) (span_of y)) ts x (ap (λ k. token k (span_of y)) (qual_forth y.kind w o)) (qual_by_finds w (span_of y) ts x e)

  qual_finds : (ts : List Token) (x : Qual × List Token) → qual L ts ≡ Ok x → Finding spell_qual height_qual ProperQual FollowQual n ts x
  unfolding qual
  qual_finds [] x e = absurd cc
  qual_finds (y ∷ ts) x e = qual_from_finds (qual_start y.kind) y ts x refl e

  abbrev OpenQuals : Quals → List Token → Type 0
  OpenQuals u ts = StopsOpen (open_quals false u) ts

  quals_finds : (ts : List Token) (x : Quals × List Token) → quals L ts ≡ Ok x → Finding spell_quals height_quals ProperQuals OpenQuals n ts x
  unfolding quals
  quals_finds ts x e =
      let f = listed_finds quals_of (starts is_qual) (qual L) spell_qual spell_quals height_qual height_quals ProperQual ProperQuals FollowQual n quals_kind (λ ts x on e. qual_finds ts x e) ts x e in
      record { parts = f.parts; good = f.good; low = f.low; follow = subst (λ u. OpenQuals u x.1) f.is (quals_open f.list x.1 f.follows) }

  pointer_finds : (ts : List Token) (x : (Span × Quals) × List Token) → pointer L ts ≡ Ok x → Finding spell_pointer height_pointer GoodPointer OpenPointer n ts x
  unfolding pointer
  pointer_finds ts x e =
      let a = bind_ok (expect_punct p.Star ts) _ x e in
      let b = bind_ok (quals L a.0.1) _ x a.2 in
      let f = quals_finds a.0.1 b.0 b.1 in
      found b.2 (record { parts = punct_ok p.Star ts a.0 a.1 ∙ behind _ f.parts; good = f.good; low = f.low; follow = f.follow })

  pub pointers_finds : (ts : List Token) (x : Pointers × List Token) → pointers L ts ≡ Ok x → Finding spell_pointers height_pointers ProperPointers OpenPointers n ts x
  unfolding pointers
  pointers_finds ts x e =
      let f = listed_finds pointers_of (starts (is_punct p.Star)) (pointer L) spell_pointer spell_pointers height_pointer height_pointers GoodPointer ProperPointers OpenPointer n pointers_kind (λ ts x on e. pointer_finds ts x e) ts x e in
      record { parts = f.parts; good = f.good; low = f.low; follow = subst (λ u. OpenPointers u x.1) f.is (pointers_open f.list x.1 f.follows) }

  -- ---- specifiers

  spec_from_finds : (o : Option SpecStart) (y : Token) (ts : List Token) (x : Spec × List Token) → spec_start y.kind ≡ o → spec_from L o y ts ≡ Ok x → Finding spell_spec height_spec ProperSpec OpenSpec n (y ∷ ts) x
  spec_from_finds None y ts x o e = absurd cc
  spec_from_finds (Some (start.Type w)) y ts x o e =
      first_is y (word (type_word w) (span_of y)) ts x (ap (λ k. token k (span_of y)) (spec_forth y.kind (start.Type w) o)) (found e (record { parts = refl; good = tt; low = omega arith; follow = tt }))
  spec_from_finds (Some (start.Qual w)) y ts x o e =
      let a = bind_ok (qual_by L w (span_of y) ts) _ x e in
      let f = qual_by_finds w (span_of y) ts a.0 a.1 in
      first_is y (word (qual_word w) (span_of y)) ts x (ap (λ k. token k (span_of y)) (spec_forth y.kind (start.Qual w) o)) (found a.2 (record { parts = f.parts; good = f.good; low = f.low; follow = f.follow }))
  spec_from_finds (Some start.Struct) y ts x o e =
      let f = ih.structure (y ∷ ts) x e in
      record { parts = f.parts; good = f.good.1; low = f.low; follow = struct_closed x.0 x.1 f.good.0 }

  spec_finds : (local : Bool) (ts : List Token) (x : Spec × List Token) → starts (is_spec local) ts ≡ true → spec L ts ≡ Ok x → Finding spell_spec height_spec (GoodSpec local) OpenSpec n ts x
  unfolding spec
  spec_finds local [] x on e = absurd cc
  spec_finds local (y ∷ ts) x on e =
      let f = spec_from_finds (spec_start y.kind) y ts x refl e in
      record { parts = f.parts; good = (f.good, allowed_of local x.0 x.1 (sym (ap (starts (is_spec local)) f.parts) ∙ on)); low = f.low; follow = f.follow }

  pub record FoundSpecs (local : Bool) (ts : List Token) (x : Specs × List Token) : Type 0 where
    pub parts : ts ≡ spell_specs x.0 x.1
    pub some : IsSome x.0
    pub proper : ProperSpecs x.0
    pub allowed : AllAllowed local x.0
    pub low : height_specs x.0 ≤ n
    pub stops : StopsOpen (open_specs false x.0) x.1

  pub specs_finds : (local : Bool) (ts : List Token) (x : Specs × List Token) → specs L local ts ≡ Ok x → FoundSpecs local ts x
  unfolding specs
  specs_finds local ts x e =
      let on = if_ok (starts (is_spec local) ts) _ NoTree x e in
      let f = listed_finds specs_of (starts (is_spec local)) (spec L) spell_spec spell_specs height_spec height_specs (GoodSpec local) (GoodSpecs local) OpenSpec n (local_kind local) (spec_finds local) ts x on.1 in
      let some = f.some on.0 refl in
      record {
        parts = f.parts;
        some = subst IsSome f.is (some_specs f.list some.0 some.1 some.2);
        proper = f.good.0;
        allowed = f.good.1;
        low = f.low;
        stops = subst (λ u. StopsOpen (open_specs false u) x.1) f.is (specs_open f.list x.1 f.follows);
      }

  -- ---- type names

  pub plain_finds : (ts : List Token) (x : TypeName × List Token) → plain_type L ts ≡ Ok x → Finding spell_type height_type (λ u. IsUnsized u × ProperType u) Freely n ts x
  unfolding plain_type
  plain_finds ts x e =
      let a = bind_ok (specs L false ts) _ x e in
      let b = bind_ok (pointers L a.0.1) _ x a.2 in
      let f = specs_finds false ts a.0 a.1 in
      let g = pointers_finds a.0.1 b.0 b.1 in
      found b.2 (record { parts = f.parts ∙ ap (spell_specs a.0.0) g.parts; good = (tt, (f.some, f.proper, g.good, tt, tt)); low = omega (arith, f.low, g.low); follow = tt })

  -- what follows the specifiers and the stars of one type
  open_type : (s : Specs) (q : Pointers) (ts rest : List Token) → StopsOpen (open_specs false s) ts → ts ≡ spell_pointers q rest → OpenPointers q rest → StopsOpen (open_pointers (open_specs false s) q) rest
  open_type s q ts rest st parts follow = follow (open_specs false s) (subst (StopsOpen (open_specs false s)) parts st)

  pub type_finds : (ts : List Token) (x : TypeName × List Token) → type_name L ts ≡ Ok x → Finding spell_type height_type ProperType Freely n ts x
  unfolding type_name
  type_finds ts x e =
      let a = bind_ok (specs L false ts) _ x e in
      let b = bind_ok (pointers L a.0.1) _ x a.2 in
      let c = bind_ok (dimensions L b.0.1) _ x b.2 in
      let f = specs_finds false ts a.0 a.1 in
      let g = pointers_finds a.0.1 b.0 b.1 in
      let h = dimensions_finds b.0.1 c.0 c.1 in
      let stops = open_type a.0.0 b.0.0 a.0.1 b.0.1 f.stops g.parts g.follow in
      let keeps = keeps_sizes (open_pointers (open_specs false a.0.0) b.0.0) c.0.0 c.0.1 (subst (StopsOpen (open_pointers (open_specs false a.0.0) b.0.0)) h.parts stops) in
      found c.2 (record {
        parts = f.parts ∙ ap (spell_specs a.0.0) (g.parts ∙ ap (spell_pointers b.0.0) h.parts);
        good = (f.some, f.proper, g.good, h.good, keeps);
        low = omega (arith, f.low, g.low, h.low);
        follow = tt;
      })

  -- ---- declarators

  array_finds : (ts : List Token) (x : ParameterArray × List Token) → array L ts ≡ Ok x → Finding spell_array height_array ProperArray Freely n ts x
  unfolding array unsized_array sized_array
  array_finds ts x e = elim (either (starts (is_punct p.LBracket) ts) _ _ (done x) e) [
    | inl a ↦ elim (either (starts_two (is_punct p.LBracket) (is_punct p.RBracket) ts) _ _ (done x) a.1) [
      | inl b ↦
          let c = bind_ok (expect_punct p.LBracket ts) _ x b.1 in
          let d = bind_ok (expect_punct p.RBracket c.0.1) _ x c.2 in
          found d.2 (record { parts = punct_ok p.LBracket ts c.0 c.1 ∙ behind _ (punct_ok p.RBracket c.0.1 d.0 d.1); good = tt; low = omega arith; follow = tt })
      | inr b ↦
          let c = bind_ok (dimension L ts) _ x b.1 in
          let f = dimension_finds ts c.0 c.1 in
          found c.2 (record { parts = f.parts; good = f.good; low = f.low; follow = tt })
    ]
    | inr a ↦ found a.1 (record { parts = refl; good = tt; low = omega arith; follow = tt })
  ]

  optional_by_finds : (kind : TokenKind) (y : Token) (ts : List Token) (x : Option Name × List Token) → y.kind ≡ kind → optional_by kind y ts ≡ Ok x → y ∷ ts ≡ spell_name x.0 x.1
  optional_by_finds (k.Name number) y ts x o e =
      let start : y ≡ name_token (record { number = number; span = span_of y }) = ap (λ k. token k (span_of y)) o in
      subst (λ (q : Option Name × List Token). y ∷ ts ≡ spell_name q.0 q.1) (ok_is _ x e) (ap (λ q. q ∷ ts) start)
  optional_by_finds _ y ts x o e = subst (λ (q : Option Name × List Token). y ∷ ts ≡ spell_name q.0 q.1) (ok_is _ x e) refl

  optional_finds : (ts : List Token) (x : Option Name × List Token) → optional_name ts ≡ Ok x → ts ≡ spell_name x.0 x.1
  optional_finds [] x e = subst (λ (q : Option Name × List Token). [] ≡ spell_name q.0 q.1) (ok_is _ x e) refl
  optional_finds (y ∷ ts) x e = optional_by_finds y.kind y ts x refl e

  parameter_finds : (ts : List Token) (x : Parameter × List Token) → parameter L ts ≡ Ok x → Finding spell_parameter height_parameter ProperParameter Freely n ts x
  unfolding parameter
  parameter_finds ts x e =
      let a = bind_ok (specs L false ts) _ x e in
      let b = bind_ok (pointers L a.0.1) _ x a.2 in
      let c = bind_ok (optional_name b.0.1) _ x b.2 in
      let d = bind_ok (array L c.0.1) _ x c.2 in
      let f = specs_finds false ts a.0 a.1 in
      let g = pointers_finds a.0.1 b.0 b.1 in
      let i = optional_finds b.0.1 c.0 c.1 in
      let h = array_finds c.0.1 d.0 d.1 in
      let stops = open_type a.0.0 b.0.0 a.0.1 b.0.1 f.stops g.parts g.follow in
      let named = i ∙ ap (spell_name c.0.0) h.parts in
      let keeps = keeps_array (open_pointers (open_specs false a.0.0) b.0.0) c.0.0 d.0.0 d.0.1 (subst (StopsOpen (open_pointers (open_specs false a.0.0) b.0.0)) named stops) in
      found d.2 (record {
        parts = f.parts ∙ ap (spell_specs a.0.0) (g.parts ∙ ap (spell_pointers b.0.0) named);
        good = (f.some, f.proper, g.good, h.good, keeps);
        low = omega (arith, f.low, g.low, h.low);
        follow = tt;
      })

  next_parameter_finds : (ts : List Token) (x : (Span × Parameter) × List Token) → next_parameter L ts ≡ Ok x → Finding spell_next_parameter height_next_parameter GoodNextParameter Freely n ts x
  unfolding next_parameter
  next_parameter_finds ts x e =
      let a = bind_ok (expect_punct p.Comma ts) _ x e in
      let b = bind_ok (parameter L a.0.1) _ x a.2 in
      let f = parameter_finds a.0.1 b.0 b.1 in
      found b.2 (record { parts = punct_ok p.Comma ts a.0 a.1 ∙ behind _ f.parts; good = f.good; low = f.low; follow = tt })

  next_parameters_finds : (ts : List Token) (x : NextParameters × List Token) → next_parameters L ts ≡ Ok x → Finding spell_next_parameters height_next_parameters ProperNextParameters Freely n ts x
  unfolding next_parameters
  next_parameters_finds ts x e =
      let f = listed_finds next_parameters_of (starts (is_punct p.Comma)) (next_parameter L) spell_next_parameter spell_next_parameters height_next_parameter height_next_parameters GoodNextParameter ProperNextParameters Freely n next_parameters_kind (λ ts x on e. next_parameter_finds ts x e) ts x e in
      record { parts = f.parts; good = f.good; low = f.low; follow = tt }

  parameters_in_finds : (left : Span) (ts : List Token) (x : Parameters × List Token) → parameters_in L left ts ≡ Ok x → Finding spell_parameters height_parameters ProperParameters Freely n (punct p.LParen left ∷ ts) x
  unfolding parameters_in no_parameters void_parameters some_parameters
  parameters_in_finds left ts x e = elim (either (starts (is_punct p.RParen) ts) _ _ (done x) e) [
    | inl a ↦
        let b = bind_ok (expect_punct p.RParen ts) _ x a.1 in
        found b.2 (record { parts = behind _ (punct_ok p.RParen ts b.0 b.1); good = tt; low = omega arith; follow = tt })
    | inr a ↦ elim (either (starts_two (is_word w.Void) (is_punct p.RParen) ts) _ _ (done x) a.1) [
      | inl b ↦
          let c = bind_ok (expect_word w.Void ts) _ x b.1 in
          let d = bind_ok (expect_punct p.RParen c.0.1) _ x c.2 in
          found d.2 (record { parts = behind _ (word_ok w.Void ts c.0 c.1 ∙ behind _ (punct_ok p.RParen c.0.1 d.0 d.1)); good = tt; low = omega arith; follow = tt })
      | inr b ↦
          let c = bind_ok (parameter L ts) _ x b.1 in
          let d = bind_ok (next_parameters L c.0.1) _ x c.2 in
          let i = bind_ok (expect_punct p.RParen d.0.1) _ x d.2 in
          let f = parameter_finds ts c.0 c.1 in
          let g = next_parameters_finds c.0.1 d.0 d.1 in
          let whole = f.parts ∙ ap (spell_parameter c.0.0) (g.parts ∙ ap (spell_next_parameters d.0.0) (punct_ok p.RParen d.0.1 i.0 i.1)) in
          found i.2 (record {
            parts = behind _ whole;
            good = (void_is c.0.0 d.0.0 i.0.0 i.0.1 (sym (ap (starts_two (is_word w.Void) (is_punct p.RParen)) whole) ∙ b.0), f.good, g.good);
            low = omega (arith, f.low, g.low);
            follow = tt;
          })
    ]
  ]

  pub parameters_finds : (ts : List Token) (x : Parameters × List Token) → parameters L ts ≡ Ok x → Finding spell_parameters height_parameters ProperParameters Freely n ts x
  unfolding parameters
  parameters_finds ts x e =
      let a = bind_ok (expect_punct p.LParen ts) _ x e in
      let f = parameters_in_finds a.0.0 a.0.1 x a.2 in
      record { parts = punct_ok p.LParen ts a.0 a.1 ∙ f.parts; good = f.good; low = f.low; follow = tt }

  pub declarator_by_finds : (q : Pointers) (d : Name) (ts : List Token) (x : Declarator × List Token) → ProperPointers q → height_pointers q ≤ n → declarator_by L q d ts ≡ Ok x
      → Finding spell_declarator height_declarator ProperDeclarator Freely n (spell_pointers q (name_token d ∷ ts)) x
  unfolding declarator_by
  declarator_by_finds q d ts x pr lo e = elim (either (starts (is_punct p.LParen) ts) _ _ (done x) e) [
    | inl a ↦
        let b = bind_ok (parameters L ts) _ x a.1 in
        let f = parameters_finds ts b.0 b.1 in
        found b.2 (record { parts = ap (spell_pointers q) (behind _ f.parts); good = (pr, f.good); low = omega (arith, f.low); follow = tt })
    | inr a ↦
        let b = bind_ok (dimensions L ts) _ x a.1 in
        let f = dimensions_finds ts b.0 b.1 in
        found b.2 (record { parts = ap (spell_pointers q) (behind _ f.parts); good = (pr, f.good); low = omega (arith, f.low); follow = tt })
  ]

  pub declarator_finds : (ts : List Token) (x : Declarator × List Token) → declarator L ts ≡ Ok x → Finding spell_declarator height_declarator ProperDeclarator Freely n ts x
  unfolding declarator
  declarator_finds ts x e =
      let a = bind_ok (pointers L ts) _ x e in
      let b = bind_ok (name a.0.1) _ x a.2 in
      let f = pointers_finds ts a.0 a.1 in
      let g = declarator_by_finds a.0.0 b.0.0 b.0.1 x f.good f.low b.2 in
      record { parts = f.parts ∙ ap (spell_pointers a.0.0) (name_ok a.0.1 b.0 b.1) ∙ g.parts; good = g.good; low = g.low; follow = tt }

  next_declarator_finds : (ts : List Token) (x : (Span × Declarator) × List Token) → next_declarator L ts ≡ Ok x → Finding spell_next_declarator height_next_declarator GoodNextDeclarator Freely n ts x
  unfolding next_declarator
  next_declarator_finds ts x e =
      let a = bind_ok (expect_punct p.Comma ts) _ x e in
      let b = bind_ok (declarator L a.0.1) _ x a.2 in
      let f = declarator_finds a.0.1 b.0 b.1 in
      found b.2 (record { parts = punct_ok p.Comma ts a.0 a.1 ∙ behind _ f.parts; good = f.good; low = f.low; follow = tt })

  next_declarators_finds : (ts : List Token) (x : NextDeclarators × List Token) → next_declarators L ts ≡ Ok x → Finding spell_next_declarators height_next_declarators ProperNextDeclarators Freely n ts x
  unfolding next_declarators
  next_declarators_finds ts x e =
      let f = listed_finds next_declarators_of (starts (is_punct p.Comma)) (next_declarator L) spell_next_declarator spell_next_declarators height_next_declarator height_next_declarators GoodNextDeclarator ProperNextDeclarators Freely n next_declarators_kind (λ ts x on e. next_declarator_finds ts x e) ts x e in
      record { parts = f.parts; good = f.good; low = f.low; follow = tt }

  -- ---- structs

  member_finds : (ts : List Token) (x : (Specs × Declarator × NextDeclarators × Span) × List Token) → member L ts ≡ Ok x → Finding spell_member height_member GoodMember Freely n ts x
  unfolding member
  member_finds ts x e =
      let a = bind_ok (specs L false ts) _ x e in
      let b = bind_ok (declarator L a.0.1) _ x a.2 in
      let c = bind_ok (next_declarators L b.0.1) _ x b.2 in
      let d = bind_ok (expect_punct p.Semicolon c.0.1) _ x c.2 in
      let f = specs_finds false ts a.0 a.1 in
      let g = declarator_finds a.0.1 b.0 b.1 in
      let h = next_declarators_finds b.0.1 c.0 c.1 in
      found d.2 (record {
        parts = f.parts ∙ ap (spell_specs a.0.0) (g.parts ∙ ap (spell_declarator b.0.0) (h.parts ∙ ap (spell_next_declarators c.0.0) (punct_ok p.Semicolon c.0.1 d.0 d.1)));
        good = (f.some, f.proper, g.good, h.good);
        low = omega (arith, f.low, g.low, h.low);
        follow = tt;
      })

  members_finds : (ts : List Token) (x : Members × List Token) → members L ts ≡ Ok x → Finding spell_members height_members ProperMembers Freely n ts x
  unfolding members
  members_finds ts x e =
      let f = listed_finds members_of (starts (is_spec false)) (member L) spell_member spell_members height_member height_members GoodMember ProperMembers Freely n members_kind (λ ts x on e. member_finds ts x e) ts x e in
      record { parts = f.parts; good = f.good; low = f.low; follow = tt }

  struct_by_finds : (at : Span) (tag : Name) (ts : List Token) (x : Spec × List Token) → struct_by L at tag ts ≡ Ok x → Finding spell_spec height_spec GoodStruct Freely (suc n) (word w.Struct at ∷ name_token tag ∷ ts) x
  unfolding struct_body
  struct_by_finds at tag ts x e = elim (either (starts (is_punct p.LBrace) ts) _ _ (done x) e) [
    | inl a ↦
        let b = bind_ok (expect_punct p.LBrace ts) _ x a.1 in
        let c = bind_ok (members L b.0.1) _ x b.2 in
        let d = bind_ok (expect_punct p.RBrace c.0.1) _ x c.2 in
        let f = members_finds b.0.1 c.0 c.1 in
        found d.2 (record {
          parts = behind _ (behind _ (punct_ok p.LBrace ts b.0 b.1 ∙ behind _ (f.parts ∙ ap (spell_members c.0.0) (punct_ok p.RBrace c.0.1 d.0 d.1))));
          good = (tt, f.good);
          low = omega (arith, f.low);
          follow = tt;
        })
    | inr a ↦ found a.1 (record { parts = refl; good = (tt, tt); low = omega arith; follow = tt })
  ]

  pub structure_finds : (ts : List Token) (x : Spec × List Token) → structure L ts ≡ Ok x → Finding spell_spec height_spec GoodStruct Freely (suc n) ts x
  unfolding structure
  structure_finds ts x e =
      let a = bind_ok (expect_word w.Struct ts) _ x e in
      let b = bind_ok (name a.0.1) _ x a.2 in
      let f = struct_by_finds a.0.0 b.0.0 b.0.1 x b.2 in
      record { parts = word_ok w.Struct ts a.0 a.1 ∙ behind _ (name_ok a.0.1 b.0 b.1) ∙ f.parts; good = f.good; low = f.low; follow = tt }

  -- ---- lists of expressions

  next_expr_finds : (ts : List Token) (x : (Span × Expr) × List Token) → next_expr L ts ≡ Ok x → Finding spell_next_expr height_next_expr GoodNextExpr Freely n ts x
  unfolding next_expr
  next_expr_finds ts x e =
      let a = bind_ok (expect_punct p.Comma ts) _ x e in
      let b = bind_ok (L.expr 1 a.0.1) _ x a.2 in
      let f = ih.expr 1 a.0.1 b.0 (omega arith) b.1 in
      found b.2 (record { parts = punct_ok p.Comma ts a.0 a.1 ∙ behind _ f.parts; good = (f.tight, f.proper); low = f.high; follow = tt })

  abbrev pub MoreWhere : List Token → NextExprs → List Token → Type 0
  MoreWhere ts u rest = starts (is_punct p.Comma) ts ≡ true → IsMore u

  pub next_exprs_finds : (ts : List Token) (x : NextExprs × List Token) → next_exprs L ts ≡ Ok x → Finding spell_next_exprs height_next_exprs ProperNextExprs (MoreWhere ts) n ts x
  unfolding next_exprs
  next_exprs_finds ts x e =
      let f = listed_finds next_exprs_of (starts (is_punct p.Comma)) (next_expr L) spell_next_expr spell_next_exprs height_next_expr height_next_exprs GoodNextExpr ProperNextExprs Freely n next_exprs_kind (λ ts x on e. next_expr_finds ts x e) ts x e in
      record { parts = f.parts; good = f.good; low = f.low; follow = λ on. let some = f.some on refl in subst IsMore f.is (some_exprs f.list some.0 some.1 some.2) }

  pub arguments_finds : (ts : List Token) (x : Arguments × List Token) → arguments L ts ≡ Ok x → Finding spell_arguments height_arguments ProperArguments Freely (suc n) ts x
  unfolding arguments some_arguments
  arguments_finds ts x e = elim (either (starts (is_punct p.RParen) ts) _ _ (done x) e) [
    | inl a ↦
        let b = bind_ok (expect_punct p.RParen ts) _ x a.1 in
        found b.2 (record { parts = punct_ok p.RParen ts b.0 b.1; good = tt; low = omega arith; follow = tt })
    | inr a ↦
        let b = bind_ok (L.expr 1 ts) _ x a.1 in
        let c = bind_ok (next_exprs L b.0.1) _ x b.2 in
        let d = bind_ok (expect_punct p.RParen c.0.1) _ x c.2 in
        let f = ih.expr 1 ts b.0 (omega arith) b.1 in
        let g = next_exprs_finds b.0.1 c.0 c.1 in
        found d.2 (record {
          parts = f.parts ∙ ap (spell b.0.0) (g.parts ∙ ap (spell_next_exprs c.0.0) (punct_ok p.RParen c.0.1 d.0 d.1));
          good = (f.tight, f.proper, g.good);
          low = omega (arith, f.high, g.low);
          follow = tt;
        })
  ]
