-- What the parser finds of a declaration, and of the parts of statements that are no statements, has the tokens, is proper and is low.
use Rattle.std.proofs.Common.{◌≡◌, ℕ, zero, suc, ◌≤◌, max, true, List, [], ◌∷◌, length, Option, Ok, refl, ap, ◌∙◌, subst, inl, inr, arith}
use Rattle.upc_lexer.specs.declared.token.Token.{Token}
use Rattle.upc_lexer.specs.declared.token.TokenKind.{TokenKind}
use Rattle.upc_lexer.specs.declared.token.TokenKind.TheVariants as k
use Rattle.upc_lexer.specs.declared.token.Punct.{Punct}
use Rattle.upc_lexer.specs.declared.token.Punct.TheVariants as p
use Rattle.upc_lexer.specs.declared.token.Word.TheVariants as w
use Rattle.upc_tree.specs.declared.span.Span.{Span}
use Rattle.upc_tree.specs.declared.span.Pragma.{Pragma}
use Rattle.upc_tree.specs.Tokens.{token, pragma_token, spell_pragmas}
use Rattle.upc_tree.specs.Expression.{Expr, spell, spell_next_exprs, spell_specs, spell_declarator}
use Rattle.upc_tree.specs.Declaration.{Initial, Declared, NextDeclareds, DeclaredList, Declaration, spell_initial, spell_declared, spell_next_declareds, spell_declared_list, spell_declaration, height_initial, height_declared, height_next_declareds, height_declared_list, height_declaration, ProperInitial, ProperDeclared, ProperNextDeclareds, ProperDeclaredList, ProperDeclaration, IsLocal}
use Rattle.upc_tree.specs.Statement.{Test, First, Affinity, ForHead, ForallHead, spell_value, spell_test, spell_first, spell_affinity, spell_for, spell_forall, height_value, height_test, height_first, height_affinity, height_for, height_forall, ProperValue, ProperTest, ProperFirst, ProperAffinity, ProperFor, ProperForall}
use Rattle.upc_tree.specs.layer.Lists.{next_declareds_of}
use Rattle.upc_parser_ground.specs.layer.Outcome.{span_of, is_punct, is_word, starts, starts_two, expect_punct, expect_word, many}
use Rattle.upc_parser_ground.specs.layer.Tables.{is_spec}
use Rattle.upc_parser_ground.specs.layer.Ahead.{is_pragma}
use Rattle.upc_parser_types.specs.layer.Expression.{at_height, next_exprs, specs, declarator}
use Rattle.upc_parser_ground.proofs.Sequence.{bind_ok, done, ok_is, either, behind, punct_ok, word_ok}
use Rattle.upc_parser_ground.proofs.Lists.{Finding, found, listed_finds}
use Rattle.upc_parser_laws.proofs.CompleteTypes.{Freely}
use Rattle.upc_parser_laws.proofs.SoundTypes.{next_exprs_finds, declarator_finds, specs_finds}
use Rattle.upc_parser_laws.proofs.SoundExpressions.{finds}
use Rattle.upc_parser_statements.specs.layer.Parse.{value_initial, list_initial, initial, declared, next_declared, next_declareds, some_declared, declared_list, declaration, declaration_at, value, controlling, first, first_value, first_declaration, affinity, continue_affinity, value_affinity, for_head, forall_head, pragma, pragma_by, pragmas}
use Rattle.upc_parser_laws.proofs.StatementListings.{spell_next_declared, height_next_declared, GoodNextDeclared, next_declareds_kind}

abbrev pub GoodLocal : Declaration → Type 0
GoodLocal u = IsLocal u × ProperDeclaration u

module _ (n : ℕ) where
  -- ---- initialisers

  value_initial_finds : (ts : List Token) (x : Initial × List Token) → value_initial n ts ≡ Ok x → Finding spell_initial height_initial ProperInitial Freely n ts x
  unfolding value_initial
  value_initial_finds ts x e =
      let a = bind_ok (expect_punct p.Equal ts) _ x e in
      let b = bind_ok ((at_height n).expr 1 a.0.1) _ x a.2 in
      let f = (finds n).expr 1 a.0.1 b.0 (omega arith) b.1 in
      found b.2 (record { parts = punct_ok p.Equal ts a.0 a.1 ∙ behind _ f.parts; good = (f.tight, f.proper); low = f.high; follow = tt })

  list_initial_finds : (ts : List Token) (x : Initial × List Token) → list_initial n ts ≡ Ok x → Finding spell_initial height_initial ProperInitial Freely n ts x
  unfolding list_initial
  list_initial_finds ts x e =
      let a = bind_ok (expect_punct p.Equal ts) _ x e in
      let b = bind_ok (expect_punct p.LBrace a.0.1) _ x a.2 in
      let c = bind_ok ((at_height n).expr 1 b.0.1) _ x b.2 in
      let d = bind_ok (next_exprs (at_height n) c.0.1) _ x c.2 in
      let r = bind_ok (expect_punct p.RBrace d.0.1) _ x d.2 in
      let f = (finds n).expr 1 b.0.1 c.0 (omega arith) c.1 in
      let g = next_exprs_finds n (at_height n) (finds n) c.0.1 d.0 d.1 in
      found r.2 (record {
        parts = punct_ok p.Equal ts a.0 a.1 ∙ behind _ (punct_ok p.LBrace a.0.1 b.0 b.1 ∙ behind _ (f.parts ∙ ap (spell c.0.0) (g.parts ∙ ap (spell_next_exprs d.0.0) (punct_ok p.RBrace d.0.1 r.0 r.1))));
        good = (f.tight, f.proper, g.good);
        low = omega (arith, f.high, g.low);
        follow = tt;
      })

  pub initial_finds : (ts : List Token) (x : Initial × List Token) → initial n ts ≡ Ok x → Finding spell_initial height_initial ProperInitial Freely n ts x
  unfolding initial
  initial_finds ts x e = elim (either (starts (is_punct p.Equal) ts) _ _ (done x) e) [
    | inl on ↦ elim (either (starts_two (is_punct p.Equal) (is_punct p.LBrace) ts) _ _ (done x) on.1) [
      | inl a ↦ list_initial_finds ts x a.1
      | inr a ↦ value_initial_finds ts x a.1
    ]
    | inr off ↦ found off.1 (record { parts = refl; good = tt; low = omega arith; follow = tt })
  ]

  -- ---- what a declaration declares

  declared_finds : (ts : List Token) (x : Declared × List Token) → declared n ts ≡ Ok x → Finding spell_declared height_declared ProperDeclared Freely n ts x
  unfolding declared
  declared_finds ts x e =
      let a = bind_ok (declarator (at_height n) ts) _ x e in
      let b = bind_ok (initial n a.0.1) _ x a.2 in
      let f = declarator_finds n (at_height n) (finds n) ts a.0 a.1 in
      let g = initial_finds a.0.1 b.0 b.1 in
      found b.2 (record { parts = f.parts ∙ ap (spell_declarator a.0.0) g.parts; good = (f.good, g.good); low = omega (arith, f.low, g.low); follow = tt })

  next_declared_finds : (ts : List Token) (x : (Span × Declared) × List Token) → starts (is_punct p.Comma) ts ≡ true → next_declared n ts ≡ Ok x → Finding spell_next_declared height_next_declared GoodNextDeclared Freely n ts x
  unfolding next_declared
  next_declared_finds ts x on e =
      let a = bind_ok (expect_punct p.Comma ts) _ x e in
      let b = bind_ok (declared n a.0.1) _ x a.2 in
      let f = declared_finds a.0.1 b.0 b.1 in
      found b.2 (record { parts = punct_ok p.Comma ts a.0 a.1 ∙ behind _ f.parts; good = f.good; low = f.low; follow = tt })

  pub next_declareds_finds : (ts : List Token) (x : NextDeclareds × List Token) → next_declareds n ts ≡ Ok x → Finding spell_next_declareds height_next_declareds ProperNextDeclareds Freely n ts x
  unfolding next_declareds
  next_declareds_finds ts x e =
      let f = listed_finds next_declareds_of (starts (is_punct p.Comma)) (next_declared n) spell_next_declared spell_next_declareds height_next_declared height_next_declareds GoodNextDeclared ProperNextDeclareds Freely n next_declareds_kind next_declared_finds ts x e in
      record { parts = f.parts; good = f.good; low = f.low; follow = tt }

  some_declared_finds : (ts : List Token) (x : DeclaredList × List Token) → some_declared n ts ≡ Ok x → Finding spell_declared_list height_declared_list ProperDeclaredList Freely n ts x
  unfolding some_declared
  some_declared_finds ts x e =
      let a = bind_ok (declared n ts) _ x e in
      let b = bind_ok (next_declareds n a.0.1) _ x a.2 in
      let f = declared_finds ts a.0 a.1 in
      let g = next_declareds_finds a.0.1 b.0 b.1 in
      found b.2 (record { parts = f.parts ∙ ap (spell_declared a.0.0) g.parts; good = (f.good, g.good); low = omega (arith, f.low, g.low); follow = tt })

  declared_list_finds : (ts : List Token) (x : DeclaredList × List Token) → declared_list n ts ≡ Ok x → Finding spell_declared_list height_declared_list ProperDeclaredList Freely n ts x
  declared_list_finds ts x e = elim (either (starts (is_punct p.Semicolon) ts) _ _ (done x) e) [
    | inl on ↦ found on.1 (record { parts = refl; good = tt; low = omega arith; follow = tt })
    | inr off ↦ some_declared_finds ts x off.1
  ]

  local_finds : (ts : List Token) (x : Declaration × List Token) → declaration n ts ≡ Ok x → Finding spell_declaration height_declaration GoodLocal Freely (suc n) ts x
  unfolding declaration
  local_finds ts x e =
      let a = bind_ok (specs (at_height n) true ts) _ x e in
      let b = bind_ok (declared_list n a.0.1) _ x a.2 in
      let c = bind_ok (expect_punct p.Semicolon b.0.1) _ x b.2 in
      let f = specs_finds n (at_height n) (finds n) true ts a.0 a.1 in
      let g = declared_list_finds a.0.1 b.0 b.1 in
      found c.2 (record {
        parts = f.parts ∙ ap (spell_specs a.0.0) (g.parts ∙ ap (spell_declared_list b.0.0) (punct_ok p.Semicolon b.0.1 c.0 c.1));
        good = (f.allowed, (f.some, f.proper, g.good));
        low = omega (arith, f.low, g.low);
        follow = tt;
      })

pub declaration_finds : (n : ℕ) (ts : List Token) (x : Declaration × List Token) → declaration_at n ts ≡ Ok x → Finding spell_declaration height_declaration GoodLocal Freely n ts x
unfolding declaration_at
declaration_finds zero ts x e = absurd cc
declaration_finds (suc n) ts x e = local_finds n ts x e

-- ---- parts of statements

greatest : (a b c d n : ℕ) → a ≤ n → b ≤ n → c ≤ n → d ≤ n → max a (max b (max c d)) ≤ n
greatest a b c d n x y z v = omega arith

module _ (n : ℕ) where
  pub value_finds : (end : Punct) (ts : List Token) (x : Option Expr × List Token) → value n end ts ≡ Ok x → Finding spell_value height_value ProperValue Freely n ts x
  unfolding value
  value_finds end ts x e = elim (either (starts (is_punct end) ts) _ _ (done x) e) [
    | inl on ↦ found on.1 (record { parts = refl; good = tt; low = omega arith; follow = tt })
    | inr off ↦
        let a = bind_ok ((at_height n).expr 0 ts) _ x off.1 in
        let f = (finds n).expr 0 ts a.0 (omega arith) a.1 in
        found a.2 (record { parts = f.parts; good = f.proper; low = f.high; follow = tt })
  ]

  pub test_finds : (ts : List Token) (x : Test × List Token) → controlling n ts ≡ Ok x → Finding spell_test height_test ProperTest Freely n ts x
  unfolding controlling
  test_finds ts x e =
      let a = bind_ok (expect_punct p.LParen ts) _ x e in
      let b = bind_ok ((at_height n).expr 0 a.0.1) _ x a.2 in
      let c = bind_ok (expect_punct p.RParen b.0.1) _ x b.2 in
      let f = (finds n).expr 0 a.0.1 b.0 (omega arith) b.1 in
      found c.2 (record { parts = punct_ok p.LParen ts a.0 a.1 ∙ behind _ (f.parts ∙ ap (spell b.0.0) (punct_ok p.RParen b.0.1 c.0 c.1)); good = f.proper; low = f.high; follow = tt })

  first_value_finds : (ts : List Token) (x : First × List Token) → first_value n ts ≡ Ok x → Finding spell_first height_first ProperFirst Freely n ts x
  unfolding first_value
  first_value_finds ts x e =
      let a = bind_ok (value n p.Semicolon ts) _ x e in
      let b = bind_ok (expect_punct p.Semicolon a.0.1) _ x a.2 in
      let f = value_finds p.Semicolon ts a.0 a.1 in
      found b.2 (record { parts = f.parts ∙ ap (spell_value a.0.0) (punct_ok p.Semicolon a.0.1 b.0 b.1); good = f.good; low = f.low; follow = tt })

  first_declaration_finds : (ts : List Token) (x : First × List Token) → first_declaration n ts ≡ Ok x → Finding spell_first height_first ProperFirst Freely n ts x
  unfolding first_declaration
  first_declaration_finds ts x e =
      let a = bind_ok (declaration_at n ts) _ x e in
      let f = declaration_finds n ts a.0 a.1 in
      found a.2 (record { parts = f.parts; good = f.good; low = f.low; follow = tt })

  first_finds : (ts : List Token) (x : First × List Token) → first n ts ≡ Ok x → Finding spell_first height_first ProperFirst Freely n ts x
  first_finds ts x e = elim (either (starts (is_spec true) ts) _ _ (done x) e) [
    | inl on ↦ first_declaration_finds ts x on.1
    | inr off ↦ first_value_finds ts x off.1
  ]

  continue_affinity_finds : (ts : List Token) (x : Affinity × List Token) → continue_affinity ts ≡ Ok x → Finding spell_affinity height_affinity ProperAffinity Freely n ts x
  unfolding continue_affinity
  continue_affinity_finds ts x e =
      let a = bind_ok (expect_word w.Continue ts) _ x e in
      found a.2 (record { parts = word_ok w.Continue ts a.0 a.1; good = tt; low = omega arith; follow = tt })

  value_affinity_finds : (ts : List Token) (x : Affinity × List Token) → value_affinity n ts ≡ Ok x → Finding spell_affinity height_affinity ProperAffinity Freely n ts x
  unfolding value_affinity
  value_affinity_finds ts x e =
      let a = bind_ok ((at_height n).expr 0 ts) _ x e in
      let f = (finds n).expr 0 ts a.0 (omega arith) a.1 in
      found a.2 (record { parts = f.parts; good = f.proper; low = f.high; follow = tt })

  affinity_finds : (ts : List Token) (x : Affinity × List Token) → affinity n ts ≡ Ok x → Finding spell_affinity height_affinity ProperAffinity Freely n ts x
  affinity_finds ts x e = elim (either (starts (is_punct p.RParen) ts) _ _ (done x) e) [
    | inl on ↦ found on.1 (record { parts = refl; good = tt; low = omega arith; follow = tt })
    | inr off ↦ elim (either (starts (is_word w.Continue) ts) _ _ (done x) off.1) [
      | inl a ↦ continue_affinity_finds ts x a.1
      | inr a ↦ value_affinity_finds ts x a.1
    ]
  ]

  pub for_finds : (ts : List Token) (x : ForHead × List Token) → for_head n ts ≡ Ok x → Finding spell_for height_for ProperFor Freely n ts x
  unfolding for_head
  for_finds ts x e =
      let a = bind_ok (expect_punct p.LParen ts) _ x e in
      let b = bind_ok (first n a.0.1) _ x a.2 in
      let c = bind_ok (value n p.Semicolon b.0.1) _ x b.2 in
      let d = bind_ok (expect_punct p.Semicolon c.0.1) _ x c.2 in
      let r = bind_ok (value n p.RParen d.0.1) _ x d.2 in
      let z = bind_ok (expect_punct p.RParen r.0.1) _ x r.2 in
      let f = first_finds a.0.1 b.0 b.1 in
      let g = value_finds p.Semicolon b.0.1 c.0 c.1 in
      let h = value_finds p.RParen d.0.1 r.0 r.1 in
      found z.2 (record {
        parts = punct_ok p.LParen ts a.0 a.1 ∙ behind _ (f.parts ∙ ap (spell_first b.0.0) (g.parts ∙ ap (spell_value c.0.0) (punct_ok p.Semicolon c.0.1 d.0 d.1 ∙ behind _ (h.parts ∙ ap (spell_value r.0.0) (punct_ok p.RParen r.0.1 z.0 z.1)))));
        good = (f.good, g.good, h.good);
        low = omega (arith, f.low, g.low, h.low);
        follow = tt;
      })

  pub forall_finds : (ts : List Token) (x : ForallHead × List Token) → forall_head n ts ≡ Ok x → Finding spell_forall height_forall ProperForall Freely n ts x
  unfolding forall_head
  forall_finds ts x e =
      let a = bind_ok (expect_punct p.LParen ts) _ x e in
      let b = bind_ok (first n a.0.1) _ x a.2 in
      let c = bind_ok (value n p.Semicolon b.0.1) _ x b.2 in
      let d = bind_ok (expect_punct p.Semicolon c.0.1) _ x c.2 in
      let r = bind_ok (value n p.Semicolon d.0.1) _ x d.2 in
      let q = bind_ok (expect_punct p.Semicolon r.0.1) _ x r.2 in
      let y = bind_ok (affinity n q.0.1) _ x q.2 in
      let z = bind_ok (expect_punct p.RParen y.0.1) _ x y.2 in
      let f = first_finds a.0.1 b.0 b.1 in
      let g = value_finds p.Semicolon b.0.1 c.0 c.1 in
      let h = value_finds p.Semicolon d.0.1 r.0 r.1 in
      let i = affinity_finds q.0.1 y.0 y.1 in
      found z.2 (record {
        parts = punct_ok p.LParen ts a.0 a.1 ∙ behind _ (f.parts ∙ ap (spell_first b.0.0) (g.parts ∙ ap (spell_value c.0.0) (punct_ok p.Semicolon c.0.1 d.0 d.1 ∙ behind _ (h.parts ∙ ap (spell_value r.0.0) (punct_ok p.Semicolon r.0.1 q.0 q.1 ∙ behind _ (i.parts ∙ ap (spell_affinity y.0.0) (punct_ok p.RParen y.0.1 z.0 z.1)))))));
        good = (f.good, g.good, h.good, i.good);
        low = greatest _ _ _ _ n f.low g.low h.low i.low;
        follow = tt;
      })

-- ---- pragmas

pragma_by_finds : (kind : TokenKind) (span : Span) (ts : List Token) (x : Pragma × List Token) → pragma_by kind span ts ≡ Ok x → token kind span ∷ ts ≡ pragma_token x.0 ∷ x.1
pragma_by_finds (k.Pragma strict) span ts x e = subst (λ (q : Pragma × List Token). token (k.Pragma strict) span ∷ ts ≡ pragma_token q.0 ∷ q.1) (ok_is (record { strict = strict; span = span }, ts) x e) refl
pragma_by_finds _ span ts x e = absurd cc

pub pragma_finds : (ts : List Token) (x : Pragma × List Token) → pragma ts ≡ Ok x → ts ≡ pragma_token x.0 ∷ x.1
pragma_finds [] x e = absurd cc
pragma_finds (y ∷ ts) x e = pragma_by_finds y.kind (span_of y) ts x e

pragmas_finds_by : (count : ℕ) (ts : List Token) (x : List Pragma × List Token) → many (starts is_pragma) pragma count ts ≡ Ok x → ts ≡ spell_pragmas x.0 x.1
unfolding many
pragmas_finds_by zero ts x e = subst (λ (q : List Pragma × List Token). ts ≡ spell_pragmas q.0 q.1) (ok_is _ x e) refl
pragmas_finds_by (suc count) ts x e = elim (either (starts is_pragma ts) _ _ (done x) e) [
  | inl on ↦
      let a = bind_ok (pragma ts) _ x on.1 in
      let b = bind_ok (many (starts is_pragma) pragma count a.0.1) _ x a.2 in
      subst (λ (q : List Pragma × List Token). ts ≡ spell_pragmas q.0 q.1) (ok_is _ x b.2) (pragma_finds ts a.0 a.1 ∙ behind _ (pragmas_finds_by count a.0.1 b.0 b.1))
  | inr off ↦ subst (λ (q : List Pragma × List Token). ts ≡ spell_pragmas q.0 q.1) (ok_is _ x off.1) refl
]

pub pragmas_finds : (ts : List Token) (x : List Pragma × List Token) → pragmas ts ≡ Ok x → ts ≡ spell_pragmas x.0 x.1
unfolding pragmas
pragmas_finds ts x e = pragmas_finds_by (length ts) ts x e
