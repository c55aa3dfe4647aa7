-- What is read as an expression is proper, and its tokens are those that were taken.
use Rattle.std.proofs.Common.{◌≡◌, ℕ, zero, suc, ◌+◌, ◌≤◌, true, List, [], ◌∷◌, length, Option, Some, None, Ok, refl, sym, ap, ◌∙◌, subst, inl, inr, arith}
use Rattle.std.specs.Prelude.{nat_le}
use Rattle.upc_lexer.specs.declared.token.Token.{Token}
use Rattle.upc_lexer.specs.declared.token.TokenKind.{TokenKind}
use Rattle.upc_lexer.specs.declared.token.TokenKind.TheVariants as k
use Rattle.upc_lexer.specs.declared.token.Punct.TheVariants as p
use Rattle.upc_tree.specs.declared.span.Span.{Span}
use Rattle.upc_tree.specs.declared.span.StringLiteral.{StringLiteral}
use Rattle.upc_tree.specs.declared.mark.UnaryMark.{UnaryMark}
use Rattle.upc_tree.specs.declared.mark.UnaryMark.TheVariants as u
use Rattle.upc_tree.specs.Marks.{unary_punct, size_word, binary_level, operand_level}
use Rattle.upc_tree.specs.Tokens.{punct, word, spell_strings}
use Rattle.upc_tree.specs.Expression.{Expr, Subscript, Call, MemberOf, Postfix, Binary, Assign, Conditional, Comma, spell, spell_type, height}
use Rattle.upc_tree.specs.Proper.{level, Proper}
use Rattle.upc_parser_ground.specs.declared.cursor.Fault.TheVariants.{NoTree, TooHigh}
use Rattle.upc_parser_ground.specs.declared.start.Suffix.{Suffix}
use Rattle.upc_parser_ground.specs.declared.start.Suffix.TheVariants as suffix
use Rattle.upc_parser_ground.specs.declared.start.Joint.{Joint}
use Rattle.upc_parser_ground.specs.declared.start.Joint.TheVariants as joint
use Rattle.upc_parser_ground.specs.layer.Outcome.{Parser, span_of, starts, many}
use Rattle.upc_parser_ground.specs.layer.Tables.{prefix_of, suffix_of, joint_of, joint_level, left_least, is_string}
use Rattle.upc_parser_ground.specs.layer.Outcome.{string}
use Rattle.upc_parser_types.specs.layer.Expression.{Level, strings, opens_type, goes_on, unary, size_type, size_expr, cast, paren, primary, primary_by, grown, suffixed, postfix, postfix_by, first, prefix_by, joined_comma, conditional, joined, climb, climb_by, expr, level_above, at_height}
use Rattle.std.proofs.lemmas.Bool.{leb-true}
use Rattle.upc_lexer.specs.declared.token.Word.TheVariants as w
use Rattle.upc_tree.specs.declared.mark.SizeWord.{SizeWord}
use Rattle.upc_tree.specs.Tokens.{token}
use Rattle.upc_parser_ground.specs.declared.start.Prefix.{Prefix}
use Rattle.upc_parser_ground.specs.declared.start.Prefix.TheVariants as prefix
use Rattle.upc_parser_ground.specs.layer.Outcome.{expect_punct}
use Rattle.upc_parser_ground.specs.layer.Outcome.{name}
use Rattle.upc_parser_types.specs.layer.Expression.{next_exprs, type_name, plain_type, size}
use Rattle.upc_parser_ground.proofs.TableFacts.{unary_forth, size_forth, suffix_punct, suffix_forth, joint_punct, joint_forth, binary_small}
use Rattle.upc_parser_ground.proofs.Sequence.{bind_ok, done, ok_is, if_ok, either, both_true, behind, punct_ok, name_ok, string_ok}
use Rattle.upc_parser_laws.proofs.SoundTypes.{FoundExpr, Finds, plain_finds, type_finds, next_exprs_finds, arguments_finds, structure_finds}

found_expr : {n least : ℕ} {ts : List Token} {x y : Expr × List Token} → done x ≡ done y → FoundExpr n least ts x → FoundExpr n least ts y
found_expr {n} {least} {ts} e f = subst (FoundExpr n least ts) (ok_is _ _ e) f

-- the first token of what was read
first_is : (n least : ℕ) (y z : Token) (ts : List Token) (x : Expr × List Token) → y ≡ z → FoundExpr n least (z ∷ ts) x → FoundExpr n least (y ∷ ts) x
first_is n least y z ts x e f = subst (λ q. FoundExpr n least (q ∷ ts) x) (sym e) f

-- ---- strings

strings_find_by : (count : ℕ) (ts : List Token) (x : List StringLiteral × List Token) → many (starts is_string) string count ts ≡ Ok x → ts ≡ spell_strings x.0 x.1
unfolding many
strings_find_by zero ts x e = subst (λ (q : List StringLiteral × List Token). ts ≡ spell_strings q.0 q.1) (ok_is _ x e) refl
strings_find_by (suc count) ts x e = elim (either (starts is_string ts) _ _ (done x) e) [
  | inl on ↦
      let a = bind_ok (string ts) _ x on.1 in
      let b = bind_ok (many (starts is_string) string count a.0.1) _ x a.2 in
      subst (λ (q : List StringLiteral × List Token). ts ≡ spell_strings q.0 q.1) (ok_is _ x b.2) (string_ok ts a.0 a.1 ∙ behind _ (strings_find_by count a.0.1 b.0 b.1))
  | inr off ↦ subst (λ (q : List StringLiteral × List Token). ts ≡ spell_strings q.0 q.1) (ok_is _ x off.1) refl
]

strings_find : (ts : List Token) (x : List StringLiteral × List Token) → strings ts ≡ Ok x → ts ≡ spell_strings x.0 x.1
unfolding strings
strings_find ts x e = strings_find_by (length ts) ts x e

operand_14 : (mark : UnaryMark) → operand_level mark ≤ 14
operand_14 u.Increment = omega arith
operand_14 _ = omega arith

module _ (n : ℕ) (L : Level) (ih : Finds n L) where
  grown_finds : (base u : Expr) (ts : List Token) (x : Expr × List Token) → grown n L base u ts ≡ Ok x → (height base ≤ n) × (done (u, ts) ≡ done x)
  grown_finds base u ts x e = let g = if_ok (nat_le (height base) n) (Ok (u, ts)) TooHigh x e in (leb-true (height base) n g.0, g.1)

  -- ---- what begins an expression without an operator

  paren_finds : (l : Span) (ts : List Token) (x : Expr × List Token) → paren L l ts ≡ Ok x → FoundExpr (suc n) 15 (punct p.LParen l ∷ ts) x
  unfolding paren
  paren_finds l ts x e =
      let a = bind_ok (L.expr 0 ts) _ x e in
      let b = bind_ok (expect_punct p.RParen a.0.1) _ x a.2 in
      let f = ih.expr 0 ts a.0 (omega arith) a.1 in
      found_expr b.2 (record { parts = behind _ (f.parts ∙ ap (spell a.0.0) (punct_ok p.RParen a.0.1 b.0 b.1)); proper = f.proper; tight = omega arith; high = omega (arith, f.high) })

  primary_by_finds : (kind : TokenKind) (at : Span) (ts : List Token) (x : Expr × List Token) → primary_by L kind at ts ≡ Ok x → FoundExpr (suc n) 15 (token kind at ∷ ts) x
  primary_by_finds (k.Name number) at ts x e = found_expr e (record { parts = refl; proper = tt; tight = omega arith; high = omega arith })
  primary_by_finds (k.Number value kind) at ts x e = found_expr e (record { parts = refl; proper = tt; tight = omega arith; high = omega arith })
  primary_by_finds (k.Character value) at ts x e = found_expr e (record { parts = refl; proper = tt; tight = omega arith; high = omega arith })
  primary_by_finds (k.Str bytes) at ts x e =
      let a = bind_ok (strings ts) _ x e in
      found_expr a.2 (record { parts = behind _ (strings_find ts a.0 a.1); proper = tt; tight = omega arith; high = omega arith })
  primary_by_finds (k.Word w.Mythread) at ts x e = found_expr e (record { parts = refl; proper = tt; tight = omega arith; high = omega arith })
  primary_by_finds (k.Word w.Threads) at ts x e = found_expr e (record { parts = refl; proper = tt; tight = omega arith; high = omega arith })
  primary_by_finds (k.Word w.UpcMaxBlockSize) at ts x e = found_expr e (record { parts = refl; proper = tt; tight = omega arith; high = omega arith })
  primary_by_finds (k.Punct p.LParen) at ts x e = paren_finds at ts x e
  primary_by_finds _ at ts x e = absurd cc

  -- ---- directly after an expression

  suffixed_finds : (mark : Suffix) (base : Expr) (at : Span) (ts : List Token) (x : Expr × List Token) → Proper base → 15 ≤ level base → suffixed n L mark base at ts ≡ Ok x
      → FoundExpr (suc n) 15 (spell base (punct (suffix_punct mark) at ∷ ts)) x
  suffixed_finds suffix.Subscript base at ts x pr lv e =
      let a = bind_ok (L.expr 0 ts) _ x e in
      let b = bind_ok (expect_punct p.RBracket a.0.1) _ x a.2 in
      let f = ih.expr 0 ts a.0 (omega arith) a.1 in
      let g = grown_finds base (Subscript base at a.0.0 b.0.0) b.0.1 x b.2 in
      found_expr g.1 (record {
        parts = ap (spell base) (behind _ (f.parts ∙ ap (spell a.0.0) (punct_ok p.RBracket a.0.1 b.0 b.1)));
        proper = (lv, pr, f.proper);
        tight = omega arith;
        high = omega (arith, f.high, g.0);
      })
  suffixed_finds suffix.Call base at ts x pr lv e =
      let a = bind_ok (L.arguments ts) _ x e in
      let f = ih.arguments ts a.0 a.1 in
      let g = grown_finds base (Call base at a.0.0) a.0.1 x a.2 in
      found_expr g.1 (record { parts = ap (spell base) (behind _ f.parts); proper = (lv, pr, f.good); tight = omega arith; high = omega (arith, f.low, g.0) })
  suffixed_finds (suffix.Member mark) base at ts x pr lv e =
      let a = bind_ok (name ts) _ x e in
      let g = grown_finds base (MemberOf base mark at a.0.0) a.0.1 x a.2 in
      found_expr g.1 (record { parts = ap (spell base) (behind _ (name_ok ts a.0 a.1)); proper = (lv, pr); tight = omega arith; high = omega (arith, g.0) })
  suffixed_finds (suffix.Step mark) base at ts x pr lv e =
      let g = grown_finds base (Postfix base mark at) ts x e in
      found_expr g.1 (record { parts = refl; proper = (lv, pr); tight = omega arith; high = omega (arith, g.0) })

  postfix_by_finds : (more : Expr → Parser Expr) (base : Expr) (o : Option Suffix) (y : Token) (ts : List Token) (x : Expr × List Token)
      → ((u : Expr) (ts : List Token) (x : Expr × List Token) → Proper u → 15 ≤ level u → height u ≤ suc n → more u ts ≡ Ok x → FoundExpr (suc n) 15 (spell u ts) x)
      → Proper base → 15 ≤ level base → height base ≤ suc n → suffix_of y.kind ≡ o → postfix_by n L more base o y ts ≡ Ok x → FoundExpr (suc n) 15 (spell base (y ∷ ts)) x
  postfix_by_finds more base None y ts x go pr lv hi o e = found_expr e (record { parts = refl; proper = pr; tight = lv; high = hi })
  postfix_by_finds more base (Some mark) y ts x go pr lv hi o e =
      let a = bind_ok (suffixed n L mark base (span_of y) ts) _ x e in
      let g = suffixed_finds mark base (span_of y) ts a.0 pr lv a.1 in
      let h = go a.0.0 a.0.1 x g.proper g.tight g.high a.2 in
      let start : y ≡ punct (suffix_punct mark) (span_of y) = ap (λ q. token q (span_of y)) (suffix_forth y.kind mark o) in
      record { parts = ap (λ q. spell base (q ∷ ts)) start ∙ g.parts ∙ h.parts; proper = h.proper; tight = h.tight; high = h.high }

  postfix_finds : (count : ℕ) (base : Expr) (ts : List Token) (x : Expr × List Token) → Proper base → 15 ≤ level base → height base ≤ suc n → postfix n L count base ts ≡ Ok x → FoundExpr (suc n) 15 (spell base ts) x
  unfolding postfix
  postfix_finds zero base ts x pr lv hi e = found_expr e (record { parts = refl; proper = pr; tight = lv; high = hi })
  postfix_finds (suc count) base [] x pr lv hi e = found_expr e (record { parts = refl; proper = pr; tight = lv; high = hi })
  postfix_finds (suc count) base (y ∷ ts) x pr lv hi e = postfix_by_finds (postfix n L count) base (suffix_of y.kind) y ts x (λ u ts x pr lv hi e. postfix_finds count u ts x pr lv hi e) pr lv hi refl e

  -- ---- what begins an expression

  unary_finds : (least : ℕ) (mark : UnaryMark) (at : Span) (ts : List Token) (x : Expr × List Token) → least ≤ 14 → unary L mark at ts ≡ Ok x → FoundExpr (suc n) least (punct (unary_punct mark) at ∷ ts) x
  unfolding unary
  unary_finds least mark at ts x small e =
      let a = bind_ok (L.expr (operand_level mark) ts) _ x e in
      let f = ih.expr (operand_level mark) ts a.0 (operand_14 mark) a.1 in
      found_expr a.2 (record { parts = behind _ f.parts; proper = (f.tight, f.proper); tight = omega arith; high = omega (arith, f.high) })

  size_finds : (least : ℕ) (s : SizeWord) (at : Span) (ts : List Token) (x : Expr × List Token) → least ≤ 14 → size L s at ts ≡ Ok x → FoundExpr (suc n) least (word (size_word s) at ∷ ts) x
  unfolding size_type size_expr
  size_finds least s at ts x small e = elim (either (opens_type ts) _ _ (done x) e) [
    | inl on ↦
        let a = bind_ok (expect_punct p.LParen ts) _ x on.1 in
        let b = bind_ok (type_name L a.0.1) _ x a.2 in
        let c = bind_ok (expect_punct p.RParen b.0.1) _ x b.2 in
        let f = type_finds n L ih a.0.1 b.0 b.1 in
        found_expr c.2 (record {
          parts = behind _ (punct_ok p.LParen ts a.0 a.1 ∙ behind _ (f.parts ∙ ap (spell_type b.0.0) (punct_ok p.RParen b.0.1 c.0 c.1)));
          proper = f.good;
          tight = omega arith;
          high = omega (arith, f.low);
        })
    | inr off ↦
        let a = bind_ok (L.expr 14 ts) _ x off.1 in
        let f = ih.expr 14 ts a.0 (omega arith) a.1 in
        found_expr a.2 (record { parts = behind _ f.parts; proper = (f.tight, f.proper); tight = omega arith; high = omega (arith, f.high) })
  ]

  cast_finds : (least : ℕ) (ts : List Token) (x : Expr × List Token) → least ≤ 13 → cast L ts ≡ Ok x → FoundExpr (suc n) least ts x
  unfolding cast
  cast_finds least ts x small e =
      let a = bind_ok (expect_punct p.LParen ts) _ x e in
      let b = bind_ok (plain_type L a.0.1) _ x a.2 in
      let c = bind_ok (expect_punct p.RParen b.0.1) _ x b.2 in
      let d = bind_ok (L.expr 13 c.0.1) _ x c.2 in
      let f = plain_finds n L ih a.0.1 b.0 b.1 in
      let g = ih.expr 13 c.0.1 d.0 (omega arith) d.1 in
      found_expr d.2 (record {
        parts = punct_ok p.LParen ts a.0 a.1 ∙ behind _ (f.parts ∙ ap (spell_type b.0.0) (punct_ok p.RParen b.0.1 c.0 c.1 ∙ behind _ g.parts));
        proper = (f.good.0, f.good.1, g.tight, g.proper);
        tight = omega arith;
        high = omega (arith, f.low, g.high);
      })

  primary_finds : (least : ℕ) (y : Token) (ts : List Token) (x : Expr × List Token) → least ≤ 14 → primary n L y ts ≡ Ok x → FoundExpr (suc n) least (y ∷ ts) x
  unfolding primary
  primary_finds least y ts x small e =
      let a = bind_ok (primary_by L y.kind (span_of y) ts) _ x e in
      let f = primary_by_finds y.kind (span_of y) ts a.0 a.1 in
      let g = postfix_finds (length a.0.1) a.0.0 a.0.1 x f.proper f.tight f.high a.2 in
      record { parts = f.parts ∙ g.parts; proper = g.proper; tight = omega (arith, g.tight); high = g.high }

  prefix_by_finds : (least : ℕ) (o : Prefix) (y : Token) (ts : List Token) (x : Expr × List Token) → least ≤ 14 → prefix_of y.kind ≡ o → prefix_by n L least o y ts ≡ Ok x → FoundExpr (suc n) least (y ∷ ts) x
  prefix_by_finds least (prefix.Unary mark) y ts x small o e =
      first_is (suc n) least y (punct (unary_punct mark) (span_of y)) ts x (ap (λ q. token q (span_of y)) (unary_forth y.kind mark o)) (unary_finds least mark (span_of y) ts x small e)
  prefix_by_finds least (prefix.Size s) y ts x small o e =
      first_is (suc n) least y (word (size_word s) (span_of y)) ts x (ap (λ q. token q (span_of y)) (size_forth y.kind s o)) (size_finds least s (span_of y) ts x small e)
  prefix_by_finds least prefix.Other y ts x small o e = elim (either (opens_type (y ∷ ts)) _ _ (done x) e) [
    | inl on ↦ let c = if_ok (nat_le least 13) _ NoTree x on.1 in cast_finds least (y ∷ ts) x (leb-true least 13 c.0) c.1
    | inr off ↦ primary_finds least y ts x small off.1
  ]

  first_finds : (least : ℕ) (ts : List Token) (x : Expr × List Token) → least ≤ 14 → first n L least ts ≡ Ok x → FoundExpr (suc n) least ts x
  unfolding first
  first_finds least [] x small e = absurd cc
  first_finds least (y ∷ ts) x small e = prefix_by_finds least (prefix_of y.kind) y ts x small refl e

  -- ---- joints

  joined_finds : (least : ℕ) (j : Joint) (left : Expr) (at : Span) (ts : List Token) (x : Expr × List Token) → Proper left → least ≤ joint_level j → left_least j ≤ level left
      → joined n L j left (punct (joint_punct j) at) ts ≡ Ok x → FoundExpr (suc n) least (spell left (punct (joint_punct j) at ∷ ts)) x
  unfolding joined_comma conditional
  joined_finds least joint.Comma left at ts x pr lo ro e =
      let a = bind_ok (next_exprs L (punct p.Comma at ∷ ts)) _ x e in
      let f = next_exprs_finds n L ih (punct p.Comma at ∷ ts) a.0 a.1 in
      let g = grown_finds left (Comma left a.0.0) a.0.1 x a.2 in
      found_expr g.1 (record { parts = ap (spell left) f.parts; proper = (ro, f.follow refl, pr, f.good); tight = lo; high = omega (arith, f.low, g.0) })
  joined_finds least (joint.Assign mark) left at ts x pr lo ro e =
      let a = bind_ok (L.expr 1 ts) _ x e in
      let f = ih.expr 1 ts a.0 (omega arith) a.1 in
      let g = grown_finds left (Assign left mark at a.0.0) a.0.1 x a.2 in
      found_expr g.1 (record { parts = ap (spell left) (behind _ f.parts); proper = (ro, f.tight, pr, f.proper); tight = lo; high = omega (arith, f.high, g.0) })
  joined_finds least joint.Question left at ts x pr lo ro e =
      let a = bind_ok (L.expr 0 ts) _ x e in
      let b = bind_ok (expect_punct p.Colon a.0.1) _ x a.2 in
      let c = bind_ok (L.expr 2 b.0.1) _ x b.2 in
      let f = ih.expr 0 ts a.0 (omega arith) a.1 in
      let h = ih.expr 2 b.0.1 c.0 (omega arith) c.1 in
      let g = grown_finds left (Conditional left at a.0.0 b.0.0 c.0.0) c.0.1 x c.2 in
      found_expr g.1 (record {
        parts = ap (spell left) (behind _ (f.parts ∙ ap (spell a.0.0) (punct_ok p.Colon a.0.1 b.0 b.1 ∙ behind _ h.parts)));
        proper = (ro, h.tight, pr, f.proper, h.proper);
        tight = lo;
        high = omega (arith, f.high, h.high, g.0);
      })
  joined_finds least (joint.Binary mark) left at ts x pr lo ro e =
      let a = bind_ok (L.expr (binary_level mark + 1) ts) _ x e in
      let f = ih.expr (binary_level mark + 1) ts a.0 (omega (arith, binary_small mark)) a.1 in
      let g = grown_finds left (Binary left mark at a.0.0) a.0.1 x a.2 in
      found_expr g.1 (record { parts = ap (spell left) (behind _ f.parts); proper = (ro, f.tight, pr, f.proper); tight = lo; high = omega (arith, f.high, g.0) })

  joined_at_finds : (least : ℕ) (j : Joint) (left : Expr) (y : Token) (ts : List Token) (x : Expr × List Token) → Proper left → goes_on least left j ≡ true → joint_of y.kind ≡ Some j
      → joined n L j left y ts ≡ Ok x → FoundExpr (suc n) least (spell left (y ∷ ts)) x
  joined_at_finds least j left y ts x pr on o e =
      let start : y ≡ punct (joint_punct j) (span_of y) = ap (λ q. token q (span_of y)) (joint_forth y.kind j o) in
      let both = both_true (nat_le least (joint_level j)) (nat_le (left_least j) (level left)) on in
      let f = joined_finds least j left (span_of y) ts x pr (leb-true least (joint_level j) both.0) (leb-true (left_least j) (level left) both.1) (sym (ap (λ q. joined n L j left q ts) start) ∙ e) in
      record { parts = ap (λ q. spell left (q ∷ ts)) start ∙ f.parts; proper = f.proper; tight = f.tight; high = f.high }

  climb_by_finds : (more : Expr → Parser Expr) (least : ℕ) (left : Expr) (o : Option Joint) (y : Token) (ts : List Token) (x : Expr × List Token)
      → ((u : Expr) (ts : List Token) (x : Expr × List Token) → Proper u → least ≤ level u → height u ≤ suc n → more u ts ≡ Ok x → FoundExpr (suc n) least (spell u ts) x)
      → Proper left → least ≤ level left → height left ≤ suc n → joint_of y.kind ≡ o → climb_by n L more least left o y ts ≡ Ok x → FoundExpr (suc n) least (spell left (y ∷ ts)) x
  climb_by_finds more least left None y ts x go pr lv hi o e = found_expr e (record { parts = refl; proper = pr; tight = lv; high = hi })
  climb_by_finds more least left (Some j) y ts x go pr lv hi o e = elim (either (goes_on least left j) _ _ (done x) e) [
    | inl on ↦
        let a = bind_ok (joined n L j left y ts) _ x on.1 in
        let g = joined_at_finds least j left y ts a.0 pr on.0 o a.1 in
        let h = go a.0.0 a.0.1 x g.proper g.tight g.high a.2 in
        record { parts = g.parts ∙ h.parts; proper = h.proper; tight = h.tight; high = h.high }
    | inr off ↦ found_expr off.1 (record { parts = refl; proper = pr; tight = lv; high = hi })
  ]

  climb_finds : (count least : ℕ) (left : Expr) (ts : List Token) (x : Expr × List Token) → Proper left → least ≤ level left → height left ≤ suc n → climb n L count least left ts ≡ Ok x → FoundExpr (suc n) least (spell left ts) x
  unfolding climb
  climb_finds zero least left ts x pr lv hi e = found_expr e (record { parts = refl; proper = pr; tight = lv; high = hi })
  climb_finds (suc count) least left [] x pr lv hi e = found_expr e (record { parts = refl; proper = pr; tight = lv; high = hi })
  climb_finds (suc count) least left (y ∷ ts) x pr lv hi e = climb_by_finds (climb n L count least) least left (joint_of y.kind) y ts x (λ u ts x pr lv hi e. climb_finds count least u ts x pr lv hi e) pr lv hi refl e

  expr_finds : (least : ℕ) (ts : List Token) (x : Expr × List Token) → least ≤ 14 → expr n L least ts ≡ Ok x → FoundExpr (suc n) least ts x
  unfolding expr
  expr_finds least ts x small e =
      let a = bind_ok (first n L least ts) _ x e in
      let f = first_finds least ts a.0 small a.1 in
      let g = climb_finds (length a.0.1) least a.0.0 a.0.1 x f.proper f.tight f.high a.2 in
      record { parts = f.parts ∙ g.parts; proper = g.proper; tight = g.tight; high = g.high }

  above_finds : Finds (suc n) (level_above n L)
  above_finds = record { expr = expr_finds; arguments = arguments_finds n L ih; structure = structure_finds n L ih }

-- What is read is proper.
pub finds : (n : ℕ) → Finds n (at_height n)
unfolding at_height
finds zero = record {
  expr = λ least ts x small e. absurd cc;
  arguments = λ ts x e. absurd cc;
  structure = λ ts x e. absurd cc;
}
finds (suc n) = above_finds n (at_height n) (finds n)
