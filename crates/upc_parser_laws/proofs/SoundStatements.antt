-- What the parser finds of a statement has the tokens, is proper and is low; and an `else` that follows does not belong to it.
use Rattle.std.proofs.Common.{◌≡◌, ℕ, zero, suc, ◌+◌, ◌<◌, ◌≤◌, max, true, false, List, [], ◌∷◌, length, Ok, refl, sym, ap, ◌∙◌, subst, inl, inr, arith}
use Rattle.upc_lexer.specs.declared.token.Token.{Token}
use Rattle.upc_lexer.specs.declared.token.TokenKind.{TokenKind}
use Rattle.upc_lexer.specs.declared.token.TokenKind.TheVariants as k
use Rattle.upc_lexer.specs.declared.token.Punct.TheVariants as p
use Rattle.upc_lexer.specs.declared.token.Word.TheVariants as w
use Rattle.upc_tree.specs.declared.mark.BarrierWord.{BarrierWord}
use Rattle.upc_tree.specs.declared.span.Span.{Span}
use Rattle.upc_tree.specs.Marks.{barrier_word}
use Rattle.upc_tree.specs.Tokens.{token, word, spell_pragmas}
use Rattle.upc_tree.specs.Expression.{spell}
use Rattle.upc_tree.specs.Statement.{Test, Statement, Compound, BlockItem, BlockItems, SwitchItem, SwitchItems, ElseIfs, Otherwise, NoOtherwise, Else, spell_value, spell_test, spell_for, spell_forall, spell_statement, spell_compound, spell_block_items, spell_block_item, spell_switch_items, spell_switch_item, spell_else_ifs, spell_otherwise, height_statement, height_compound, height_block_items, height_block_item, height_switch_items, height_switch_item, height_else_ifs, height_otherwise, takes_else, takes_else_behind, is_if, ProperStatement, ProperCompound, ProperBlockItems, ProperBlockItem, ProperSwitchItems, ProperSwitchItem, ProperElseIfs, ProperOtherwise}
use Rattle.upc_tree.specs.layer.Lists.{block_items_of, switch_items_of, else_ifs_of}
use Rattle.upc_parser_ground.specs.layer.Outcome.{span_of, is_word, starts, starts_two, expect_punct, expect_word, all}
use Rattle.upc_parser_ground.specs.layer.Tables.{is_spec}
use Rattle.upc_parser_types.specs.layer.Expression.{at_height}
use Rattle.upc_parser_ground.proofs.Sequence.{bind_ok, done, ok_is, either, behind, punct_ok, word_ok}
use Rattle.upc_parser_ground.proofs.Lists.{AllOf, Follows, Finding, found, many_ends, FoundList, listed_finds}
use Rattle.upc_parser_laws.proofs.CompleteTypes.{Freely}
use Rattle.upc_parser_laws.proofs.SoundExpressions.{finds}
use Rattle.upc_parser_statements.specs.declared.start.StatementStart.{StatementStart}
use Rattle.upc_parser_statements.specs.declared.start.StatementStart.TheVariants as start
use Rattle.upc_parser_statements.specs.layer.Tables.{statement_start}
use Rattle.upc_parser_statements.specs.layer.Parse.{declaration_at, value, controlling, for_head, forall_head, pragmas, declaration_item, case_item, default_item, value_statement, return_statement, barrier_statement, break_statement, continue_statement, fence_statement, Statements, statement_item, item, items, switch_statement, switch_item, switch_items, compound, else_if, else_ifs, else_part, otherwise, if_statement, switch, while_statement, do_statement, for_statement, forall_statement, block, statement_by, statement, level_above, statements_at, no_brace}
use Rattle.upc_parser_laws.proofs.StatementListings.{spell_else_if, height_else_if, GoodElseIf, GoodElseIfs, block_items_kind, switch_items_kind, else_ifs_kind, else_ifs_spelled}
use Rattle.upc_parser_laws.proofs.StatementLow.{long_else_if}
use Rattle.upc_parser_laws.proofs.Begins.{StopsElse, stops_keeps, begins_if}
use Rattle.upc_parser_laws.proofs.CompleteStatements.{FollowElseIf}
use Rattle.upc_parser_laws.proofs.SoundDeclarations.{declaration_finds, value_finds, test_finds, for_finds, forall_finds, pragmas_finds}

-- an `else` that follows does not belong to the statement
abbrev pub KeepsOff : Statement → List Token → Type 0
KeepsOff u ts = StopsElse (takes_else u) ts

-- a list has a level of its own
abbrev pub level_items : BlockItems → ℕ
level_items u = height_block_items u + 1

abbrev pub level_switch_items : SwitchItems → ℕ
level_switch_items u = height_switch_items u + 1

pub record FindsStatements (n : ℕ) (B : Statements) : Type 0 where
  pub statement : (ts : List Token) (x : Statement × List Token) → B.statement ts ≡ Ok x → Finding spell_statement height_statement ProperStatement KeepsOff n ts x
  pub compound : (ts : List Token) (x : Compound × List Token) → B.compound ts ≡ Ok x → Finding spell_compound height_compound ProperCompound Freely n ts x
  pub items : (ts : List Token) (x : BlockItems × List Token) → B.items ts ≡ Ok x → Finding spell_block_items level_items ProperBlockItems Freely n ts x
  pub switch_items : (ts : List Token) (x : SwitchItems × List Token) → B.switch_items ts ≡ Ok x → Finding spell_switch_items level_switch_items ProperSwitchItems Freely n ts x

-- ---- the word that a statement begins with

abbrev start_kind : StatementStart → TokenKind → TokenKind
start_kind start.Block x = x
start_kind start.Value x = x
start_kind start.If x = k.Word w.If
start_kind start.Switch x = k.Word w.Switch
start_kind start.While x = k.Word w.While
start_kind start.Do x = k.Word w.Do
start_kind start.For x = k.Word w.For
start_kind start.Forall x = k.Word w.UpcForall
start_kind start.Break x = k.Word w.Break
start_kind start.Continue x = k.Word w.Continue
start_kind start.Return x = k.Word w.Return
start_kind (start.Barrier kind) x = k.Word (barrier_word kind)
start_kind start.Fence x = k.Word w.UpcFence

start_forth : (x : TokenKind) → x ≡ start_kind (statement_start x) x
start_forth (k.Punct p.LBrace) = refl
start_forth (k.Word w.Break) = refl
start_forth _ = refl

pub over : (a b c d n : ℕ) → a ≤ n → b ≤ n → c ≤ n → d ≤ n → max a (max b (max c d)) + 1 ≤ suc n
over a b c d n x y z v = omega arith

pub above : (a b n : ℕ) → a ≤ n → b ≤ n → max a b + 1 ≤ suc n
above a b n x y = omega arith

-- ---- the arms of an `if`

else_ifs_proper : (l : List (Span × Span × Test × Statement)) (o : Otherwise) (rest : List Token) → AllOf GoodElseIf l → Follows spell_else_if FollowElseIf l (spell_otherwise o rest) → ProperElseIfs (else_ifs_of l) o
else_ifs_proper [] o rest good follows = tt
else_ifs_proper (x ∷ xs) o rest good follows =
    let keeps = stops_keeps x.3 (else_ifs_of xs) o rest (subst (StopsElse (takes_else x.3)) (sym (else_ifs_spelled xs (spell_otherwise o rest))) follows.0) in
    (good.0.0, keeps, good.0.1, else_ifs_proper xs o rest good.1 follows.1)

-- what is found of the last part, where no further arm comes
pub record FoundOtherwise (n : ℕ) (ts : List Token) (x : Otherwise × List Token) : Type 0 where
  pub parts : ts ≡ spell_otherwise x.0 x.1
  pub good : ProperOtherwise x.0
  pub low : height_otherwise x.0 ≤ n
  pub follow : StopsElse (takes_else_behind x.0) x.1

module _ (n : ℕ) (B : Statements) (ih : FindsStatements n B) where
  -- ---- lists

  item_finds : (ts : List Token) (x : BlockItem × List Token) → starts no_brace ts ≡ true → item n B ts ≡ Ok x → Finding spell_block_item height_block_item ProperBlockItem Freely n ts x
  unfolding declaration_item statement_item
  item_finds ts x on e = elim (either (starts (is_spec true) ts) _ _ (done x) e) [
    | inl a ↦
        let d = bind_ok (declaration_at n ts) _ x a.1 in
        let f = declaration_finds n ts d.0 d.1 in
        found d.2 (record { parts = f.parts; good = f.good; low = f.low; follow = tt })
    | inr a ↦
        let b = bind_ok (B.statement ts) _ x a.1 in
        let f = ih.statement ts b.0 b.1 in
        found b.2 (record { parts = f.parts; good = f.good; low = f.low; follow = tt })
  ]

  items_finds : (ts : List Token) (x : BlockItems × List Token) → items n B ts ≡ Ok x → Finding spell_block_items level_items ProperBlockItems Freely (suc n) ts x
  unfolding items
  items_finds ts x e =
      let f = listed_finds block_items_of (starts no_brace) (item n B) spell_block_item spell_block_items height_block_item height_block_items ProperBlockItem ProperBlockItems Freely n block_items_kind item_finds ts x e in
      record { parts = f.parts; good = f.good; low = omega (arith, f.low); follow = tt }

  case_finds : (ts : List Token) (x : SwitchItem × List Token) → case_item n ts ≡ Ok x → Finding spell_switch_item height_switch_item ProperSwitchItem Freely n ts x
  unfolding case_item
  case_finds ts x e =
      let a = bind_ok (expect_word w.Case ts) _ x e in
      let b = bind_ok ((at_height n).expr 2 a.0.1) _ x a.2 in
      let c = bind_ok (expect_punct p.Colon b.0.1) _ x b.2 in
      let f = (finds n).expr 2 a.0.1 b.0 (omega arith) b.1 in
      found c.2 (record { parts = word_ok w.Case ts a.0 a.1 ∙ behind _ (f.parts ∙ ap (spell b.0.0) (punct_ok p.Colon b.0.1 c.0 c.1)); good = (f.tight, f.proper); low = f.high; follow = tt })

  default_finds : (ts : List Token) (x : SwitchItem × List Token) → default_item ts ≡ Ok x → Finding spell_switch_item height_switch_item ProperSwitchItem Freely n ts x
  unfolding default_item
  default_finds ts x e =
      let a = bind_ok (expect_word w.Default ts) _ x e in
      let c = bind_ok (expect_punct p.Colon a.0.1) _ x a.2 in
      found c.2 (record { parts = word_ok w.Default ts a.0 a.1 ∙ behind _ (punct_ok p.Colon a.0.1 c.0 c.1); good = tt; low = omega arith; follow = tt })

  switch_statement_finds : (ts : List Token) (x : SwitchItem × List Token) → switch_statement n B ts ≡ Ok x → Finding spell_switch_item height_switch_item ProperSwitchItem Freely n ts x
  unfolding switch_statement
  switch_statement_finds ts x e =
      let b = bind_ok (B.statement ts) _ x e in
      let f = ih.statement ts b.0 b.1 in
      found b.2 (record { parts = f.parts; good = f.good; low = f.low; follow = tt })

  switch_item_finds : (ts : List Token) (x : SwitchItem × List Token) → starts no_brace ts ≡ true → switch_item n B ts ≡ Ok x → Finding spell_switch_item height_switch_item ProperSwitchItem Freely n ts x
  switch_item_finds ts x on e = elim (either (starts (is_word w.Case) ts) _ _ (done x) e) [
    | inl a ↦ case_finds ts x a.1
    | inr a ↦ elim (either (starts (is_word w.Default) ts) _ _ (done x) a.1) [
      | inl b ↦ default_finds ts x b.1
      | inr b ↦ switch_statement_finds ts x b.1
    ]
  ]

  switch_items_finds : (ts : List Token) (x : SwitchItems × List Token) → switch_items n B ts ≡ Ok x → Finding spell_switch_items level_switch_items ProperSwitchItems Freely (suc n) ts x
  unfolding switch_items
  switch_items_finds ts x e =
      let f = listed_finds switch_items_of (starts no_brace) (switch_item n B) spell_switch_item spell_switch_items height_switch_item height_switch_items ProperSwitchItem ProperSwitchItems Freely n switch_items_kind switch_item_finds ts x e in
      record { parts = f.parts; good = f.good; low = omega (arith, f.low); follow = tt }

  -- ---- the arms of an `if`

  else_if_found : (ts : List Token) (x : (Span × Span × Test × Statement) × List Token) → else_if n B ts ≡ Ok x → Finding spell_else_if height_else_if GoodElseIf FollowElseIf n ts x
  unfolding else_if
  else_if_found ts x e =
      let a = bind_ok (expect_word w.Else ts) _ x e in
      let b = bind_ok (expect_word w.If a.0.1) _ x a.2 in
      let c = bind_ok (controlling n b.0.1) _ x b.2 in
      let d = bind_ok (B.statement c.0.1) _ x c.2 in
      let f = test_finds n b.0.1 c.0 c.1 in
      let g = ih.statement c.0.1 d.0 d.1 in
      found d.2 (record {
        parts = word_ok w.Else ts a.0 a.1 ∙ behind _ (word_ok w.If a.0.1 b.0 b.1 ∙ behind _ (f.parts ∙ ap (spell_test c.0.0) g.parts));
        good = (f.good, g.good);
        low = omega (arith, f.low, g.low);
        follow = g.follow;
      })

  else_if_finds : (ts : List Token) (x : (Span × Span × Test × Statement) × List Token) → starts_two (is_word w.Else) (is_word w.If) ts ≡ true → else_if n B ts ≡ Ok x → Finding spell_else_if height_else_if GoodElseIf FollowElseIf n ts x
  else_if_finds ts x on e = else_if_found ts x e

  else_if_shorter : (ts : List Token) (x : (Span × Span × Test × Statement) × List Token) → else_if n B ts ≡ Ok x → length x.1 < length ts
  else_if_shorter ts x e =
      let f = else_if_found ts x e in
      omega (arith, ap (length {A = Token}) f.parts, long_else_if x.0.2 x.0.3 x.1)

  abbrev FoundElseIfs : List Token → ElseIfs × List Token → Type 0
  FoundElseIfs ts x =
      FoundList else_ifs_of (starts_two (is_word w.Else) (is_word w.If)) (else_if n B) spell_else_if spell_else_ifs height_else_if height_else_ifs GoodElseIf GoodElseIfs FollowElseIf n else_ifs_kind ts x

  else_ifs_finds : (ts : List Token) (x : ElseIfs × List Token) → else_ifs n B ts ≡ Ok x → FoundElseIfs ts x
  unfolding else_ifs
  else_ifs_finds ts x e =
      listed_finds else_ifs_of (starts_two (is_word w.Else) (is_word w.If)) (else_if n B) spell_else_if spell_else_ifs height_else_if height_else_ifs GoodElseIf GoodElseIfs FollowElseIf n else_ifs_kind else_if_finds ts x e

  else_ifs_end : (ts : List Token) (x : ElseIfs × List Token) → else_ifs n B ts ≡ Ok x → starts_two (is_word w.Else) (is_word w.If) x.1 ≡ false
  unfolding else_ifs
  else_ifs_end ts x e =
      let a = bind_ok (all (starts_two (is_word w.Else) (is_word w.If)) (else_if n B) ts) _ x e in
      subst (λ (q : ElseIfs × List Token). starts_two (is_word w.Else) (is_word w.If) q.1 ≡ false) (ok_is _ x a.2)
      (many_ends (starts_two (is_word w.Else) (is_word w.If)) (else_if n B) spell_else_if height_else_if GoodElseIf FollowElseIf n else_if_shorter refl (length ts) ts a.0 (omega arith) a.1)

  else_finds : (ts : List Token) (x : Otherwise × List Token) → starts_two (is_word w.Else) (is_word w.If) ts ≡ false → else_part n B ts ≡ Ok x → FoundOtherwise n ts x
  unfolding else_part
  else_finds ts x off e =
      let a = bind_ok (expect_word w.Else ts) _ x e in
      let b = bind_ok (B.statement a.0.1) _ x a.2 in
      let f = ih.statement a.0.1 b.0 b.1 in
      let start : ts ≡ word w.Else a.0.0 ∷ spell_statement b.0.0 b.0.1 = word_ok w.Else ts a.0 a.1 ∙ behind _ f.parts in
      let no_if : is_if b.0.0 ≡ false = sym (begins_if b.0.0 b.0.1) ∙ sym (ap (starts_two (is_word w.Else) (is_word w.If)) start) ∙ off in
      subst (FoundOtherwise n ts) (ok_is (Else a.0.0 b.0.0, b.0.1) x b.2) (record { parts = start; good = (no_if, f.good); low = f.low; follow = f.follow })

  otherwise_finds : (ts : List Token) (x : Otherwise × List Token) → starts_two (is_word w.Else) (is_word w.If) ts ≡ false → otherwise n B ts ≡ Ok x → FoundOtherwise n ts x
  otherwise_finds ts x off e = elim (either (starts (is_word w.Else) ts) _ _ (done x) e) [
    | inl a ↦ else_finds ts x off a.1
    | inr a ↦ subst (FoundOtherwise n ts) (ok_is (NoOtherwise, ts) x a.1) (record { parts = refl; good = tt; low = omega arith; follow = a.0 })
  ]

  if_finds : (at : Span) (ts : List Token) (x : Statement × List Token) → if_statement n B at ts ≡ Ok x → Finding spell_statement height_statement ProperStatement KeepsOff (suc n) (word w.If at ∷ ts) x
  unfolding if_statement
  if_finds at ts x e =
      let a = bind_ok (controlling n ts) _ x e in
      let b = bind_ok (B.statement a.0.1) _ x a.2 in
      let c = bind_ok (else_ifs n B b.0.1) _ x b.2 in
      let d = bind_ok (otherwise n B c.0.1) _ x c.2 in
      let f = test_finds n ts a.0 a.1 in
      let g = ih.statement a.0.1 b.0 b.1 in
      let h = else_ifs_finds b.0.1 c.0 c.1 in
      let o = otherwise_finds c.0.1 d.0 (else_ifs_end b.0.1 c.0 c.1) d.1 in
      let behind_body : b.0.1 ≡ spell_else_ifs c.0.0 (spell_otherwise d.0.0 d.0.1) = h.parts ∙ ap (spell_else_ifs c.0.0) o.parts in
      let keeps = stops_keeps b.0.0 c.0.0 d.0.0 d.0.1 (subst (StopsElse (takes_else b.0.0)) behind_body g.follow) in
      let goods : AllOf GoodElseIf h.list = else_ifs_kind.goods h.list (subst GoodElseIfs (sym h.is) h.good) in
      let follows : Follows spell_else_if FollowElseIf h.list (spell_otherwise d.0.0 d.0.1) = subst (Follows spell_else_if FollowElseIf h.list) o.parts h.follows in
      let proper : ProperElseIfs c.0.0 d.0.0 = subst (λ m. ProperElseIfs m d.0.0) h.is (else_ifs_proper h.list d.0.0 d.0.1 goods follows) in
      found d.2 (record {
        parts = behind _ (f.parts ∙ ap (spell_test a.0.0) (g.parts ∙ ap (spell_statement b.0.0) behind_body));
        good = (f.good, keeps, g.good, proper, o.good);
        low = over _ _ _ _ n f.low g.low h.low o.low;
        follow = o.follow;
      })

  -- ---- statements

  compound_finds : (ts : List Token) (x : Compound × List Token) → compound n B ts ≡ Ok x → Finding spell_compound height_compound ProperCompound Freely (suc n) ts x
  unfolding compound
  compound_finds ts x e =
      let a = bind_ok (expect_punct p.LBrace ts) _ x e in
      let b = bind_ok (pragmas a.0.1) _ x a.2 in
      let c = bind_ok (B.items b.0.1) _ x b.2 in
      let d = bind_ok (expect_punct p.RBrace c.0.1) _ x c.2 in
      let f = ih.items b.0.1 c.0 c.1 in
      found d.2 (record {
        parts = punct_ok p.LBrace ts a.0 a.1 ∙ behind _ (pragmas_finds a.0.1 b.0 b.1 ∙ ap (spell_pragmas b.0.0) (f.parts ∙ ap (spell_block_items c.0.0) (punct_ok p.RBrace c.0.1 d.0 d.1)));
        good = f.good;
        low = omega (arith, f.low);
        follow = tt;
      })

  block_finds : (ts : List Token) (x : Statement × List Token) → block n B ts ≡ Ok x → Finding spell_statement height_statement ProperStatement KeepsOff (suc n) ts x
  unfolding block
  block_finds ts x e =
      let a = bind_ok (compound n B ts) _ x e in
      let f = compound_finds ts a.0 a.1 in
      found a.2 (record { parts = f.parts; good = f.good; low = f.low; follow = tt })

  switch_finds : (at : Span) (ts : List Token) (x : Statement × List Token) → switch n B at ts ≡ Ok x → Finding spell_statement height_statement ProperStatement KeepsOff (suc n) (word w.Switch at ∷ ts) x
  unfolding switch
  switch_finds at ts x e =
      let a = bind_ok (controlling n ts) _ x e in
      let b = bind_ok (expect_punct p.LBrace a.0.1) _ x a.2 in
      let c = bind_ok (B.switch_items b.0.1) _ x b.2 in
      let d = bind_ok (expect_punct p.RBrace c.0.1) _ x c.2 in
      let f = test_finds n ts a.0 a.1 in
      let g = ih.switch_items b.0.1 c.0 c.1 in
      found d.2 (record {
        parts = behind _ (f.parts ∙ ap (spell_test a.0.0) (punct_ok p.LBrace a.0.1 b.0 b.1 ∙ behind _ (g.parts ∙ ap (spell_switch_items c.0.0) (punct_ok p.RBrace c.0.1 d.0 d.1))));
        good = (f.good, g.good);
        low = omega (arith, f.low, g.low);
        follow = tt;
      })

  while_finds : (at : Span) (ts : List Token) (x : Statement × List Token) → while_statement n B at ts ≡ Ok x → Finding spell_statement height_statement ProperStatement KeepsOff (suc n) (word w.While at ∷ ts) x
  unfolding while_statement
  while_finds at ts x e =
      let a = bind_ok (controlling n ts) _ x e in
      let b = bind_ok (B.statement a.0.1) _ x a.2 in
      let f = test_finds n ts a.0 a.1 in
      let g = ih.statement a.0.1 b.0 b.1 in
      found b.2 (record { parts = behind _ (f.parts ∙ ap (spell_test a.0.0) g.parts); good = (f.good, g.good); low = omega (arith, f.low, g.low); follow = g.follow })

  do_finds : (at : Span) (ts : List Token) (x : Statement × List Token) → do_statement n B at ts ≡ Ok x → Finding spell_statement height_statement ProperStatement KeepsOff (suc n) (word w.Do at ∷ ts) x
  unfolding do_statement
  do_finds at ts x e =
      let a = bind_ok (B.statement ts) _ x e in
      let b = bind_ok (expect_word w.While a.0.1) _ x a.2 in
      let c = bind_ok (controlling n b.0.1) _ x b.2 in
      let d = bind_ok (expect_punct p.Semicolon c.0.1) _ x c.2 in
      let f = ih.statement ts a.0 a.1 in
      let g = test_finds n b.0.1 c.0 c.1 in
      found d.2 (record {
        parts = behind _ (f.parts ∙ ap (spell_statement a.0.0) (word_ok w.While a.0.1 b.0 b.1 ∙ behind _ (g.parts ∙ ap (spell_test c.0.0) (punct_ok p.Semicolon c.0.1 d.0 d.1))));
        good = (f.good, g.good);
        low = omega (arith, f.low, g.low);
        follow = tt;
      })

  for_statement_finds : (at : Span) (ts : List Token) (x : Statement × List Token) → for_statement n B at ts ≡ Ok x → Finding spell_statement height_statement ProperStatement KeepsOff (suc n) (word w.For at ∷ ts) x
  unfolding for_statement
  for_statement_finds at ts x e =
      let a = bind_ok (for_head n ts) _ x e in
      let b = bind_ok (B.statement a.0.1) _ x a.2 in
      let f = for_finds n ts a.0 a.1 in
      let g = ih.statement a.0.1 b.0 b.1 in
      found b.2 (record { parts = behind _ (f.parts ∙ ap (spell_for a.0.0) g.parts); good = (f.good, g.good); low = above _ _ n f.low g.low; follow = g.follow })

  forall_statement_finds : (at : Span) (ts : List Token) (x : Statement × List Token) → forall_statement n B at ts ≡ Ok x → Finding spell_statement height_statement ProperStatement KeepsOff (suc n) (word w.UpcForall at ∷ ts) x
  unfolding forall_statement
  forall_statement_finds at ts x e =
      let a = bind_ok (forall_head n ts) _ x e in
      let b = bind_ok (B.statement a.0.1) _ x a.2 in
      let f = forall_finds n ts a.0 a.1 in
      let g = ih.statement a.0.1 b.0 b.1 in
      found b.2 (record { parts = behind _ (f.parts ∙ ap (spell_forall a.0.0) g.parts); good = (f.good, g.good); low = above _ _ n f.low g.low; follow = g.follow })

  value_statement_finds : (ts : List Token) (x : Statement × List Token) → value_statement n ts ≡ Ok x → Finding spell_statement height_statement ProperStatement KeepsOff (suc n) ts x
  unfolding value_statement
  value_statement_finds ts x e =
      let a = bind_ok (value n p.Semicolon ts) _ x e in
      let b = bind_ok (expect_punct p.Semicolon a.0.1) _ x a.2 in
      let f = value_finds n p.Semicolon ts a.0 a.1 in
      found b.2 (record { parts = f.parts ∙ ap (spell_value a.0.0) (punct_ok p.Semicolon a.0.1 b.0 b.1); good = f.good; low = omega (arith, f.low); follow = tt })

  return_finds : (at : Span) (ts : List Token) (x : Statement × List Token) → return_statement n at ts ≡ Ok x → Finding spell_statement height_statement ProperStatement KeepsOff (suc n) (word w.Return at ∷ ts) x
  unfolding return_statement
  return_finds at ts x e =
      let a = bind_ok (value n p.Semicolon ts) _ x e in
      let b = bind_ok (expect_punct p.Semicolon a.0.1) _ x a.2 in
      let f = value_finds n p.Semicolon ts a.0 a.1 in
      found b.2 (record { parts = behind _ (f.parts ∙ ap (spell_value a.0.0) (punct_ok p.Semicolon a.0.1 b.0 b.1)); good = f.good; low = omega (arith, f.low); follow = tt })

  barrier_finds : (kind : BarrierWord) (at : Span) (ts : List Token) (x : Statement × List Token) → barrier_statement n kind at ts ≡ Ok x → Finding spell_statement height_statement ProperStatement KeepsOff (suc n) (word (barrier_word kind) at ∷ ts) x
  unfolding barrier_statement
  barrier_finds kind at ts x e =
      let a = bind_ok (value n p.Semicolon ts) _ x e in
      let b = bind_ok (expect_punct p.Semicolon a.0.1) _ x a.2 in
      let f = value_finds n p.Semicolon ts a.0 a.1 in
      found b.2 (record { parts = behind _ (f.parts ∙ ap (spell_value a.0.0) (punct_ok p.Semicolon a.0.1 b.0 b.1)); good = f.good; low = omega (arith, f.low); follow = tt })

  break_finds : (at : Span) (ts : List Token) (x : Statement × List Token) → break_statement at ts ≡ Ok x → Finding spell_statement height_statement ProperStatement KeepsOff (suc n) (word w.Break at ∷ ts) x
  unfolding break_statement
  break_finds at ts x e =
      let a = bind_ok (expect_punct p.Semicolon ts) _ x e in
      found a.2 (record { parts = behind _ (punct_ok p.Semicolon ts a.0 a.1); good = tt; low = omega arith; follow = tt })

  continue_finds : (at : Span) (ts : List Token) (x : Statement × List Token) → continue_statement at ts ≡ Ok x → Finding spell_statement height_statement ProperStatement KeepsOff (suc n) (word w.Continue at ∷ ts) x
  unfolding continue_statement
  continue_finds at ts x e =
      let a = bind_ok (expect_punct p.Semicolon ts) _ x e in
      found a.2 (record { parts = behind _ (punct_ok p.Semicolon ts a.0 a.1); good = tt; low = omega arith; follow = tt })

  fence_finds : (at : Span) (ts : List Token) (x : Statement × List Token) → fence_statement at ts ≡ Ok x → Finding spell_statement height_statement ProperStatement KeepsOff (suc n) (word w.UpcFence at ∷ ts) x
  unfolding fence_statement
  fence_finds at ts x e =
      let a = bind_ok (expect_punct p.Semicolon ts) _ x e in
      found a.2 (record { parts = behind _ (punct_ok p.Semicolon ts a.0 a.1); good = tt; low = omega arith; follow = tt })

  statement_by_finds : (o : StatementStart) (y : Token) (ts : List Token) (x : Statement × List Token) → statement_by n B o y ts ≡ Ok x → Finding spell_statement height_statement ProperStatement KeepsOff (suc n) (token (start_kind o y.kind) (span_of y) ∷ ts) x
  statement_by_finds start.Block y ts x e = block_finds (y ∷ ts) x e
  statement_by_finds start.Value y ts x e = value_statement_finds (y ∷ ts) x e
  statement_by_finds start.If y ts x e = if_finds (span_of y) ts x e
  statement_by_finds start.Switch y ts x e = switch_finds (span_of y) ts x e
  statement_by_finds start.While y ts x e = while_finds (span_of y) ts x e
  statement_by_finds start.Do y ts x e = do_finds (span_of y) ts x e
  statement_by_finds start.For y ts x e = for_statement_finds (span_of y) ts x e
  statement_by_finds start.Forall y ts x e = forall_statement_finds (span_of y) ts x e
  statement_by_finds start.Break y ts x e = break_finds (span_of y) ts x e
  statement_by_finds start.Continue y ts x e = continue_finds (span_of y) ts x e
  statement_by_finds start.Return y ts x e = return_finds (span_of y) ts x e
  statement_by_finds (start.Barrier kind) y ts x e = barrier_finds kind (span_of y) ts x e
  statement_by_finds start.Fence y ts x e = fence_finds (span_of y) ts x e

  statement_finds : (ts : List Token) (x : Statement × List Token) → statement n B ts ≡ Ok x → Finding spell_statement height_statement ProperStatement KeepsOff (suc n) ts x
  unfolding statement
  statement_finds [] x e = absurd cc
  statement_finds (y ∷ ts) x e =
      subst (λ kind. Finding spell_statement height_statement ProperStatement KeepsOff (suc n) (token kind (span_of y) ∷ ts) x) (sym (start_forth y.kind)) (statement_by_finds (statement_start y.kind) y ts x e)

  abbrev above_finds : FindsStatements (suc n) (level_above n B)
  above_finds = record { statement = statement_finds; compound = compound_finds; items = items_finds; switch_items = switch_items_finds }

pub finds_statements : (n : ℕ) → FindsStatements n (statements_at n)
unfolding statements_at
finds_statements zero = record {
  statement = λ ts x e. absurd cc;
  compound = λ ts x e. absurd cc;
  items = λ ts x e. absurd cc;
  switch_items = λ ts x e. absurd cc;
}
finds_statements (suc n) = above_finds n (statements_at n) (finds_statements n)
