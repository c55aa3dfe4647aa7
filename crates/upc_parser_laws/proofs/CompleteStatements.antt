-- The tokens of a proper statement are read as that statement, whatever follows that cannot continue it.
use Rattle.std.proofs.Common.{◌≡◌, ℕ, zero, suc, ◌+◌, ◌<◌, true, false, List, [], ◌∷◌, length, Some, None, refl, ap, ◌∙◌, subst, arith}
use Rattle.upc_lexer.specs.declared.token.Token.{Token}
use Rattle.upc_lexer.specs.declared.token.Punct.TheVariants as p
use Rattle.upc_lexer.specs.declared.token.Word.TheVariants as w
use Rattle.upc_tree.specs.declared.span.Span.{Span}
use Rattle.upc_tree.specs.Tokens.{punct, word}
use Rattle.upc_tree.specs.Expression.{spell}
use Rattle.upc_tree.specs.Statement as s
use Rattle.upc_tree.specs.Statement.{Test, Statement, Compound, Braces, BlockItem, DeclarationItem, StatementItem, BlockItems, NoBlockItems, AndBlockItem, SwitchItem, CaseItem, DefaultItem, SwitchStatement, SwitchItems, NoSwitchItems, AndSwitchItem, ElseIfs, NoElseIfs, AndElseIf, Otherwise, NoOtherwise, Else, spell_test, spell_statement, spell_compound, spell_block_items, spell_block_item, spell_switch_items, spell_switch_item, spell_else_ifs, spell_otherwise, height_statement, height_compound, height_block_items, height_block_item, height_switch_items, height_switch_item, height_else_ifs, height_otherwise, takes_else, takes_else_behind, ProperStatement, ProperCompound, ProperBlockItems, ProperBlockItem, ProperSwitchItems, ProperSwitchItem, ProperElseIfs, ProperOtherwise}
use Rattle.upc_tree.specs.layer.Lists.{spell_all, block_items_of, switch_items_of, else_ifs_of}
use Rattle.upc_parser_ground.specs.layer.Outcome.{is_word, starts, starts_two}
use Rattle.upc_parser_ground.proofs.Sequence.{Gets, gets, high, got, step, raise, along, not_two}
use Rattle.upc_parser_ground.proofs.Lists.{Follows, listed_reads}
use Rattle.upc_parser_laws.proofs.Stops.{begins, expr_begins}
use Rattle.upc_parser_laws.proofs.CompleteExpressions.{reads}
use Rattle.upc_parser_statements.specs.layer.Parse.{declaration_item, case_item, default_item, value_statement, return_statement, barrier_statement, break_statement, continue_statement, fence_statement, Statements, statement_item, item, items, switch_statement, switch_item, switch_items, compound, else_if, else_ifs, else_part, otherwise, if_statement, switch, while_statement, do_statement, for_statement, forall_statement, block, statement, level_above, statements_at, no_brace}
use Rattle.upc_parser_laws.proofs.StatementListings.{spell_else_if, height_else_if, GoodElseIf, GoodElseIfs, block_items_back, block_items_kind, switch_items_back, switch_items_kind, else_ifs_back, else_ifs_kind}
use Rattle.upc_parser_laws.proofs.StatementLow.{long_block_item, long_switch_item, long_else_if}
use Rattle.upc_parser_laws.proofs.Begins.{barrier_back, begins_value, statement_no_spec, statement_no_case, statement_no_default, local_begins, item_inside, item_no_else, items_no_pragma, switch_item_inside, switch_item_no_else, StopsElse, stops_else, keeps_stops, begins_if}
use Rattle.upc_parser_laws.proofs.CompleteDeclarations.{declaration_reads, value_reads, test_reads, for_reads, forall_reads, pragmas_reads}

-- ---- one level

pub record ReadsStatements (n : ℕ) (B : Statements) : Type 0 where
  pub statement : (u : Statement) (rest : List Token) → ProperStatement u → StopsElse (takes_else u) rest → Gets n (height_statement u) (B.statement (spell_statement u rest)) (u, rest)
  pub compound : (u : Compound) (rest : List Token) → ProperCompound u → Gets n (height_compound u) (B.compound (spell_compound u rest)) (u, rest)
  pub items : (u : BlockItems) (r : Span) (rest : List Token) → ProperBlockItems u → Gets n (height_block_items u + 1) (B.items (spell_block_items u (punct p.RBrace r ∷ rest))) (u, punct p.RBrace r ∷ rest)
  pub switch_items : (u : SwitchItems) (r : Span) (rest : List Token) → ProperSwitchItems u → Gets n (height_switch_items u + 1) (B.switch_items (spell_switch_items u (punct p.RBrace r ∷ rest))) (u, punct p.RBrace r ∷ rest)

-- ---- what follows the items of a list

abbrev FollowItem : BlockItem → List Token → Type 0
FollowItem (DeclarationItem x) ts = Unit {0}
FollowItem (StatementItem b) ts = StopsElse (takes_else b) ts

follow_item : (x : BlockItem) (ts : List Token) → starts (is_word w.Else) ts ≡ false → FollowItem x ts
follow_item (DeclarationItem x) ts h = tt
follow_item (StatementItem b) ts h = stops_else (takes_else b) ts h

items_start : (u : BlockItems) (r : Span) (rest : List Token) → ProperBlockItems u → starts (is_word w.Else) (spell_all spell_block_item (block_items_back u) (punct p.RBrace r ∷ rest)) ≡ false
items_start NoBlockItems r rest h = refl
items_start (AndBlockItem x m) r rest h = item_no_else x _ h.0

items_follow : (u : BlockItems) (r : Span) (rest : List Token) → ProperBlockItems u → Follows spell_block_item FollowItem (block_items_back u) (punct p.RBrace r ∷ rest)
items_follow NoBlockItems r rest h = tt
items_follow (AndBlockItem x m) r rest h = (follow_item x _ (items_start m r rest h.1), items_follow m r rest h.1)

abbrev FollowSwitchItem : SwitchItem → List Token → Type 0
FollowSwitchItem (CaseItem a e c) ts = Unit {0}
FollowSwitchItem (DefaultItem a c) ts = Unit {0}
FollowSwitchItem (SwitchStatement b) ts = StopsElse (takes_else b) ts

follow_switch_item : (x : SwitchItem) (ts : List Token) → starts (is_word w.Else) ts ≡ false → FollowSwitchItem x ts
follow_switch_item (CaseItem a e c) ts h = tt
follow_switch_item (DefaultItem a c) ts h = tt
follow_switch_item (SwitchStatement b) ts h = stops_else (takes_else b) ts h

switch_items_start : (u : SwitchItems) (r : Span) (rest : List Token) → starts (is_word w.Else) (spell_all spell_switch_item (switch_items_back u) (punct p.RBrace r ∷ rest)) ≡ false
switch_items_start NoSwitchItems r rest = refl
switch_items_start (AndSwitchItem x m) r rest = switch_item_no_else x _

switch_items_follow : (u : SwitchItems) (r : Span) (rest : List Token) → Follows spell_switch_item FollowSwitchItem (switch_items_back u) (punct p.RBrace r ∷ rest)
switch_items_follow NoSwitchItems r rest = tt
switch_items_follow (AndSwitchItem x m) r rest = (follow_switch_item x _ (switch_items_start m r rest), switch_items_follow m r rest)

abbrev pub FollowElseIf : Span × Span × Test × Statement → List Token → Type 0
FollowElseIf x ts = StopsElse (takes_else x.3) ts

else_ifs_good : (u : ElseIfs) (o : Otherwise) → ProperElseIfs u o → GoodElseIfs u
else_ifs_good NoElseIfs o h = tt
else_ifs_good (AndElseIf e a t b m) o h = (h.0, h.2, else_ifs_good m o h.3)

else_ifs_spelled : (u : ElseIfs) (rest : List Token) → spell_else_ifs u rest ≡ spell_all spell_else_if (else_ifs_back u) rest
else_ifs_spelled NoElseIfs rest = refl
else_ifs_spelled (AndElseIf e a t b m) rest = ap (spell_else_if (e, a, t, b)) (else_ifs_spelled m rest)

else_ifs_follow : (u : ElseIfs) (o : Otherwise) (rest : List Token) → ProperElseIfs u o → StopsElse (takes_else_behind o) rest → Follows spell_else_if FollowElseIf (else_ifs_back u) (spell_otherwise o rest)
else_ifs_follow NoElseIfs o rest h st = tt
else_ifs_follow (AndElseIf e a t b m) o rest h st =
    (subst (StopsElse (takes_else b)) (else_ifs_spelled m (spell_otherwise o rest)) (keeps_stops b m o rest h.1 st), else_ifs_follow m o rest h.3 st)

otherwise_ends : (o : Otherwise) (rest : List Token) → ProperOtherwise o → StopsElse (takes_else_behind o) rest → starts_two (is_word w.Else) (is_word w.If) (spell_otherwise o rest) ≡ false
otherwise_ends NoOtherwise rest pr st = not_two (is_word w.Else) (is_word w.If) rest st
otherwise_ends (Else a b) rest pr st = begins_if b rest ∙ pr.0

-- ---- a level above a level

value_start : (n : ℕ) (B : Statements) (ts : List Token) → starts begins ts ≡ true → statement n B ts ≡ value_statement n ts
unfolding statement
value_start n B [] h = absurd cc
value_start n B (x ∷ ts) h = let e = begins_value x.kind h in rw e refl

module _ (n : ℕ) (B : Statements) (ih : ReadsStatements n B) where
  -- ---- lists

  item_reads : (x : BlockItem) (rest : List Token) → ProperBlockItem x → FollowItem x rest → Gets n (height_block_item x) (item n B (spell_block_item x rest)) (x, rest)
  unfolding declaration_item statement_item
  item_reads (DeclarationItem x) rest pr h =
      let on = local_begins x rest pr.0 pr.1 in
      rw on (step _ (declaration_reads n x rest pr.0 pr.1) (λ l. l) (gets refl))
  item_reads (StatementItem b) rest pr h =
      let off = statement_no_spec b rest in
      rw off (step _ (ih.statement b rest pr h) (λ l. l) (gets refl))

  item_begins : (x : BlockItem) (rest : List Token) → ProperBlockItem x → starts no_brace (spell_block_item x rest) ≡ true
  item_begins x rest pr = item_inside x rest pr

  items_reads : (u : BlockItems) (r : Span) (rest : List Token) → ProperBlockItems u → Gets (suc n) (height_block_items u + 1) (items n B (spell_block_items u (punct p.RBrace r ∷ rest))) (u, punct p.RBrace r ∷ rest)
  unfolding items
  items_reads u r rest pr =
      raise (listed_reads block_items_of (starts no_brace) (item n B) spell_block_item spell_block_items height_block_item height_block_items ProperBlockItem ProperBlockItems FollowItem n block_items_kind
      item_reads item_begins long_block_item u (punct p.RBrace r ∷ rest) pr (items_follow u r rest pr) refl) (λ l. omega arith)

  switch_item_reads : (x : SwitchItem) (rest : List Token) → ProperSwitchItem x → FollowSwitchItem x rest → Gets n (height_switch_item x) (switch_item n B (spell_switch_item x rest)) (x, rest)
  unfolding case_item default_item switch_statement
  switch_item_reads (CaseItem a e c) rest pr h = step _ ((reads n).expr 2 e (punct p.Colon c ∷ rest) pr.1 pr.0 (refl, refl, tt)) (λ l. l) (gets refl)
  switch_item_reads (DefaultItem a c) rest pr h = gets refl
  switch_item_reads (SwitchStatement b) rest pr h =
      let x = statement_no_case b rest in
      let y = statement_no_default b rest in
      rw (x, y) (step _ (ih.statement b rest pr h) (λ l. l) (gets refl))

  switch_item_begins : (x : SwitchItem) (rest : List Token) → ProperSwitchItem x → starts no_brace (spell_switch_item x rest) ≡ true
  switch_item_begins x rest pr = switch_item_inside x rest

  switch_items_reads : (u : SwitchItems) (r : Span) (rest : List Token) → ProperSwitchItems u → Gets (suc n) (height_switch_items u + 1) (switch_items n B (spell_switch_items u (punct p.RBrace r ∷ rest))) (u, punct p.RBrace r ∷ rest)
  unfolding switch_items
  switch_items_reads u r rest pr =
      raise (listed_reads switch_items_of (starts no_brace) (switch_item n B) spell_switch_item spell_switch_items height_switch_item height_switch_items ProperSwitchItem ProperSwitchItems FollowSwitchItem n switch_items_kind
      switch_item_reads switch_item_begins long_switch_item u (punct p.RBrace r ∷ rest) pr (switch_items_follow u r rest) refl) (λ l. omega arith)

  else_if_reads : (x : Span × Span × Test × Statement) (rest : List Token) → GoodElseIf x → FollowElseIf x rest → Gets n (height_else_if x) (else_if n B (spell_else_if x rest)) (x, rest)
  unfolding else_if
  else_if_reads x rest pr h =
      step _ (test_reads n x.2 (spell_statement x.3 rest) pr.0) (λ l. omega arith)
      (step _ (ih.statement x.3 rest pr.1 h) (λ l. omega arith) (gets refl))

  else_if_begins : (x : Span × Span × Test × Statement) (rest : List Token) → GoodElseIf x → starts_two (is_word w.Else) (is_word w.If) (spell_else_if x rest) ≡ true
  else_if_begins x rest pr = refl

  else_if_long : (x : Span × Span × Test × Statement) (rest : List Token) → length rest < length (spell_else_if x rest)
  else_if_long x rest = omega (arith, long_else_if x.2 x.3 rest)

  else_ifs_reads : (u : ElseIfs) (o : Otherwise) (rest : List Token) → ProperElseIfs u o → ProperOtherwise o → StopsElse (takes_else_behind o) rest
      → Gets n (height_else_ifs u) (else_ifs n B (spell_else_ifs u (spell_otherwise o rest))) (u, spell_otherwise o rest)
  unfolding else_ifs
  else_ifs_reads u o rest pr po st =
      listed_reads else_ifs_of (starts_two (is_word w.Else) (is_word w.If)) (else_if n B) spell_else_if spell_else_ifs height_else_if height_else_ifs GoodElseIf GoodElseIfs FollowElseIf n else_ifs_kind
      else_if_reads else_if_begins else_if_long u (spell_otherwise o rest) (else_ifs_good u o pr) (else_ifs_follow u o rest pr st) (otherwise_ends o rest po st)

  otherwise_reads : (o : Otherwise) (rest : List Token) → ProperOtherwise o → StopsElse (takes_else_behind o) rest → Gets n (height_otherwise o) (otherwise n B (spell_otherwise o rest)) (o, rest)
  unfolding else_part
  otherwise_reads NoOtherwise rest pr st = rw st (gets refl)
  otherwise_reads (Else a b) rest pr st = step _ (ih.statement b rest pr.1 st) (λ l. l) (gets refl)

  -- ---- statements

  compound_reads : (u : Compound) (rest : List Token) → ProperCompound u → Gets (suc n) (height_compound u) (compound n B (spell_compound u rest)) (u, rest)
  unfolding compound
  compound_reads (Braces l g m r) rest pr =
      let end = punct p.RBrace r ∷ rest in
      step _ (got (suc n) 0 (pragmas_reads g (spell_block_items m end) (items_no_pragma m r rest pr))) (λ l. omega arith)
      (step _ (ih.items m r rest pr) (λ l. omega arith) (gets refl))

  if_reads : (a : Span) (t : Test) (b : Statement) (m : ElseIfs) (o : Otherwise) (rest : List Token) → ProperStatement (s.If a t b m o) → StopsElse (takes_else_behind o) rest
      → Gets (suc n) (height_statement (s.If a t b m o)) (if_statement n B a (spell_test t (spell_statement b (spell_else_ifs m (spell_otherwise o rest))))) (s.If a t b m o, rest)
  unfolding if_statement
  if_reads a t b m o rest pr st =
      let end = spell_otherwise o rest in
      step _ (test_reads n t (spell_statement b (spell_else_ifs m end)) pr.0) (λ l. omega arith)
      (step _ (ih.statement b (spell_else_ifs m end) pr.2 (keeps_stops b m o rest pr.1 st)) (λ l. omega arith)
      (step _ (else_ifs_reads m o rest pr.3 pr.4 st) (λ l. omega arith)
      (step _ (otherwise_reads o rest pr.4 st) (λ l. omega arith) (gets refl))))

  statement_reads : (u : Statement) (rest : List Token) → ProperStatement u → StopsElse (takes_else u) rest → Gets (suc n) (height_statement u) (statement n B (spell_statement u rest)) (u, rest)
  unfolding statement block switch while_statement do_statement for_statement forall_statement value_statement return_statement barrier_statement break_statement continue_statement fence_statement
  statement_reads (s.Block (Braces l g m r)) rest pr st = step _ (compound_reads (Braces l g m r) rest pr) (λ l. l) (gets refl)
  statement_reads (s.Value None c) rest pr st = step _ (value_reads n None c rest pr) (λ l. omega arith) (gets refl)
  statement_reads (s.Value (Some e) c) rest pr st =
      along (value_start n B (spell e (punct p.Semicolon c ∷ rest)) (expr_begins e (punct p.Semicolon c ∷ rest)))
      (step _ (value_reads n (Some e) c rest pr) (λ l. omega arith) (gets refl))
  statement_reads (s.If a t b m o) rest pr st = if_reads a t b m o rest pr st
  statement_reads (s.Switch a t l b r) rest pr st =
      step _ (test_reads n t (punct p.LBrace l ∷ spell_switch_items b (punct p.RBrace r ∷ rest)) pr.0) (λ l. omega arith)
      (step _ (ih.switch_items b r rest pr.1) (λ l. omega arith) (gets refl))
  statement_reads (s.While a t b) rest pr st =
      step _ (test_reads n t (spell_statement b rest) pr.0) (λ l. omega arith)
      (step _ (ih.statement b rest pr.1 st) (λ l. omega arith) (gets refl))
  statement_reads (s.DoWhile a b u t c) rest pr st =
      let end = spell_test t (punct p.Semicolon c ∷ rest) in
      step _ (ih.statement b (word w.While u ∷ end) pr.0 (stops_else (takes_else b) (word w.While u ∷ end) refl)) (λ l. omega arith)
      (step _ (test_reads n t (punct p.Semicolon c ∷ rest) pr.1) (λ l. omega arith) (gets refl))
  statement_reads (s.For a h b) rest pr st =
      step _ (for_reads n h (spell_statement b rest) pr.0) (λ l. omega arith)
      (step _ (ih.statement b rest pr.1 st) (λ l. omega arith) (gets refl))
  statement_reads (s.Forall a h b) rest pr st =
      step _ (forall_reads n h (spell_statement b rest) pr.0) (λ l. omega arith)
      (step _ (ih.statement b rest pr.1 st) (λ l. omega arith) (gets refl))
  statement_reads (s.Break a c) rest pr st = gets refl
  statement_reads (s.Continue a c) rest pr st = gets refl
  statement_reads (s.Return a v c) rest pr st = step _ (value_reads n v c rest pr) (λ l. omega arith) (gets refl)
  statement_reads (s.Barrier kind a v c) rest pr st =
      let e = barrier_back kind in
      rw e (step _ (value_reads n v c rest pr) (λ l. omega arith) (gets refl))
  statement_reads (s.Fence a c) rest pr st = gets refl

  abbrev above_reads : ReadsStatements (suc n) (level_above n B)
  above_reads = record { statement = statement_reads; compound = compound_reads; items = items_reads; switch_items = switch_items_reads }

compound_some : (u : Compound) → 0 < height_compound u
compound_some (Braces l g m r) = omega arith

statement_some : (u : Statement) → 0 < height_statement u
statement_some (s.Block c) = compound_some c
statement_some (s.Value v c) = omega arith
statement_some (s.If a t b m o) = omega arith
statement_some (s.Switch a t l b r) = omega arith
statement_some (s.While a t b) = omega arith
statement_some (s.DoWhile a b u t c) = omega arith
statement_some (s.For a h b) = omega arith
statement_some (s.Forall a h b) = omega arith
statement_some (s.Break a c) = omega arith
statement_some (s.Continue a c) = omega arith
statement_some (s.Return a v c) = omega arith
statement_some (s.Barrier kind a v c) = omega arith
statement_some (s.Fence a c) = omega arith

pub reads_statements : (n : ℕ) → ReadsStatements n (statements_at n)
unfolding statements_at
reads_statements zero = record {
  statement = λ u rest pr st. high (statement_some u) refl;
  compound = λ u rest pr. high (compound_some u) refl;
  items = λ u r rest pr. high (omega arith) refl;
  switch_items = λ u r rest pr. high (omega arith) refl;
}
reads_statements (suc n) = above_reads n (statements_at n) (reads_statements n)
