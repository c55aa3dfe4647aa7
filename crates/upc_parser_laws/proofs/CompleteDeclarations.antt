-- The tokens of a proper declaration, and of the parts of statements that are no statements, are read as they are.
use Rattle.std.proofs.Common.{◌≡◌, ℕ, zero, suc, ◌<◌, ◌≤◌, Bool, true, false, List, [], ◌∷◌, length, Option, Some, None, Ok, refl, arith}
use Rattle.upc_lexer.specs.declared.token.Token.{Token}
use Rattle.upc_lexer.specs.declared.token.TokenKind.{TokenKind}
use Rattle.upc_lexer.specs.declared.token.TokenKind.TheVariants as k
use Rattle.upc_lexer.specs.declared.token.Punct.{Punct}
use Rattle.upc_lexer.specs.declared.token.Punct.TheVariants as p
use Rattle.upc_lexer.specs.declared.token.Word.TheVariants as w
use Rattle.upc_tree.specs.declared.span.Span.{Span}
use Rattle.upc_tree.specs.declared.span.Pragma.{Pragma}
use Rattle.upc_tree.specs.Tokens.{punct, spell_pragmas}
use Rattle.upc_tree.specs.Expression.{Expr, Declarator, ObjectDeclarator, FunctionDeclarator, NoPointers, AndPointer, spell, spell_next_exprs, spell_declarator}
use Rattle.upc_tree.specs.Proper.{open_specs}
use Rattle.upc_tree.specs.Declaration.{Initial, NoInitial, ValueInitial, ListInitial, Declared, DeclaredAs, NextDeclareds, NoNextDeclareds, AndDeclared, DeclaredList, NoneDeclared, SomeDeclared, Declaration, Declares, spell_initial, spell_declared, spell_next_declareds, spell_declared_list, spell_declaration, height_initial, height_declared, height_next_declareds, height_declared_list, height_declaration, ProperInitial, ProperDeclared, ProperNextDeclareds, ProperDeclaredList, ProperDeclaration, IsLocal}
use Rattle.upc_tree.specs.Statement.{Test, Tests, First, FirstValue, FirstDeclaration, Affinity, NoAffinity, ContinueAffinity, ValueAffinity, ForHead, ForParts, ForallHead, ForallParts, spell_value, spell_test, spell_first, spell_affinity, spell_for, spell_forall, height_value, height_test, height_first, height_affinity, height_for, height_forall, ProperValue, ProperTest, ProperFirst, ProperAffinity, ProperFor, ProperForall}
use Rattle.upc_tree.specs.layer.Lists.{next_declareds_of}
use Rattle.upc_parser_ground.specs.declared.start.Joint.TheVariants as joint
use Rattle.upc_parser_ground.specs.layer.Outcome.{is_punct, is_word, starts, many}
use Rattle.upc_parser_ground.specs.layer.Tables.{is_spec}
use Rattle.upc_parser_ground.specs.layer.Ahead.{is_pragma}
use Rattle.upc_parser_types.specs.layer.Expression.{at_height}
use Rattle.upc_parser_ground.proofs.Sequence.{Gets, gets, high, step, apart}
use Rattle.upc_parser_ground.proofs.Lists.{Follows, listed_reads}
use Rattle.upc_parser_laws.proofs.Stops.{Stops, stops_joint, stops_open, begins, expr_begins, expr_no_punct, expr_no_spec, Behind, behind_declarator}
use Rattle.upc_parser_laws.proofs.CompleteTypes.{Named, stops_next, specs_reads, declarator_reads, next_exprs_reads}
use Rattle.upc_parser_laws.proofs.CompleteExpressions.{reads}
use Rattle.upc_parser_statements.specs.layer.Parse.{value_initial, list_initial, initial, declared, next_declared, next_declareds, some_declared, declared_list, declaration, declaration_at, value, controlling, first, first_value, first_declaration, affinity, continue_affinity, value_affinity, for_head, forall_head, pragma, pragmas}
use Rattle.upc_parser_laws.proofs.StatementListings.{spell_next_declared, height_next_declared, GoodNextDeclared, next_declareds_back, next_declareds_kind}
use Rattle.upc_parser_laws.proofs.StatementLow.{long_declared}
use Rattle.upc_parser_laws.proofs.Begins.{local_begins}

-- ---- what follows a part of a declaration: a comma or a semicolon

pub record Parted (ts : List Token) : Type 0 where
  pub stops : Stops 1 ts
  pub no_equal : starts (is_punct p.Equal) ts ≡ false
  pub no_brace : starts (is_punct p.LBrace) ts ≡ false
  pub named : Named ts

parted_comma : (c : Span) (ts : List Token) → Parted (punct p.Comma c ∷ ts)
parted_comma c ts = record { stops = stops_joint 1 joint.Comma c ts (omega arith); no_equal = refl; no_brace = refl; named = (refl, refl) }

pub parted_semicolon : (c : Span) (ts : List Token) → Parted (punct p.Semicolon c ∷ ts)
parted_semicolon c ts = record { stops = (refl, refl, tt); no_equal = refl; no_brace = refl; named = (refl, refl) }

pub parted_next : (m : NextDeclareds) (c : Span) (ts : List Token) → Parted (spell_next_declareds m (punct p.Semicolon c ∷ ts))
parted_next NoNextDeclareds c ts = parted_semicolon c ts
parted_next (AndDeclared c2 x m) c ts = parted_comma c2 _

pub named_initial : (i : Initial) (ts : List Token) → Parted ts → Named (spell_initial i ts)
named_initial NoInitial ts h = h.named
named_initial (ValueInitial q e) ts h = (refl, refl)
named_initial (ListInitial q l e m r) ts h = (refl, refl)

pub initial_no_brace : (i : Initial) (ts : List Token) → Parted ts → starts (is_punct p.LBrace) (spell_initial i ts) ≡ false
initial_no_brace NoInitial ts h = h.no_brace
initial_no_brace (ValueInitial q e) ts h = refl
initial_no_brace (ListInitial q l e m r) ts h = refl

abbrev FollowNextDeclared : Span × Declared → List Token → Type 0
FollowNextDeclared x ts = Parted ts

next_declareds_follow : (u : NextDeclareds) (rest : List Token) → Parted rest → Follows spell_next_declared FollowNextDeclared (next_declareds_back u) rest
next_declareds_follow NoNextDeclareds rest h = tt
next_declareds_follow (AndDeclared c x NoNextDeclareds) rest h = (h, tt)
next_declareds_follow (AndDeclared c x (AndDeclared c2 x2 m)) rest h = (parted_comma c2 _, next_declareds_follow (AndDeclared c2 x2 m) rest h)

pub declarator_no_semicolon : (u : Declarator) (ts : List Token) → starts (is_punct p.Semicolon) (spell_declarator u ts) ≡ false
declarator_no_semicolon (ObjectDeclarator NoPointers x m) ts = refl
declarator_no_semicolon (ObjectDeclarator (AndPointer a q m) x n) ts = refl
declarator_no_semicolon (FunctionDeclarator NoPointers x r) ts = refl
declarator_no_semicolon (FunctionDeclarator (AndPointer a q m) x r) ts = refl

declared_no_semicolon : (u : Declared) (ts : List Token) → starts (is_punct p.Semicolon) (spell_declared u ts) ≡ false
declared_no_semicolon (DeclaredAs x i) ts = declarator_no_semicolon x (spell_initial i ts)

behind_list : (local b : Bool) (u : DeclaredList) (c : Span) (ts : List Token) → Behind local b (spell_declared_list u (punct p.Semicolon c ∷ ts))
behind_list local b NoneDeclared c ts = record { no_spec = refl; no_brace = refl; stops = stops_open b _ refl }
behind_list local b (SomeDeclared (DeclaredAs x i) m) c ts = behind_declarator local b x (spell_initial i (spell_next_declareds m (punct p.Semicolon c ∷ ts)))

-- ---- declarations

module _ (n : ℕ) where
  pub initial_reads : (u : Initial) (rest : List Token) → ProperInitial u → Parted rest → Gets n (height_initial u) (initial n (spell_initial u rest)) (u, rest)
  unfolding initial value_initial list_initial
  initial_reads NoInitial rest pr h = let off = h.no_equal in gets (rw off refl)
  initial_reads (ValueInitial q e) rest pr h =
      let off = expr_no_punct p.LBrace refl e rest in
      rw off (step _ ((reads n).expr 1 e rest pr.1 pr.0 h.stops) (λ l. l) (gets refl))
  initial_reads (ListInitial q l e m r) rest pr h =
      let end = punct p.RBrace r ∷ rest in
      step _ ((reads n).expr 1 e (spell_next_exprs m end) pr.1 pr.0 (stops_next m end (refl, refl, tt))) (λ l. omega arith)
      (step _ (next_exprs_reads n (at_height n) (reads n) m end pr.2 (refl, refl, tt) refl) (λ l. omega arith) (gets refl))

  declared_reads : (u : Declared) (rest : List Token) → ProperDeclared u → Parted rest → Gets n (height_declared u) (declared n (spell_declared u rest)) (u, rest)
  unfolding declared
  declared_reads (DeclaredAs x i) rest pr h =
      step _ (declarator_reads n (at_height n) (reads n) x (spell_initial i rest) pr.0 (named_initial i rest h)) (λ l. omega arith)
      (step _ (initial_reads i rest pr.1 h) (λ l. omega arith) (gets refl))

  next_declared_reads : (x : Span × Declared) (rest : List Token) → GoodNextDeclared x → FollowNextDeclared x rest → Gets n (height_next_declared x) (next_declared n (spell_next_declared x rest)) (x, rest)
  unfolding next_declared
  next_declared_reads x rest pr h = step _ (declared_reads x.1 rest pr h) (λ l. l) (gets refl)

  next_declared_begins : (x : Span × Declared) (rest : List Token) → GoodNextDeclared x → starts (is_punct p.Comma) (spell_next_declared x rest) ≡ true
  next_declared_begins x rest pr = refl

  next_declared_long : (x : Span × Declared) (rest : List Token) → length rest < length (spell_next_declared x rest)
  next_declared_long x rest = omega (arith, long_declared x.1 rest)

  pub next_declareds_reads : (u : NextDeclareds) (c : Span) (rest : List Token) → ProperNextDeclareds u → Gets n (height_next_declareds u) (next_declareds n (spell_next_declareds u (punct p.Semicolon c ∷ rest))) (u, punct p.Semicolon c ∷ rest)
  unfolding next_declareds
  next_declareds_reads u c rest pr =
      listed_reads next_declareds_of (starts (is_punct p.Comma)) (next_declared n) spell_next_declared spell_next_declareds height_next_declared height_next_declareds GoodNextDeclared ProperNextDeclareds FollowNextDeclared n next_declareds_kind
      next_declared_reads next_declared_begins next_declared_long u (punct p.Semicolon c ∷ rest) pr (next_declareds_follow u (punct p.Semicolon c ∷ rest) (parted_semicolon c rest)) refl

  declared_list_reads : (u : DeclaredList) (c : Span) (rest : List Token) → ProperDeclaredList u → Gets n (height_declared_list u) (declared_list n (spell_declared_list u (punct p.Semicolon c ∷ rest))) (u, punct p.Semicolon c ∷ rest)
  unfolding some_declared
  declared_list_reads NoneDeclared c rest pr = gets refl
  declared_list_reads (SomeDeclared x m) c rest pr =
      let off = declared_no_semicolon x (spell_next_declareds m (punct p.Semicolon c ∷ rest)) in
      rw off (step _ (declared_reads x (spell_next_declareds m (punct p.Semicolon c ∷ rest)) pr.0 (parted_next m c rest)) (λ l. omega arith)
      (step _ (next_declareds_reads m c rest pr.1) (λ l. omega arith) (gets refl)))

  local_reads : (u : Declaration) (rest : List Token) → IsLocal u → ProperDeclaration u → Gets (suc n) (height_declaration u) (declaration n (spell_declaration u rest)) (u, rest)
  unfolding declaration
  local_reads (Declares s x c) rest local pr =
      let end = punct p.Semicolon c ∷ rest in
      step _ (specs_reads n (at_height n) (reads n) true s (spell_declared_list x end) pr.0 (pr.1, local) (behind_list true (open_specs false s) x c rest)) (λ l. omega arith)
      (step _ (declared_list_reads x c rest pr.2) (λ l. omega arith) (gets refl))

declaration_some : (u : Declaration) → 0 < height_declaration u
declaration_some (Declares s x c) = omega arith

pub declaration_reads : (n : ℕ) (u : Declaration) (rest : List Token) → IsLocal u → ProperDeclaration u → Gets n (height_declaration u) (declaration_at n (spell_declaration u rest)) (u, rest)
unfolding declaration_at
declaration_reads zero u rest local pr = high (declaration_some u) refl
declaration_reads (suc n) u rest local pr = local_reads n u rest local pr

-- ---- parts of statements

begins_no_continue : (x : TokenKind) → begins x ≡ true → is_word w.Continue x ≡ false
begins_no_continue (k.Word w.Continue) h = absurd cc
begins_no_continue _ h = cc

expr_no_continue : (e : Expr) (ts : List Token) → starts (is_word w.Continue) (spell e ts) ≡ false
expr_no_continue e ts = apart begins (is_word w.Continue) (spell e ts) begins_no_continue (expr_begins e ts)

value_no_spec : (v : Option Expr) (c : Span) (ts : List Token) → starts (is_spec true) (spell_value v (punct p.Semicolon c ∷ ts)) ≡ false
value_no_spec None c ts = refl
value_no_spec (Some e) c ts = expr_no_spec true e (punct p.Semicolon c ∷ ts)

module _ (n : ℕ) where
  value_by : (end : Punct) (v : Option Expr) (c : Span) (rest : List Token) → is_punct end (k.Punct end) ≡ true → begins (k.Punct end) ≡ false → Stops 0 (punct end c ∷ rest) → ProperValue v
      → Gets n (height_value v) (value n end (spell_value v (punct end c ∷ rest))) (v, punct end c ∷ rest)
  unfolding value
  value_by end None c rest on off stops pr = rw on (gets refl)
  value_by end (Some e) c rest on off stops pr =
      let a = expr_no_punct end off e (punct end c ∷ rest) in
      rw a (step _ ((reads n).expr 0 e (punct end c ∷ rest) pr (omega arith) stops) (λ l. l) (gets refl))

  pub value_reads : (v : Option Expr) (c : Span) (rest : List Token) → ProperValue v → Gets n (height_value v) (value n p.Semicolon (spell_value v (punct p.Semicolon c ∷ rest))) (v, punct p.Semicolon c ∷ rest)
  value_reads v c rest pr = value_by p.Semicolon v c rest refl refl (refl, refl, tt) pr

  step_reads : (v : Option Expr) (c : Span) (rest : List Token) → ProperValue v → Gets n (height_value v) (value n p.RParen (spell_value v (punct p.RParen c ∷ rest))) (v, punct p.RParen c ∷ rest)
  step_reads v c rest pr = value_by p.RParen v c rest refl refl (refl, refl, tt) pr

  pub test_reads : (u : Test) (rest : List Token) → ProperTest u → Gets n (height_test u) (controlling n (spell_test u rest)) (u, rest)
  unfolding controlling
  test_reads (Tests l e r) rest pr = step _ ((reads n).expr 0 e (punct p.RParen r ∷ rest) pr (omega arith) (refl, refl, tt)) (λ x. x) (gets refl)

  first_reads : (u : First) (rest : List Token) → ProperFirst u → Gets n (height_first u) (first n (spell_first u rest)) (u, rest)
  unfolding first_value first_declaration
  first_reads (FirstValue v c) rest pr =
      let off = value_no_spec v c rest in
      rw off (step _ (value_reads v c rest pr) (λ l. l) (gets refl))
  first_reads (FirstDeclaration x) rest pr =
      let on = local_begins x rest pr.0 pr.1 in
      rw on (step _ (declaration_reads n x rest pr.0 pr.1) (λ l. l) (gets refl))

  affinity_reads : (u : Affinity) (r : Span) (rest : List Token) → ProperAffinity u → Gets n (height_affinity u) (affinity n (spell_affinity u (punct p.RParen r ∷ rest))) (u, punct p.RParen r ∷ rest)
  unfolding continue_affinity value_affinity
  affinity_reads NoAffinity r rest pr = gets refl
  affinity_reads (ContinueAffinity a) r rest pr = gets refl
  affinity_reads (ValueAffinity e) r rest pr =
      let a = expr_no_punct p.RParen refl e (punct p.RParen r ∷ rest) in
      let b = expr_no_continue e (punct p.RParen r ∷ rest) in
      rw (a, b) (step _ ((reads n).expr 0 e (punct p.RParen r ∷ rest) pr (omega arith) (refl, refl, tt)) (λ l. l) (gets refl))

  pub for_reads : (u : ForHead) (rest : List Token) → ProperFor u → Gets n (height_for u) (for_head n (spell_for u rest)) (u, rest)
  unfolding for_head
  for_reads (ForParts l f t c x r) rest pr =
      let steps = spell_value x (punct p.RParen r ∷ rest) in
      step _ (first_reads f (spell_value t (punct p.Semicolon c ∷ steps)) pr.0) (λ l. omega arith)
      (step _ (value_reads t c steps pr.1) (λ l. omega arith)
      (step _ (step_reads x r rest pr.2) (λ l. omega arith) (gets refl)))

  pub forall_reads : (u : ForallHead) (rest : List Token) → ProperForall u → Gets n (height_forall u) (forall_head n (spell_forall u rest)) (u, rest)
  unfolding forall_head
  forall_reads (ForallParts l f t c x g a r) rest pr =
      let share = spell_affinity a (punct p.RParen r ∷ rest) in
      let steps = spell_value x (punct p.Semicolon g ∷ share) in
      step _ (first_reads f (spell_value t (punct p.Semicolon c ∷ steps)) pr.0) (λ l. omega arith)
      (step _ (value_reads t c steps pr.1) (λ l. omega arith)
      (step _ (value_reads x g share pr.2) (λ l. omega arith)
      (step _ (affinity_reads a r rest pr.3) (λ l. omega arith) (gets refl))))

-- ---- pragmas

pragmas_reads_by : (count : ℕ) (l : List Pragma) (rest : List Token) → starts is_pragma rest ≡ false → length (spell_pragmas l rest) ≤ count → many (starts is_pragma) pragma count (spell_pragmas l rest) ≡ Ok (l, rest)
unfolding many
pragmas_reads_by zero [] rest off le = refl
pragmas_reads_by (suc count) [] rest off le = rw off refl
pragmas_reads_by zero (g ∷ l) rest off le = absurd (omega arith)
pragmas_reads_by (suc count) (g ∷ l) rest off le = let e = pragmas_reads_by count l rest off (omega arith) in rw e refl

pub pragmas_reads : (l : List Pragma) (rest : List Token) → starts is_pragma rest ≡ false → pragmas (spell_pragmas l rest) ≡ Ok (l, rest)
unfolding pragmas
pragmas_reads l rest off = pragmas_reads_by (length (spell_pragmas l rest)) l rest off (omega arith)
