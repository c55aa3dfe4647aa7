-- The tokens of a proper expression are read as that expression, whatever follows that cannot continue it.
use Rattle.std.proofs.Common.{◌≡◌, ℕ, zero, suc, ◌+◌, ◌<◌, ◌≤◌, Bool, true, false, List, [], ◌∷◌, length, Option, Some, None, Ok, Err, refl, ap, ◌∙◌, subst, inl, inr, arith}
use Rattle.std.proofs.lemmas.Bool.{le-leb, lt-leb}
use Rattle.upc_lexer.specs.declared.token.Token.{Token}
use Rattle.upc_lexer.specs.declared.token.TokenKind.{TokenKind}
use Rattle.upc_lexer.specs.declared.token.Punct.TheVariants as p
use Rattle.upc_tree.specs.declared.span.Span.{Span}
use Rattle.upc_tree.specs.declared.span.StringLiteral.{StringLiteral}
use Rattle.upc_tree.specs.declared.mark.UnaryMark.{UnaryMark}
use Rattle.upc_tree.specs.declared.mark.UnaryMark.TheVariants as u
use Rattle.upc_tree.specs.declared.mark.ConstantWord.{ConstantWord}
use Rattle.upc_tree.specs.declared.mark.ConstantWord.TheVariants as c
use Rattle.upc_tree.specs.Marks.{postfix_punct, member_punct, binary_punct, assign_punct, constant_word, binary_level, operand_level}
use Rattle.upc_tree.specs.Tokens.{punct, word, name_token, spell_strings}
use Rattle.upc_tree.specs.Expression.{Expr, Named, Number, Character, Strings, Constant, Paren, Subscript, Call, MemberOf, Postfix, Unary, SizeOfExpr, SizeOfType, Cast, Binary, Assign, Conditional, Comma, Arguments, NextExprs, NoNextExprs, AndExpr, TypeName, Typed, Spec, WordSpec, QualSpec, TagSpec, StructSpec, height_spec, spell, spell_arguments, spell_next_exprs, spell_type, spell_pointers, spell_dimensions, height}
use Rattle.upc_tree.specs.Proper.{level, Proper, ProperType, ProperArguments}
use Rattle.upc_parser_ground.specs.declared.cursor.Fault.TheVariants.{TooHigh}
use Rattle.upc_parser_ground.specs.declared.start.Suffix.{Suffix}
use Rattle.upc_parser_ground.specs.declared.start.Suffix.TheVariants as suffix
use Rattle.upc_parser_ground.specs.declared.start.Joint.{Joint}
use Rattle.upc_parser_ground.specs.declared.start.Joint.TheVariants as joint
use Rattle.upc_parser_ground.specs.layer.Outcome.{Outcome, Parser, ◌>>=◌, span_of, is_punct, starts, many}
use Rattle.upc_parser_ground.specs.layer.Tables.{suffix_of, joint_of, joint_level, left_least, is_spec, is_string}
use Rattle.upc_parser_ground.specs.layer.Outcome.{string}
use Rattle.upc_parser_types.specs.layer.Expression.{Level, strings, unary, size_type, size_expr, cast, paren, primary, grown, suffixed, postfix, first, joined_comma, conditional, joined, climb, climb_by, expr, level_above, at_height}
use Rattle.upc_parser_ground.proofs.TableFacts.{is_punct_is, unary_back, size_back, postfix_back, member_back, joint_punct, joint_back, joint_small, binary_small, binary_some, sides}
use Rattle.upc_parser_ground.proofs.Sequence.{Gets, gets, high, step, cases_le}
use Rattle.upc_parser_laws.proofs.Low.{long, long_arguments, long_next_exprs, some_height, some_arguments}
use Rattle.upc_parser_laws.proofs.Stops.{Stops, stops_to, stops_13, stops_joint, Looser, expr_no_spec, expr_no_type}
use Rattle.upc_parser_laws.proofs.CompleteTypes.{Reads, IsStruct, specs_begin, type_reads, plain_reads, next_exprs_reads, arguments_reads, structure_reads}

-- ---- up to the end of a tree the loop `go` is reached, with turns enough for what follows

data Leads (m h : ℕ) (rest : List Token) (r : Outcome Expr) (go : ℕ → Outcome Expr) : Type 0 where
  leads : (count : ℕ) → length rest ≤ count → r ≡ go count → Leads m h rest r go
  exceeds : m < h → r ≡ Err TooHigh → Leads m h rest r go

lead_along : (m h : ℕ) (rest : List Token) (r s : Outcome Expr) (go : ℕ → Outcome Expr) → r ≡ s → Leads m h rest s go → Leads m h rest r go
lead_along m h rest r s go e (leads count le x) = leads count le (e ∙ x)
lead_along m h rest r s go e (exceeds l x) = exceeds l (e ∙ x)

follow_on : (m h h' : ℕ) (mid rest : List Token) (r : Outcome Expr) (go go' : ℕ → Outcome Expr) → Leads m h mid r go → (m < h → m < h')
    → ((count : ℕ) → length mid ≤ count → Leads m h' rest (go count) go') → Leads m h' rest r go'
follow_on m h h' mid rest r go go' (leads count le e) up next = lead_along m h' rest r (go count) go' e (next count le)
follow_on m h h' mid rest r go go' (exceeds l e) up next = exceeds (up l) e

-- where what may follow an expression ends
abbrev right_limit : Expr → ℕ
right_limit (Comma e m) = 0
right_limit (Assign a m s b) = 1
right_limit (Conditional t q y c z) = 2
right_limit (Binary a m s b) = binary_level m + 1
right_limit (Cast l t r e) = 13
right_limit (Unary m s e) = 13
right_limit (SizeOfExpr w s e) = 13
right_limit (SizeOfType w s l t r) = 13
right_limit _ = 15

left_some : (j : Joint) → 1 ≤ left_least j
left_some joint.Comma = omega arith
left_some (joint.Assign m) = omega arith
left_some joint.Question = omega arith
left_some (joint.Binary m) = omega (arith, binary_some m)

-- what comes before a joint is whole
before : (j : Joint) (at : Span) (a : Expr) (ts : List Token) → left_least j ≤ level a → Stops (right_limit a) (punct (joint_punct j) at ∷ ts)
before j at (Comma e m) ts h = absurd (omega (arith, left_some j))
before j at (Assign a m s b) ts h = stops_joint 1 j at ts (sides j (joint.Assign m) h)
before j at (Conditional t q y c z) ts h = stops_joint 2 j at ts (sides j joint.Question h)
before j at (Binary a m s b) ts h = stops_joint (binary_level m + 1) j at ts (sides j (joint.Binary m) h)
before j at (Cast l t r e) ts h = stops_joint 13 j at ts (omega (arith, joint_small j))
before j at (Unary m s e) ts h = stops_joint 13 j at ts (omega (arith, joint_small j))
before j at (SizeOfExpr w s e) ts h = stops_joint 13 j at ts (omega (arith, joint_small j))
before j at (SizeOfType w s l t r) ts h = stops_joint 13 j at ts (omega (arith, joint_small j))
before j at (Named x) ts h = stops_joint 15 j at ts (omega (arith, joint_small j))
before j at (Number v kd s) ts h = stops_joint 15 j at ts (omega (arith, joint_small j))
before j at (Character v s) ts h = stops_joint 15 j at ts (omega (arith, joint_small j))
before j at (Strings s m) ts h = stops_joint 15 j at ts (omega (arith, joint_small j))
before j at (Constant w s) ts h = stops_joint 15 j at ts (omega (arith, joint_small j))
before j at (Paren l e r) ts h = stops_joint 15 j at ts (omega (arith, joint_small j))
before j at (Subscript a l e r) ts h = stops_joint 15 j at ts (omega (arith, joint_small j))
before j at (Call a l e) ts h = stops_joint 15 j at ts (omega (arith, joint_small j))
before j at (MemberOf a m s x) ts h = stops_joint 15 j at ts (omega (arith, joint_small j))
before j at (Postfix a m s) ts h = stops_joint 15 j at ts (omega (arith, joint_small j))

limit_of : (least : ℕ) (u : Expr) (rest : List Token) → least ≤ level u → Stops least rest → Stops (right_limit u) rest
limit_of least (Comma e m) rest lv st = stops_to least 0 rest lv st
limit_of least (Assign a m s b) rest lv st = stops_to least 1 rest lv st
limit_of least (Conditional t q y c z) rest lv st = stops_to least 2 rest lv st
limit_of least (Binary a m s b) rest lv st = stops_to least (binary_level m + 1) rest (omega arith) st
limit_of least (Cast l t r e) rest lv st = stops_13 least 13 rest (omega arith) st
limit_of least (Unary m s e) rest lv st = stops_13 least 13 rest (omega arith) st
limit_of least (SizeOfExpr w s e) rest lv st = stops_13 least 13 rest (omega arith) st
limit_of least (SizeOfType w s l t r) rest lv st = stops_13 least 13 rest (omega arith) st
limit_of least (Named x) rest lv st = stops_13 least 15 rest (omega arith) st
limit_of least (Number v kd s) rest lv st = stops_13 least 15 rest (omega arith) st
limit_of least (Character v s) rest lv st = stops_13 least 15 rest (omega arith) st
limit_of least (Strings s m) rest lv st = stops_13 least 15 rest (omega arith) st
limit_of least (Constant w s) rest lv st = stops_13 least 15 rest (omega arith) st
limit_of least (Paren l e r) rest lv st = stops_13 least 15 rest (omega arith) st
limit_of least (Subscript a l e r) rest lv st = stops_13 least 15 rest (omega arith) st
limit_of least (Call a l e) rest lv st = stops_13 least 15 rest (omega arith) st
limit_of least (MemberOf a m s x) rest lv st = stops_13 least 15 rest (omega arith) st
limit_of least (Postfix a m s) rest lv st = stops_13 least 15 rest (omega arith) st

operand_13 : (mark : UnaryMark) → 13 ≤ operand_level mark
operand_13 u.Increment = omega arith
operand_13 _ = omega arith

stops_string : (m : ℕ) (ts : List Token) → Stops m ts → starts is_string ts ≡ false
stops_string m [] h = refl
stops_string m (x ∷ ts) h = h.1

no_comma_by : (x : TokenKind) (b : Bool) → is_punct p.Comma x ≡ b → Looser 0 (joint_of x) → is_punct p.Comma x ≡ false
no_comma_by x false e h = e
no_comma_by x true e h = let low : 0 < 0 = subst (λ y. Looser 0 (joint_of y)) (is_punct_is p.Comma x e) h in absurd (omega arith)

stops_comma : (ts : List Token) → Stops 0 ts → starts (is_punct p.Comma) ts ≡ false
stops_comma [] h = refl
stops_comma (x ∷ ts) h = no_comma_by x.kind (is_punct p.Comma x.kind) refl h.2

-- ---- strings

strings_reads_by : (count : ℕ) (l : List StringLiteral) (rest : List Token) → starts is_string rest ≡ false → length (spell_strings l rest) ≤ count → many (starts is_string) string count (spell_strings l rest) ≡ Ok (l, rest)
unfolding many
strings_reads_by zero [] rest off le = refl
strings_reads_by (suc count) [] rest off le = rw off refl
strings_reads_by zero (s ∷ l) rest off le = absurd (omega arith)
strings_reads_by (suc count) (s ∷ l) rest off le = let e = strings_reads_by count l rest off (omega arith) in rw e refl

strings_reads : (l : List StringLiteral) (rest : List Token) → starts is_string rest ≡ false → strings (spell_strings l rest) ≡ Ok (l, rest)
unfolding strings
strings_reads l rest off = strings_reads_by (length (spell_strings l rest)) l rest off (omega arith)

type_opens : (t : TypeName) (ts : List Token) → ProperType t → starts (is_spec false) (spell_type t ts) ≡ true
type_opens (Typed s q d) ts pr = specs_begin false s (spell_pointers q (spell_dimensions d ts)) pr.0 (pr.1, tt)

module _ (n : ℕ) (L : Level) (ih : Reads n L) where
  -- a tree over what stands before
  grown_reads : (base u : Expr) (ts : List Token) → height base + 1 ≤ height u → Gets (suc n) (height u) (grown n L base u ts) (u, ts)
  grown_reads base u ts le = elim (cases_le (height base) n) [
    | inl z ↦ gets (rw z.0 refl)
    | inr z ↦ high (omega arith) (rw z.0 refl)
  ]

  -- ---- directly after an expression

  postfix_leads : (h count : ℕ) (r : Outcome Expr) (u : Expr) (rest : List Token) → Gets (suc n) h r (u, rest) → length rest ≤ count
      → Leads (suc n) h rest (r >>= λ u. postfix n L count u.0 u.1) (λ c. postfix n L c u rest)
  postfix_leads h count r u rest (gets e) le = leads count le (ap (λ (q : Outcome Expr). q >>= λ u. postfix n L count u.0 u.1) e)
  postfix_leads h count r u rest (high l e) le = exceeds l (ap (λ (q : Outcome Expr). q >>= λ u. postfix n L count u.0 u.1) e)

  postfix_starts : (h : ℕ) (r : Outcome Expr) (u : Expr) (rest : List Token) → Gets (suc n) h r (u, rest)
      → Leads (suc n) h rest (r >>= λ f. postfix n L (length f.1) f.0 f.1) (λ c. postfix n L c u rest)
  postfix_starts h r u rest (gets e) = leads (length rest) (omega arith) (ap (λ (q : Outcome Expr). q >>= λ f. postfix n L (length f.1) f.0 f.1) e)
  postfix_starts h r u rest (high l e) = exceeds l (ap (λ (q : Outcome Expr). q >>= λ f. postfix n L (length f.1) f.0 f.1) e)

  postfix_on : (h count : ℕ) (base : Expr) (x : Token) (ts : List Token) (mark : Suffix) (u : Expr) (rest : List Token) → suffix_of x.kind ≡ Some mark
      → Gets (suc n) h (suffixed n L mark base (span_of x) ts) (u, rest) → length rest < count
      → Leads (suc n) h rest (postfix n L count base (x ∷ ts)) (λ c. postfix n L c u rest)
  unfolding postfix
  postfix_on h zero base x ts mark u rest e g lt = absurd (omega arith)
  postfix_on h (suc count) base x ts mark u rest e g lt = rw e (postfix_leads h count (suffixed n L mark base (span_of x) ts) u rest g (omega arith))

  subscript_reads : (a : Expr) (l : Span) (e : Expr) (r : Span) (rest : List Token) → Proper e → Gets (suc n) (height (Subscript a l e r)) (suffixed n L suffix.Subscript a l (spell e (punct p.RBracket r ∷ rest))) (Subscript a l e r, rest)
  subscript_reads a l e r rest pr = step _ (ih.expr 0 e (punct p.RBracket r ∷ rest) pr (omega arith) (refl, refl, tt)) (λ l. omega arith) (grown_reads a (Subscript a l e r) rest (omega arith))

  call_reads : (a : Expr) (l : Span) (e : Arguments) (rest : List Token) → ProperArguments e → Gets (suc n) (height (Call a l e)) (suffixed n L suffix.Call a l (spell_arguments e rest)) (Call a l e, rest)
  call_reads a l e rest pr = step _ (ih.arguments e rest pr) (λ l. omega arith) (grown_reads a (Call a l e) rest (omega arith))

  -- ---- what begins an expression without an operator

  paren_reads : (l : Span) (e : Expr) (r : Span) (rest : List Token) → Proper e → Gets (suc n) (height (Paren l e r)) (paren L l (spell e (punct p.RParen r ∷ rest))) (Paren l e r, rest)
  unfolding paren
  paren_reads l e r rest pr = step _ (ih.expr 0 e (punct p.RParen r ∷ rest) pr (omega arith) (refl, refl, tt)) (λ l. omega arith) (gets refl)

  constant_leads : (least : ℕ) (w : ConstantWord) (s : Span) (rest : List Token) → Leads (suc n) 1 rest (first n L least (word (constant_word w) s ∷ rest)) (λ c. postfix n L c (Constant w s) rest)
  unfolding first primary
  constant_leads least c.Mythread s rest = leads (length rest) (omega arith) refl
  constant_leads least c.Threads s rest = leads (length rest) (omega arith) refl
  constant_leads least c.MaxBlockSize s rest = leads (length rest) (omega arith) refl

  primary_leads : (least : ℕ) (u : Expr) (rest : List Token) → Proper u → 15 ≤ level u → starts is_string rest ≡ false → Leads (suc n) (height u) rest (first n L least (spell u rest)) (λ c. postfix n L c u rest)
  unfolding first primary
  primary_leads least (Named x) rest pr lv quiet = leads (length rest) (omega arith) refl
  primary_leads least (Number v kd s) rest pr lv quiet = leads (length rest) (omega arith) refl
  primary_leads least (Character v s) rest pr lv quiet = leads (length rest) (omega arith) refl
  primary_leads least (Strings s m) rest pr lv quiet = let e = strings_reads m rest quiet in leads (length rest) (omega arith) (rw e refl)
  primary_leads least (Constant w s) rest pr lv quiet = constant_leads least w s rest
  primary_leads least (Paren l e r) rest pr lv quiet =
      let a = expr_no_spec false e (punct p.RParen r ∷ rest) in
      rw a (postfix_starts (height e + 1) (paren L l (spell e (punct p.RParen r ∷ rest))) (Paren l e r) rest (paren_reads l e r rest pr))
  primary_leads least (Subscript a l e r) rest pr lv quiet =
      let mid = punct p.LBracket l ∷ spell e (punct p.RBracket r ∷ rest) in
      follow_on (suc n) (height a) (height (Subscript a l e r)) mid rest (first n L least (spell a mid)) (λ c. postfix n L c a mid) (λ c. postfix n L c (Subscript a l e r) rest)
      (primary_leads least a mid pr.1 pr.0 refl) (λ l. omega arith)
      (λ count le. postfix_on (height (Subscript a l e r)) count a (punct p.LBracket l) (spell e (punct p.RBracket r ∷ rest)) suffix.Subscript (Subscript a l e r) rest refl
      (subscript_reads a l e r rest pr.2) (omega (arith, long e (punct p.RBracket r ∷ rest))))
  primary_leads least (Call a l e) rest pr lv quiet =
      let mid = punct p.LParen l ∷ spell_arguments e rest in
      follow_on (suc n) (height a) (height (Call a l e)) mid rest (first n L least (spell a mid)) (λ c. postfix n L c a mid) (λ c. postfix n L c (Call a l e) rest)
      (primary_leads least a mid pr.1 pr.0 refl) (λ l. omega arith)
      (λ count le. postfix_on (height (Call a l e)) count a (punct p.LParen l) (spell_arguments e rest) suffix.Call (Call a l e) rest refl
      (call_reads a l e rest pr.2) (omega (arith, long_arguments e rest)))
  primary_leads least (MemberOf a m s x) rest pr lv quiet =
      let mid = punct (member_punct m) s ∷ name_token x ∷ rest in
      follow_on (suc n) (height a) (height (MemberOf a m s x)) mid rest (first n L least (spell a mid)) (λ c. postfix n L c a mid) (λ c. postfix n L c (MemberOf a m s x) rest)
      (primary_leads least a mid pr.1 pr.0 refl) (λ l. omega arith)
      (λ count le. postfix_on (height (MemberOf a m s x)) count a (punct (member_punct m) s) (name_token x ∷ rest) (suffix.Member m) (MemberOf a m s x) rest (member_back m)
      (grown_reads a (MemberOf a m s x) rest (omega arith)) (omega arith))
  primary_leads least (Postfix a m s) rest pr lv quiet =
      let mid = punct (postfix_punct m) s ∷ rest in
      follow_on (suc n) (height a) (height (Postfix a m s)) mid rest (first n L least (spell a mid)) (λ c. postfix n L c a mid) (λ c. postfix n L c (Postfix a m s) rest)
      (primary_leads least a mid pr.1 pr.0 refl) (λ l. omega arith)
      (λ count le. postfix_on (height (Postfix a m s)) count a (punct (postfix_punct m) s) rest (suffix.Step m) (Postfix a m s) rest (postfix_back m)
      (grown_reads a (Postfix a m s) rest (omega arith)) (omega arith))
  primary_leads least (Unary m s e) rest pr lv quiet = absurd (omega arith)
  primary_leads least (SizeOfExpr w s e) rest pr lv quiet = absurd (omega arith)
  primary_leads least (SizeOfType w s l t r) rest pr lv quiet = absurd (omega arith)
  primary_leads least (Cast l t r e) rest pr lv quiet = absurd (omega arith)
  primary_leads least (Binary a m s b) rest pr lv quiet = absurd (omega (arith, binary_small m))
  primary_leads least (Assign a m s b) rest pr lv quiet = absurd (omega arith)
  primary_leads least (Conditional t q y c z) rest pr lv quiet = absurd (omega arith)
  primary_leads least (Comma e m) rest pr lv quiet = absurd (omega arith)

  postfix_stops : (m count : ℕ) (u : Expr) (rest : List Token) → Stops m rest → postfix n L count u rest ≡ Ok (u, rest)
  unfolding postfix
  postfix_stops m zero u rest h = refl
  postfix_stops m (suc count) u [] h = refl
  postfix_stops m (suc count) u (x ∷ ts) h = rw h.0 refl

  primary_gets : (h : ℕ) (u : Expr) (r : Outcome Expr) (rest : List Token) → Stops 15 rest → Leads (suc n) h rest r (λ c. postfix n L c u rest) → Gets (suc n) h r (u, rest)
  primary_gets h u r rest st (leads count le e) = gets (e ∙ postfix_stops 15 count u rest st)
  primary_gets h u r rest st (exceeds l e) = high l e

  -- ---- joints

  climb_by_stops : (more : Expr → Parser Expr) (least : ℕ) (u : Expr) (o : Option Joint) (x : Token) (ts : List Token) → Looser least o → climb_by n L more least u o x ts ≡ Ok (u, x ∷ ts)
  climb_by_stops more least u None x ts h = refl
  climb_by_stops more least u (Some j) x ts h = let off = lt-leb least (joint_level j) h in rw off refl

  climb_stops : (count least : ℕ) (u : Expr) (rest : List Token) → Stops least rest → climb n L count least u rest ≡ Ok (u, rest)
  unfolding climb
  climb_stops zero least u rest h = refl
  climb_stops (suc count) least u [] h = refl
  climb_stops (suc count) least u (x ∷ ts) h = climb_by_stops (climb n L count least) least u (joint_of x.kind) x ts h.2

  climb_leads : (h count least : ℕ) (r : Outcome Expr) (u : Expr) (rest : List Token) → Gets (suc n) h r (u, rest) → length rest ≤ count
      → Leads (suc n) h rest (r >>= λ u. climb n L count least u.0 u.1) (λ c. climb n L c least u rest)
  climb_leads h count least r u rest (gets e) le = leads count le (ap (λ (q : Outcome Expr). q >>= λ u. climb n L count least u.0 u.1) e)
  climb_leads h count least r u rest (high l e) le = exceeds l (ap (λ (q : Outcome Expr). q >>= λ u. climb n L count least u.0 u.1) e)

  climb_starts : (h least : ℕ) (ts : List Token) (u : Expr) (rest : List Token) → Gets (suc n) h (first n L least ts) (u, rest)
      → Leads (suc n) h rest (expr n L least ts) (λ c. climb n L c least u rest)
  unfolding expr
  climb_starts h least ts u rest (gets e) = leads (length rest) (omega arith) (ap (λ (q : Outcome Expr). q >>= λ u. climb n L (length u.1) least u.0 u.1) e)
  climb_starts h least ts u rest (high l e) = exceeds l (ap (λ (q : Outcome Expr). q >>= λ u. climb n L (length u.1) least u.0 u.1) e)

  climb_on : (h count least : ℕ) (left : Expr) (x : Token) (ts : List Token) (j : Joint) (u : Expr) (rest : List Token) → joint_of x.kind ≡ Some j → least ≤ joint_level j → left_least j ≤ level left
      → Gets (suc n) h (joined n L j left x ts) (u, rest) → length rest < count
      → Leads (suc n) h rest (climb n L count least left (x ∷ ts)) (λ c. climb n L c least u rest)
  unfolding climb
  climb_on h zero least left x ts j u rest e lo ro g lt = absurd (omega arith)
  climb_on h (suc count) least left x ts j u rest e lo ro g lt =
      let on1 = le-leb least (joint_level j) lo in
      let on2 = le-leb (left_least j) (level left) ro in
      rw (e, on1, on2) (climb_leads h count least (joined n L j left x ts) u rest g (omega arith))

  -- ---- expressions

  first_reads : (least : ℕ) (u : Expr) (rest : List Token) → Proper u → 13 ≤ level u → least ≤ level u → Stops (right_limit u) rest → Gets (suc n) (height u) (first n L least (spell u rest)) (u, rest)
  unfolding first unary size_expr size_type cast
  first_reads least (Named x) rest pr lv lo st = primary_gets 1 (Named x) _ rest st (primary_leads least (Named x) rest pr (omega arith) (stops_string 15 rest st))
  first_reads least (Number v kd s) rest pr lv lo st = primary_gets 1 (Number v kd s) _ rest st (primary_leads least (Number v kd s) rest pr (omega arith) (stops_string 15 rest st))
  first_reads least (Character v s) rest pr lv lo st = primary_gets 1 (Character v s) _ rest st (primary_leads least (Character v s) rest pr (omega arith) (stops_string 15 rest st))
  first_reads least (Strings s m) rest pr lv lo st = primary_gets 1 (Strings s m) _ rest st (primary_leads least (Strings s m) rest pr (omega arith) (stops_string 15 rest st))
  first_reads least (Constant w s) rest pr lv lo st = primary_gets 1 (Constant w s) _ rest st (primary_leads least (Constant w s) rest pr (omega arith) (stops_string 15 rest st))
  first_reads least (Paren l e r) rest pr lv lo st = primary_gets (height e + 1) (Paren l e r) _ rest st (primary_leads least (Paren l e r) rest pr (omega arith) (stops_string 15 rest st))
  first_reads least (Subscript a l e r) rest pr lv lo st = primary_gets (height (Subscript a l e r)) (Subscript a l e r) _ rest st (primary_leads least (Subscript a l e r) rest pr (omega arith) (stops_string 15 rest st))
  first_reads least (Call a l e) rest pr lv lo st = primary_gets (height (Call a l e)) (Call a l e) _ rest st (primary_leads least (Call a l e) rest pr (omega arith) (stops_string 15 rest st))
  first_reads least (MemberOf a m s x) rest pr lv lo st = primary_gets (height (MemberOf a m s x)) (MemberOf a m s x) _ rest st (primary_leads least (MemberOf a m s x) rest pr (omega arith) (stops_string 15 rest st))
  first_reads least (Postfix a m s) rest pr lv lo st = primary_gets (height (Postfix a m s)) (Postfix a m s) _ rest st (primary_leads least (Postfix a m s) rest pr (omega arith) (stops_string 15 rest st))
  first_reads least (Unary m s e) rest pr lv lo st =
      rw (unary_back m) (step _ (ih.expr (operand_level m) e rest pr.1 pr.0 (stops_13 13 (operand_level m) rest (operand_13 m) st)) (λ l. omega arith) (gets refl))
  first_reads least (SizeOfExpr w s e) rest pr lv lo st =
      let off = expr_no_type e rest pr.1 pr.0 in
      rw (size_back w, off) (step _ (ih.expr 14 e rest pr.1 pr.0 (stops_13 13 14 rest (omega arith) st)) (λ l. omega arith) (gets refl))
  first_reads least (SizeOfType w s l t r) rest pr lv lo st =
      let on = type_opens t (punct p.RParen r ∷ rest) pr in
      rw (size_back w, on) (step _ (type_reads n L ih t r rest pr) (λ l. omega arith) (gets refl))
  first_reads least (Cast l t r e) rest pr lv lo st =
      let on = type_opens t (punct p.RParen r ∷ spell e rest) pr.1 in
      let on2 = le-leb least 13 lo in
      rw (on, on2) (step _ (plain_reads n L ih t r (spell e rest) pr.0 pr.1) (λ l. omega arith) (step _ (ih.expr 13 e rest pr.3 pr.2 st) (λ l. omega arith) (gets refl)))
  first_reads least (Binary a m s b) rest pr lv lo st = absurd (omega (arith, binary_small m))
  first_reads least (Assign a m s b) rest pr lv lo st = absurd (omega arith)
  first_reads least (Conditional t q y c z) rest pr lv lo st = absurd (omega arith)
  first_reads least (Comma e m) rest pr lv lo st = absurd (omega arith)

  comma_reads : (e : Expr) (c : Span) (v : Expr) (m : NextExprs) (rest : List Token) → Proper (Comma e (AndExpr c v m)) → Stops 0 rest
      → Gets (suc n) (height (Comma e (AndExpr c v m))) (joined n L joint.Comma e (punct p.Comma c) (spell v (spell_next_exprs m rest))) (Comma e (AndExpr c v m), rest)
  unfolding joined_comma
  comma_reads e c v m rest pr st =
      step _ (next_exprs_reads n L ih (AndExpr c v m) rest pr.3 (stops_to 0 1 rest (omega arith) st) (stops_comma rest st)) (λ l. omega arith) (grown_reads e (Comma e (AndExpr c v m)) rest (omega arith))

  conditional_reads : (t : Expr) (q : Span) (y : Expr) (c : Span) (z : Expr) (rest : List Token) → Proper (Conditional t q y c z) → Stops 2 rest
      → Gets (suc n) (height (Conditional t q y c z)) (joined n L joint.Question t (punct p.Question q) (spell y (punct p.Colon c ∷ spell z rest))) (Conditional t q y c z, rest)
  unfolding conditional
  conditional_reads t q y c z rest pr st =
      step _ (ih.expr 0 y (punct p.Colon c ∷ spell z rest) pr.3 (omega arith) (refl, refl, tt)) (λ l. omega arith)
      (step _ (ih.expr 2 z rest pr.4 pr.1 st) (λ l. omega arith) (grown_reads t (Conditional t q y c z) rest (omega arith)))

  expr_leads : (least : ℕ) (u : Expr) (rest : List Token) → Proper u → least ≤ level u → Stops (right_limit u) rest → Leads (suc n) (height u) rest (expr n L least (spell u rest)) (λ c. climb n L c least u rest)
  expr_leads least (Binary a m s b) rest pr lv st =
      let mid = punct (binary_punct m) s ∷ spell b rest in
      follow_on (suc n) (height a) (height (Binary a m s b)) mid rest (expr n L least (spell a mid)) (λ c. climb n L c least a mid) (λ c. climb n L c least (Binary a m s b) rest)
      (expr_leads least a mid pr.2 (omega (arith, pr.0)) (before (joint.Binary m) s a (spell b rest) pr.0)) (λ l. omega arith)
      (λ count le. climb_on (height (Binary a m s b)) count least a (punct (binary_punct m) s) (spell b rest) (joint.Binary m) (Binary a m s b) rest (joint_back (joint.Binary m)).0 lv pr.0
      (step _ (ih.expr (binary_level m + 1) b rest pr.3 pr.1 st) (λ l. omega arith) (grown_reads a (Binary a m s b) rest (omega arith))) (omega (arith, long b rest)))
  expr_leads least (Assign a m s b) rest pr lv st =
      let mid = punct (assign_punct m) s ∷ spell b rest in
      follow_on (suc n) (height a) (height (Assign a m s b)) mid rest (expr n L least (spell a mid)) (λ c. climb n L c least a mid) (λ c. climb n L c least (Assign a m s b) rest)
      (expr_leads least a mid pr.2 (omega (arith, pr.0)) (before (joint.Assign m) s a (spell b rest) pr.0)) (λ l. omega arith)
      (λ count le. climb_on (height (Assign a m s b)) count least a (punct (assign_punct m) s) (spell b rest) (joint.Assign m) (Assign a m s b) rest (joint_back (joint.Assign m)).0 lv pr.0
      (step _ (ih.expr 1 b rest pr.3 pr.1 st) (λ l. omega arith) (grown_reads a (Assign a m s b) rest (omega arith))) (omega (arith, long b rest)))
  expr_leads least (Conditional t q y c z) rest pr lv st =
      let mid = punct p.Question q ∷ spell y (punct p.Colon c ∷ spell z rest) in
      follow_on (suc n) (height t) (height (Conditional t q y c z)) mid rest (expr n L least (spell t mid)) (λ k. climb n L k least t mid) (λ k. climb n L k least (Conditional t q y c z) rest)
      (expr_leads least t mid pr.2 (omega (arith, pr.0)) (before joint.Question q t (spell y (punct p.Colon c ∷ spell z rest)) pr.0)) (λ l. omega arith)
      (λ count le. climb_on (height (Conditional t q y c z)) count least t (punct p.Question q) (spell y (punct p.Colon c ∷ spell z rest)) joint.Question (Conditional t q y c z) rest refl lv pr.0
      (conditional_reads t q y c z rest pr st) (omega (arith, long y (punct p.Colon c ∷ spell z rest), long z rest)))
  expr_leads least (Comma e NoNextExprs) rest pr lv st = absurd pr.1
  expr_leads least (Comma e (AndExpr c v m)) rest pr lv st =
      let mid = punct p.Comma c ∷ spell v (spell_next_exprs m rest) in
      follow_on (suc n) (height e) (height (Comma e (AndExpr c v m))) mid rest (expr n L least (spell e mid)) (λ k. climb n L k least e mid) (λ k. climb n L k least (Comma e (AndExpr c v m)) rest)
      (expr_leads least e mid pr.2 (omega (arith, pr.0)) (before joint.Comma c e (spell v (spell_next_exprs m rest)) pr.0)) (λ l. omega arith)
      (λ count le. climb_on (height (Comma e (AndExpr c v m))) count least e (punct p.Comma c) (spell v (spell_next_exprs m rest)) joint.Comma (Comma e (AndExpr c v m)) rest refl lv pr.0
      (comma_reads e c v m rest pr st) (omega (arith, long v (spell_next_exprs m rest), long_next_exprs m rest)))
  expr_leads least (Cast l t r e) rest pr lv st = climb_starts (height (Cast l t r e)) least (spell (Cast l t r e) rest) (Cast l t r e) rest (first_reads least (Cast l t r e) rest pr (omega arith) lv st)
  expr_leads least (Unary m s e) rest pr lv st = climb_starts (height (Unary m s e)) least (spell (Unary m s e) rest) (Unary m s e) rest (first_reads least (Unary m s e) rest pr (omega arith) lv st)
  expr_leads least (SizeOfExpr w s e) rest pr lv st = climb_starts (height (SizeOfExpr w s e)) least (spell (SizeOfExpr w s e) rest) (SizeOfExpr w s e) rest (first_reads least (SizeOfExpr w s e) rest pr (omega arith) lv st)
  expr_leads least (SizeOfType w s l t r) rest pr lv st = climb_starts (height (SizeOfType w s l t r)) least (spell (SizeOfType w s l t r) rest) (SizeOfType w s l t r) rest (first_reads least (SizeOfType w s l t r) rest pr (omega arith) lv st)
  expr_leads least (Named x) rest pr lv st = climb_starts 1 least (spell (Named x) rest) (Named x) rest (first_reads least (Named x) rest pr (omega arith) lv st)
  expr_leads least (Number v kd s) rest pr lv st = climb_starts 1 least (spell (Number v kd s) rest) (Number v kd s) rest (first_reads least (Number v kd s) rest pr (omega arith) lv st)
  expr_leads least (Character v s) rest pr lv st = climb_starts 1 least (spell (Character v s) rest) (Character v s) rest (first_reads least (Character v s) rest pr (omega arith) lv st)
  expr_leads least (Strings s m) rest pr lv st = climb_starts 1 least (spell (Strings s m) rest) (Strings s m) rest (first_reads least (Strings s m) rest pr (omega arith) lv st)
  expr_leads least (Constant w s) rest pr lv st = climb_starts 1 least (spell (Constant w s) rest) (Constant w s) rest (first_reads least (Constant w s) rest pr (omega arith) lv st)
  expr_leads least (Paren l e r) rest pr lv st = climb_starts (height (Paren l e r)) least (spell (Paren l e r) rest) (Paren l e r) rest (first_reads least (Paren l e r) rest pr (omega arith) lv st)
  expr_leads least (Subscript a l e r) rest pr lv st = climb_starts (height (Subscript a l e r)) least (spell (Subscript a l e r) rest) (Subscript a l e r) rest (first_reads least (Subscript a l e r) rest pr (omega arith) lv st)
  expr_leads least (Call a l e) rest pr lv st = climb_starts (height (Call a l e)) least (spell (Call a l e) rest) (Call a l e) rest (first_reads least (Call a l e) rest pr (omega arith) lv st)
  expr_leads least (MemberOf a m s x) rest pr lv st = climb_starts (height (MemberOf a m s x)) least (spell (MemberOf a m s x) rest) (MemberOf a m s x) rest (first_reads least (MemberOf a m s x) rest pr (omega arith) lv st)
  expr_leads least (Postfix a m s) rest pr lv st = climb_starts (height (Postfix a m s)) least (spell (Postfix a m s) rest) (Postfix a m s) rest (first_reads least (Postfix a m s) rest pr (omega arith) lv st)

  climb_gets : (h least : ℕ) (u : Expr) (r : Outcome Expr) (rest : List Token) → Stops least rest → Leads (suc n) h rest r (λ c. climb n L c least u rest) → Gets (suc n) h r (u, rest)
  climb_gets h least u r rest st (leads count le e) = gets (e ∙ climb_stops count least u rest st)
  climb_gets h least u r rest st (exceeds l e) = high l e

  expr_reads : (least : ℕ) (u : Expr) (rest : List Token) → Proper u → least ≤ level u → Stops least rest → Gets (suc n) (height u) (expr n L least (spell u rest)) (u, rest)
  expr_reads least u rest pr lv st = climb_gets (height u) least u (expr n L least (spell u rest)) rest st (expr_leads least u rest pr lv (limit_of least u rest lv st))

  above_reads : Reads (suc n) (level_above n L)
  above_reads = record { expr = expr_reads; arguments = arguments_reads n L ih; structure = structure_reads n L ih }

some_struct : (s : Spec) → IsStruct s → 0 < height_spec s
some_struct (WordSpec w a) is = absurd is
some_struct (QualSpec q) is = absurd is
some_struct (TagSpec a x) is = omega arith
some_struct (StructSpec a x l m r) is = omega arith

-- What is proper is read.
pub reads : (n : ℕ) → Reads n (at_height n)
unfolding at_height
reads zero = record {
  expr = λ least u rest pr lv st. high (some_height u) refl;
  arguments = λ a rest pr. high (some_arguments a) refl;
  structure = λ s rest is pr off. high (some_struct s is) refl;
}
reads (suc n) = above_reads n (at_height n) (reads n)
