-- How declarations and statements begin, and what may follow a statement.
use Rattle.std.proofs.Common.{◌≡◌, Bool, true, false, List, [], ◌∷◌, Option, Some, None, refl}
use Rattle.upc_lexer.specs.declared.token.TokenKind.{TokenKind}
use Rattle.upc_lexer.specs.declared.token.TokenKind.TheVariants as k
use Rattle.upc_lexer.specs.declared.token.Token.{Token}
use Rattle.upc_lexer.specs.declared.token.Punct.TheVariants as p
use Rattle.upc_lexer.specs.declared.token.Word.TheVariants as w
use Rattle.upc_tree.specs.declared.mark.BarrierWord.{BarrierWord}
use Rattle.upc_tree.specs.declared.mark.BarrierWord.TheVariants as bw
use Rattle.upc_tree.specs.declared.span.Span.{Span}
use Rattle.upc_tree.specs.Marks.{barrier_word}
use Rattle.upc_tree.specs.Tokens.{punct, word}
use Rattle.upc_tree.specs.Expression.{Expr, Specs, spell, spell_specs}
use Rattle.upc_tree.specs.Proper.{IsSome, ProperSpecs}
use Rattle.upc_tree.specs.Declaration.{Declaration, Declares, spell_declaration, spell_declared_list, ProperDeclaration, IsLocal}
use Rattle.upc_tree.specs.Statement as s
use Rattle.upc_tree.specs.Statement.{Statement, Compound, Braces, BlockItem, DeclarationItem, StatementItem, BlockItems, NoBlockItems, AndBlockItem, SwitchItem, CaseItem, DefaultItem, SwitchStatement, ElseIfs, NoElseIfs, AndElseIf, Otherwise, NoOtherwise, Else, spell_value, spell_statement, spell_compound, spell_block_items, spell_block_item, spell_switch_item, spell_else_ifs, spell_otherwise, takes_else, takes_else_behind, is_if, KeepsElse, ProperBlockItem, ProperBlockItems}
use Rattle.upc_parser_ground.specs.layer.Outcome.{is_word, starts}
use Rattle.upc_parser_ground.specs.layer.Tables.{is_spec}
use Rattle.upc_parser_ground.specs.layer.Ahead.{is_pragma}
use Rattle.upc_parser_ground.proofs.Sequence.{apart}
use Rattle.upc_parser_laws.proofs.Stops.{begins, expr_begins}
use Rattle.upc_parser_laws.proofs.CompleteTypes.{specs_begin}
use Rattle.upc_parser_statements.specs.declared.start.StatementStart.TheVariants as start
use Rattle.upc_parser_statements.specs.layer.Tables.{statement_start}
use Rattle.upc_parser_statements.specs.layer.Parse.{no_brace}

-- ---- tables

pub barrier_back : (kind : BarrierWord) → statement_start (k.Word (barrier_word kind)) ≡ start.Barrier kind
barrier_back bw.Notify = refl
barrier_back _ = refl

pub begins_value : (x : TokenKind) → begins x ≡ true → statement_start x ≡ start.Value
begins_value (k.Punct p.LParen) h = refl
begins_value (k.Word w.Break) h = absurd cc
begins_value _ h = cc

-- ---- what a statement begins with

abbrev pub opens : TokenKind → Bool
opens (k.Punct p.Semicolon) = true
opens (k.Punct p.LBrace) = true
opens (k.Word w.If) = true
opens (k.Word w.Switch) = true
opens (k.Word w.While) = true
opens (k.Word w.Do) = true
opens (k.Word w.For) = true
opens (k.Word w.UpcForall) = true
opens (k.Word w.Break) = true
opens (k.Word w.Continue) = true
opens (k.Word w.Return) = true
opens (k.Word w.UpcNotify) = true
opens (k.Word w.UpcWait) = true
opens (k.Word w.UpcBarrier) = true
opens (k.Word w.UpcFence) = true
opens x = begins x

begins_opens : (x : TokenKind) → begins x ≡ true → opens x ≡ true
begins_opens (k.Punct p.Semicolon) h = refl
begins_opens (k.Word w.Break) h = refl
begins_opens _ h = cc

opens_to : (ts : List Token) → starts begins ts ≡ true → starts opens ts ≡ true
opens_to [] h = absurd cc
opens_to (x ∷ ts) h = begins_opens x.kind h

barrier_opens : (kind : BarrierWord) → opens (k.Word (barrier_word kind)) ≡ true
barrier_opens bw.Notify = refl
barrier_opens _ = refl

value_opens : (v : Option Expr) (c : Span) (rest : List Token) → starts opens (spell_value v (punct p.Semicolon c ∷ rest)) ≡ true
value_opens None c rest = refl
value_opens (Some e) c rest = opens_to (spell e (punct p.Semicolon c ∷ rest)) (expr_begins e (punct p.Semicolon c ∷ rest))

compound_opens : (u : Compound) (rest : List Token) → starts opens (spell_compound u rest) ≡ true
compound_opens (Braces l g m r) rest = refl

pub statement_opens : (u : Statement) (rest : List Token) → starts opens (spell_statement u rest) ≡ true
statement_opens (s.Block c) rest = compound_opens c rest
statement_opens (s.Value v c) rest = value_opens v c rest
statement_opens (s.If a t b m o) rest = refl
statement_opens (s.Switch a t l b r) rest = refl
statement_opens (s.While a t b) rest = refl
statement_opens (s.DoWhile a b u t c) rest = refl
statement_opens (s.For a h b) rest = refl
statement_opens (s.Forall a h b) rest = refl
statement_opens (s.Break a c) rest = refl
statement_opens (s.Continue a c) rest = refl
statement_opens (s.Return a v c) rest = refl
statement_opens (s.Barrier kind a v c) rest = barrier_opens kind
statement_opens (s.Fence a c) rest = refl

opens_no_spec : (x : TokenKind) → opens x ≡ true → is_spec true x ≡ false
opens_no_spec (k.Punct p.Semicolon) h = refl
opens_no_spec (k.Word w.Static) h = refl
opens_no_spec _ h = cc

opens_no_else : (x : TokenKind) → opens x ≡ true → is_word w.Else x ≡ false
opens_no_else (k.Word w.Else) h = absurd cc
opens_no_else _ h = cc

opens_no_case : (x : TokenKind) → opens x ≡ true → is_word w.Case x ≡ false
opens_no_case (k.Word w.Case) h = absurd cc
opens_no_case _ h = cc

opens_no_default : (x : TokenKind) → opens x ≡ true → is_word w.Default x ≡ false
opens_no_default (k.Word w.Default) h = absurd cc
opens_no_default _ h = cc

opens_no_pragma : (x : TokenKind) → opens x ≡ true → is_pragma x ≡ false
opens_no_pragma (k.Pragma strict) h = absurd cc
opens_no_pragma _ h = cc

opens_inside : (x : TokenKind) → opens x ≡ true → no_brace x ≡ true
opens_inside (k.Punct p.RBrace) h = absurd cc
opens_inside _ h = cc

pub statement_no_spec : (u : Statement) (rest : List Token) → starts (is_spec true) (spell_statement u rest) ≡ false
statement_no_spec u rest = apart opens (is_spec true) (spell_statement u rest) opens_no_spec (statement_opens u rest)

pub statement_no_else : (u : Statement) (rest : List Token) → starts (is_word w.Else) (spell_statement u rest) ≡ false
statement_no_else u rest = apart opens (is_word w.Else) (spell_statement u rest) opens_no_else (statement_opens u rest)

pub statement_no_case : (u : Statement) (rest : List Token) → starts (is_word w.Case) (spell_statement u rest) ≡ false
statement_no_case u rest = apart opens (is_word w.Case) (spell_statement u rest) opens_no_case (statement_opens u rest)

pub statement_no_default : (u : Statement) (rest : List Token) → starts (is_word w.Default) (spell_statement u rest) ≡ false
statement_no_default u rest = apart opens (is_word w.Default) (spell_statement u rest) opens_no_default (statement_opens u rest)

pub to_true : (a b : TokenKind → Bool) (ts : List Token) → ((x : TokenKind) → a x ≡ true → b x ≡ true) → starts a ts ≡ true → starts b ts ≡ true
to_true a b [] on h = absurd cc
to_true a b (x ∷ ts) on h = on x.kind h

pub statement_inside : (u : Statement) (rest : List Token) → starts no_brace (spell_statement u rest) ≡ true
statement_inside u rest = to_true opens no_brace (spell_statement u rest) opens_inside (statement_opens u rest)

-- ---- what a declaration begins with

spec_no_else : (local : Bool) (x : TokenKind) → is_spec local x ≡ true → is_word w.Else x ≡ false
spec_no_else local (k.Word w.Else) h = absurd cc
spec_no_else local (k.Word w.Break) h = refl
spec_no_else local _ h = cc

spec_no_pragma : (local : Bool) (x : TokenKind) → is_spec local x ≡ true → is_pragma x ≡ false
spec_no_pragma local (k.Pragma strict) h = absurd cc
spec_no_pragma local (k.Word w.Break) h = refl
spec_no_pragma local _ h = cc

spec_inside : (local : Bool) (x : TokenKind) → is_spec local x ≡ true → no_brace x ≡ true
spec_inside local (k.Punct p.RBrace) h = absurd cc
spec_inside local (k.Word w.Break) h = refl
spec_inside local _ h = cc

pub local_begins : (u : Declaration) (rest : List Token) → IsLocal u → ProperDeclaration u → starts (is_spec true) (spell_declaration u rest) ≡ true
local_begins (Declares s x c) rest local h = specs_begin true s (spell_declared_list x (punct p.Semicolon c ∷ rest)) h.0 (h.1, local)

pub specs_no_pragma : (u : Specs) (rest : List Token) → IsSome u → ProperSpecs u → starts is_pragma (spell_specs u rest) ≡ false
specs_no_pragma u rest some h = apart (is_spec false) is_pragma (spell_specs u rest) (spec_no_pragma false) (specs_begin false u rest some (h, tt))

-- ---- what the items of a compound statement begin with

pub item_inside : (u : BlockItem) (rest : List Token) → ProperBlockItem u → starts no_brace (spell_block_item u rest) ≡ true
item_inside (DeclarationItem x) rest h = to_true (is_spec true) no_brace (spell_declaration x rest) (spec_inside true) (local_begins x rest h.0 h.1)
item_inside (StatementItem b) rest h = statement_inside b rest

pub item_no_else : (u : BlockItem) (rest : List Token) → ProperBlockItem u → starts (is_word w.Else) (spell_block_item u rest) ≡ false
item_no_else (DeclarationItem x) rest h = apart (is_spec true) (is_word w.Else) (spell_declaration x rest) (spec_no_else true) (local_begins x rest h.0 h.1)
item_no_else (StatementItem b) rest h = statement_no_else b rest

item_no_pragma : (u : BlockItem) (rest : List Token) → ProperBlockItem u → starts is_pragma (spell_block_item u rest) ≡ false
item_no_pragma (DeclarationItem x) rest h = apart (is_spec true) is_pragma (spell_declaration x rest) (spec_no_pragma true) (local_begins x rest h.0 h.1)
item_no_pragma (StatementItem b) rest h = apart opens is_pragma (spell_statement b rest) opens_no_pragma (statement_opens b rest)

pub items_no_pragma : (u : BlockItems) (r : Span) (rest : List Token) → ProperBlockItems u → starts is_pragma (spell_block_items u (punct p.RBrace r ∷ rest)) ≡ false
items_no_pragma NoBlockItems r rest h = refl
items_no_pragma (AndBlockItem x m) r rest h = item_no_pragma x (spell_block_items m (punct p.RBrace r ∷ rest)) h.0

pub switch_item_inside : (u : SwitchItem) (rest : List Token) → starts no_brace (spell_switch_item u rest) ≡ true
switch_item_inside (CaseItem a e c) rest = refl
switch_item_inside (DefaultItem a c) rest = refl
switch_item_inside (SwitchStatement b) rest = statement_inside b rest

pub switch_item_no_else : (u : SwitchItem) (rest : List Token) → starts (is_word w.Else) (spell_switch_item u rest) ≡ false
switch_item_no_else (CaseItem a e c) rest = refl
switch_item_no_else (DefaultItem a c) rest = refl
switch_item_no_else (SwitchStatement b) rest = statement_no_else b rest

-- ---- an `else` that would belong to a statement

abbrev pub StopsElse : Bool → List Token → Type 0
StopsElse false ts = Unit {0}
StopsElse true ts = starts (is_word w.Else) ts ≡ false

pub stops_else : (b : Bool) (ts : List Token) → starts (is_word w.Else) ts ≡ false → StopsElse b ts
stops_else false ts h = tt
stops_else true ts h = h

stops_not : (b : Bool) (ts : List Token) → b ≡ false → StopsElse b ts
stops_not false ts h = tt
stops_not true ts h = absurd cc

not_stopped : (b : Bool) (at : Span) (ts : List Token) → StopsElse b (word w.Else at ∷ ts) → b ≡ false
not_stopped false at ts h = refl
not_stopped true at ts h = h

pub keeps_stops : (b : Statement) (m : ElseIfs) (o : Otherwise) (rest : List Token) → KeepsElse b m o → StopsElse (takes_else_behind o) rest → StopsElse (takes_else b) (spell_else_ifs m (spell_otherwise o rest))
keeps_stops b (AndElseIf e a t n m) o rest keeps h = stops_not (takes_else b) _ keeps
keeps_stops b NoElseIfs (Else a n) rest keeps h = stops_not (takes_else b) _ keeps
keeps_stops b NoElseIfs NoOtherwise rest keeps h = stops_else (takes_else b) rest h

pub stops_keeps : (b : Statement) (m : ElseIfs) (o : Otherwise) (rest : List Token) → StopsElse (takes_else b) (spell_else_ifs m (spell_otherwise o rest)) → KeepsElse b m o
stops_keeps b (AndElseIf e a t n m) o rest h = not_stopped (takes_else b) e _ h
stops_keeps b NoElseIfs (Else a n) rest h = not_stopped (takes_else b) a _ h
stops_keeps b NoElseIfs NoOtherwise rest h = tt

-- what is no `if` does not begin with `if`
begins_no_if : (x : TokenKind) → begins x ≡ true → is_word w.If x ≡ false
begins_no_if (k.Word w.If) h = absurd cc
begins_no_if _ h = cc

value_no_if : (v : Option Expr) (c : Span) (rest : List Token) → starts (is_word w.If) (spell_value v (punct p.Semicolon c ∷ rest)) ≡ false
value_no_if None c rest = refl
value_no_if (Some e) c rest = apart begins (is_word w.If) (spell e (punct p.Semicolon c ∷ rest)) begins_no_if (expr_begins e (punct p.Semicolon c ∷ rest))

barrier_no_if : (kind : BarrierWord) → is_word w.If (k.Word (barrier_word kind)) ≡ false
barrier_no_if bw.Notify = refl
barrier_no_if _ = refl

compound_no_if : (u : Compound) (rest : List Token) → starts (is_word w.If) (spell_compound u rest) ≡ false
compound_no_if (Braces l g m r) rest = refl

pub begins_if : (u : Statement) (rest : List Token) → starts (is_word w.If) (spell_statement u rest) ≡ is_if u
begins_if (s.Block c) rest = compound_no_if c rest
begins_if (s.Value v c) rest = value_no_if v c rest
begins_if (s.If a t b m o) rest = refl
begins_if (s.Switch a t l b r) rest = refl
begins_if (s.While a t b) rest = refl
begins_if (s.DoWhile a b u t c) rest = refl
begins_if (s.For a h b) rest = refl
begins_if (s.Forall a h b) rest = refl
begins_if (s.Break a c) rest = refl
begins_if (s.Continue a c) rest = refl
begins_if (s.Return a v c) rest = refl
begins_if (s.Barrier kind a v c) rest = barrier_no_if kind
begins_if (s.Fence a c) rest = refl
