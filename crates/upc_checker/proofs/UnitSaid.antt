-- The nodes of a walk over a source are those of its tree, and its jumps break the rules that affinity_checker finds.
use Rattle.std.proofs.Common.{◌≡◌, ℕ, ◌+◌, ◌==◌, Bool, true, false, ◌&&◌, ◌||◌, not, List, [], ◌∷◌, ◌++◌, map, Option, Some, None, refl, ap, ◌∙◌, subst, arith, ne_eqb}
use Rattle.std.proofs.lemmas.List.{append-nil}
use Rattle.block_layout.specs.declared.kind.Kind.{Kind}
use Rattle.upc_text.specs.declared.place.Place.{Place}
use Rattle.upc_tree.specs.declared.span.Name.{Name}
use Rattle.upc_tree.specs.declared.span.Span.{Span}
use Rattle.upc_tree.specs.declared.mark.BarrierWord.{BarrierWord}
use Rattle.upc_tree.specs.Expression.{Expr, NextExprs, NoNextExprs, AndExpr, ObjectDeclarator, FunctionDeclarator, Parameters}
use Rattle.upc_tree.specs.Declaration as d
use Rattle.upc_tree.specs.Declaration.{Declaration, Declares, DeclaredList, NoneDeclared, SomeDeclared, NextDeclareds, NoNextDeclareds, AndDeclared, DeclaredAs}
use Rattle.upc_tree.specs.Statement as s
use Rattle.upc_tree.specs.Statement.{Statement, Compound, Braces, BlockItems, NoBlockItems, AndBlockItem, DeclarationItem, StatementItem, SwitchItems, NoSwitchItems, AndSwitchItem, CaseItem, DefaultItem, SwitchStatement, ElseIfs, NoElseIfs, AndElseIf, Otherwise, NoOtherwise, Else, Test, Tests, First, FirstValue, FirstDeclaration, Affinity, NoAffinity, ContinueAffinity, ValueAffinity, ForHead, ForParts, ForallHead, ForallParts}
use Rattle.upc_tree.specs.Unit.{External, PragmaPart, DeclarationPart, FunctionPart}
use Rattle.upc_types.specs.Types.{CType}
use Rattle.typing_rules.specs.Meanings.{Meaning, Signature}
use Rattle.typing_rules.specs.Nodes as n
use Rattle.typing_rules.specs.Nodes.{Around, Use}
use Rattle.typing_rules.specs.Rules.{jumps_nowhere, leaves_forall}
use Rattle.typed_tree.specs.Scopes.{Setting, Env, Scope, Outer, NoScope, Within, begin, is_file, level_of, inside, with_entry}
use Rattle.typed_tree.specs.Scopes as scopes
use Rattle.typed_tree.specs.Tree as k
use Rattle.upc_checker_scopes.specs.Places.{at, specs_place}
use Rattle.upc_checker_types.specs.Specifiers.{Shaped}
use Rattle.upc_checker_declarations.specs.Declarations.{initial_constant, walk_initial_value, walk_initial_values, walk_initial, Behind, walk_declared, walk_next_declareds, walk_declared_list, walk_declaration}
use Rattle.upc_checker_statements.specs.Statements.{in_loop, in_switch, in_forall, walk_value, walk_test, walk_first, walk_affinity, walk_for_head, walk_forall_head, walk_statement, walk_block, walk_items, walk_switch, walk_else_ifs, walk_otherwise}
use Rattle.upc_checker.specs.Units.{Made, setting, with_outer_entry, body_around, walk_definition, walk_external, walk_externals, walk_unit, unit_nodes}
use Rattle.affinity_checker.specs.declared.around.Around as around
use Rattle.affinity_checker.specs.layer.Rules as pure
use Rattle.affinity_checker.specs.layer.Rules.{where_true, refused}
use Rattle.affinity_checker.specs.layer.Breaches.{breaches, in_compound, in_block_items, in_switch_items, in_else_ifs, in_otherwise, in_external, unit_breaches}
use Rattle.upc_checker.specs.code.Lines as l
use Rattle.upc_checker.specs.code.TreeNodes.{node, node_of, parameters_nodes, value_nodes, values_nodes, initial_nodes, declared_nodes, next_declared_nodes, declared_list_nodes, declaration_nodes, option_nodes, test_nodes, first_nodes, affinity_nodes, for_nodes, forall_nodes, return_nodes, barrier_nodes, statement_nodes, compound_nodes, item_nodes, switch_nodes, else_if_nodes, otherwise_nodes, external_nodes, externals_nodes, tree_nodes}
use Rattle.upc_checker.specs.code.Jumps.{jump_breaches}
use Rattle.upc_checker.proofs.Saying.{Says, Any, Starts, says_then, says_quiet, says_last, says_end, says_behind, says_give, says_given, says_made, says_enclosed, says_update, says_look, judge_then, judge_gives, says_constantly, says_to_their_end, says_jump}
use Rattle.upc_checker.proofs.TreeSaid.{expr_says, specs_say, pointers_say, sizes_say, parameters_say, file_declare}

-- ---- scopes

file_entry : (name : ℕ) (m : Meaning) (Γ : Env) → is_file (with_entry name m Γ) ≡ is_file Γ
file_entry name m (Scope level top counts outer) = refl

file_outer : (name : ℕ) (signature : Signature) (Γ : Env) → is_file (with_outer_entry name signature Γ) ≡ is_file Γ
file_outer name signature (Scope level top counts (Within Γ)) = refl
file_outer name signature (Scope level top counts NoScope) = refl

no_level : (n : ℕ) → (n + 1 == 0) ≡ false
no_level n = ne_eqb (n + 1) 0 (λ e. omega (arith, e))

-- A scope inside another is no file.
inner : (Γ : Env) → is_file (inside Γ) ≡ false
inner Γ = no_level (level_of Γ)

abbrev Behinds : Bool → Behind → Type 0
Behinds file b = is_file b.scope ≡ file

-- ---- declarations

constant_says : (ξ : Setting) (a : k.Expr) {place : Place} → Starts place a → Says Any (initial_constant ξ true a) (node place l.Constantly) []
constant_says ξ a p = says_end (says_constantly ξ a p) (λ c q. says_give tt)

value_says : (ξ : Setting) (Γ : Env) (file : Bool) (how : Use) (value : Expr) → Says Any (walk_initial_value ξ Γ file how value) (value_nodes file value) []
value_says ξ Γ true how value = says_quiet (expr_says ξ Γ how value) (λ a p. says_end (constant_says ξ a p) (λ u q. says_give tt))
value_says ξ Γ false how value = says_end (expr_says ξ Γ how value) (λ a p. says_given _ (says_give tt))

values_say : (ξ : Setting) (Γ : Env) (file : Bool) (how : Use) (values : NextExprs) → Says Any (walk_initial_values ξ Γ file how values) (values_nodes file values) []
values_say ξ Γ file how NoNextExprs = says_give tt
values_say ξ Γ file how (AndExpr comma value more) =
    says_quiet (value_says ξ Γ file how value) (λ x p. says_end (values_say ξ Γ file how more) (λ xs q. says_give tt))

initial_says : (ξ : Setting) (Γ : Env) (place : Place) (object : Bool) (t : CType) (x : d.Initial) → Says Any (walk_initial ξ Γ place object t x) (initial_nodes (is_file Γ) place x) []
initial_says ξ Γ place object t d.NoInitial = says_give tt
initial_says ξ Γ place object t (d.ValueInitial equal value) = says_quiet (value_says ξ Γ _ _ value) (λ a p. judge_gives ξ _ _ refl refl refl (λ u. says_give tt))
initial_says ξ Γ place object t (d.ListInitial equal left first more right) =
    says_quiet (value_says ξ Γ _ _ first) (λ x p. says_quiet (values_say ξ Γ _ _ more) (λ xs q. judge_gives ξ _ _ refl refl refl (λ u. says_give tt)))

initial_at : (ξ : Setting) (Γ : Env) (place : Place) (object : Bool) (t : CType) (file : Bool) → is_file Γ ≡ file → (x : d.Initial) → Says Any (walk_initial ξ Γ place object t x) (initial_nodes file place x) []
initial_at ξ Γ place object t file e x = subst (λ f. Says Any (walk_initial ξ Γ place object t x) (initial_nodes f place x) []) e (initial_says ξ Γ place object t x)

declared_says : (ξ : Setting) (place : Place) (t : Shaped) (before : Behind) (file : Bool) → Behinds file before → (x : d.Declared) → Says (Behinds file) (walk_declared ξ place t before x) (declared_nodes file x) []
declared_says ξ place t before file e (DeclaredAs (ObjectDeclarator pointers name sizes) initial) =
    says_quiet (pointers_say ξ _ _ t pointers) (λ p h. says_quiet (sizes_say ξ _ sizes) (λ ns i. judge_then ξ _ _ refl refl refl (λ u.
    says_end (initial_at ξ _ _ _ _ file (file_declare name.number _ before.scope ∙ e) initial) (λ z j. says_give (file_declare name.number _ before.scope ∙ e)))))
declared_says ξ place t before file e (DeclaredAs (FunctionDeclarator pointers name parameters) initial) =
    says_quiet (pointers_say ξ _ _ t pointers) (λ p h. says_quiet (says_enclosed (parameters_say ξ _ parameters)) (λ ps i.
    says_quiet (says_behind (says_look _) (λ again j. judge_then ξ _ _ refl refl refl (λ u. says_update _))) (λ u j.
    says_end (initial_at ξ _ _ _ _ file (file_entry name.number _ before.scope ∙ e) initial) (λ z j. says_give (file_entry name.number _ before.scope ∙ e)))))

next_declareds_say : (ξ : Setting) (place : Place) (t : Shaped) (before : Behind) (file : Bool) → Behinds file before → (x : NextDeclareds) → Says (Behinds file) (walk_next_declareds ξ place t before x) (next_declared_nodes file x) []
next_declareds_say ξ place t before file e NoNextDeclareds = says_give e
next_declareds_say ξ place t before file e (AndDeclared comma x more) = says_quiet (declared_says ξ place t before file e x) (λ b h. next_declareds_say ξ place t b file h more)

declared_list_says : (ξ : Setting) (place : Place) (t : Shaped) (before : Behind) (file : Bool) → Behinds file before → (x : DeclaredList) → Says (Behinds file) (walk_declared_list ξ place t before x) (declared_list_nodes file x) []
declared_list_says ξ place t before file e NoneDeclared = says_give e
declared_list_says ξ place t before file e (SomeDeclared first more) = says_quiet (declared_says ξ place t before file e first) (λ b h. next_declareds_say ξ place t b file h more)

declaration_says : (ξ : Setting) (Γ : Env) (file : Bool) → is_file Γ ≡ file → (x : Declaration) → Says (Behinds file) (walk_declaration ξ Γ x) (declaration_nodes file x) []
declaration_says ξ Γ file e (Declares specs list semicolon) =
    says_quiet (says_to_their_end ξ (specs_place specs) (specs_say ξ Γ _ specs)) (λ p h. says_quiet (declared_list_says ξ _ _ _ file e list) (λ b i. judge_gives ξ _ _ refl refl refl (λ u. says_give i)))

-- ---- parts of statements

option_says : (ξ : Setting) (Γ : Env) (x : Option Expr) → Says Any (walk_value ξ Γ x) (option_nodes x) []
option_says ξ Γ None = says_give tt
option_says ξ Γ (Some e) = says_end (expr_says ξ Γ _ e) (λ a p. says_give tt)

test_says : (ξ : Setting) (Γ : Env) (x : Test) → Says Any (walk_test ξ Γ x) (test_nodes x) []
test_says ξ Γ (Tests left value right) = let h = expr_says ξ Γ n.Plain value in record { nodes = h.nodes; jumps = h.jumps; holds = λ s. tt }

first_says : (ξ : Setting) (Γ : Env) → is_file Γ ≡ false → (x : First) → Says Any (walk_first ξ Γ x) (first_nodes x) []
first_says ξ Γ e (FirstValue value semicolon) = says_end (option_says ξ Γ value) (λ a p. says_give tt)
first_says ξ Γ e (FirstDeclaration declaration) = says_end (declaration_says ξ Γ false e declaration) (λ b p. says_give tt)

affinity_says : (ξ : Setting) (Γ : Env) (x : Affinity) → Says Any (walk_affinity ξ Γ x) (affinity_nodes x) []
affinity_says ξ Γ NoAffinity = says_give tt
affinity_says ξ Γ (ContinueAffinity word) = says_give tt
affinity_says ξ Γ (ValueAffinity value) = says_quiet (expr_says ξ Γ _ value) (λ a p. judge_gives ξ _ _ p refl refl (λ u. says_give tt))

for_says : (ξ : Setting) (Γ : Env) → is_file Γ ≡ false → (x : ForHead) → Says Any (walk_for_head ξ Γ x) (for_nodes x) []
for_says ξ Γ e (ForParts left first test test_end step right) =
    says_quiet (first_says ξ Γ e first) (λ b p. says_quiet (option_says ξ _ test) (λ t q. says_end (option_says ξ _ step) (λ z r. says_give tt)))

forall_says : (ξ : Setting) (Γ : Env) → is_file Γ ≡ false → (x : ForallHead) → Says Any (walk_forall_head ξ Γ x) (forall_nodes x) []
forall_says ξ Γ e (ForallParts left first test test_end step step_end affinity right) =
    says_quiet (first_says ξ Γ e first) (λ b p. says_quiet (option_says ξ _ test) (λ t q. says_quiet (option_says ξ _ step) (λ z r.
    says_end (affinity_says ξ _ affinity) (λ a i. says_give tt))))

-- ---- what stands around jumps

record Agree (c : Around) (a : around.Around) : Type 0 where
  nowhere : jumps_nowhere c.breaks ≡ not (a.looped || a.switched)
  leaves : leaves_forall c.breaks ≡ (a.shared && not a.inside)
  loops : not c.loops ≡ not a.looped
  forall : c.forall ≡ a.shared

and_false : (b : Bool) → false ≡ (b && false)
and_false true = refl
and_false false = refl

or_true : (b : Bool) → false ≡ not (b || true)
or_true true = refl
or_true false = refl

agree_loop : (c : Around) (a : around.Around) → Agree c a → Agree (in_loop c) (pure.in_loop a)
agree_loop c a h = record { nowhere = refl; leaves = and_false a.shared; loops = refl; forall = h.forall }

agree_switch : (c : Around) (a : around.Around) → Agree c a → Agree (in_switch c) (pure.in_switch a)
agree_switch c a h = record { nowhere = or_true a.looped; leaves = and_false a.shared; loops = h.loops; forall = h.forall }

agree_forall : (c : Around) (a : around.Around) → Agree c a → Agree (in_forall c) (pure.in_forall a)
agree_forall c a h = record { nowhere = refl; leaves = refl; loops = refl; forall = refl }

agree_body : (t : CType) → Agree (body_around t) pure.nothing
agree_body t = record { nowhere = refl; leaves = refl; loops = refl; forall = refl }

return_says : (ξ : Setting) (Γ : Env) (c : Around) (a : around.Around) (strict : Bool) (word semicolon : Span) → Agree c a → (x : Option Expr) →
    Says Any (walk_statement ξ Γ c strict (s.Return word x semicolon)) (return_nodes (at word) x) (pure.at_return a (at word))
return_says ξ Γ c a strict word semicolon h None = says_given _ (says_jump ξ _ (n.ReturnsNothing c) _ _ refl (ap (λ b. where_true b (refused (at word) 24)) h.forall))
return_says ξ Γ c a strict word semicolon h (Some e) =
    says_made _ _ (expr_says ξ Γ _ e) (λ x p. says_jump ξ _ (n.Returns c _) _ _ refl (ap (λ b. where_true b (refused (at word) 24)) h.forall))

barrier_says : (ξ : Setting) (Γ : Env) (c : Around) (strict : Bool) (kind : BarrierWord) (word semicolon : Span) (x : Option Expr) →
    Says Any (walk_statement ξ Γ c strict (s.Barrier kind word x semicolon)) (barrier_nodes (at word) x) []
barrier_says ξ Γ c strict kind word semicolon None = says_given _ (says_give tt)
barrier_says ξ Γ c strict kind word semicolon (Some e) = says_made _ _ (expr_says ξ Γ _ e) (λ x p. judge_gives ξ _ _ refl refl refl (λ u. says_give tt))

-- ---- statements

mutual
  statement_says : (ξ : Setting) (Γ : Env) (c : Around) (a : around.Around) (strict : Bool) → Agree c a → (x : Statement) → Says Any (walk_statement ξ Γ c strict x) (statement_nodes x) (breaches x a)
  statement_says ξ Γ c a strict h (s.Block compound) = block_says ξ (inside Γ) c a strict h (inner Γ) compound
  statement_says ξ Γ c a strict h (s.Value value semicolon) = says_end (option_says ξ Γ value) (λ x p. says_give tt)
  statement_says ξ Γ c a strict h (s.If word test body more last) =
      says_enclosed (says_quiet (test_says ξ _ test) (λ t p. says_then (says_enclosed (statement_says ξ _ c a strict h body)) (λ b q.
      says_then (else_ifs_say ξ _ _ c a strict h more) (λ x r. says_last (otherwise_says ξ _ c a strict h last) (λ o i. judge_gives ξ _ _ refl refl refl (λ u. says_give tt))))))
  statement_says ξ Γ c a strict h (s.Switch word test left items right) =
      says_enclosed (says_quiet (test_says ξ _ test) (λ t p. says_last (says_enclosed (switch_says ξ (inside (inside Γ)) (in_switch c) (pure.in_switch a) strict (agree_switch c a h) (inner (inside Γ)) _ items)) (λ x q. judge_gives ξ _ _ refl refl refl (λ u. says_give tt))))
  statement_says ξ Γ c a strict h (s.While word test body) =
      says_enclosed (says_quiet (test_says ξ _ test) (λ t p. says_last (says_enclosed (statement_says ξ _ (in_loop c) (pure.in_loop a) strict (agree_loop c a h) body)) (λ b q. judge_gives ξ _ _ refl refl refl (λ u. says_give tt))))
  statement_says ξ Γ c a strict h (s.DoWhile word body until test semicolon) =
      says_enclosed (says_last (says_enclosed (statement_says ξ _ (in_loop c) (pure.in_loop a) strict (agree_loop c a h) body)) (λ b q. says_quiet (test_says ξ _ test) (λ t p. judge_gives ξ _ _ refl refl refl (λ u. says_give tt))))
  statement_says ξ Γ c a strict h (s.For word head body) =
      says_enclosed (says_quiet (for_says ξ (inside Γ) (inner Γ) head) (λ z p. says_last (says_enclosed (statement_says ξ _ (in_loop c) (pure.in_loop a) strict (agree_loop c a h) body)) (λ b q. judge_gives ξ _ _ refl refl refl (λ u. says_give tt))))
  statement_says ξ Γ c a strict h (s.Forall word head body) =
      says_enclosed (says_quiet (forall_says ξ (inside Γ) (inner Γ) head) (λ z p. says_last (says_enclosed (statement_says ξ _ (in_forall c) (pure.in_forall a) strict (agree_forall c a h) body)) (λ b q. judge_gives ξ _ _ refl refl refl (λ u. says_give tt))))
  statement_says ξ Γ c a strict h (s.Break word semicolon) =
      says_jump ξ _ (n.Break c) _ _ refl (ap (λ b. where_true b (refused (at word) 23) ++ where_true (leaves_forall c.breaks) (refused (at word) 24)) h.nowhere
      ∙ ap (λ b. where_true (not (a.looped || a.switched)) (refused (at word) 23) ++ where_true b (refused (at word) 24)) h.leaves)
  statement_says ξ Γ c a strict h (s.Continue word semicolon) =
      says_jump ξ _ (n.Continue c) _ _ refl (append-nil (where_true (not c.loops) (refused (at word) 23)) ∙ ap (λ b. where_true b (refused (at word) 23)) h.loops)
  statement_says ξ Γ c a strict h (s.Return word value semicolon) = return_says ξ Γ c a strict word semicolon h value
  statement_says ξ Γ c a strict h (s.Barrier kind word value semicolon) = barrier_says ξ Γ c strict kind word semicolon value
  statement_says ξ Γ c a strict h (s.Fence word semicolon) = says_give tt

  block_says : (ξ : Setting) (Γ : Env) (c : Around) (a : around.Around) (strict : Bool) → Agree c a → is_file Γ ≡ false → (x : Compound) → Says Any (walk_block ξ Γ c strict x) (compound_nodes x) (in_compound x a)
  block_says ξ Γ c a strict h e (Braces left pragmas items right) = says_enclosed (says_end (items_say ξ Γ c a _ h e items) (λ xs p. says_give tt))

  items_say : (ξ : Setting) (Γ : Env) (c : Around) (a : around.Around) (strict : Bool) → Agree c a → is_file Γ ≡ false → (x : BlockItems) → Says Any (walk_items ξ Γ c strict x) (item_nodes x) (in_block_items x a)
  items_say ξ Γ c a strict h e NoBlockItems = says_give tt
  items_say ξ Γ c a strict h e (AndBlockItem (DeclarationItem declaration) more) =
      says_quiet (declaration_says ξ Γ false e declaration) (λ b p. says_end (items_say ξ b.scope c a strict h p more) (λ xs q. says_give tt))
  items_say ξ Γ c a strict h e (AndBlockItem (StatementItem statement) more) =
      says_then (statement_says ξ Γ c a strict h statement) (λ x p. says_end (items_say ξ Γ c a strict h e more) (λ xs q. says_give tt))

  switch_says : (ξ : Setting) (Γ : Env) (c : Around) (a : around.Around) (strict : Bool) → Agree c a → is_file Γ ≡ false → (kind : Option Kind) (x : SwitchItems) → Says Any (walk_switch ξ Γ c strict kind x) (switch_nodes x) (in_switch_items x a)
  switch_says ξ Γ c a strict h e kind NoSwitchItems = says_give tt
  switch_says ξ Γ c a strict h e kind (AndSwitchItem (CaseItem word value colon) more) =
      says_quiet (expr_says ξ Γ _ value) (λ v p. says_quiet (says_constantly ξ v p) (λ z q. says_end (switch_says ξ Γ c a strict h e kind more) (λ x r. says_give tt)))
  switch_says ξ Γ c a strict h e kind (AndSwitchItem (DefaultItem word colon) more) = says_end (switch_says ξ Γ c a strict h e kind more) (λ x r. says_give tt)
  switch_says ξ Γ c a strict h e kind (AndSwitchItem (SwitchStatement statement) more) =
      says_then (statement_says ξ Γ c a strict h statement) (λ y p. says_end (switch_says ξ Γ c a strict h e kind more) (λ x q. says_give tt))

  else_ifs_say : (ξ : Setting) (Γ Δ : Env) (c : Around) (a : around.Around) (strict : Bool) → Agree c a → (x : ElseIfs) → Says Any (walk_else_ifs ξ Γ Δ c strict x) (else_if_nodes x) (in_else_ifs x a)
  else_ifs_say ξ Γ Δ c a strict h NoElseIfs = says_give tt
  else_ifs_say ξ Γ Δ c a strict h (AndElseIf other word test body more) =
      says_quiet (test_says ξ Δ test) (λ t p. says_then (says_enclosed (statement_says ξ _ c a strict h body)) (λ b q. says_end (else_ifs_say ξ Γ _ c a strict h more) (λ x r. says_give tt)))

  otherwise_says : (ξ : Setting) (Γ : Env) (c : Around) (a : around.Around) (strict : Bool) → Agree c a → (x : Otherwise) → Says Any (walk_otherwise ξ Γ c strict x) (otherwise_nodes x) (in_otherwise x a)
  otherwise_says ξ Γ c a strict h NoOtherwise = says_give tt
  otherwise_says ξ Γ c a strict h (Else word body) = says_end (says_enclosed (statement_says ξ _ c a strict h body)) (λ b q. says_give tt)

-- ---- the source

abbrev AtFile : Made → Type 0
AtFile m = is_file m.scope ≡ true

definition_says : (ξ : Setting) (strict : Bool) (before : Made) (place : Place) (forms : Bool) (result : CType) (name : Name) (ps : Parameters) (body : Compound) → AtFile before →
    Says AtFile (walk_definition ξ strict before place forms result name ps body) (parameters_nodes ps ++ (compound_nodes body ++ node place l.Defines)) (in_compound body pure.nothing)
definition_says ξ strict before place forms result name ps body e =
    says_quiet (parameters_say ξ _ ps) (λ ds p. says_behind (says_look _) (λ was q. says_behind (says_update _) (λ u r.
    says_last (block_says ξ _ _ pure.nothing strict (agree_body result) (file_outer name.number _ ds.scope ∙ p ∙ inner before.scope) body) (λ x i.
    judge_gives ξ _ _ refl refl refl (λ v. says_give (file_entry name.number _ before.scope ∙ e))))))

external_says : (ξ : Setting) (strict : Bool) (before : Made) → AtFile before → (x : External) → Says AtFile (walk_external ξ strict before x) (external_nodes x) (in_external x)
external_says ξ strict before e (PragmaPart pragma) = says_give e
external_says ξ strict before e (DeclarationPart declaration) = says_end (declaration_says ξ _ true e declaration) (λ b p. says_give p)
external_says ξ strict before e (FunctionPart specs pointers name ps body) =
    says_quiet (says_to_their_end ξ (specs_place specs) (specs_say ξ _ _ specs)) (λ p h. says_quiet (pointers_say ξ _ _ _ pointers) (λ t i.
    says_enclosed (definition_says ξ strict before _ _ _ name ps body e)))

externals_say : (ξ : Setting) (strict : Bool) (before : Made) → AtFile before → (xs : List External) → Says AtFile (walk_externals ξ strict before xs) (externals_nodes xs) (unit_breaches xs)
externals_say ξ strict before e [] = says_give e
externals_say ξ strict before e (x ∷ xs) = says_then (external_says ξ strict before e x) (λ b h. externals_say ξ _ b h xs)

unit_says : (ξ : Setting) (unit : List External) → Says Any (walk_unit ξ unit) (tree_nodes unit) (unit_breaches unit)
unit_says ξ unit =
    let none : Made = record { scope = scopes.file; objects = []; functions = [] } in
    says_last (externals_say ξ false none refl unit) (λ made h. judge_gives ξ _ _ refl refl refl (λ u. says_give tt))

-- The nodes that are judged are all nodes of the tree, each once, in the order in which they are finished.
pub every_node : (names : List (List ℕ)) (threads : ℕ) (unit : List External) → map node_of (unit_nodes names threads unit) ≡ tree_nodes unit
every_node names threads unit = (unit_says (setting names threads unit) unit).nodes begin

-- The jumps among them break rules 23 and 24 just where affinity_checker finds it.
pub jumps_agree : (names : List (List ℕ)) (threads : ℕ) (unit : List External) → jump_breaches (unit_nodes names threads unit) ≡ unit_breaches unit
jumps_agree names threads unit = (unit_says (setting names threads unit) unit).jumps begin
