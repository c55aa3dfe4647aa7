-- As many objects come in with a statement as it declares.
use Rattle.std.proofs.Common.{ℕ, Bool, length, Option, Some, None, refl, arith}
use Rattle.std.proofs.lemmas.List.{length-append}
use Rattle.block_layout.specs.declared.kind.Kind.{Kind}
use Rattle.upc_text.specs.declared.place.Place.{Place}
use Rattle.upc_tree.specs.Expression.{Expr}
use Rattle.upc_tree.specs.Statement as s
use Rattle.upc_tree.specs.Statement.{Statement, Compound, Braces, BlockItems, NoBlockItems, AndBlockItem, DeclarationItem, StatementItem, SwitchItems, NoSwitchItems, AndSwitchItem, CaseItem, DefaultItem, SwitchStatement, ElseIfs, NoElseIfs, AndElseIf, Otherwise, NoOtherwise, Else, Test, Tests, First, FirstValue, FirstDeclaration, Affinity, NoAffinity, ContinueAffinity, ValueAffinity, ForHead, ForParts, ForallHead, ForallParts}
use Rattle.typed_tree.specs.declared.tree.Synchronises.{Synchronises}
use Rattle.typing_rules.specs.Nodes.{Around}
use Rattle.typed_tree.specs.Scopes.{Setting, Env}
use Rattle.typed_tree.specs.Tree as k
use Rattle.upc_checker_declarations.proofs.Coming.{Keeps, keeps_then, keeps_give, keeps_judge, keeps_constantly, keeps, Brings, kept, brings, brings_give, brings_enclosed, declaration_brings}
use Rattle.typed_tree.specs.LocalObjects.{objects_in, last_objects, arms_objects, items_objects, switch_objects}
use Rattle.upc_checker_nodes.specs.Judged.{returns, synchronise}
use Rattle.upc_checker_statements.specs.Statements.{walk_value, walk_test, Begun, walk_first, walk_affinity, Headed, walk_for_head, walk_forall_head, Labelled, Armed, walk_returned, walk_statement, walk_block, walk_items, walk_switch, walk_else_ifs, walk_otherwise}

value_keeps : (ξ : Setting) (Γ : Env) (x : Option Expr) → Keeps (walk_value ξ Γ x)
value_keeps ξ Γ None = keeps_give _
value_keeps ξ Γ (Some e) = keeps_then (keeps ξ Γ _ e) (λ a. keeps_give _)

test_keeps : (ξ : Setting) (Γ : Env) (x : Test) → Keeps (walk_test ξ Γ x)
test_keeps ξ Γ (Tests left value right) = keeps ξ Γ _ value

affinity_keeps : (ξ : Setting) (Γ : Env) (x : Affinity) → Keeps (walk_affinity ξ Γ x)
affinity_keeps ξ Γ NoAffinity = keeps_give _
affinity_keeps ξ Γ (ContinueAffinity word) = keeps_give _
affinity_keeps ξ Γ (ValueAffinity value) = keeps_then (keeps ξ Γ _ value) (λ a. keeps_then (keeps_judge ξ _ _ (λ s. refl)) (λ u. keeps_give _))

-- ---- how many objects parts of a program declare

abbrev pub declared_in : k.Statement → ℕ
declared_in x = length (objects_in x)

abbrev pub declared_by_last : k.StatementOption → ℕ
declared_by_last x = length (last_objects x)

abbrev pub declared_by_arms : k.Arms → ℕ
declared_by_arms x = length (arms_objects x)

abbrev pub declared_among : k.Items → ℕ
declared_among x = length (items_objects x)

abbrev pub declared_by_switch : k.SwitchItems → ℕ
declared_by_switch x = length (switch_objects x)

abbrev pub by_begun : Begun → ℕ
by_begun b = length b.objects

abbrev pub by_headed : Headed → ℕ
by_headed h = length h.head.objects

abbrev pub by_labelled : Labelled → ℕ
by_labelled x = declared_by_switch x.items

abbrev pub by_armed : Armed → ℕ
by_armed x = declared_by_arms x.arms

first_brings : (ξ : Setting) (Γ : Env) (x : First) → Brings 0 (walk_first ξ Γ x) by_begun
first_brings ξ Γ (FirstValue value semicolon) = kept (value_keeps ξ Γ value) (λ a. brings_give _ refl)
first_brings ξ Γ (FirstDeclaration declaration) = brings (declaration_brings ξ Γ declaration) (λ b. brings_give _ (omega arith))

for_head_brings : (ξ : Setting) (Γ : Env) (x : ForHead) → Brings 0 (walk_for_head ξ Γ x) by_headed
for_head_brings ξ Γ (ForParts left first test test_end step right) =
    brings (first_brings ξ Γ first) (λ b. kept (value_keeps ξ _ test) (λ t. kept (value_keeps ξ _ step) (λ p. brings_give _ (omega arith))))

forall_head_brings : (ξ : Setting) (Γ : Env) (x : ForallHead) → Brings 0 (walk_forall_head ξ Γ x) by_headed
forall_head_brings ξ Γ (ForallParts left first test test_end step step_end affinity right) =
    brings (first_brings ξ Γ first) (λ b. kept (value_keeps ξ _ test) (λ t. kept (value_keeps ξ _ step) (λ p.
    kept (affinity_keeps ξ _ affinity) (λ a. brings_give _ (omega arith)))))

returned_keeps : (ξ : Setting) (Γ : Env) (c : Around) (x : Option Expr) → Keeps (walk_returned ξ Γ c x)
returned_keeps ξ Γ c None = keeps_give _
returned_keeps ξ Γ c (Some e) = keeps_then (keeps ξ Γ _ e) (λ a. keeps_give _)

returns_bring : (ξ : Setting) (c : Around) (place : Place) (x : Option k.Expr) → Brings 0 (returns ξ c place x) declared_in
returns_bring ξ c place None = kept (keeps_judge ξ _ _ (λ s. refl)) (λ u. brings_give _ refl)
returns_bring ξ c place (Some a) = kept (keeps_judge ξ _ _ (λ s. refl)) (λ u. brings_give _ refl)

synchronise_brings : (ξ : Setting) (place : Place) (how : Synchronises) (x : Option k.Expr) → Brings 0 (synchronise ξ place how x) declared_in
synchronise_brings ξ place how None = brings_give _ refl
synchronise_brings ξ place how (Some a) = kept (keeps_judge ξ _ _ (λ s. refl)) (λ u. brings_give _ refl)

mutual
  pub statement_brings : (ξ : Setting) (Γ : Env) (c : Around) (strict : Bool) (x : Statement) → Brings 0 (walk_statement ξ Γ c strict x) declared_in
  statement_brings ξ Γ c strict (s.Block compound) = block_brings ξ _ c strict compound
  statement_brings ξ Γ c strict (s.Value value semicolon) = kept (value_keeps ξ Γ value) (λ a. brings_give _ refl)
  statement_brings ξ Γ c strict (s.If word test body more last) =
      brings_enclosed (kept (test_keeps ξ _ test) (λ a. brings (brings_enclosed (statement_brings ξ _ c strict body)) (λ b. brings (else_ifs_bring ξ _ _ c strict more) (λ x.
      brings (otherwise_brings ξ _ c strict last) (λ o. kept (keeps_judge ξ _ _ (λ s. refl)) (λ u. brings_give _ (omega (arith, length-append {A = k.DeclaredObject}))))))))
  statement_brings ξ Γ c strict (s.Switch word test left items right) =
      brings_enclosed (kept (test_keeps ξ _ test) (λ a. brings (brings_enclosed (switch_brings ξ _ _ strict _ items)) (λ x.
      kept (keeps_judge ξ _ _ (λ s. refl)) (λ u. brings_give _ (omega (arith, length-append {A = k.DeclaredObject}))))))
  statement_brings ξ Γ c strict (s.While word test body) =
      brings_enclosed (kept (test_keeps ξ _ test) (λ a. brings (brings_enclosed (statement_brings ξ _ _ strict body)) (λ b.
      kept (keeps_judge ξ _ _ (λ s. refl)) (λ u. brings_give _ (omega (arith, length-append {A = k.DeclaredObject}))))))
  statement_brings ξ Γ c strict (s.DoWhile word body until test semicolon) =
      brings_enclosed (brings (brings_enclosed (statement_brings ξ _ _ strict body)) (λ b. kept (test_keeps ξ _ test) (λ a.
      kept (keeps_judge ξ _ _ (λ s. refl)) (λ u. brings_give _ (omega (arith, length-append {A = k.DeclaredObject}))))))
  statement_brings ξ Γ c strict (s.For word head body) =
      brings_enclosed (brings (for_head_brings ξ _ head) (λ h. brings (brings_enclosed (statement_brings ξ _ _ strict body)) (λ b.
      kept (keeps_judge ξ _ _ (λ s. refl)) (λ u. brings_give _ (omega (arith, length-append {A = k.DeclaredObject}))))))
  statement_brings ξ Γ c strict (s.Forall word head body) =
      brings_enclosed (brings (forall_head_brings ξ _ head) (λ h. brings (brings_enclosed (statement_brings ξ _ _ strict body)) (λ b.
      kept (keeps_judge ξ _ _ (λ s. refl)) (λ u. brings_give _ (omega (arith, length-append {A = k.DeclaredObject}))))))
  statement_brings ξ Γ c strict (s.Break word semicolon) = kept (keeps_judge ξ _ _ (λ s. refl)) (λ u. brings_give _ refl)
  statement_brings ξ Γ c strict (s.Continue word semicolon) = kept (keeps_judge ξ _ _ (λ s. refl)) (λ u. brings_give _ refl)
  statement_brings ξ Γ c strict (s.Return word value semicolon) = kept (returned_keeps ξ Γ c value) (λ a. returns_bring ξ c _ a)
  statement_brings ξ Γ c strict (s.Barrier kind word value semicolon) = kept (value_keeps ξ Γ value) (λ a. synchronise_brings ξ _ _ a)
  statement_brings ξ Γ c strict (s.Fence word semicolon) = brings_give _ refl

  pub block_brings : (ξ : Setting) (Γ : Env) (c : Around) (strict : Bool) (x : Compound) → Brings 0 (walk_block ξ Γ c strict x) declared_in
  block_brings ξ Γ c strict (Braces left pragmas items right) = brings_enclosed (brings (items_bring ξ Γ c _ items) (λ xs. brings_give _ (omega (arith, length-append {A = k.DeclaredObject}))))

  items_bring : (ξ : Setting) (Γ : Env) (c : Around) (strict : Bool) (x : BlockItems) → Brings 0 (walk_items ξ Γ c strict x) declared_among
  items_bring ξ Γ c strict NoBlockItems = brings_give _ refl
  items_bring ξ Γ c strict (AndBlockItem (DeclarationItem declaration) more) =
      brings (declaration_brings ξ Γ declaration) (λ b. brings (items_bring ξ _ c strict more) (λ xs. brings_give _ (omega (arith, length-append {A = k.DeclaredObject}))))
  items_bring ξ Γ c strict (AndBlockItem (StatementItem statement) more) =
      brings (statement_brings ξ Γ c strict statement) (λ x. brings (items_bring ξ Γ c strict more) (λ xs. brings_give _ (omega (arith, length-append {A = k.DeclaredObject}))))

  switch_brings : (ξ : Setting) (Γ : Env) (c : Around) (strict : Bool) (kind : Option Kind) (x : SwitchItems) → Brings 0 (walk_switch ξ Γ c strict kind x) by_labelled
  switch_brings ξ Γ c strict kind NoSwitchItems = brings_give _ refl
  switch_brings ξ Γ c strict kind (AndSwitchItem (CaseItem word value colon) more) =
      kept (keeps ξ Γ _ value) (λ a. kept (keeps_constantly ξ a) (λ l. brings (switch_brings ξ Γ c strict kind more) (λ x. brings_give _ (omega (arith, length-append {A = k.DeclaredObject})))))
  switch_brings ξ Γ c strict kind (AndSwitchItem (DefaultItem word colon) more) = brings (switch_brings ξ Γ c strict kind more) (λ x. brings_give _ (omega (arith, length-append {A = k.DeclaredObject})))
  switch_brings ξ Γ c strict kind (AndSwitchItem (SwitchStatement statement) more) =
      brings (statement_brings ξ Γ c strict statement) (λ y. brings (switch_brings ξ Γ c strict kind more) (λ x. brings_give _ (omega (arith, length-append {A = k.DeclaredObject}))))

  else_ifs_bring : (ξ : Setting) (Γ Δ : Env) (c : Around) (strict : Bool) (x : ElseIfs) → Brings 0 (walk_else_ifs ξ Γ Δ c strict x) by_armed
  else_ifs_bring ξ Γ Δ c strict NoElseIfs = brings_give _ refl
  else_ifs_bring ξ Γ Δ c strict (AndElseIf other word test body more) =
      kept (test_keeps ξ Δ test) (λ a. brings (brings_enclosed (statement_brings ξ _ c strict body)) (λ b.
      brings (else_ifs_bring ξ Γ _ c strict more) (λ x. brings_give _ (omega (arith, length-append {A = k.DeclaredObject})))))

  otherwise_brings : (ξ : Setting) (Γ : Env) (c : Around) (strict : Bool) (x : Otherwise) → Brings 0 (walk_otherwise ξ Γ c strict x) declared_by_last
  otherwise_brings ξ Γ c strict NoOtherwise = brings_give _ refl
  otherwise_brings ξ Γ c strict (Else word body) = brings (brings_enclosed (statement_brings ξ _ c strict body)) (λ b. brings_give _ (omega (arith, length-append {A = k.DeclaredObject})))
