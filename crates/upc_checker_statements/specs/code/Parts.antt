-- Statements in a scope of their own, without that scope, as the code walks over them (C99 6.8.4, 6.8.5).
use Rattle.std.specs.Prelude.{Bool, [], ◌∷◌}
use Rattle.upc_tree.specs.declared.span.Span.{Span}
use Rattle.upc_tree.specs.Statement as statements
use Rattle.upc_tree.specs.Statement.{SwitchItems, ElseIfs, Otherwise, Test, ForHead, ForallHead}
use Rattle.typing_rules.specs.Attributes.{base}
use Rattle.typing_rules.specs.Values.{base_kind}
use Rattle.typing_rules.specs.Nodes as node
use Rattle.typing_rules.specs.Nodes.{Around}
use Rattle.typed_tree.specs.Scopes.{Setting, Env, inside}
use Rattle.typed_tree.specs.Tree as typed
use Rattle.typed_tree.specs.Tree.{attr_of}
use Rattle.upc_checker_scopes.specs.Places.{at}
use Rattle.upc_checker_scopes.specs.Walk.{Walk, give, ◌>>=◌, ◌>>◌, judge, enclosed}
use Rattle.upc_checker_statements.specs.Statements.{in_loop, in_switch, in_forall, walk_test, walk_for_head}
use Rattle.upc_checker_statements.specs.Statements.{walk_forall_head, walk_statement, walk_switch, walk_else_ifs}
use Rattle.upc_checker_statements.specs.Statements.{walk_otherwise}
use Rattle.upc_checker_nodes.specs.Judged.{tests_of}

-- The walk over an `if` with its arms, inside its scope (C99 6.8.4.1).
abbrev pub if_part : Setting → Bool → Span → Test → statements.Statement → ElseIfs → Otherwise → Around → Env
    → Walk typed.Statement
if_part ξ strict word test body more last c Γ = do
  a ← walk_test ξ Γ test
  b ← enclosed (walk_statement ξ (inside Γ) c strict body)
  x ← walk_else_ifs ξ Γ (inside Γ) c strict more
  o ← walk_otherwise ξ x.scope c strict last
  judge ξ (at word) (node.Tests (attr_of a ∷ x.tests))
  give (typed.Stands (at word) (typed.If (typed.AndArm a b x.arms) o))

-- The walk over a `switch`, inside its scope (C99 6.8.4.2).
abbrev pub switch_part : Setting → Bool → Span → Test → SwitchItems → Around → Env → Walk typed.Statement
switch_part ξ strict word test items c Γ = do
  a ← walk_test ξ Γ test
  x ← enclosed (walk_switch ξ (inside Γ) c strict (base_kind (base (attr_of a))) items)
  judge ξ (at word) (node.Switch (attr_of a) x.labels x.defaults)
  give (typed.Stands (at word) (typed.Switch a x.items))

-- The walk over a `while`, inside its scope (C99 6.8.5.1).
abbrev pub while_part : Setting → Bool → Span → Test → statements.Statement → Around → Env → Walk typed.Statement
while_part ξ strict word test body c Γ = do
  a ← walk_test ξ Γ test
  b ← enclosed (walk_statement ξ (inside Γ) c strict body)
  judge ξ (at word) (node.Tests (attr_of a ∷ []))
  give (typed.Stands (at word) (typed.While a b))

-- The walk over a `do` with its `while`, inside its scope (C99 6.8.5.2).
abbrev pub do_part : Setting → Bool → Span → Test → statements.Statement → Around → Env → Walk typed.Statement
do_part ξ strict word test body c Γ = do
  b ← enclosed (walk_statement ξ (inside Γ) c strict body)
  a ← walk_test ξ Γ test
  judge ξ (at word) (node.Tests (attr_of a ∷ []))
  give (typed.Stands (at word) (typed.DoWhile b a))

-- The walk over a `for`, inside its scope (C99 6.8.5.3).
abbrev pub for_part : Setting → Bool → Span → ForHead → statements.Statement → Around → Env → Walk typed.Statement
for_part ξ strict word head body c Γ = do
  h ← walk_for_head ξ Γ head
  b ← enclosed (walk_statement ξ (inside h.scope) c strict body)
  judge ξ (at word) (node.Tests (tests_of h.head.test))
  give (typed.Stands (at word) (typed.For h.head b))

-- The walk over a `upc_forall`, inside its scope (UPC 6.6.2).
abbrev pub forall_part : Setting → Bool → Span → ForallHead → statements.Statement → Around → Env → Walk typed.Statement
forall_part ξ strict word head body c Γ = do
  h ← walk_forall_head ξ Γ head
  b ← enclosed (walk_statement ξ (inside h.scope) c strict body)
  judge ξ (at word) (node.Tests (tests_of h.head.test))
  give (typed.Stands (at word) (typed.Forall h.head h.affinity b))

-- The walk over a statement that is a scope of its own, inside that scope; any other statement is walked over whole
-- (C99 6.8.4, 6.8.5; UPC 6.6.2).
abbrev pub scoped_part : Setting → Bool → statements.Statement → Around → Env → Walk typed.Statement
scoped_part ξ strict (statements.If word test body more last) c Γ = if_part ξ strict word test body more last c Γ
scoped_part ξ strict (statements.Switch word test left items right) c Γ = switch_part ξ strict word test items
    (in_switch c) Γ
scoped_part ξ strict (statements.While word test body) c Γ = while_part ξ strict word test body (in_loop c) Γ
scoped_part ξ strict (statements.DoWhile word body until test semicolon) c Γ = do_part ξ strict word test body
    (in_loop c) Γ
scoped_part ξ strict (statements.For word head body) c Γ = for_part ξ strict word head body (in_loop c) Γ
scoped_part ξ strict (statements.Forall word head body) c Γ = forall_part ξ strict word head body (in_forall c) Γ
scoped_part ξ strict x c Γ = walk_statement ξ Γ c strict x
