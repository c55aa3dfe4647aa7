-- The walk over the heads of statements: what stands around them, their expressions, and the heads of loops (C99 6.8,
-- UPC 6.6).
use Rattle.std.specs.Prelude.{Bool, List, [], ◌∷◌, Option, Some, None}
use Rattle.upc_text.specs.declared.place.Place.{Place}
use Rattle.upc_tree.specs.declared.mark.BarrierWord.{BarrierWord}
use Rattle.upc_tree.specs.declared.mark.BarrierWord.TheVariants as barrier_word
use Rattle.upc_tree.specs.declared.span.Span.{Span}
use Rattle.upc_tree.specs.declared.span.Pragma.{Pragma}
use Rattle.upc_tree.specs.Expression.{Expr}
use Rattle.upc_tree.specs.Statement.{Test, Tests, First, FirstValue, FirstDeclaration, Affinity}
use Rattle.upc_tree.specs.Statement.{NoAffinity, ContinueAffinity, ValueAffinity, ForHead, ForParts, ForallHead}
use Rattle.upc_tree.specs.Statement.{ForallParts}
use Rattle.typed_tree.specs.declared.tree.Synchronises.{Synchronises}
use Rattle.typed_tree.specs.declared.tree.Synchronises.TheVariants as synchronises_variant
use Rattle.typed_tree.specs.Scopes.{Setting, Env}
use Rattle.typing_rules.specs.Nodes as node
use Rattle.typing_rules.specs.Nodes.{Around}
use Rattle.typed_tree.specs.Tree as typed
use Rattle.typed_tree.specs.Tree.{attr_of, place_of, DeclaredObject}
use Rattle.upc_checker_scopes.specs.Walk.{Walk, give, ◌>>=◌, ◌>>◌, judge}
use Rattle.upc_checker_scopes.specs.Places.{at}
use Rattle.upc_checker_expressions.specs.Expressions.{walk}
use Rattle.upc_checker_declarations.specs.Declarations.{walk_declaration}
pub use Rattle.typed_tree.specs.Words.{in_loop, in_switch, in_forall, label_value}

-- ---- what stands around

-- Whether accesses are strict after these pragmas, of which the last decides (UPC 6.7).
abbrev pub strict_behind : Bool → List Pragma → Bool
strict_behind before [] = before
strict_behind before (p ∷ ps) = strict_behind p.strict ps

-- Which barrier statement each word begins (UPC 6.6.1).
abbrev pub synchronises : BarrierWord → Synchronises
synchronises barrier_word.Notify = synchronises_variant.Notify
synchronises barrier_word.Wait = synchronises_variant.Wait
synchronises barrier_word.Barrier = synchronises_variant.Barrier

-- ---- expressions of statements

-- The walk over the expression of a statement, if it has one (C99 6.8.3).
abbrev pub walk_value : Setting → Env → Option Expr → Walk (Option typed.Expr)
walk_value ξ Γ None = give None
walk_value ξ Γ (Some e) = do
  a ← walk ξ Γ node.Plain e
  give (Some a)

-- The walk over the controlling expression of a statement, in its parentheses (C99 6.8.4, 6.8.5).
abbrev pub walk_test : Setting → Env → Test → Walk typed.Expr
walk_test ξ Γ (Tests left value right) = walk ξ Γ node.Plain value

-- The walk over the expression of a `return`, if it has one, which converts into the result of its function
-- (C99 6.8.6.4).
abbrev pub walk_returned : Setting → Env → Around → Option Expr → Walk (Option typed.Expr)
walk_returned ξ Γ c None = give None
walk_returned ξ Γ c (Some e) = do
  a ← walk ξ Γ (node.Into c.result) e
  give (Some a)

-- The place of an expression statement: that of its expression, or of its semicolon where it has none (C99 6.8.3).
abbrev pub statement_place : Option typed.Expr → Span → Place
statement_place None semicolon = at semicolon
statement_place (Some a) semicolon = place_of a

-- ---- the heads of loops

-- What the first part of a loop's head leaves: the scope of the loop, the objects that this part declares, and its
-- expression (C99 6.8.5.3).
pub record Begun : Type 0 where
  pub scope : Env
  pub objects : List DeclaredObject
  pub first : Option typed.Expr

-- The walk over the first part of a loop's head: an expression, a declaration, or nothing (C99 6.8.5.3).
abbrev pub walk_first : Setting → Env → First → Walk Begun
walk_first ξ Γ (FirstValue value semicolon) = do
  a ← walk_value ξ Γ value
  give (record { scope = Γ; objects = []; first = a })
walk_first ξ Γ (FirstDeclaration declaration) = do
  b ← walk_declaration ξ Γ declaration
  give (record { scope = b.scope; objects = b.objects; first = None })

-- The head of a loop, of its first part, its test and what it does last in each turn (C99 6.8.5.3).
abbrev pub head_of : Begun → Option typed.Expr → Option typed.Expr → typed.Head
head_of b test step = record { objects = b.objects; first = b.first; test = test; step = step }

-- The walk over the affinity of a `upc_forall`, which is judged at its expression; without one, or with `continue`,
-- each thread takes every turn (UPC 6.6.2).
abbrev pub walk_affinity : Setting → Env → Affinity → Walk typed.Affinity
walk_affinity ξ Γ NoAffinity = give typed.Everyone
walk_affinity ξ Γ (ContinueAffinity word) = give typed.Everyone
walk_affinity ξ Γ (ValueAffinity value) = do
  a ← walk ξ Γ node.Plain value
  judge ξ (place_of a) (node.Affinity (attr_of a))
  give (typed.AtValue a)

-- The head of a loop with the scope after it, and with the affinity, which a `for` has not (C99 6.8.5.3, UPC 6.6.2).
pub record Headed : Type 0 where
  pub scope : Env
  pub head : typed.Head
  pub affinity : typed.Affinity

-- The walk over the head of a `for`: what its first part declares is in scope in the others (C99 6.8.5.3).
abbrev pub walk_for_head : Setting → Env → ForHead → Walk Headed
walk_for_head ξ Γ (ForParts left first test test_end step right) = do
  b ← walk_first ξ Γ first
  t ← walk_value ξ b.scope test
  p ← walk_value ξ b.scope step
  give (record { scope = b.scope; head = head_of b t p; affinity = typed.Everyone })

-- The walk over the head of a `upc_forall`: what its first part declares is in scope in the others, of which the
-- affinity is the last (UPC 6.6.2).
abbrev pub walk_forall_head : Setting → Env → ForallHead → Walk Headed
walk_forall_head ξ Γ (ForallParts left first test test_end step step_end affinity right) = do
  b ← walk_first ξ Γ first
  t ← walk_value ξ b.scope test
  p ← walk_value ξ b.scope step
  a ← walk_affinity ξ b.scope affinity
  give (record { scope = b.scope; head = head_of b t p; affinity = a })
