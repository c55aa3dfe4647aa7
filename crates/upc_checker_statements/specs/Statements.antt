-- The walk over statements (C99 6.8, UPC 6.6).
use Rattle.std.specs.Prelude.{ℕ, ◌+◌, Bool, List, [], ◌∷◌, Option}
use Rattle.block_layout.specs.declared.kind.Kind.{Kind}
use Rattle.upc_tree.specs.Statement as statement_tree
use Rattle.upc_tree.specs.Statement.{Statement, Compound, Braces, BlockItems, NoBlockItems, AndBlockItem}
use Rattle.upc_tree.specs.Statement.{DeclarationItem, StatementItem, SwitchItems, NoSwitchItems, AndSwitchItem}
use Rattle.upc_tree.specs.Statement.{CaseItem, DefaultItem, SwitchStatement, ElseIfs, NoElseIfs, AndElseIf, Otherwise}
use Rattle.upc_tree.specs.Statement.{NoOtherwise, Else}
use Rattle.typing_rules.specs.declared.attribute.Constant.{Constant}
use Rattle.typing_rules.specs.Values.{base_kind}
use Rattle.typed_tree.specs.Scopes.{Setting, Env, Scope, Within, inside, level_of, counts_of}
use Rattle.typing_rules.specs.Attributes.{base}
use Rattle.typing_rules.specs.Nodes as node
use Rattle.typing_rules.specs.Nodes.{Attr, Around}
use Rattle.typed_tree.specs.Tree as typed
use Rattle.typed_tree.specs.Tree.{attr_of}
use Rattle.upc_checker_scopes.specs.Walk.{Walk, give, ◌>>=◌, ◌>>◌, judge, enclosed}
use Rattle.upc_checker_scopes.specs.Places.{at}
use Rattle.upc_checker_expressions.specs.Expressions.{walk, constantly}
use Rattle.upc_checker_declarations.specs.Declarations.{walk_declaration}
use Rattle.upc_checker_nodes.specs.Judged.{tests_of, returns, synchronise}
pub use Rattle.upc_checker_heads.specs.Heads.{in_loop, in_switch, in_forall, label_value, strict_behind, synchronises}
pub use Rattle.upc_checker_heads.specs.Heads.{walk_value, walk_test, walk_returned, statement_place, Begun, walk_first}
pub use Rattle.upc_checker_heads.specs.Heads.{head_of, walk_affinity, Headed, walk_for_head, walk_forall_head}

-- ---- switch

-- The body of a switch: its parts, the constants of its labels, and how often `default` stands there (C99 6.8.4.2).
pub record Labelled : Type 0 where
  pub items : typed.SwitchItems
  pub labels : List Constant
  pub defaults : ℕ

-- The body of a switch with one more `case` before it, whose constant is converted into the kind of the switch
-- (C99 6.8.4.2).
abbrev pub with_case : Option Kind → Constant → Labelled → Labelled
with_case kind c x =
    record { items = typed.AndCase (label_value kind c) x.items; labels = c ∷ x.labels; defaults = x.defaults }

-- The body of a switch with one more `default` before it (C99 6.8.4.2).
abbrev pub with_default : Labelled → Labelled
with_default x = record { items = typed.AndDefault x.items; labels = x.labels; defaults = x.defaults + 1 }

-- The body of a switch with one more statement before it (C99 6.8.4.2).
abbrev pub with_statement : typed.Statement → Labelled → Labelled
with_statement s x = record { items = typed.AndSwitchStatement s x.items; labels = x.labels; defaults = x.defaults }

-- ---- statements

-- The further arms of an `if`, with the conditions that are judged at the statement, and the scope of the part after
-- the last `else` (C99 6.8.4.1).
pub record Armed : Type 0 where
  pub arms : typed.Arms
  pub tests : List Attr
  pub scope : Env

-- The further arms of an `if` with one more before them (C99 6.8.4.1).
abbrev pub with_arm : typed.Expr → typed.Statement → Armed → Armed
with_arm test body x = record { arms = typed.AndArm test body x.arms; tests = attr_of test ∷ x.tests; scope = x.scope }

-- A scope one level inside Δ, which is that of a condition inside Γ: a condition may declare a tag, but no name, so
-- names are sought in Γ next (C99 6.2.1, 6.8.4).
abbrev pub deeper : Env → Env → Env
deeper Γ Δ = Scope (level_of Δ + 1) [] (counts_of Δ) (Within Γ)

-- The walk over statements and their parts (C99 6.8, UPC 6.6).
abbrev mutual
  -- The walk over a statement: those that choose and those that repeat are blocks, and so are their parts (C99 6.8.4,
  -- 6.8.5).
  pub walk_statement : Setting → Env → Around → Bool → Statement → Walk typed.Statement
  walk_statement ξ Γ c strict (statement_tree.Block compound) = walk_block ξ (inside Γ) c strict compound
  walk_statement ξ Γ c strict (statement_tree.Value value semicolon) = do
    a ← walk_value ξ Γ value
    give (typed.Stands (statement_place a semicolon) (typed.Value a))
  walk_statement ξ Γ c strict (statement_tree.If word test body more last) = enclosed (do
    a ← walk_test ξ (inside Γ) test
    b ← enclosed (walk_statement ξ (inside (inside Γ)) c strict body)
    x ← walk_else_ifs ξ (inside Γ) (inside (inside Γ)) c strict more
    o ← walk_otherwise ξ x.scope c strict last
    judge ξ (at word) (node.Tests (attr_of a ∷ x.tests))
    give (typed.Stands (at word) (typed.If (typed.AndArm a b x.arms) o)))
  walk_statement ξ Γ c strict (statement_tree.Switch word test left items right) = enclosed (do
    a ← walk_test ξ (inside Γ) test
    x ← enclosed (walk_switch ξ (inside (inside Γ)) (in_switch c) strict (base_kind (base (attr_of a))) items)
    judge ξ (at word) (node.Switch (attr_of a) x.labels x.defaults)
    give (typed.Stands (at word) (typed.Switch a x.items)))
  walk_statement ξ Γ c strict (statement_tree.While word test body) = enclosed (do
    a ← walk_test ξ (inside Γ) test
    b ← enclosed (walk_statement ξ (inside (inside Γ)) (in_loop c) strict body)
    judge ξ (at word) (node.Tests (attr_of a ∷ []))
    give (typed.Stands (at word) (typed.While a b)))
  walk_statement ξ Γ c strict (statement_tree.DoWhile word body until test semicolon) = enclosed (do
    b ← enclosed (walk_statement ξ (inside (inside Γ)) (in_loop c) strict body)
    a ← walk_test ξ (inside Γ) test
    judge ξ (at word) (node.Tests (attr_of a ∷ []))
    give (typed.Stands (at word) (typed.DoWhile b a)))
  walk_statement ξ Γ c strict (statement_tree.For word head body) = enclosed (do
    h ← walk_for_head ξ (inside Γ) head
    b ← enclosed (walk_statement ξ (inside h.scope) (in_loop c) strict body)
    judge ξ (at word) (node.Tests (tests_of h.head.test))
    give (typed.Stands (at word) (typed.For h.head b)))
  walk_statement ξ Γ c strict (statement_tree.Forall word head body) = enclosed (do
    h ← walk_forall_head ξ (inside Γ) head
    b ← enclosed (walk_statement ξ (inside h.scope) (in_forall c) strict body)
    judge ξ (at word) (node.Tests (tests_of h.head.test))
    give (typed.Stands (at word) (typed.Forall h.head h.affinity b)))
  walk_statement ξ Γ c strict (statement_tree.Break word semicolon) = do
    judge ξ (at word) (node.Break c)
    give (typed.Stands (at word) typed.Break)
  walk_statement ξ Γ c strict (statement_tree.Continue word semicolon) = do
    judge ξ (at word) (node.Continue c)
    give (typed.Stands (at word) typed.Continue)
  walk_statement ξ Γ c strict (statement_tree.Return word value semicolon) = do
    a ← walk_returned ξ Γ c value
    returns ξ c (at word) a
  walk_statement ξ Γ c strict (statement_tree.Barrier kind word value semicolon) = do
    a ← walk_value ξ Γ value
    synchronise ξ (at word) (synchronises kind) a
  walk_statement ξ Γ c strict (statement_tree.Fence word semicolon) = give (typed.Stands (at word) typed.Fence)

  -- The walk over a compound statement, in a scope that is there already: that of a function's body has the parameters
  -- (C99 6.8.2, 6.9.1).
  pub walk_block : Setting → Env → Around → Bool → Compound → Walk typed.Statement
  walk_block ξ Γ c strict (Braces left pragmas items right) = enclosed (do
    xs ← walk_items ξ Γ c (strict_behind strict pragmas) items
    give (typed.Stands (at left) (typed.Block (strict_behind strict pragmas) xs)))

  -- The walk over the parts of a block, in order; a declaration is in scope after itself (C99 6.2.1, 6.8.2).
  pub walk_items : Setting → Env → Around → Bool → BlockItems → Walk typed.Items
  walk_items ξ Γ c strict NoBlockItems = give typed.NoItems
  walk_items ξ Γ c strict (AndBlockItem (DeclarationItem declaration) more) = do
    b ← walk_declaration ξ Γ declaration
    xs ← walk_items ξ b.scope c strict more
    give (typed.AndObjects b.objects xs)
  walk_items ξ Γ c strict (AndBlockItem (StatementItem statement) more) = do
    x ← walk_statement ξ Γ c strict statement
    xs ← walk_items ξ Γ c strict more
    give (typed.AndStatement x xs)

  -- The walk over the body of a switch on a value of this kind: its labels, its `default` and its statements
  -- (C99 6.8.1, 6.8.4.2).
  pub walk_switch : Setting → Env → Around → Bool → Option Kind → SwitchItems → Walk Labelled
  walk_switch ξ Γ c strict kind NoSwitchItems = give (record { items = typed.NoSwitchItems; labels = []; defaults = 0 })
  walk_switch ξ Γ c strict kind (AndSwitchItem (CaseItem word value colon) more) = do
    a ← walk ξ Γ node.Plain value
    l ← constantly ξ a
    x ← walk_switch ξ Γ c strict kind more
    give (with_case kind l x)
  walk_switch ξ Γ c strict kind (AndSwitchItem (DefaultItem word colon) more) = do
    x ← walk_switch ξ Γ c strict kind more
    give (with_default x)
  walk_switch ξ Γ c strict kind (AndSwitchItem (SwitchStatement statement) more) = do
    y ← walk_statement ξ Γ c strict statement
    x ← walk_switch ξ Γ c strict kind more
    give (with_statement y x)

  -- The walk over the further arms of an `if` with the scope Γ. The part after an `else` is a block, here Δ: the
  -- condition of the next arm stands in it, and so do all later arms (C99 6.8.4).
  pub walk_else_ifs : Setting → Env → Env → Around → Bool → ElseIfs → Walk Armed
  walk_else_ifs ξ Γ Δ c strict NoElseIfs = give (record { arms = typed.NoArms; tests = []; scope = Δ })
  walk_else_ifs ξ Γ Δ c strict (AndElseIf other word test body more) = do
    a ← walk_test ξ Δ test
    b ← enclosed (walk_statement ξ (inside Δ) c strict body)
    x ← walk_else_ifs ξ Γ (deeper Γ Δ) c strict more
    give (with_arm a b x)

  -- The walk over the part after the last `else`, if there is one (C99 6.8.4.1).
  pub walk_otherwise : Setting → Env → Around → Bool → Otherwise → Walk typed.StatementOption
  walk_otherwise ξ Δ c strict NoOtherwise = give typed.NoStatement
  walk_otherwise ξ Δ c strict (Else word body) = do
    b ← enclosed (walk_statement ξ Δ c strict body)
    give (typed.TheStatement b)
