-- The element types that a program allocates (UPC 7.2.2): those of the calls of upc_global_alloc, upc_all_alloc and
-- upc_alloc in functions, in the order in which the calls are finished. An element type is the target of the call's
-- type, where it has a layout.
use Rattle.std.specs.Prelude.{if◌then◌else◌, List, [], ◌∷◌, ◌++◌, Option, Some, None}
use Rattle.std.specs.List.{flat_map}
use Rattle.upc_types.specs.Types.{CType, base_of, Structs}
use Rattle.typed_tree.specs.declared.tree.Target.{Target}
use Rattle.typed_tree.specs.declared.tree.Target.TheVariants as targets
use Rattle.typing_rules.specs.Library.{is_allocation}
use Rattle.typing_rules.specs.Nodes.{Attr}
use Rattle.typing_rules.specs.Values.{base_target}
use Rattle.typed_tree.specs.Tree.{Expr, Is, ExprKind, Literal, Mythread, Object, Callee, Format, Paren, Subscript}
use Rattle.typed_tree.specs.Tree.{Call, Member, MemberBehind, Step, Address, Dereference, Unary, SizeOf, SizeOfType}
use Rattle.typed_tree.specs.Tree.{Cast, Binary, And, Or, Assign, Compound, Conditional, Comma, Exprs, NoExprs}
use Rattle.typed_tree.specs.Tree.{AndExpr, Initial, NoInitial, InitialValue, InitialList, DeclaredObject, Affinity}
use Rattle.typed_tree.specs.Tree.{Everyone, AtValue, Head, Statement, Stands, StatementKind, Block, Value, If}
use Rattle.typed_tree.specs.Tree.{Switch, While, DoWhile, For, Forall, Break, Continue, Return, Synchronise, Fence}
use Rattle.typed_tree.specs.Tree.{StatementOption, NoStatement, TheStatement, Arms, NoArms, AndArm, Items, NoItems}
use Rattle.typed_tree.specs.Tree.{AndObjects, AndStatement, SwitchItems, NoSwitchItems, AndCase, AndDefault}
use Rattle.typed_tree.specs.Tree.{AndSwitchStatement, Function}
use Rattle.typing_rules.specs.Rules.{has_size}

-- ---- calls

-- The target of a pointer, where there is one and it has a layout: it is complete, and has no more bytes than an object
-- can have.
abbrev pub laid_target : Structs → Option CType → List CType
laid_target s None = []
laid_target s (Some t) = if has_size s t then t ∷ [] else []

-- The element type that a call with a value of this type allocates; a call of any other function allocates none
-- (UPC 7.2.2).
abbrev pub allocated_call : Structs → CType → Target → List CType
allocated_call s t (targets.Function number) = []
allocated_call s t (targets.Library call) = if is_allocation call then laid_target s (base_target (base_of t)) else []

-- ---- expressions

-- The element types that calls in an expression allocate (UPC 7.2.2).
abbrev mutual
  -- The element types that an expression allocates, in the order in which its calls are finished.
  pub allocated_expr : Structs → Expr → List CType
  allocated_expr s (Is at attr kind) = allocated_kind s attr kind

  -- The element types that the parts of an expression allocate, and then that of the expression where it is a call.
  pub allocated_kind : Structs → Attr → ExprKind → List CType
  allocated_kind s attr (Paren a) = allocated_expr s a
  allocated_kind s attr (Subscript a i) = allocated_expr s a ++ allocated_expr s i
  allocated_kind s attr (Call target args) = allocated_exprs s args ++ allocated_call s attr.ctype target
  allocated_kind s attr (Member a index) = allocated_expr s a
  allocated_kind s attr (MemberBehind a index) = allocated_expr s a
  allocated_kind s attr (Step op a) = allocated_expr s a
  allocated_kind s attr (Address a) = allocated_expr s a
  allocated_kind s attr (Dereference a) = allocated_expr s a
  allocated_kind s attr (Unary op a) = allocated_expr s a
  allocated_kind s attr (SizeOf op a) = allocated_expr s a
  allocated_kind s attr (Cast a) = allocated_expr s a
  allocated_kind s attr (Binary op a b) = allocated_expr s a ++ allocated_expr s b
  allocated_kind s attr (And a b) = allocated_expr s a ++ allocated_expr s b
  allocated_kind s attr (Or a b) = allocated_expr s a ++ allocated_expr s b
  allocated_kind s attr (Assign a b) = allocated_expr s a ++ allocated_expr s b
  allocated_kind s attr (Compound op a b) = allocated_expr s a ++ allocated_expr s b
  allocated_kind s attr (Conditional test a b) = allocated_expr s test ++ allocated_expr s a ++ allocated_expr s b
  allocated_kind s attr (Comma parts) = allocated_exprs s parts
  allocated_kind s attr kind = []

  -- The element types that some expressions allocate, from left to right.
  pub allocated_exprs : Structs → Exprs → List CType
  allocated_exprs s NoExprs = []
  allocated_exprs s (AndExpr a more) = allocated_expr s a ++ allocated_exprs s more

-- The element types that an expression allocates; none where there is no expression.
abbrev pub allocated_value : Structs → Option Expr → List CType
allocated_value s None = []
allocated_value s (Some a) = allocated_expr s a

-- ---- objects and heads

-- The element types that an initialiser allocates, from left to right (C99 6.7.8).
abbrev pub allocated_initial : Structs → Initial → List CType
allocated_initial s NoInitial = []
allocated_initial s (InitialValue value) = allocated_expr s value
allocated_initial s (InitialList values) = allocated_exprs s values

-- The element types that the initialisers of objects allocate, in the order of the objects.
abbrev pub allocated_objects : Structs → List DeclaredObject → List CType
allocated_objects s xs = flat_map (λ x. allocated_initial s x.initial) xs

-- The element types that the head of a loop allocates: its first part, its condition, and then its step.
abbrev pub allocated_head : Structs → Head → List CType
allocated_head s head =
    allocated_objects s head.objects ++ allocated_value s head.first ++ allocated_value s head.test
    ++ allocated_value s head.step

-- The element types that the affinity of a upc_forall allocates (UPC 6.6.2).
abbrev pub allocated_affinity : Structs → Affinity → List CType
allocated_affinity s Everyone = []
allocated_affinity s (AtValue value) = allocated_expr s value

-- ---- statements

-- The element types that calls in a statement allocate (UPC 7.2.2).
abbrev mutual
  -- The element types that a statement allocates, in the order in which its calls are finished.
  pub allocated_statement : Structs → Statement → List CType
  allocated_statement s (Stands at kind) = allocated_by s kind

  -- The element types that the parts of a statement allocate, in the order of the source.
  pub allocated_by : Structs → StatementKind → List CType
  allocated_by s (Block strict items) = allocated_items s items
  allocated_by s (Value value) = allocated_value s value
  allocated_by s (If arms last) = allocated_arms s arms ++ allocated_last s last
  allocated_by s (Switch value items) = allocated_expr s value ++ allocated_switch s items
  allocated_by s (While test body) = allocated_expr s test ++ allocated_statement s body
  allocated_by s (DoWhile body test) = allocated_statement s body ++ allocated_expr s test
  allocated_by s (For head body) = allocated_head s head ++ allocated_statement s body
  allocated_by s (Forall head affinity body) =
      allocated_head s head ++ allocated_affinity s affinity ++ allocated_statement s body
  allocated_by s (Return value) = allocated_value s value
  allocated_by s (Synchronise how value) = allocated_value s value
  allocated_by s kind = []

  -- The element types that the statement after the last `else` allocates; none where there is no such statement.
  pub allocated_last : Structs → StatementOption → List CType
  allocated_last s NoStatement = []
  allocated_last s (TheStatement x) = allocated_statement s x

  -- The element types that the arms of an `if` allocate: of each its condition, and then its statement.
  pub allocated_arms : Structs → Arms → List CType
  allocated_arms s NoArms = []
  allocated_arms s (AndArm test body more) =
      allocated_expr s test ++ allocated_statement s body ++ allocated_arms s more

  -- The element types that the parts of a block allocate, in order.
  pub allocated_items : Structs → Items → List CType
  allocated_items s NoItems = []
  allocated_items s (AndObjects objects more) = allocated_objects s objects ++ allocated_items s more
  allocated_items s (AndStatement x more) = allocated_statement s x ++ allocated_items s more

  -- The element types that the statements in the body of a `switch` allocate, in order.
  pub allocated_switch : Structs → SwitchItems → List CType
  allocated_switch s NoSwitchItems = []
  allocated_switch s (AndCase value more) = allocated_switch s more
  allocated_switch s (AndDefault more) = allocated_switch s more
  allocated_switch s (AndSwitchStatement x more) = allocated_statement s x ++ allocated_switch s more

-- The element types that functions allocate, function by function (UPC 7.2.2).
abbrev pub allocated_in : Structs → List Function → List CType
allocated_in s fs = flat_map (λ f. allocated_statement s f.body) fs
