-- The tree of a program with its types (C99 6.5, 6.8, 6.9; UPC 6.6).
use Rattle.std.specs.Prelude.{ℕ, ℤ, Bool, List, [], ◌∷◌, Option}
use Rattle.upc_text.specs.declared.place.Place.{Place}
use Rattle.integers.specs.declared.operator.BinOp.{BinOp}
use Rattle.integers.specs.declared.operator.UnOp.{UnOp}
use Rattle.upc_types.specs.Types.{CType}
use Rattle.typing_rules.specs.declared.setting.Home.{Home}
use Rattle.typing_rules.specs.declared.setting.SizeOperator.{SizeOperator}
use Rattle.typed_tree.specs.declared.tree.StepOperator.{StepOperator}
use Rattle.typed_tree.specs.declared.tree.Synchronises.{Synchronises}
use Rattle.typed_tree.specs.declared.tree.Target.{Target}
use Rattle.typing_rules.specs.Nodes.{Attr}

mutual
  -- An expression: its place, what it is to the node above it, and what it consists of (C99 6.5).
  pub data Expr : Type 0 where
    Is : (at : Place) (attr : Attr) (kind : ExprKind) → Expr

  -- What an expression consists of: its operator with its parts, or the number, object, function or format that it is
  -- (C99 6.5; UPC 6.3, 6.4).
  pub data ExprKind : Type 0 where
    Literal : ExprKind
    Mythread : ExprKind
    Object : (home : Home) → ExprKind
    Callee : (target : Target) → ExprKind
    Format : (bytes : List ℕ) → ExprKind
    Paren : (a : Expr) → ExprKind
    Subscript : (a i : Expr) → ExprKind
    Call : (target : Target) (args : Exprs) → ExprKind
    Member : (a : Expr) (index : ℕ) → ExprKind
    MemberBehind : (a : Expr) (index : ℕ) → ExprKind
    Step : (op : StepOperator) (a : Expr) → ExprKind
    Address : (a : Expr) → ExprKind
    Dereference : (a : Expr) → ExprKind
    Unary : (op : UnOp) (a : Expr) → ExprKind
    SizeOf : (op : SizeOperator) (a : Expr) → ExprKind
    SizeOfType : (op : SizeOperator) (t : CType) → ExprKind
    Cast : (a : Expr) → ExprKind
    Binary : (op : BinOp) (a b : Expr) → ExprKind
    And : (a b : Expr) → ExprKind
    Or : (a b : Expr) → ExprKind
    Assign : (a b : Expr) → ExprKind
    Compound : (op : BinOp) (a b : Expr) → ExprKind
    Conditional : (test a b : Expr) → ExprKind
    Comma : (parts : Exprs) → ExprKind

  -- Expressions in order: the arguments of a call, the parts of a comma expression, or the values of an initialiser
  -- list (C99 6.5.2.2, 6.5.17, 6.7.8).
  pub data Exprs : Type 0 where
    NoExprs : Exprs
    AndExpr : (a : Expr) (more : Exprs) → Exprs

-- What an expression is to the node above it: its type, its form, and its value where it is constant.
abbrev pub attr_of : Expr → Attr
attr_of (Is at attr kind) = attr

-- The place of an expression in the source.
abbrev pub place_of : Expr → Place
place_of (Is at attr kind) = at

-- What each of these expressions is to the node above it, in order.
abbrev pub attrs_of : Exprs → List Attr
attrs_of NoExprs = []
attrs_of (AndExpr a more) = attr_of a ∷ attrs_of more

-- The expressions of a list, in order.
abbrev pub exprs_of : List Expr → Exprs
exprs_of [] = NoExprs
exprs_of (x ∷ xs) = AndExpr x (exprs_of xs)

-- The initialiser of an object: none, one value, or a list of values in braces (C99 6.7.8).
pub data Initial : Type 0 where
  NoInitial : Initial
  InitialValue : (value : Expr) → Initial
  InitialList : (values : Exprs) → Initial

-- A declared object: the place of its declaration, its name, where it lies, its type and its initialiser (C99 6.7).
pub record DeclaredObject : Type 0 where
  pub at : Place
  pub name : List ℕ
  pub home : Home
  pub ctype : CType
  pub initial : Initial

-- Whose turn the body of a upc_forall is: everyone's where the affinity is absent or `continue`, else by its value
-- (UPC 6.6.2).
pub data Affinity : Type 0 where
  Everyone : Affinity
  AtValue : (value : Expr) → Affinity

-- The head of a `for` or a upc_forall: the objects that its first part declares, or the expression there, the
-- condition, and the step (C99 6.8.5.3, UPC 6.6.2).
pub record Head : Type 0 where
  pub objects : List DeclaredObject
  pub first : Option Expr
  pub test : Option Expr
  pub step : Option Expr

mutual
  -- A statement: its place, and what it consists of (C99 6.8, UPC 6.6).
  pub data Statement : Type 0 where
    Stands : (at : Place) (kind : StatementKind) → Statement

  -- What a statement consists of; a block says whether accesses in it that do not say so themselves are strict
  -- (C99 6.8; UPC 6.6, 6.7).
  pub data StatementKind : Type 0 where
    Block : (strict : Bool) (items : Items) → StatementKind
    Value : (value : Option Expr) → StatementKind
    If : (arms : Arms) (last : StatementOption) → StatementKind
    Switch : (value : Expr) (items : SwitchItems) → StatementKind
    While : (test : Expr) (body : Statement) → StatementKind
    DoWhile : (body : Statement) (test : Expr) → StatementKind
    For : (head : Head) (body : Statement) → StatementKind
    Forall : (head : Head) (affinity : Affinity) (body : Statement) → StatementKind
    Break : StatementKind
    Continue : StatementKind
    Return : (value : Option Expr) → StatementKind
    Synchronise : (how : Synchronises) (value : Option Expr) → StatementKind
    Fence : StatementKind

  -- The statement after the last `else` of an `if`, or none (C99 6.8.4.1).
  pub data StatementOption : Type 0 where
    NoStatement : StatementOption
    TheStatement : (s : Statement) → StatementOption

  -- The conditions of an `if` and of each `else if`, each with the statement that it guards (C99 6.8.4.1).
  pub data Arms : Type 0 where
    NoArms : Arms
    AndArm : (test : Expr) (body : Statement) (more : Arms) → Arms

  -- The parts of a block in order: the objects of a declaration, or a statement (C99 6.8.2).
  pub data Items : Type 0 where
    NoItems : Items
    AndObjects : (objects : List DeclaredObject) (more : Items) → Items
    AndStatement : (s : Statement) (more : Items) → Items

  -- The parts of the body of a `switch` in order: a `case` with the value that it compares with, `default`, or a
  -- statement (C99 6.8.4.2).
  pub data SwitchItems : Type 0 where
    NoSwitchItems : SwitchItems
    AndCase : (value : ℤ) (more : SwitchItems) → SwitchItems
    AndDefault : (more : SwitchItems) → SwitchItems
    AndSwitchStatement : (s : Statement) (more : SwitchItems) → SwitchItems

-- A function that is defined: its place, its name, the types of its result and its parameters, and its body
-- (C99 6.9.1).
pub record Function : Type 0 where
  pub at : Place
  pub name : List ℕ
  pub result : CType
  pub parameters : List CType
  pub body : Statement
