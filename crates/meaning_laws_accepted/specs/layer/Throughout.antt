-- What holds of every expression that is evaluated in a statement.
use Rattle.std.specs.Prelude.{List, [], ◌∷◌, Option, Some, None}
use Rattle.typing_rules.specs.Nodes.{Attr}
use Rattle.typed_tree.specs.Tree.{Expr, Is, ExprKind, Literal, Mythread, Object, Callee, Format, Paren, Subscript}
use Rattle.typed_tree.specs.Tree.{Call, Member, MemberBehind, Step, Address, Dereference, Unary, SizeOf, SizeOfType}
use Rattle.typed_tree.specs.Tree.{Cast, Binary, And, Or, Assign, Compound, Conditional, Comma, Exprs, NoExprs}
use Rattle.typed_tree.specs.Tree.{AndExpr, Initial, NoInitial, InitialValue, InitialList, DeclaredObject, Affinity}
use Rattle.typed_tree.specs.Tree.{Everyone, AtValue, Head, Statement, Stands, StatementKind, Block, Value, If}
use Rattle.typed_tree.specs.Tree.{Switch, While, DoWhile, For, Forall, Break, Continue, Return, Synchronise, Fence}
use Rattle.typed_tree.specs.Tree.{StatementOption, NoStatement, TheStatement, Arms, NoArms, AndArm, Items, NoItems}
use Rattle.typed_tree.specs.Tree.{AndObjects, AndStatement, SwitchItems, NoSwitchItems, AndCase, AndDefault}
use Rattle.typed_tree.specs.Tree.{AndSwitchStatement}

-- Where P is what holds of an expression by what it is to the node above it and by what it consists of.
module _ (P : Attr → ExprKind → Type 0) where
  -- Whether P holds of every expression in an expression, itself among them. An operand of a size operator is not
  -- evaluated, and is left out.
  abbrev mutual
    -- P holds of an expression and of every expression in it.
    pub Throughout : Expr → Type 0
    Throughout (Is at attr kind) = P attr kind × ThroughoutParts kind

    -- P holds of every expression in the parts of an expression.
    pub ThroughoutParts : ExprKind → Type 0
    ThroughoutParts Literal = Unit {0}
    ThroughoutParts Mythread = Unit {0}
    ThroughoutParts (Object home) = Unit {0}
    ThroughoutParts (Callee target) = Unit {0}
    ThroughoutParts (Format bytes) = Unit {0}
    ThroughoutParts (Paren a) = Throughout a
    ThroughoutParts (Subscript a i) = Throughout a × Throughout i
    ThroughoutParts (Call target args) = ThroughoutAll args
    ThroughoutParts (Member a index) = Throughout a
    ThroughoutParts (MemberBehind a index) = Throughout a
    ThroughoutParts (Step op a) = Throughout a
    ThroughoutParts (Address a) = Throughout a
    ThroughoutParts (Dereference a) = Throughout a
    ThroughoutParts (Unary op a) = Throughout a
    ThroughoutParts (SizeOf op a) = Unit {0}
    ThroughoutParts (SizeOfType op t) = Unit {0}
    ThroughoutParts (Cast a) = Throughout a
    ThroughoutParts (Binary op a b) = Throughout a × Throughout b
    ThroughoutParts (And a b) = Throughout a × Throughout b
    ThroughoutParts (Or a b) = Throughout a × Throughout b
    ThroughoutParts (Assign a b) = Throughout a × Throughout b
    ThroughoutParts (Compound op a b) = Throughout a × Throughout b
    ThroughoutParts (Conditional test a b) = Throughout test × Throughout a × Throughout b
    ThroughoutParts (Comma parts) = ThroughoutAll parts

    -- P holds of every expression in some expressions.
    pub ThroughoutAll : Exprs → Type 0
    ThroughoutAll NoExprs = Unit {0}
    ThroughoutAll (AndExpr a more) = Throughout a × ThroughoutAll more

  -- P holds of every expression in an expression, where there is one.
  abbrev pub ThroughoutValue : Option Expr → Type 0
  ThroughoutValue None = Unit {0}
  ThroughoutValue (Some a) = Throughout a

  -- P holds of every expression in an initialiser.
  abbrev pub ThroughoutInitial : Initial → Type 0
  ThroughoutInitial NoInitial = Unit {0}
  ThroughoutInitial (InitialValue value) = Throughout value
  ThroughoutInitial (InitialList values) = ThroughoutAll values

  -- P holds of every expression in the initialisers of these objects.
  abbrev pub ThroughoutObjects : List DeclaredObject → Type 0
  ThroughoutObjects [] = Unit {0}
  ThroughoutObjects (x ∷ xs) = ThroughoutInitial x.initial × ThroughoutObjects xs

  -- P holds of every expression in an affinity.
  abbrev pub ThroughoutAffinity : Affinity → Type 0
  ThroughoutAffinity Everyone = Unit {0}
  ThroughoutAffinity (AtValue value) = Throughout value

  -- P holds of every expression in the head of a loop.
  abbrev pub ThroughoutHead : Head → Type 0
  ThroughoutHead head =
      ThroughoutObjects head.objects × ThroughoutValue head.first × ThroughoutValue head.test
      × ThroughoutValue head.step

  -- Whether P holds of every expression in a statement.
  abbrev mutual
    -- P holds of every expression in a statement.
    pub ThroughoutStatement : Statement → Type 0
    ThroughoutStatement (Stands at kind) = ThroughoutBy kind

    -- P holds of every expression in what a statement consists of.
    pub ThroughoutBy : StatementKind → Type 0
    ThroughoutBy (Block strict items) = ThroughoutItems items
    ThroughoutBy (Value value) = ThroughoutValue value
    ThroughoutBy (If arms last) = ThroughoutArms arms × ThroughoutLast last
    ThroughoutBy (Switch value items) = Throughout value × ThroughoutSwitch items
    ThroughoutBy (While test body) = Throughout test × ThroughoutStatement body
    ThroughoutBy (DoWhile body test) = ThroughoutStatement body × Throughout test
    ThroughoutBy (For head body) = ThroughoutHead head × ThroughoutStatement body
    ThroughoutBy (Forall head affinity body) =
        ThroughoutHead head × ThroughoutAffinity affinity × ThroughoutStatement body
    ThroughoutBy Break = Unit {0}
    ThroughoutBy Continue = Unit {0}
    ThroughoutBy (Return value) = ThroughoutValue value
    ThroughoutBy (Synchronise how value) = ThroughoutValue value
    ThroughoutBy Fence = Unit {0}

    -- P holds of every expression in the statement after the last `else`.
    pub ThroughoutLast : StatementOption → Type 0
    ThroughoutLast NoStatement = Unit {0}
    ThroughoutLast (TheStatement s) = ThroughoutStatement s

    -- P holds of every expression in the arms of an `if`.
    pub ThroughoutArms : Arms → Type 0
    ThroughoutArms NoArms = Unit {0}
    ThroughoutArms (AndArm test body more) = Throughout test × ThroughoutStatement body × ThroughoutArms more

    -- P holds of every expression in the parts of a block.
    pub ThroughoutItems : Items → Type 0
    ThroughoutItems NoItems = Unit {0}
    ThroughoutItems (AndObjects objects more) = ThroughoutObjects objects × ThroughoutItems more
    ThroughoutItems (AndStatement s more) = ThroughoutStatement s × ThroughoutItems more

    -- P holds of every expression in the body of a `switch`.
    pub ThroughoutSwitch : SwitchItems → Type 0
    ThroughoutSwitch NoSwitchItems = Unit {0}
    ThroughoutSwitch (AndCase value more) = ThroughoutSwitch more
    ThroughoutSwitch (AndDefault more) = ThroughoutSwitch more
    ThroughoutSwitch (AndSwitchStatement s more) = ThroughoutStatement s × ThroughoutSwitch more
