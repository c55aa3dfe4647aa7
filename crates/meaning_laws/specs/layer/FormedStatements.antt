-- Statements and functions whose types are formed as declarations form them, and how a statement is left.
use Rattle.std.specs.Prelude.{List, [], ◌∷◌, Option, Some, None}
use Rattle.block_layout.specs.declared.kind.Kind.{Kind}
use Rattle.upc_values.specs.Lists.{Each}
use Rattle.upc_types.specs.Types.{CType, Structs, base_of}
use Rattle.typed_tree.specs.Tree.{Expr, Initial, NoInitial, InitialValue, InitialList, DeclaredObject, Affinity}
use Rattle.typed_tree.specs.Tree.{Everyone}
use Rattle.typed_tree.specs.Tree.{AtValue, Head, Statement, Stands, StatementKind, Block, If, Switch, While, DoWhile}
use Rattle.typed_tree.specs.Tree.{For, Forall, Break, Continue, Return, Synchronise, Fence, StatementOption}
use Rattle.typed_tree.specs.Tree.{NoStatement}
use Rattle.typed_tree.specs.Tree.{TheStatement, Arms, NoArms, AndArm, Items, NoItems, AndObjects, AndStatement}
use Rattle.typed_tree.specs.Tree.{SwitchItems, NoSwitchItems, AndCase, AndDefault, AndSwitchStatement, Function}
use Rattle.typed_tree.specs.Tree as tree
use Rattle.source_meaning.specs.Types.{cell_kind}
use Rattle.source_meaning.specs.Statements.{Flow, Next, Broke, Again, Gave, element_type}
use Rattle.meaning_laws.specs.layer.Values.{FitsCell, IsFormedType}
use Rattle.meaning_laws.specs.layer.Formed.{IsFormed, AreFormed}

-- Where the type of each call that allocates passes this.
module _ (makes : CType → Type 0) where
  -- The types in an initialiser are formed.
  abbrev pub IsFormedInitial : Initial → Type 0
  IsFormedInitial NoInitial = Unit {0}
  IsFormedInitial (InitialValue value) = IsFormed makes value
  IsFormedInitial (InitialList values) = AreFormed makes values

  -- The type of an object, that of its elements where it is an array, and those in its initialiser are formed.
  pub record IsFormedObject (x : DeclaredObject) : Type 0 where
    pub ctype : IsFormedType x.ctype
    pub elements : IsFormedType (element_type (base_of x.ctype) x.ctype)
    pub initial : IsFormedInitial x.initial

  -- The types of these objects, and those in their initialisers, are formed.
  abbrev pub AreFormedObjects : List DeclaredObject → Type 0
  AreFormedObjects [] = Unit {0}
  AreFormedObjects (x ∷ xs) = IsFormedObject x × AreFormedObjects xs

  -- The types in an expression are formed, where there is one.
  abbrev pub IsFormedValue : Option Expr → Type 0
  IsFormedValue None = Unit {0}
  IsFormedValue (Some e) = IsFormed makes e

  -- The types in an affinity are formed.
  abbrev pub IsFormedAffinity : Affinity → Type 0
  IsFormedAffinity Everyone = Unit {0}
  IsFormedAffinity (AtValue e) = IsFormed makes e

  -- The types in the head of a loop are formed.
  abbrev pub IsFormedHead : Head → Type 0
  IsFormedHead head =
      AreFormedObjects head.objects × IsFormedValue head.first × IsFormedValue head.test × IsFormedValue head.step

  -- Statements whose types are formed.
  abbrev mutual
    -- The types in a statement are formed.
    pub IsFormedStatement : Statement → Type 0
    IsFormedStatement (Stands at kind) = IsFormedBy kind

    -- The types in what a statement consists of are formed.
    pub IsFormedBy : StatementKind → Type 0
    IsFormedBy (Block strict items) = AreFormedItems items
    IsFormedBy (tree.Value value) = IsFormedValue value
    IsFormedBy (If arms last) = AreFormedArms arms × IsFormedLast last
    IsFormedBy (Switch value items) = IsFormed makes value × AreFormedSwitch items
    IsFormedBy (While test body) = IsFormed makes test × IsFormedStatement body
    IsFormedBy (DoWhile body test) = IsFormedStatement body × IsFormed makes test
    IsFormedBy (For head body) = IsFormedHead head × IsFormedStatement body
    IsFormedBy (Forall head affinity body) = IsFormedHead head × IsFormedAffinity affinity × IsFormedStatement body
    IsFormedBy Break = Unit {0}
    IsFormedBy Continue = Unit {0}
    IsFormedBy (Return value) = IsFormedValue value
    IsFormedBy (Synchronise how value) = IsFormedValue value
    IsFormedBy Fence = Unit {0}

    -- The types in the statement after the last `else` are formed.
    pub IsFormedLast : StatementOption → Type 0
    IsFormedLast NoStatement = Unit {0}
    IsFormedLast (TheStatement s) = IsFormedStatement s

    -- The types in the arms of an `if` are formed.
    pub AreFormedArms : Arms → Type 0
    AreFormedArms NoArms = Unit {0}
    AreFormedArms (AndArm test body more) = IsFormed makes test × IsFormedStatement body × AreFormedArms more

    -- The types in the parts of a block are formed.
    pub AreFormedItems : Items → Type 0
    AreFormedItems NoItems = Unit {0}
    AreFormedItems (AndObjects objects more) = AreFormedObjects objects × AreFormedItems more
    AreFormedItems (AndStatement s more) = IsFormedStatement s × AreFormedItems more

    -- The types in the body of a `switch` are formed.
    pub AreFormedSwitch : SwitchItems → Type 0
    AreFormedSwitch NoSwitchItems = Unit {0}
    AreFormedSwitch (AndCase value more) = AreFormedSwitch more
    AreFormedSwitch (AndDefault more) = AreFormedSwitch more
    AreFormedSwitch (AndSwitchStatement s more) = IsFormedStatement s × AreFormedSwitch more

  -- The types of a function's result and parameters, and those in its body, are formed.
  pub record IsFormedFunction (f : Function) : Type 0 where
    pub result : IsFormedType f.result
    pub parameters : Each IsFormedType f.parameters
    pub body : IsFormedStatement f.body

-- A statement that is left by `return` gives a value that fits a cell of this kind, where there is a kind.
abbrev pub LeavesBy : Option Kind → Flow → Type 0
LeavesBy kind (Gave v) = FitsCell kind v
LeavesBy kind Next = Unit {0}
LeavesBy kind Broke = Unit {0}
LeavesBy kind Again = Unit {0}

-- A statement that is left by `return` gives a value that fits a cell of this type.
abbrev pub Leaves : Structs → CType → Flow → Type 0
Leaves structs t f = LeavesBy (cell_kind structs t) f
