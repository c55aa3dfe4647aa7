-- The objects that a function declares, in its blocks and in the heads of its loops, in order.
use Rattle.std.specs.Prelude.{List, [], ◌∷◌, ◌++◌, filter, map}
use Rattle.upc_types.specs.Types.{CType, Structs}
use Rattle.typing_rules.specs.Rules.{has_size}
use Rattle.typed_tree.specs.Objects.{type_of}
use Rattle.typed_tree.specs.Tree.{DeclaredObject, Statement, Stands, StatementKind, Block, If, Switch, While}
use Rattle.typed_tree.specs.Tree.{DoWhile, For, Forall, Function}
use Rattle.typed_tree.specs.Tree.{StatementOption, NoStatement, TheStatement, Arms, NoArms, AndArm, Items, NoItems}
use Rattle.typed_tree.specs.Tree.{AndObjects, AndStatement}
use Rattle.typed_tree.specs.Tree.{SwitchItems, NoSwitchItems, AndCase, AndDefault, AndSwitchStatement}

-- The objects that a statement declares, in its blocks and in the heads of its loops.
abbrev mutual
  -- The objects that a statement declares, in order (C99 6.8.2, 6.8.5.3).
  pub objects_in : Statement → List DeclaredObject
  objects_in (Stands at kind) = objects_by kind

  -- The objects that the parts of a statement declare, in order.
  pub objects_by : StatementKind → List DeclaredObject
  objects_by (Block strict items) = items_objects items
  objects_by (If arms last) = arms_objects arms ++ last_objects last
  objects_by (Switch value items) = switch_objects items
  objects_by (While test body) = objects_in body
  objects_by (DoWhile body test) = objects_in body
  objects_by (For head body) = head.objects ++ objects_in body
  objects_by (Forall head affinity body) = head.objects ++ objects_in body
  objects_by kind = []

  -- The objects that the statement after the last `else` declares; none where there is no such statement.
  pub last_objects : StatementOption → List DeclaredObject
  last_objects NoStatement = []
  last_objects (TheStatement x) = objects_in x

  -- The objects that the statements in the arms of an `if` declare, in order.
  pub arms_objects : Arms → List DeclaredObject
  arms_objects NoArms = []
  arms_objects (AndArm test body more) = objects_in body ++ arms_objects more

  -- The objects that the parts of a block declare, in order (C99 6.8.2).
  pub items_objects : Items → List DeclaredObject
  items_objects NoItems = []
  items_objects (AndObjects objects more) = objects ++ items_objects more
  items_objects (AndStatement x more) = objects_in x ++ items_objects more

  -- The objects that the statements in the body of a `switch` declare, in order.
  pub switch_objects : SwitchItems → List DeclaredObject
  switch_objects NoSwitchItems = []
  switch_objects (AndCase value more) = switch_objects more
  switch_objects (AndDefault more) = switch_objects more
  switch_objects (AndSwitchStatement x more) = objects_in x ++ switch_objects more

-- The types among these that have a layout: they are complete, and have no more bytes than an object can have.
abbrev pub with_layout : Structs → List CType → List CType
with_layout s ts = filter (λ t. has_size s t) ts

-- The types of the parameters and objects of functions, where they have a layout, function by function.
abbrev pub types_in : Structs → List Function → List CType
types_in s [] = []
types_in s (g ∷ gs) = with_layout s g.parameters ++ with_layout s (map type_of (objects_in g.body)) ++ types_in s gs
