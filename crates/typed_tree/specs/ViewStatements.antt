-- The typed tree of the code, seen without where it lies in memory: declared objects, statements and functions.
use Rattle.std.specs.Prelude.{List, [], ◌∷◌, map, Option, Some, None}
use Rattle.std.specs.Prelude.{Box}
use Rattle.std.specs.declared.alloc.Global.{Global}
use Rattle.upc_types.specs.View.{view}
use Rattle.typed_tree.specs.declared.tree.Expr as expr
use Rattle.typed_tree.specs.declared.tree.Initial.{Initial}
use Rattle.typed_tree.specs.declared.tree.Initial.TheVariants as initials
use Rattle.typed_tree.specs.declared.tree.Object as object_type
use Rattle.typed_tree.specs.declared.tree.Affinity.{Affinity}
use Rattle.typed_tree.specs.declared.tree.Affinity.TheVariants as affinity_variant
use Rattle.typed_tree.specs.declared.tree.Head as head_type
use Rattle.typed_tree.specs.declared.tree.Statement as st
use Rattle.typed_tree.specs.declared.tree.StatementKind as statement_kind
use Rattle.typed_tree.specs.declared.tree.StatementKind.{StatementKind, Row_of-Item, end_of-Item, more_of-Item}
use Rattle.typed_tree.specs.declared.tree.StatementKind.{Row_of-SwitchItem, end_of-SwitchItem, more_of-SwitchItem}
use Rattle.typed_tree.specs.declared.tree.StatementKind.{Row_of-Arm, end_of-Arm, more_of-Arm}
use Rattle.typed_tree.specs.declared.tree.StatementKind.{Held-StatementKind-If-1, None', Some'}
use Rattle.typed_tree.specs.declared.tree.Arm as arm_type
use Rattle.typed_tree.specs.declared.tree.Item as item_type
use Rattle.typed_tree.specs.declared.tree.Item.{Item}
use Rattle.typed_tree.specs.declared.tree.SwitchItem as switch_item
use Rattle.typed_tree.specs.declared.tree.SwitchItem.{SwitchItem}
use Rattle.typed_tree.specs.declared.tree.Function as function_type
use Rattle.typing_rules.specs.Nodes.{Attr, view_attr}
use Rattle.typed_tree.specs.Tree as typed_nodes
use Rattle.typed_tree.specs.Tree.{exprs_of}
use Rattle.typed_tree.specs.ViewTree.{view_expr}

-- ---- objects

-- An initialiser of the code, seen without where it lies in memory.
abbrev pub view_initial : Initial → typed_nodes.Initial
view_initial initials.Absent = typed_nodes.NoInitial
view_initial (initials.Value value) = typed_nodes.InitialValue (view_expr value.value)
view_initial (initials.List values) = typed_nodes.InitialList (exprs_of (map view_expr values.items))

-- A declared object of the code, seen without where it lies in memory.
abbrev pub view_object : object_type.Object → typed_nodes.DeclaredObject
view_object x =
    record { at = x.place; name = x.name; home = x.home; ctype = view x.ctype; initial = view_initial x.initial }

-- ---- heads

-- An expression of the code, where there is one, seen without where it lies in memory.
abbrev pub view_value : Option (Box expr.Expr Global) → Option typed_nodes.Expr
view_value None = None
view_value (Some value) = Some (view_expr value.value)

-- The affinity of a upc_forall of the code, seen without where it lies in memory.
abbrev pub view_affinity : Affinity → typed_nodes.Affinity
view_affinity affinity_variant.All = typed_nodes.Everyone
view_affinity (affinity_variant.Value value) = typed_nodes.AtValue (view_expr value.value)

-- The head of a loop of the code, seen without where it lies in memory.
abbrev pub view_head : head_type.Head → typed_nodes.Head
view_head x = record {
  objects = map view_object x.objects.items;
  first = view_value x.first;
  test = view_value x.test;
  step = view_value x.step;
}

-- ---- statements

-- The parts of statements of the code, seen without where they lie in memory.
abbrev mutual
  -- What a statement of the code consists of, seen without where it lies in memory.
  pub view_statement_kind : StatementKind → typed_nodes.StatementKind
  view_statement_kind (statement_kind.Block' strict shape items) = typed_nodes.Block strict (view_item_row items)
  view_statement_kind (statement_kind.Value value) = typed_nodes.Value (view_value value)
  view_statement_kind (statement_kind.If' shape arms last) = typed_nodes.If (view_arm_row arms) (view_held last)
  view_statement_kind (statement_kind.Switch' value shape items) = typed_nodes.Switch (view_expr value.value)
      (view_switch_row items)
  view_statement_kind (statement_kind.While' test p at body) =
      typed_nodes.While (view_expr test.value) (typed_nodes.Stands at (view_statement_kind body))
  view_statement_kind (statement_kind.DoWhile' p at body test) =
      typed_nodes.DoWhile (typed_nodes.Stands at (view_statement_kind body)) (view_expr test.value)
  view_statement_kind (statement_kind.For' head p at body) = typed_nodes.For (view_head head.value)
      (typed_nodes.Stands at (view_statement_kind body))
  view_statement_kind (statement_kind.Forall' head affinity p at body) =
      typed_nodes.Forall (view_head head.value) (view_affinity affinity)
      (typed_nodes.Stands at (view_statement_kind body))
  view_statement_kind statement_kind.Break = typed_nodes.Break
  view_statement_kind statement_kind.Continue = typed_nodes.Continue
  view_statement_kind (statement_kind.Return value) = typed_nodes.Return (view_value value)
  view_statement_kind (statement_kind.Synchronise how value) = typed_nodes.Synchronise how (view_value value)
  view_statement_kind statement_kind.Fence = typed_nodes.Fence

  -- The statement after the last `else` in a statement of the code, where there is one, seen without where it lies in
  -- memory.
  pub view_held : Held-StatementKind-If-1 → typed_nodes.StatementOption
  view_held None' = typed_nodes.NoStatement
  view_held (Some' p at kind) = typed_nodes.TheStatement (typed_nodes.Stands at (view_statement_kind kind))

  -- The arms of an `if` in a statement of the code, seen without where they lie in memory.
  pub view_arm_row : {n : _} → Row_of-Arm n → typed_nodes.Arms
  view_arm_row end_of-Arm = typed_nodes.NoArms
  view_arm_row (more_of-Arm test at body more) =
      typed_nodes.AndArm (view_expr test.value) (typed_nodes.Stands at (view_statement_kind body)) (view_arm_row more)

  -- The parts of a block in a statement of the code, seen without where they lie in memory.
  pub view_item_row : {n : _} → Row_of-Item n → typed_nodes.Items
  view_item_row end_of-Item = typed_nodes.NoItems
  view_item_row (more_of-Item item more) = view_item item (view_item_row more)

  -- A part of a block of the code and then more parts, seen without where they lie in memory.
  pub view_item : Item → typed_nodes.Items → typed_nodes.Items
  view_item (item_type.Declare objects) more = typed_nodes.AndObjects (map view_object objects.items) more
  view_item (item_type.Do' p at kind) more = typed_nodes.AndStatement
      (typed_nodes.Stands at (view_statement_kind kind)) more

  -- The parts of the body of a `switch` in a statement of the code, seen without where they lie in memory.
  pub view_switch_row : {n : _} → Row_of-SwitchItem n → typed_nodes.SwitchItems
  view_switch_row end_of-SwitchItem = typed_nodes.NoSwitchItems
  view_switch_row (more_of-SwitchItem item more) = view_switch_item item (view_switch_row more)

  -- A part of the body of a `switch` of the code and then more parts, seen without where they lie in memory.
  pub view_switch_item : SwitchItem → typed_nodes.SwitchItems → typed_nodes.SwitchItems
  view_switch_item (switch_item.Case v) more = typed_nodes.AndCase v more
  view_switch_item switch_item.Default more = typed_nodes.AndDefault more
  view_switch_item (switch_item.Do' p at kind) more = typed_nodes.AndSwitchStatement
      (typed_nodes.Stands at (view_statement_kind kind)) more

-- A statement of the code, seen without where it lies in memory.
abbrev pub view_statement : st.Statement → typed_nodes.Statement
view_statement x = typed_nodes.Stands x.place (view_statement_kind x.kind)

-- A statement of the code after the last `else`, where there is one, seen without where it lies in memory.
abbrev pub view_last : Option (Box st.Statement Global) → typed_nodes.StatementOption
view_last None = typed_nodes.NoStatement
view_last (Some x) = typed_nodes.TheStatement (view_statement x.value)

-- A list of arms of an `if` of the code, seen without where they lie in memory.
abbrev pub view_arms : List arm_type.Arm → typed_nodes.Arms
view_arms [] = typed_nodes.NoArms
view_arms (x ∷ xs) = typed_nodes.AndArm (view_expr x.test.value) (view_statement x.body) (view_arms xs)

-- What the condition of an arm of the code is to the `if`.
abbrev pub attr_tested : arm_type.Arm → Attr
attr_tested x = view_attr x.test.value.attr

-- A list of parts of a block of the code, seen without where they lie in memory.
abbrev pub view_items : List Item → typed_nodes.Items
view_items [] = typed_nodes.NoItems
view_items (x ∷ xs) = view_item x (view_items xs)

-- A list of parts of the body of a `switch` of the code, seen without where they lie in memory.
abbrev pub view_switch_items : List SwitchItem → typed_nodes.SwitchItems
view_switch_items [] = typed_nodes.NoSwitchItems
view_switch_items (x ∷ xs) = view_switch_item x (view_switch_items xs)

-- ---- functions

-- A function of the code, seen without where it lies in memory.
abbrev pub view_function : function_type.Function → typed_nodes.Function
view_function x = record {
  at = x.place;
  name = x.name;
  result = view x.result;
  parameters = map view x.parameters.items;
  body = view_statement x.body.value;
}
