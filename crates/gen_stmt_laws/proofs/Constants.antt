-- The constants in a program of the code are values of integer kinds: each attribute keeps that.
use Rattle.std.proofs.Common.{List, [], ◌∷◌, map, Option, Some, None, Box, Global}
use Rattle.upc_values.specs.Lists.{Each}
use Rattle.typing_rules.specs.Constants.{IsWithin}
use Rattle.typing_rules.specs.Nodes.{Attr}
use Rattle.typed_tree.specs.declared.tree.Affinity.{Affinity}
use Rattle.typed_tree.specs.declared.tree.Affinity.TheVariants as affinities
use Rattle.typed_tree.specs.declared.tree.Expr as expr
use Rattle.typed_tree.specs.declared.tree.ExprKind as k
use Rattle.typed_tree.specs.declared.tree.ExprKind.{ExprKind, Row_of-Expr, end_of-Expr, more_of-Expr}
use Rattle.typed_tree.specs.declared.tree.Function as function
use Rattle.typed_tree.specs.declared.tree.Head as head_type
use Rattle.typed_tree.specs.declared.tree.Initial.{Initial}
use Rattle.typed_tree.specs.declared.tree.Initial.TheVariants as initials
use Rattle.typed_tree.specs.declared.tree.Item.{Item}
use Rattle.typed_tree.specs.declared.tree.Item as item_type
use Rattle.typed_tree.specs.declared.tree.Object as object_type
use Rattle.typed_tree.specs.declared.tree.StatementKind as s
use Rattle.typed_tree.specs.declared.tree.StatementKind.{StatementKind, Row_of-Item, end_of-Item, more_of-Item}
use Rattle.typed_tree.specs.declared.tree.StatementKind.{Row_of-SwitchItem, end_of-SwitchItem, more_of-SwitchItem}
use Rattle.typed_tree.specs.declared.tree.StatementKind.{Row_of-Arm, end_of-Arm, more_of-Arm}
use Rattle.typed_tree.specs.declared.tree.StatementKind.{Held-StatementKind-If-1, None', Some'}
use Rattle.typed_tree.specs.declared.tree.SwitchItem.{SwitchItem}
use Rattle.typed_tree.specs.declared.tree.SwitchItem as switch_item
use Rattle.typed_tree.specs.Tree as tree
use Rattle.typed_tree.specs.Tree.{exprs_of}
use Rattle.typed_tree.specs.ViewTree.{view_kind, view_row, view_expr}
use Rattle.typed_tree.specs.ViewStatements.{view_initial, view_object, view_value, view_affinity, view_head}
use Rattle.typed_tree.specs.ViewStatements.{view_statement_kind, view_held, view_arm_row, view_item_row, view_item}
use Rattle.typed_tree.specs.ViewStatements.{view_switch_row, view_switch_item, view_function}
use Rattle.meaning_laws_accepted.specs.layer.Throughout as t

-- What an expression is as a constant is a value of an integer kind, where it is a number.
abbrev pub IsConstant : Attr → tree.ExprKind → Type 0
IsConstant a kind = IsWithin a.constant

-- ---- expressions

mutual
  kind_within : (x : ExprKind) → t.ThroughoutParts IsConstant (view_kind x)
  kind_within k.Literal = tt
  kind_within k.Mythread = tt
  kind_within (k.Object home) = tt
  kind_within (k.Callee target) = tt
  kind_within (k.Format text) = tt
  kind_within (k.Paren' p at attr kind) = (attr.within, kind_within kind)
  kind_within (k.Subscript' p at attr kind q there other index) =
      ((attr.within, kind_within kind), (other.within, kind_within index))
  kind_within (k.Call' target shape args) = row_within args
  kind_within (k.Member' p at attr kind index) = (attr.within, kind_within kind)
  kind_within (k.MemberBehind' p at attr kind index) = (attr.within, kind_within kind)
  kind_within (k.Step' op p at attr kind) = (attr.within, kind_within kind)
  kind_within (k.Address' p at attr kind) = (attr.within, kind_within kind)
  kind_within (k.Dereference' p at attr kind) = (attr.within, kind_within kind)
  kind_within (k.Unary' op p at attr kind) = (attr.within, kind_within kind)
  kind_within (k.SizeOf' op p at attr kind) = tt
  kind_within (k.SizeOfType op ctype) = tt
  kind_within (k.Cast' p at attr kind) = (attr.within, kind_within kind)
  kind_within (k.Binary' op p at attr kind q there other right) =
      ((attr.within, kind_within kind), (other.within, kind_within right))
  kind_within (k.And' p at attr kind q there other right) =
      ((attr.within, kind_within kind), (other.within, kind_within right))
  kind_within (k.Or' p at attr kind q there other right) =
      ((attr.within, kind_within kind), (other.within, kind_within right))
  kind_within (k.Assign' p at attr kind q there other right) =
      ((attr.within, kind_within kind), (other.within, kind_within right))
  kind_within (k.Compound' op p at attr kind q there other right) =
      ((attr.within, kind_within kind), (other.within, kind_within right))
  kind_within (k.Conditional' p at attr kind q there other right r far last behind) =
      ((attr.within, kind_within kind), (other.within, kind_within right), (last.within, kind_within behind))
  kind_within (k.Comma' shape parts) = row_within parts

  row_within : {m : _} (xs : Row_of-Expr m) → t.ThroughoutAll IsConstant (view_row xs)
  row_within end_of-Expr = tt
  row_within (more_of-Expr at attr kind more) = ((attr.within, kind_within kind), row_within more)

expr_within : (x : expr.Expr) → t.Throughout IsConstant (view_expr x)
expr_within x = (x.attr.within, kind_within x.kind)

exprs_within : (xs : List expr.Expr) → t.ThroughoutAll IsConstant (exprs_of (map view_expr xs))
exprs_within [] = tt
exprs_within (x ∷ xs) = (expr_within x, exprs_within xs)

value_within : (x : Option (Box expr.Expr Global)) → t.ThroughoutValue IsConstant (view_value x)
value_within None = tt
value_within (Some x) = expr_within x.value

-- ---- objects and heads

initial_within : (x : Initial) → t.ThroughoutInitial IsConstant (view_initial x)
initial_within initials.Absent = tt
initial_within (initials.Value x) = expr_within x.value
initial_within (initials.List xs) = exprs_within xs.items

objects_within : (xs : List object_type.Object) → t.ThroughoutObjects IsConstant (map view_object xs)
objects_within [] = tt
objects_within (x ∷ xs) = (initial_within x.initial, objects_within xs)

affinity_within : (x : Affinity) → t.ThroughoutAffinity IsConstant (view_affinity x)
affinity_within affinities.All = tt
affinity_within (affinities.Value x) = expr_within x.value

head_within : (x : head_type.Head) → t.ThroughoutHead IsConstant (view_head x)
head_within x = (objects_within x.objects.items, value_within x.first, value_within x.test, value_within x.step)

-- ---- statements

mutual
  statement_within : (x : StatementKind) → t.ThroughoutBy IsConstant (view_statement_kind x)
  statement_within (s.Block' strict shape items) = items_within items
  statement_within (s.Value value) = value_within value
  statement_within (s.If' shape arms last) = (arms_within arms, held_within last)
  statement_within (s.Switch' value shape items) = (expr_within value.value, switch_within items)
  statement_within (s.While' test p at body) = (expr_within test.value, statement_within body)
  statement_within (s.DoWhile' p at body test) = (statement_within body, expr_within test.value)
  statement_within (s.For' head p at body) = (head_within head.value, statement_within body)
  statement_within (s.Forall' head affinity p at body) =
      (head_within head.value, affinity_within affinity, statement_within body)
  statement_within s.Break = tt
  statement_within s.Continue = tt
  statement_within (s.Return value) = value_within value
  statement_within (s.Synchronise how value) = value_within value
  statement_within s.Fence = tt

  held_within : (x : Held-StatementKind-If-1) → t.ThroughoutLast IsConstant (view_held x)
  held_within None' = tt
  held_within (Some' p at kind) = statement_within kind

  arms_within : {m : _} (xs : Row_of-Arm m) → t.ThroughoutArms IsConstant (view_arm_row xs)
  arms_within end_of-Arm = tt
  arms_within (more_of-Arm test at body more) = (expr_within test.value, statement_within body, arms_within more)

  items_within : {m : _} (xs : Row_of-Item m) → t.ThroughoutItems IsConstant (view_item_row xs)
  items_within end_of-Item = tt
  items_within (more_of-Item x more) = item_within x (view_item_row more) (items_within more)

  item_within : (x : Item) (more : tree.Items) → t.ThroughoutItems IsConstant more
      → t.ThroughoutItems IsConstant (view_item x more)
  item_within (item_type.Declare objects) more h = (objects_within objects.items, h)
  item_within (item_type.Do' p at kind) more h = (statement_within kind, h)

  switch_within : {m : _} (xs : Row_of-SwitchItem m) → t.ThroughoutSwitch IsConstant (view_switch_row xs)
  switch_within end_of-SwitchItem = tt
  switch_within (more_of-SwitchItem x more) = part_within x (view_switch_row more) (switch_within more)

  part_within : (x : SwitchItem) (more : tree.SwitchItems) → t.ThroughoutSwitch IsConstant more
      → t.ThroughoutSwitch IsConstant (view_switch_item x more)
  part_within (switch_item.Case v) more h = h
  part_within switch_item.Default more h = h
  part_within (switch_item.Do' p at kind) more h = (statement_within kind, h)

-- Those of every function.
pub functions_within : (xs : List function.Function)
    → Each (λ f. t.ThroughoutStatement IsConstant f.body) (map view_function xs)
functions_within [] = tt
functions_within (x ∷ xs) = (statement_within x.body.value.kind, functions_within xs)
