-- Vectors of parts inside statements, seen as lists.
use Rattle.std.proofs.Common.{◌≡◌, Bool, Option, Some, None, refl, ap, ◌∙◌, Vec, Global, Box}
use mathlib.Core.Former.{Count}
use Rattle.typed_tree.specs.declared.tree.Expr.{Expr}
use Rattle.typed_tree.specs.declared.tree.Statement.{Statement}
use Rattle.typed_tree.specs.declared.tree.Arm.{Arm}
use Rattle.typed_tree.specs.declared.tree.Item.{Item}
use Rattle.typed_tree.specs.declared.tree.SwitchItem.{SwitchItem}
use Rattle.typed_tree.specs.declared.tree.StatementKind as s
use Rattle.typed_tree.specs.declared.tree.StatementKind.{StatementKind, Row_of-Item, end_of-Item, more_of-Item}
use Rattle.typed_tree.specs.declared.tree.StatementKind.{items-the_row-Item, items_hidden-the_row-Item-0}
use Rattle.typed_tree.specs.declared.tree.StatementKind.{Row_of-SwitchItem, end_of-SwitchItem, more_of-SwitchItem}
use Rattle.typed_tree.specs.declared.tree.StatementKind.{items-the_row-SwitchItem, items_hidden-the_row-SwitchItem-2}
use Rattle.typed_tree.specs.declared.tree.StatementKind.{Row_of-Arm, end_of-Arm, more_of-Arm, items-the_row-Arm}
use Rattle.typed_tree.specs.declared.tree.StatementKind.{items_hidden-the_row-Arm-1}
use Rattle.typed_tree.specs.Tree as t
use Rattle.typed_tree.specs.ViewTree.{view_expr}
use Rattle.typed_tree.specs.ViewStatements.{view_statement_kind, view_statement, view_item_row, view_item}
use Rattle.typed_tree.specs.ViewStatements.{view_items, view_arm_row, view_arms, view_switch_row, view_switch_item}
use Rattle.typed_tree.specs.ViewStatements.{view_switch_items, view_last}

item_row : (n : _) (row : Row_of-Item n) → view_item_row row ≡ view_items (items-the_row-Item n row)
item_row n end_of-Item = refl
item_row n (more_of-Item item more) = ap (view_item item) (item_row _ more)

switch_row : (n : _) (row : Row_of-SwitchItem n) → view_switch_row row
    ≡ view_switch_items (items-the_row-SwitchItem n row)
switch_row n end_of-SwitchItem = refl
switch_row n (more_of-SwitchItem item more) = ap (view_switch_item item) (switch_row _ more)

arm_row : (n : _) (row : Row_of-Arm n) → view_arm_row row ≡ view_arms (items-the_row-Arm n row)
arm_row n end_of-Arm = refl
arm_row n (more_of-Arm test at body more) =
    ap (t.AndArm (view_expr test.value) (t.Stands at (view_statement_kind body))) (arm_row _ more)

abbrev item_row_of : StatementKind → (n : Count) × Row_of-Item n
item_row_of (s.Block' strict shape row) = (_, row)
item_row_of _ = (_, end_of-Item)

pub block_is : (strict : Bool) (items : Vec Item Global) → view_statement_kind (s.Block strict items)
    ≡ t.Block strict (view_items items.items)
block_is strict items =
    let row = item_row_of (s.Block strict items) in
    ap (t.Block strict) (item_row row.0 row.1 ∙ ap view_items (items_hidden-the_row-Item-0 items))

abbrev switch_row_of : StatementKind → (n : Count) × Row_of-SwitchItem n
switch_row_of (s.Switch' value shape row) = (_, row)
switch_row_of _ = (_, end_of-SwitchItem)

pub switch_is : (value : Box Expr Global) (items : Vec SwitchItem Global) →
    view_statement_kind (s.Switch value items) ≡ t.Switch (view_expr value.value) (view_switch_items items.items)
switch_is value items =
    let row = switch_row_of (s.Switch value items) in
    ap (t.Switch (view_expr value.value))
    (switch_row row.0 row.1 ∙ ap view_switch_items (items_hidden-the_row-SwitchItem-2 items))

abbrev arm_row_of : StatementKind → (n : Count) × Row_of-Arm n
arm_row_of (s.If' shape row last) = (_, row)
arm_row_of _ = (_, end_of-Arm)

pub if_none : (arms : Vec Arm Global) → view_statement_kind (s.If arms None) ≡ t.If (view_arms arms.items) t.NoStatement
if_none arms =
    let row = arm_row_of (s.If arms None) in
    ap (λ xs. t.If xs t.NoStatement) (arm_row row.0 row.1 ∙ ap view_arms (items_hidden-the_row-Arm-1 arms))

pub if_some : (arms : Vec Arm Global) (last : Box Statement Global) →
    view_statement_kind (s.If arms (Some last))
    ≡ t.If (view_arms arms.items) (t.TheStatement (view_statement last.value))
if_some arms last =
    let row = arm_row_of (s.If arms (Some last)) in
    ap (λ xs. t.If xs (t.TheStatement (view_statement last.value)))
    (arm_row row.0 row.1 ∙ ap view_arms (items_hidden-the_row-Arm-1 arms))

pub if_is : (arms : Vec Arm Global) (last : Option (Box Statement Global)) →
    view_statement_kind (s.If arms last) ≡ t.If (view_arms arms.items) (view_last last)
if_is arms None = if_none arms
if_is arms (Some last) = if_some arms last
