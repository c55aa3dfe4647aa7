-- Vectors of parts inside statements, seen as lists.
use Rattle.std.proofs.Common.{◌≡◌, List, map, refl, ap, ◌∙◌, Vec, Global, Box}
use mathlib.Core.Former.{Count}
use Rattle.upc_tree.specs.declared.span.Span.{Span}
use Rattle.upc_tree.specs.declared.statement.Statement as s
use Rattle.upc_tree.specs.declared.statement.Statement.{Statement, Row_of-BlockItem, end_of-BlockItem, more_of-BlockItem, items-the_row-BlockItem, items_hidden-the_row-BlockItem-0, Row_of-SwitchItem, end_of-SwitchItem, more_of-SwitchItem, items-the_row-SwitchItem, items_hidden-the_row-SwitchItem-2, Row_of-ElseIf, end_of-ElseIf, more_of-ElseIf, items-the_row-ElseIf, items_hidden-the_row-ElseIf-1}
use Rattle.upc_tree.specs.declared.statement.BlockItem.{BlockItem}
use Rattle.upc_tree.specs.declared.statement.SwitchItem.{SwitchItem}
use Rattle.upc_tree.specs.declared.statement.ElseIf.{ElseIf}
use Rattle.upc_tree.specs.declared.statement.Otherwise.{Otherwise}
use Rattle.upc_tree.specs.declared.statement.Compound.{Compound}
use Rattle.upc_tree.specs.declared.statement.Test.{Test}
use Rattle.upc_tree.specs.Statement as p
use Rattle.upc_tree.specs.layer.Lists.{block_items_of, switch_items_of, else_ifs_of}
use Rattle.upc_tree.specs.layer.ViewStatement.{view_statement, view_block_row, view_block_item, view_switch_row, view_switch_item, view_switch_items, view_else_if_row, view_else_if, view_else_ifs, view_otherwise, view_test, view_compound}

block_row : (n : _) (row : Row_of-BlockItem n) → view_block_row row ≡ block_items_of (map view_block_item (items-the_row-BlockItem n row))
block_row n end_of-BlockItem = refl
block_row n (more_of-BlockItem item more) = ap (p.AndBlockItem (view_block_item item)) (block_row _ more)

block_row_is : (n : _) (row : Row_of-BlockItem n) (l : List BlockItem) → items-the_row-BlockItem n row ≡ l → view_block_row row ≡ block_items_of (map view_block_item l)
block_row_is n row l e = block_row n row ∙ ap (λ l. block_items_of (map view_block_item l)) e

switch_row : (n : _) (row : Row_of-SwitchItem n) → view_switch_row row ≡ switch_items_of (map view_switch_item (items-the_row-SwitchItem n row))
switch_row n end_of-SwitchItem = refl
switch_row n (more_of-SwitchItem item more) = ap (p.AndSwitchItem (view_switch_item item)) (switch_row _ more)

switch_row_is : (n : _) (row : Row_of-SwitchItem n) (l : List SwitchItem) → items-the_row-SwitchItem n row ≡ l → view_switch_row row ≡ switch_items_of (map view_switch_item l)
switch_row_is n row l e = switch_row n row ∙ ap (λ l. switch_items_of (map view_switch_item l)) e

else_if_row : (n : _) (row : Row_of-ElseIf n) → view_else_if_row row ≡ else_ifs_of (map view_else_if (items-the_row-ElseIf n row))
else_if_row n end_of-ElseIf = refl
else_if_row n (more_of-ElseIf other word test at body more) = ap (p.AndElseIf other word (view_test test.value) (view_statement body)) (else_if_row _ more)

else_if_row_is : (n : _) (row : Row_of-ElseIf n) (l : List ElseIf) → items-the_row-ElseIf n row ≡ l → view_else_if_row row ≡ else_ifs_of (map view_else_if l)
else_if_row_is n row l e = else_if_row n row ∙ ap (λ l. else_ifs_of (map view_else_if l)) e

abbrev block_row_of : Statement → (n : Count) × Row_of-BlockItem n
block_row_of (s.Compound' at left pragmas shape row right) = (_, row)
block_row_of _ = (_, end_of-BlockItem)

pub compound_is : (x : Box Compound Global) → view_statement (s.Compound x) ≡ p.Block (view_compound x.value)
compound_is x =
    let row = block_row_of (s.Compound x) in
    ap (λ m. p.Block (p.Braces x.value.open x.value.pragmas.items m x.value.close)) (block_row_is row.0 row.1 x.value.items.items (items_hidden-the_row-BlockItem-0 x.value.items))

abbrev switch_row_of : Statement → (n : Count) × Row_of-SwitchItem n
switch_row_of (s.Switch' word test left shape row right) = (_, row)
switch_row_of _ = (_, end_of-SwitchItem)

pub switch_is : (word : Span) (test : Box Test Global) (left : Span) (body : Vec SwitchItem Global) (right : Span) → view_statement (s.Switch word test left body right) ≡ p.Switch word (view_test test.value) left (view_switch_items body) right
switch_is word test left body right =
    let row = switch_row_of (s.Switch word test left body right) in
    ap (λ m. p.Switch word (view_test test.value) left m right) (switch_row_is row.0 row.1 body.items (items_hidden-the_row-SwitchItem-2 body))

abbrev else_if_row_of : Statement → (n : Count) × Row_of-ElseIf n
else_if_row_of (s.If' word test q body shape row otherwise) = (_, row)
else_if_row_of _ = (_, end_of-ElseIf)

pub if_is : (word : Span) (test : Box Test Global) (body : Box Statement Global) (more : Vec ElseIf Global) (otherwise : Otherwise) → view_statement (s.If word test body more otherwise) ≡ p.If word (view_test test.value) (view_statement body.value) (view_else_ifs more) (view_otherwise otherwise)
if_is word test body more otherwise =
    let row = else_if_row_of (s.If word test body more otherwise) in
    ap (λ m. p.If word (view_test test.value) (view_statement body.value) m (view_otherwise otherwise)) (else_if_row_is row.0 row.1 more.items (items_hidden-the_row-ElseIf-1 more))
