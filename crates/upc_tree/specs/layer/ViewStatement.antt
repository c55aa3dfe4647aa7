-- The trees of the code, seen without where they lie in memory: declarations, statements and whole sources.
use Rattle.std.specs.Prelude.{List, map, Vec, Box, Option, Some, None}
use Rattle.std.specs.declared.alloc.Global.{Global}
use Rattle.upc_tree.specs.declared.span.Span.{Span}
use Rattle.upc_tree.specs.declared.expression.Expr.{Expr}
use Rattle.upc_tree.specs.declared.declaration.Declaration.{Declaration}
use Rattle.upc_tree.specs.declared.declaration.Declared.{Declared}
use Rattle.upc_tree.specs.declared.declaration.DeclaredList.{DeclaredList}
use Rattle.upc_tree.specs.declared.declaration.NextDeclared.{NextDeclared}
use Rattle.upc_tree.specs.declared.declaration.Initial.{Initial}
use Rattle.upc_tree.specs.declared.declaration.Initial.TheVariants as initials
use Rattle.upc_tree.specs.declared.statement.Statement as statement_type
use Rattle.upc_tree.specs.declared.statement.Statement.{Statement, Row_of-BlockItem, end_of-BlockItem}
use Rattle.upc_tree.specs.declared.statement.Statement.{more_of-BlockItem, Row_of-SwitchItem, end_of-SwitchItem}
use Rattle.upc_tree.specs.declared.statement.Statement.{more_of-SwitchItem, Row_of-ElseIf, end_of-ElseIf}
use Rattle.upc_tree.specs.declared.statement.Statement.{more_of-ElseIf}
use Rattle.upc_tree.specs.declared.statement.Compound.{Compound}
use Rattle.upc_tree.specs.declared.statement.BlockItem as block_item
use Rattle.upc_tree.specs.declared.statement.BlockItem.{BlockItem}
use Rattle.upc_tree.specs.declared.statement.SwitchItem as switch_item
use Rattle.upc_tree.specs.declared.statement.SwitchItem.{SwitchItem}
use Rattle.upc_tree.specs.declared.statement.ElseIf.{ElseIf}
use Rattle.upc_tree.specs.declared.statement.Otherwise as otherwise_type
use Rattle.upc_tree.specs.declared.statement.Otherwise.{Otherwise}
use Rattle.upc_tree.specs.declared.statement.Test.{Test}
use Rattle.upc_tree.specs.declared.statement.First.{First}
use Rattle.upc_tree.specs.declared.statement.First.TheVariants as f
use Rattle.upc_tree.specs.declared.statement.Affinity.{Affinity}
use Rattle.upc_tree.specs.declared.statement.Affinity.TheVariants as affinity_variant
use Rattle.upc_tree.specs.declared.statement.ForHead.{ForHead}
use Rattle.upc_tree.specs.declared.statement.ForallHead.{ForallHead}
use Rattle.upc_tree.specs.declared.unit.Unit as units
use Rattle.upc_tree.specs.declared.unit.External.{External}
use Rattle.upc_tree.specs.declared.unit.Function.{Function}
use Rattle.upc_tree.specs.declared.unit.External.TheVariants as x
use Rattle.upc_tree.specs.Expression as expressions
use Rattle.upc_tree.specs.Declaration as declaration_tree
use Rattle.upc_tree.specs.Statement as statement_tree
use Rattle.upc_tree.specs.Unit as unit_tree
use Rattle.upc_tree.specs.layer.Lists.{next_declareds_of, block_items_of, switch_items_of, else_ifs_of}
use Rattle.upc_tree.specs.layer.View.{
  view,
  view_next_exprs,
  view_specs,
  view_pointers,
  view_declarator,
  view_parameters,
}

-- ---- declarations

-- The initialiser that the code holds.
abbrev pub view_initial : Initial → declaration_tree.Initial
view_initial initials.Absent = declaration_tree.NoInitial
view_initial (initials.Value equal value) = declaration_tree.ValueInitial equal (view value.value)
view_initial (initials.List equal left first more right) =
    declaration_tree.ListInitial equal left (view first.value) (view_next_exprs more) right

-- The declarator with its initialiser that the code holds.
abbrev pub view_declared : Declared → declaration_tree.Declared
view_declared x = declaration_tree.DeclaredAs (view_declarator x.declarator.value) (view_initial x.initial.value)

-- A further declarator with its initialiser and its comma, as the code holds it in a vector.
abbrev pub view_next_declared : NextDeclared → Span × declaration_tree.Declared
view_next_declared x = (x.comma, view_declared x.declared.value)

-- The further declarators with their initialisers that a vector of the code holds.
abbrev pub view_next_declareds : Vec NextDeclared Global → declaration_tree.NextDeclareds
view_next_declareds v = next_declareds_of (map view_next_declared v.items)

-- The declarators of a declaration, or none, that the code holds.
abbrev pub view_declared_list : Option (Box DeclaredList Global) → declaration_tree.DeclaredList
view_declared_list None = declaration_tree.NoneDeclared
view_declared_list (Some x) = declaration_tree.SomeDeclared (view_declared x.value.first.value)
    (view_next_declareds x.value.more)

-- The tree of a declaration that the code holds.
abbrev pub view_declaration : Declaration → declaration_tree.Declaration
view_declaration x = declaration_tree.Declares (view_specs x.specs) (view_declared_list x.declared) x.semicolon

-- ---- statements

-- The expression that may be absent that the code holds.
abbrev pub view_value : Option (Box Expr Global) → Option expressions.Expr
view_value None = None
view_value (Some value) = Some (view value.value)

-- The controlling expression with its parentheses that the code holds.
abbrev pub view_test : Test → statement_tree.Test
view_test x = statement_tree.Tests x.open (view x.value.value) x.close

-- The first part of a `for` or a `upc_forall` that the code holds.
abbrev pub view_first : First → statement_tree.First
view_first (f.Expression value semicolon) = statement_tree.FirstValue (view_value value) semicolon
view_first (f.Declaration declaration) = statement_tree.FirstDeclaration (view_declaration declaration.value)

-- The affinity of a `upc_forall` that the code holds.
abbrev pub view_affinity : Affinity → statement_tree.Affinity
view_affinity affinity_variant.Absent = statement_tree.NoAffinity
view_affinity (affinity_variant.Continue word) = statement_tree.ContinueAffinity word
view_affinity (affinity_variant.Value value) = statement_tree.ValueAffinity (view value.value)

-- The parentheses of a `for` that the code holds.
abbrev pub view_for : ForHead → statement_tree.ForHead
view_for x = statement_tree.ForParts x.open (view_first x.first.value) (view_value x.test) x.test_end
    (view_value x.step) x.close

-- The parentheses of a `upc_forall` that the code holds.
abbrev pub view_forall : ForallHead → statement_tree.ForallHead
view_forall x =
    statement_tree.ForallParts x.open (view_first x.first.value) (view_value x.test) x.test_end
    (view_value x.step) x.step_end
    (view_affinity x.affinity.value) x.close

-- The trees of statements and their parts that the code holds, as values without their places in memory.
abbrev mutual
  -- The tree of a statement that the code holds.
  pub view_statement : Statement → statement_tree.Statement
  view_statement (statement_type.Compound' at left pragmas shape items right) =
      statement_tree.Block (statement_tree.Braces left pragmas.items (view_block_row items) right)
  view_statement (statement_type.Expression value semicolon) = statement_tree.Value (view_value value) semicolon
  view_statement (statement_type.If' word test at body shape more otherwise) =
      statement_tree.If word (view_test test.value) (view_statement body) (view_else_if_row more)
      (view_otherwise otherwise)
  view_statement (statement_type.Switch' word test left shape body right) =
      statement_tree.Switch word (view_test test.value) left (view_switch_row body) right
  view_statement (statement_type.While' word test at body) = statement_tree.While word (view_test test.value)
      (view_statement body)
  view_statement (statement_type.DoWhile' word at body until test semicolon) =
      statement_tree.DoWhile word (view_statement body) until (view_test test.value) semicolon
  view_statement (statement_type.For' word head at body) = statement_tree.For word (view_for head.value)
      (view_statement body)
  view_statement (statement_type.Forall' word head at body) = statement_tree.Forall word (view_forall head.value)
      (view_statement body)
  view_statement (statement_type.Break word semicolon) = statement_tree.Break word semicolon
  view_statement (statement_type.Continue word semicolon) = statement_tree.Continue word semicolon
  view_statement (statement_type.Return word value semicolon) = statement_tree.Return word (view_value value) semicolon
  view_statement (statement_type.Barrier kind word value semicolon) = statement_tree.Barrier kind word
      (view_value value) semicolon
  view_statement (statement_type.Fence word semicolon) = statement_tree.Fence word semicolon

  -- The declarations and statements of a block that the code holds in a row.
  pub view_block_row : {m : _} → Row_of-BlockItem m → statement_tree.BlockItems
  view_block_row end_of-BlockItem = statement_tree.NoBlockItems
  view_block_row (more_of-BlockItem item more) = statement_tree.AndBlockItem (view_block_item item)
      (view_block_row more)

  -- The declaration or statement of a block that the code holds.
  pub view_block_item : BlockItem → statement_tree.BlockItem
  view_block_item (block_item.Declaration declaration) = statement_tree.DeclarationItem
      (view_declaration declaration.value)
  view_block_item (block_item.Statement' at statement) = statement_tree.StatementItem (view_statement statement)

  -- The labels and statements of a `switch` that the code holds in a row.
  pub view_switch_row : {m : _} → Row_of-SwitchItem m → statement_tree.SwitchItems
  view_switch_row end_of-SwitchItem = statement_tree.NoSwitchItems
  view_switch_row (more_of-SwitchItem item more) = statement_tree.AndSwitchItem (view_switch_item item)
      (view_switch_row more)

  -- The label or statement of a `switch` that the code holds.
  pub view_switch_item : SwitchItem → statement_tree.SwitchItem
  view_switch_item (switch_item.Case word value colon) = statement_tree.CaseItem word (view value.value) colon
  view_switch_item (switch_item.Default word colon) = statement_tree.DefaultItem word colon
  view_switch_item (switch_item.Statement' at statement) = statement_tree.SwitchStatement (view_statement statement)

  -- The further arms of an `if` that the code holds in a row.
  pub view_else_if_row : {m : _} → Row_of-ElseIf m → statement_tree.ElseIfs
  view_else_if_row end_of-ElseIf = statement_tree.NoElseIfs
  view_else_if_row (more_of-ElseIf other word test at body more) =
      statement_tree.AndElseIf other word (view_test test.value) (view_statement body) (view_else_if_row more)

  -- The last arm of an `if`, or none, that the code holds.
  pub view_otherwise : Otherwise → statement_tree.Otherwise
  view_otherwise otherwise_type.Absent = statement_tree.NoOtherwise
  view_otherwise (otherwise_type.Else' word at body) = statement_tree.Else word (view_statement body)

-- A further arm of an `if` by its parts, as the code holds it in a vector.
abbrev pub view_else_if : ElseIf → Span × Span × statement_tree.Test × statement_tree.Statement
view_else_if x = (x.other, x.word, view_test x.test.value, view_statement x.body.value)

-- The declarations and statements of a block that a vector of the code holds.
abbrev pub view_block_items : Vec BlockItem Global → statement_tree.BlockItems
view_block_items v = block_items_of (map view_block_item v.items)

-- The labels and statements of a `switch` that a vector of the code holds.
abbrev pub view_switch_items : Vec SwitchItem Global → statement_tree.SwitchItems
view_switch_items v = switch_items_of (map view_switch_item v.items)

-- The further arms of an `if` that a vector of the code holds.
abbrev pub view_else_ifs : Vec ElseIf Global → statement_tree.ElseIfs
view_else_ifs v = else_ifs_of (map view_else_if v.items)

-- The compound statement that the code holds.
abbrev pub view_compound : Compound → statement_tree.Compound
view_compound x = statement_tree.Braces x.open x.pragmas.items (view_block_items x.items) x.close

-- ---- whole sources

-- The definition of a function that the code holds, as a part of a source.
abbrev pub view_function : Function → unit_tree.External
view_function f =
    unit_tree.FunctionPart (view_specs f.specs) (view_pointers f.pointers) f.name (view_parameters f.parameters.value)
    (view_compound f.body.value)

-- The part of a source that the code holds.
abbrev pub view_external : External → unit_tree.External
view_external (x.Pragma pragma) = unit_tree.PragmaPart pragma
view_external (x.Declaration declaration) = unit_tree.DeclarationPart (view_declaration declaration.value)
view_external (x.Function function) = view_function function.value

-- The tree of a whole source that the code holds, as the list of its parts.
abbrev pub view_unit : units.Unit → List unit_tree.External
view_unit x = map view_external x.externals.items
