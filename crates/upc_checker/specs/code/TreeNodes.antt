-- All nodes of a syntax tree: the instances of the lines of the grammar to which typing rules apply, each with the
-- place where it is refused, in the order in which they are finished: parts before the whole, from left to right. They
-- are read off the tree alone, with no types and no scopes.
use Rattle.std.specs.Prelude.{Bool, true, false, List, [], ◌∷◌, ◌++◌, Option, Some, None}
use Rattle.upc_text.specs.declared.place.Place.{Place}
use Rattle.upc_tree.specs.Expression.{Expr, Named, Number, Character, Strings, Constant, Paren, Subscript, Call}
use Rattle.upc_tree.specs.Expression.{MemberOf, Postfix, Unary, SizeOfExpr, SizeOfType, Cast, Binary, Assign}
use Rattle.upc_tree.specs.Expression.{Conditional, Comma, Arguments, NoArguments, SomeArguments, NextExprs}
use Rattle.upc_tree.specs.Expression.{NoNextExprs, AndExpr, TypeName, Typed, Specs, NoSpecs, AndSpec, Spec, WordSpec}
use Rattle.upc_tree.specs.Expression.{QualSpec, TagSpec, StructSpec, Quals, NoQuals, AndQual, Qual, Const, Strict}
use Rattle.upc_tree.specs.Expression.{Relaxed, Shared, Layout, NoLayout, IndefiniteLayout, StarLayout, BlockLayout}
use Rattle.upc_tree.specs.Expression.{Pointers, NoPointers, AndPointer, Dimensions, NoDimensions, AndDimension}
use Rattle.upc_tree.specs.Expression.{Members, NoMembers, AndMember, NextDeclarators, NoNextDeclarators}
use Rattle.upc_tree.specs.Expression.{AndDeclarator, Declarator, ObjectDeclarator, FunctionDeclarator, Parameters}
use Rattle.upc_tree.specs.Expression.{NoParameters, VoidParameters, SomeParameters, Parameter, Parametric}
use Rattle.upc_tree.specs.Expression.{NextParameters, NoNextParameters, AndParameter, ParameterArray, NoArray}
use Rattle.upc_tree.specs.Expression.{UnsizedArray, SizedArray}
use Rattle.upc_tree.specs.Declaration as declaration_tree
use Rattle.upc_tree.specs.Declaration.{Declaration, Declares, DeclaredList, NoneDeclared, SomeDeclared, NextDeclareds}
use Rattle.upc_tree.specs.Declaration.{NoNextDeclareds, AndDeclared, DeclaredAs}
use Rattle.upc_tree.specs.Statement as statement_tree
use Rattle.upc_tree.specs.Statement.{Statement, Compound, Braces, BlockItems, NoBlockItems, AndBlockItem}
use Rattle.upc_tree.specs.Statement.{DeclarationItem, StatementItem, SwitchItems, NoSwitchItems, AndSwitchItem}
use Rattle.upc_tree.specs.Statement.{CaseItem, DefaultItem, SwitchStatement, ElseIfs, NoElseIfs, AndElseIf, Otherwise}
use Rattle.upc_tree.specs.Statement.{NoOtherwise, Else, Test, Tests, First, FirstValue, FirstDeclaration, Affinity}
use Rattle.upc_tree.specs.Statement.{NoAffinity, ContinueAffinity, ValueAffinity, ForHead, ForParts, ForallHead}
use Rattle.upc_tree.specs.Statement.{ForallParts}
use Rattle.upc_tree.specs.Unit.{External, PragmaPart, DeclarationPart, FunctionPart}
use Rattle.typing_rules.specs.Faults.{Seen}
use Rattle.upc_checker_nodes.specs.Marks.{number_kind}
use Rattle.upc_checker_scopes.specs.Places.{at, name_at, pointers_place, specs_place}
use Rattle.upc_checker.specs.Units.{source_place}
use Rattle.upc_checker.specs.code.Lines as lines_spec
use Rattle.upc_checker.specs.code.Lines.{Line, line_of}

-- An instance of a line of the grammar, and its place.
pub record TreeNode : Type 0 where
  pub at : Place
  pub line : Line

-- The list of one node alone.
abbrev pub node : Place → Line → List TreeNode
node place line = record { at = place; line = line } ∷ []

-- The nodes of specifiers with their own node after them, which comes before the nodes of what follows the specifiers
-- (C99 6.7.2).
abbrev pub to_their_end : Place → List TreeNode → List TreeNode
to_their_end place specifiers = specifiers ++ node place lines_spec.Specifies

-- ---- expressions and types (C99 6.5, 6.7; UPC 6.4, 6.5)

-- The place of the first token of an expression (C99 6.5).
abbrev pub first_place : Expr → Place
first_place (Named name) = name_at name
first_place (Number value kind span) = at span
first_place (Character value span) = at span
first_place (Strings first more) = at first.span
first_place (Constant word span) = at span
first_place (Paren left inner right) = at left
first_place (Subscript a left i right) = first_place a
first_place (Call callee left arguments) = first_place callee
first_place (MemberOf a mark dot name) = first_place a
first_place (Postfix a mark span) = first_place a
first_place (Unary mark span a) = at span
first_place (SizeOfExpr word span a) = at span
first_place (SizeOfType word span left type right) = at span
first_place (Cast left type right a) = at left
first_place (Binary a mark span b) = first_place a
first_place (Assign a mark span b) = first_place a
first_place (Conditional test question a colon b) = first_place test
first_place (Comma first more) = first_place first

-- The nodes of expressions and types (C99 6.5, 6.7; UPC 6.4, 6.5).
abbrev mutual
  -- The nodes of an expression, of which parentheses are none of their own (C99 6.5).
  pub nodes : Expr → List TreeNode
  nodes (Named name) = node (name_at name) lines_spec.Name
  nodes (Number value kind span) = node (at span) (lines_spec.Number (number_kind kind) value)
  nodes (Character value span) = node (at span) lines_spec.Character
  nodes (Strings first more) = node (at first.span) lines_spec.Strings
  nodes (Constant word span) = node (at span) lines_spec.Constant
  nodes (Paren left inner right) = nodes inner
  nodes (Subscript a left i right) = nodes a ++ (nodes i ++ node (first_place a) lines_spec.Subscript)
  nodes (Call callee left arguments) =
      nodes callee ++ (argument_nodes arguments ++ node (first_place callee) lines_spec.Call)
  nodes (MemberOf a mark dot name) = nodes a ++ node (first_place a) lines_spec.MemberOf
  nodes (Postfix a mark span) = nodes a ++ node (first_place a) lines_spec.Unary
  nodes (Unary mark span a) = nodes a ++ node (at span) lines_spec.Unary
  nodes (SizeOfExpr word span a) = nodes a ++ node (at span) lines_spec.SizeOf
  nodes (SizeOfType word span left type right) = type_nodes (at span) type ++ node (at span) lines_spec.SizeOfType
  nodes (Cast left type right a) = type_nodes (at left) type ++ (nodes a ++ node (at left) lines_spec.Cast)
  nodes (Binary a mark span b) = nodes a ++ (nodes b ++ node (first_place a) lines_spec.Binary)
  nodes (Assign a mark span b) = nodes a ++ (nodes b ++ node (first_place a) lines_spec.Assign)
  nodes (Conditional test question a colon b) =
      nodes test ++ (nodes a ++ (nodes b ++ node (first_place test) lines_spec.Conditional))
  nodes (Comma first more) = nodes first ++ (next_nodes more ++ node (first_place first) lines_spec.Comma)

  -- The nodes of the arguments of a call (C99 6.5.2.2).
  pub argument_nodes : Arguments → List TreeNode
  argument_nodes (NoArguments right) = []
  argument_nodes (SomeArguments first more right) = nodes first ++ next_nodes more

  -- The nodes of further expressions (C99 6.5.2.2, 6.5.17).
  pub next_nodes : NextExprs → List TreeNode
  next_nodes NoNextExprs = []
  next_nodes (AndExpr comma value more) = nodes value ++ next_nodes more

  -- The nodes of a type name, whose specifiers are refused at this place (C99 6.7.6).
  pub type_nodes : Place → TypeName → List TreeNode
  type_nodes place (Typed specs pointers sizes) =
      to_their_end place (specs_nodes specs) ++ (pointer_nodes pointers ++ size_nodes sizes)

  -- The nodes of specifiers and qualifiers (C99 6.7).
  pub specs_nodes : Specs → List TreeNode
  specs_nodes NoSpecs = []
  specs_nodes (AndSpec spec more) = spec_nodes spec ++ specs_nodes more

  -- The nodes of a specifier or qualifier, among them the node of a struct after its members (C99 6.7.1 to 6.7.3).
  pub spec_nodes : Spec → List TreeNode
  spec_nodes (WordSpec word span) = []
  spec_nodes (QualSpec qual) = qual_nodes qual
  spec_nodes (TagSpec word tag) = []
  spec_nodes (StructSpec word tag left members right) = member_nodes members ++ node (at word) lines_spec.Struct

  -- The nodes of the qualifiers after a star (C99 6.7.5.1).
  pub quals_nodes : Quals → List TreeNode
  quals_nodes NoQuals = []
  quals_nodes (AndQual qual more) = qual_nodes qual ++ quals_nodes more

  -- The nodes of a qualifier, which are those of the layout of a `shared` (C99 6.7.3, UPC 6.5.1).
  pub qual_nodes : Qual → List TreeNode
  qual_nodes (Const word) = []
  qual_nodes (Strict word) = []
  qual_nodes (Relaxed word) = []
  qual_nodes (Shared word layout) = layout_nodes layout

  -- The nodes of a layout: its block size is a constant expression, and its bracket a node after that (UPC 6.5.1.1).
  pub layout_nodes : Layout → List TreeNode
  layout_nodes NoLayout = []
  layout_nodes (IndefiniteLayout left right) = []
  layout_nodes (StarLayout left mark right) = node (at left) lines_spec.StarBlock
  layout_nodes (BlockLayout left size right) =
      nodes size ++ (node (first_place size) lines_spec.Constantly ++ node (at left) lines_spec.Block)

  -- The nodes of stars, which are those of their qualifiers (C99 6.7.5.1).
  pub pointer_nodes : Pointers → List TreeNode
  pointer_nodes NoPointers = []
  pointer_nodes (AndPointer span quals more) = quals_nodes quals ++ pointer_nodes more

  -- The nodes of sizes in brackets, each of them a constant expression (C99 6.7.5.2).
  pub size_nodes : Dimensions → List TreeNode
  size_nodes NoDimensions = []
  size_nodes (AndDimension left size right more) =
      nodes size ++ (node (first_place size) lines_spec.Constantly ++ size_nodes more)

  -- The nodes of the declarations of members, each with a node of its specifiers' line after its declarators
  -- (C99 6.7.2.1).
  pub member_nodes : Members → List TreeNode
  member_nodes NoMembers = []
  member_nodes (AndMember specs first next semicolon more) =
      to_their_end (specs_place specs) (specs_nodes specs) ++ (declarator_nodes first ++ (next_declarator_nodes next ++
      (node (specs_place specs) lines_spec.Specifies ++ member_nodes more)))

  -- The nodes of further declarators of members (C99 6.7.2.1).
  pub next_declarator_nodes : NextDeclarators → List TreeNode
  next_declarator_nodes NoNextDeclarators = []
  next_declarator_nodes (AndDeclarator comma declarator more) =
      declarator_nodes declarator ++ next_declarator_nodes more

  -- The nodes of the declarator of a member (C99 6.7.2.1, 6.7.5).
  pub declarator_nodes : Declarator → List TreeNode
  declarator_nodes (ObjectDeclarator pointers name sizes) =
      pointer_nodes pointers ++ (size_nodes sizes ++ node (pointers_place pointers name) lines_spec.Member)
  declarator_nodes (FunctionDeclarator pointers name parameters) =
      pointer_nodes pointers ++ (parameters_nodes parameters ++ node
      (pointers_place pointers name) lines_spec.MemberFunction)

  -- The nodes of the parameters of a function (C99 6.7.5.3).
  pub parameters_nodes : Parameters → List TreeNode
  parameters_nodes (NoParameters left right) = []
  parameters_nodes (VoidParameters left word right) = []
  parameters_nodes (SomeParameters left first more right) = parameter_nodes first ++ next_parameter_nodes more

  -- The nodes of further parameters (C99 6.7.5.3).
  pub next_parameter_nodes : NextParameters → List TreeNode
  next_parameter_nodes NoNextParameters = []
  next_parameter_nodes (AndParameter comma parameter more) = parameter_nodes parameter ++ next_parameter_nodes more

  -- The nodes of a parameter, of which its own is the last (C99 6.7.5.3).
  pub parameter_nodes : Parameter → List TreeNode
  parameter_nodes (Parametric specs pointers name array) =
      to_their_end (specs_place specs) (specs_nodes specs) ++ (pointer_nodes pointers ++ (array_nodes array ++
      node (specs_place specs) lines_spec.Parameter))

  -- The nodes of the brackets of a parameter, whose size is a constant expression (C99 6.7.5.3).
  pub array_nodes : ParameterArray → List TreeNode
  array_nodes NoArray = []
  array_nodes (UnsizedArray left right) = []
  array_nodes (SizedArray left size right) = nodes size ++ node (first_place size) lines_spec.Constantly

-- ---- declarations (C99 6.7); `file` is whether they stand at file scope

-- The nodes of a value of an initialiser, which at file scope is a constant expression too (C99 6.6, 6.7.8).
abbrev pub value_nodes : Bool → Expr → List TreeNode
value_nodes true value = nodes value ++ node (first_place value) lines_spec.Constantly
value_nodes false value = nodes value

-- The nodes of further values of an initialiser (C99 6.7.8).
abbrev pub values_nodes : Bool → NextExprs → List TreeNode
values_nodes file NoNextExprs = []
values_nodes file (AndExpr comma value more) = value_nodes file value ++ values_nodes file more

-- The nodes of an initialiser, of which its own stands at its declarator and comes after its values (C99 6.7.8).
abbrev pub initial_nodes : Bool → Place → declaration_tree.Initial → List TreeNode
initial_nodes file place declaration_tree.NoInitial = []
initial_nodes file place (declaration_tree.ValueInitial equal value) = value_nodes file value ++ node place
    lines_spec.InitialValue
initial_nodes file place (declaration_tree.ListInitial equal left first more right) =
    value_nodes file first ++ (values_nodes file more ++ node place lines_spec.InitialList)

-- The nodes of a declarator with its initialiser, in which what is declared is in scope, so that the declarator's own
-- node comes before (C99 6.2.1, 6.7).
abbrev pub declared_nodes : Bool → declaration_tree.Declared → List TreeNode
declared_nodes file (DeclaredAs (ObjectDeclarator pointers name sizes) initial) =
    let place = pointers_place pointers name in
    pointer_nodes pointers ++ (size_nodes sizes ++ (node place lines_spec.DeclaresObject ++ initial_nodes file place
    initial))
declared_nodes file (DeclaredAs (FunctionDeclarator pointers name parameters) initial) =
    let place = pointers_place pointers name in
    pointer_nodes pointers ++ (parameters_nodes parameters ++
    (node place lines_spec.DeclaresFunction ++ initial_nodes file place initial))

-- The nodes of further declarators with their initialisers (C99 6.7).
abbrev pub next_declared_nodes : Bool → NextDeclareds → List TreeNode
next_declared_nodes file NoNextDeclareds = []
next_declared_nodes file (AndDeclared comma x more) = declared_nodes file x ++ next_declared_nodes file more

-- The nodes of all declarators of a declaration with their initialisers (C99 6.7).
abbrev pub declared_list_nodes : Bool → DeclaredList → List TreeNode
declared_list_nodes file NoneDeclared = []
declared_list_nodes file (SomeDeclared first more) = declared_nodes file first ++ next_declared_nodes file more

-- The nodes of a declaration, of which its own has its specifiers' line and comes after what it declares (C99 6.7).
abbrev pub declaration_nodes : Bool → Declaration → List TreeNode
declaration_nodes file (Declares specs list semicolon) =
    to_their_end (specs_place specs) (specs_nodes specs) ++ (declared_list_nodes file list ++
    node (specs_place specs) lines_spec.Specifies)

-- ---- statements (C99 6.8, UPC 6.6)

-- The nodes of an expression that may be absent (C99 6.8.3).
abbrev pub option_nodes : Option Expr → List TreeNode
option_nodes None = []
option_nodes (Some e) = nodes e

-- The nodes of a controlling expression (C99 6.8.4, 6.8.5).
abbrev pub test_nodes : Test → List TreeNode
test_nodes (Tests left value right) = nodes value

-- The nodes of the first part of a `for` or a `upc_forall` (C99 6.8.5.3, UPC 6.6.2).
abbrev pub first_nodes : First → List TreeNode
first_nodes (FirstValue value semicolon) = option_nodes value
first_nodes (FirstDeclaration declaration) = declaration_nodes false declaration

-- The nodes of an affinity, of which its own comes after its expression (UPC 6.6.2).
abbrev pub affinity_nodes : Affinity → List TreeNode
affinity_nodes NoAffinity = []
affinity_nodes (ContinueAffinity word) = []
affinity_nodes (ValueAffinity value) = nodes value ++ node (first_place value) lines_spec.Affinity

-- The nodes of the parentheses of a `for` (C99 6.8.5.3).
abbrev pub for_nodes : ForHead → List TreeNode
for_nodes (ForParts left first test test_end step right) =
    first_nodes first ++ (option_nodes test ++ option_nodes step)

-- The nodes of the parentheses of a `upc_forall` (UPC 6.6.2).
abbrev pub forall_nodes : ForallHead → List TreeNode
forall_nodes (ForallParts left first test test_end step step_end affinity right) =
    first_nodes first ++ (option_nodes test ++ (option_nodes step ++ affinity_nodes affinity))

-- The nodes of a `return`, of which its own comes after its value (C99 6.8.6.4).
abbrev pub return_nodes : Place → Option Expr → List TreeNode
return_nodes place None = node place lines_spec.ReturnsNothing
return_nodes place (Some e) = nodes e ++ node place lines_spec.Returns

-- The nodes of a notify, a wait or a barrier: with a value its own comes after those of the value, and without one
-- there are none (UPC 6.6.1).
abbrev pub barrier_nodes : Place → Option Expr → List TreeNode
barrier_nodes place None = []
barrier_nodes place (Some e) = nodes e ++ node place lines_spec.Barrier

-- The nodes of statements and their parts (C99 6.8, UPC 6.6).
abbrev mutual
  -- The nodes of a statement, where the conditions of an `if` with all its arms are judged at its end. An expression, a
  -- block and a fence are no nodes of their own, nor is a barrier without a value (C99 6.8, UPC 6.6).
  pub statement_nodes : Statement → List TreeNode
  statement_nodes (statement_tree.Block compound) = compound_nodes compound
  statement_nodes (statement_tree.Value value semicolon) = option_nodes value
  statement_nodes (statement_tree.If word test body more last) =
      test_nodes test ++ (statement_nodes body ++ (else_if_nodes more ++ (otherwise_nodes last ++
      node (at word) lines_spec.Tests)))
  statement_nodes (statement_tree.Switch word test left items right) =
      test_nodes test ++ (switch_nodes items ++ node (at word) lines_spec.Switch)
  statement_nodes (statement_tree.While word test body) = test_nodes test ++
      (statement_nodes body ++ node (at word) lines_spec.Tests)
  statement_nodes (statement_tree.DoWhile word body until test semicolon) =
      statement_nodes body ++ (test_nodes test ++ node (at word) lines_spec.Tests)
  statement_nodes (statement_tree.For word head body) = for_nodes head ++
      (statement_nodes body ++ node (at word) lines_spec.Tests)
  statement_nodes (statement_tree.Forall word head body) = forall_nodes head ++
      (statement_nodes body ++ node (at word) lines_spec.Tests)
  statement_nodes (statement_tree.Break word semicolon) = node (at word) lines_spec.Break
  statement_nodes (statement_tree.Continue word semicolon) = node (at word) lines_spec.Continue
  statement_nodes (statement_tree.Return word value semicolon) = return_nodes (at word) value
  statement_nodes (statement_tree.Barrier kind word value semicolon) = barrier_nodes (at word) value
  statement_nodes (statement_tree.Fence word semicolon) = []

  -- The nodes of a compound statement (C99 6.8.2).
  pub compound_nodes : Compound → List TreeNode
  compound_nodes (Braces left pragmas items right) = item_nodes items

  -- The nodes of the declarations and statements of a block (C99 6.8.2).
  pub item_nodes : BlockItems → List TreeNode
  item_nodes NoBlockItems = []
  item_nodes (AndBlockItem (DeclarationItem declaration) more) = declaration_nodes false declaration ++ item_nodes more
  item_nodes (AndBlockItem (StatementItem statement) more) = statement_nodes statement ++ item_nodes more

  -- The nodes of the body of a `switch`, where a label is a constant expression, and a `default` is judged at its
  -- switch (C99 6.8.1, 6.8.4.2).
  pub switch_nodes : SwitchItems → List TreeNode
  switch_nodes NoSwitchItems = []
  switch_nodes (AndSwitchItem (CaseItem word value colon) more) =
      nodes value ++ (node (first_place value) lines_spec.Constantly ++ switch_nodes more)
  switch_nodes (AndSwitchItem (DefaultItem word colon) more) = switch_nodes more
  switch_nodes (AndSwitchItem (SwitchStatement statement) more) = statement_nodes statement ++ switch_nodes more

  -- The nodes of the further arms of an `if` (C99 6.8.4.1).
  pub else_if_nodes : ElseIfs → List TreeNode
  else_if_nodes NoElseIfs = []
  else_if_nodes (AndElseIf other word test body more) =
      test_nodes test ++ (statement_nodes body ++ else_if_nodes more)

  -- The nodes of the last arm of an `if` (C99 6.8.4.1).
  pub otherwise_nodes : Otherwise → List TreeNode
  otherwise_nodes NoOtherwise = []
  otherwise_nodes (Else word body) = statement_nodes body

-- ---- the source (C99 6.9)

-- The nodes of a part of a source: a definition of a function is a node after its body, and a pragma is none (C99 6.9).
abbrev pub external_nodes : External → List TreeNode
external_nodes (PragmaPart pragma) = []
external_nodes (DeclarationPart declaration) = declaration_nodes true declaration
external_nodes (FunctionPart specs pointers name parameters body) =
    to_their_end (specs_place specs) (specs_nodes specs) ++ (pointer_nodes pointers ++ (parameters_nodes parameters ++
    (compound_nodes body ++ node (specs_place specs) lines_spec.Defines)))

-- The nodes of the parts of a source (C99 6.9).
abbrev pub externals_nodes : List External → List TreeNode
externals_nodes [] = []
externals_nodes (x ∷ xs) = external_nodes x ++ externals_nodes xs

-- All nodes of a source, of which the file itself is the last (C99 6.9).
abbrev pub tree_nodes : List External → List TreeNode
tree_nodes unit = externals_nodes unit ++ node (source_place unit) lines_spec.File

-- A node of a walk as an instance of its line of the grammar.
abbrev pub node_of : Seen → TreeNode
node_of x = record { at = x.at; line = line_of x.node }
