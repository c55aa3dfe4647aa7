-- Which trees of expressions and types are proper: precedence and joining are respected, and a layout follows
-- `shared` wherever a bracket does.
use Rattle.std.specs.Prelude.{◌≡◌, ℕ, ◌+◌, ◌≤◌, Bool, true, false, Option, Some, None}
use Rattle.upc_tree.specs.declared.mark.TypeWord.TheVariants as type_word
use Rattle.upc_tree.specs.declared.span.Name.{Name}
use Rattle.upc_tree.specs.Marks.{binary_level, operand_level}
use Rattle.upc_tree.specs.Expression.{Expr, Named, Number, Character, Strings, Constant, Paren, Subscript, Call}
use Rattle.upc_tree.specs.Expression.{MemberOf, Postfix, Unary, SizeOfExpr, SizeOfType, Cast, Binary, Assign}
use Rattle.upc_tree.specs.Expression.{Conditional, Comma, Arguments, NoArguments, SomeArguments, NextExprs}
use Rattle.upc_tree.specs.Expression.{NoNextExprs, AndExpr, TypeName, Typed, Specs, NoSpecs, AndSpec, Spec, WordSpec}
use Rattle.upc_tree.specs.Expression.{QualSpec, TagSpec, StructSpec, Quals, NoQuals, AndQual, Qual, Const, Strict}
use Rattle.upc_tree.specs.Expression.{Relaxed, Shared, Layout, NoLayout, IndefiniteLayout, StarLayout, BlockLayout}
use Rattle.upc_tree.specs.Expression.{Pointers, NoPointers, AndPointer, Dimensions, NoDimensions, AndDimension}
use Rattle.upc_tree.specs.Expression.{Members, NoMembers, AndMember, NextDeclarators, NoNextDeclarators}
use Rattle.upc_tree.specs.Expression.{AndDeclarator, Declarator, ObjectDeclarator, FunctionDeclarator, Parameters}
use Rattle.upc_tree.specs.Expression.{NoParameters, VoidParameters, SomeParameters, Parameter, Parametric}
use Rattle.upc_tree.specs.Expression.{NextParameters, NoNextParameters, AndParameter, ParameterArray, NoArray}
use Rattle.upc_tree.specs.Expression.{UnsizedArray, SizedArray}

-- How tightly an expression is joined, from 0 for a comma expression to 15 (C99 6.5).
abbrev pub level : Expr → ℕ
level (Comma first more) = 0
level (Assign a mark at b) = 1
level (Conditional test question chosen colon other) = 2
level (Binary a mark at b) = binary_level mark
level (Cast left target right operand) = 13
level (Unary mark at operand) = 14
level (SizeOfExpr word at operand) = 14
level (SizeOfType word at left operand right) = 14
level (Named name) = 15
level (Number value kind span) = 15
level (Character value span) = 15
level (Strings first more) = 15
level (Constant word span) = 15
level (Paren left inner right) = 15
level (Subscript base left index right) = 15
level (Call callee left arguments) = 15
level (MemberOf base mark at member) = 15
level (Postfix base mark at) = 15

-- A list of further expressions is not empty (C99 6.5.17).
abbrev pub IsMore : NextExprs → Type 0
IsMore NoNextExprs = ⊥
IsMore (AndExpr comma value more) = Unit {0}

-- There is a specifier or a qualifier (C99 6.7).
abbrev pub IsSome : Specs → Type 0
IsSome NoSpecs = ⊥
IsSome (AndSpec spec more) = Unit {0}

-- Whether a bracket after a qualifier would be its layout: it is `shared` without one (UPC 6.5.1.1).
abbrev pub open_qual : Qual → Bool
open_qual (Shared word NoLayout) = true
open_qual _ = false

-- Whether a bracket after qualifiers would be the layout of the last of them, or where there are none, of what comes
-- before, as the first argument says (UPC 6.5.1.1).
abbrev pub open_quals : Bool → Quals → Bool
open_quals before NoQuals = before
open_quals before (AndQual qual more) = open_quals (open_qual qual) more

-- Whether a bracket after a specifier or qualifier would be its layout: it is `shared` without one (UPC 6.5.1.1).
abbrev pub open_spec : Spec → Bool
open_spec (QualSpec qual) = open_qual qual
open_spec _ = false

-- Whether a bracket after specifiers would be the layout of the last of them, or where there are none, of what comes
-- before, as the first argument says (UPC 6.5.1.1).
abbrev pub open_specs : Bool → Specs → Bool
open_specs before NoSpecs = before
open_specs before (AndSpec spec more) = open_specs (open_spec spec) more

-- Whether a bracket after stars would be the layout of the last qualifier of the last star, or where there are no
-- stars, of what comes before, as the first argument says (UPC 6.5.1.1).
abbrev pub open_pointers : Bool → Pointers → Bool
open_pointers before NoPointers = before
open_pointers before (AndPointer star quals more) = open_pointers (open_quals false quals) more

-- Sizes in brackets after a type are not taken for a layout: there are none, or no `shared` without a layout stands
-- directly before them (UPC 6.5.1.1).
abbrev pub KeepsSizes : Bool → Dimensions → Type 0
KeepsSizes takes NoDimensions = Unit {0}
KeepsSizes takes (AndDimension left size right more) = takes ≡ false

-- The brackets of a parameter are not taken for a layout: there are none, the name stands before them, or no `shared`
-- without a layout does (UPC 6.5.1.1).
abbrev pub KeepsArray : Bool → Option Name → ParameterArray → Type 0
KeepsArray takes name NoArray = Unit {0}
KeepsArray takes (Some name) _ = Unit {0}
KeepsArray takes None _ = takes ≡ false

-- There are no sizes in brackets (C99 6.7.5.2).
abbrev pub IsEmpty : Dimensions → Type 0
IsEmpty NoDimensions = Unit {0}
IsEmpty (AndDimension left size right more) = ⊥

-- A type name has no sizes, as the target of a cast has none (C99 6.5.4).
abbrev pub IsUnsized : TypeName → Type 0
IsUnsized (Typed _ _ sizes) = IsEmpty sizes

-- Whether parameters are a single `void` without a name, which is the empty list of parameters (C99 6.7.5.3).
abbrev pub is_void : Parameter → NextParameters → Bool
is_void (Parametric (AndSpec (WordSpec type_word.Void span) NoSpecs) NoPointers None NoArray) NoNextParameters = true
is_void _ _ = false

-- Which expressions and types are proper, with their parts (C99 6.5, 6.7; UPC 6.4, 6.5).
abbrev mutual
  -- An expression is proper: its parts are, and each operand binds at least as tightly as its operator asks (C99 6.5).
  pub Proper : Expr → Type 0
  Proper (Named name) = Unit {0}
  Proper (Number value kind span) = Unit {0}
  Proper (Character value span) = Unit {0}
  Proper (Strings first more) = Unit {0}
  Proper (Constant word span) = Unit {0}
  Proper (Paren left inner right) = Proper inner
  Proper (Subscript base left index right) = (15 ≤ level base) × Proper base × Proper index
  Proper (Call callee left arguments) = (15 ≤ level callee) × Proper callee × ProperArguments arguments
  Proper (MemberOf base mark at member) = (15 ≤ level base) × Proper base
  Proper (Postfix base mark at) = (15 ≤ level base) × Proper base
  Proper (Unary mark at operand) = (operand_level mark ≤ level operand) × Proper operand
  Proper (SizeOfExpr word at operand) = (14 ≤ level operand) × Proper operand
  Proper (SizeOfType word at left operand right) = ProperType operand
  Proper (Cast left target right operand) = IsUnsized target × ProperType target × (13 ≤ level operand) × Proper operand
  Proper (Binary a mark at b) = (binary_level mark ≤ level a) × (binary_level mark + 1 ≤ level b) × Proper a × Proper b
  Proper (Assign a mark at b) = (14 ≤ level a) × (1 ≤ level b) × Proper a × Proper b
  Proper (Conditional test question chosen colon other) =
      (3 ≤ level test) × (2 ≤ level other) × Proper test × Proper chosen × Proper other
  Proper (Comma first more) = (1 ≤ level first) × IsMore more × Proper first × ProperNextExprs more

  -- The arguments of a call are proper, and none of them is a comma expression (C99 6.5.2.2).
  pub ProperArguments : Arguments → Type 0
  ProperArguments (NoArguments right) = Unit {0}
  ProperArguments (SomeArguments first more right) = (1 ≤ level first) × Proper first × ProperNextExprs more

  -- Further expressions are proper, and none of them is a comma expression (C99 6.5.2.2, 6.5.17, 6.7.8).
  pub ProperNextExprs : NextExprs → Type 0
  ProperNextExprs NoNextExprs = Unit {0}
  ProperNextExprs (AndExpr comma value more) = (1 ≤ level value) × Proper value × ProperNextExprs more

  -- A type name is proper: it has a specifier or a qualifier, its parts are proper, and its sizes are not taken for a
  -- layout (C99 6.7.6, UPC 6.5.1.1).
  pub ProperType : TypeName → Type 0
  ProperType (Typed specs pointers sizes) =
      IsSome specs × ProperSpecs specs × ProperPointers pointers × ProperDimensions sizes
      × KeepsSizes (open_pointers (open_specs false specs) pointers) sizes

  -- Each specifier and qualifier is proper (C99 6.7).
  pub ProperSpecs : Specs → Type 0
  ProperSpecs NoSpecs = Unit {0}
  ProperSpecs (AndSpec spec more) = ProperSpec spec × ProperSpecs more

  -- A specifier or qualifier is proper: the members of a struct are, and the layout of a `shared` (C99 6.7.1 to 6.7.3).
  pub ProperSpec : Spec → Type 0
  ProperSpec (WordSpec word span) = Unit {0}
  ProperSpec (QualSpec qual) = ProperQual qual
  ProperSpec (TagSpec word tag) = Unit {0}
  ProperSpec (StructSpec word tag left members right) = ProperMembers members

  -- Each qualifier after a star is proper (C99 6.7.5.1).
  pub ProperQuals : Quals → Type 0
  ProperQuals NoQuals = Unit {0}
  ProperQuals (AndQual qual more) = ProperQual qual × ProperQuals more

  -- A qualifier is proper: the layout of a `shared` is (C99 6.7.3, UPC 6.5.1).
  pub ProperQual : Qual → Type 0
  ProperQual (Const word) = Unit {0}
  ProperQual (Strict word) = Unit {0}
  ProperQual (Relaxed word) = Unit {0}
  ProperQual (Shared word layout) = ProperLayout layout

  -- A layout is proper: its block size is, and is no assignment and no comma expression (UPC 6.5.1.1).
  pub ProperLayout : Layout → Type 0
  ProperLayout NoLayout = Unit {0}
  ProperLayout (IndefiniteLayout left right) = Unit {0}
  ProperLayout (StarLayout left star right) = Unit {0}
  ProperLayout (BlockLayout left size right) = (2 ≤ level size) × Proper size

  -- The qualifiers of each star are proper (C99 6.7.5.1).
  pub ProperPointers : Pointers → Type 0
  ProperPointers NoPointers = Unit {0}
  ProperPointers (AndPointer star quals more) = ProperQuals quals × ProperPointers more

  -- Each size in brackets is proper, and no assignment and no comma expression (C99 6.6, 6.7.5.2).
  pub ProperDimensions : Dimensions → Type 0
  ProperDimensions NoDimensions = Unit {0}
  ProperDimensions (AndDimension left size right more) = (2 ≤ level size) × Proper size × ProperDimensions more

  -- Each declaration of members is proper: it has a specifier or a qualifier, and its parts are proper (C99 6.7.2.1).
  pub ProperMembers : Members → Type 0
  ProperMembers NoMembers = Unit {0}
  ProperMembers (AndMember specs first next semicolon more) =
      IsSome specs × ProperSpecs specs × ProperDeclarator first × ProperNextDeclarators next × ProperMembers more

  -- Each further declarator is proper (C99 6.7.2.1).
  pub ProperNextDeclarators : NextDeclarators → Type 0
  ProperNextDeclarators NoNextDeclarators = Unit {0}
  ProperNextDeclarators (AndDeclarator comma declarator more) = ProperDeclarator declarator × ProperNextDeclarators more

  -- A declarator is proper: its stars are, and its sizes or its parameters (C99 6.7.5).
  pub ProperDeclarator : Declarator → Type 0
  ProperDeclarator (ObjectDeclarator pointers name sizes) = ProperPointers pointers × ProperDimensions sizes
  ProperDeclarator (FunctionDeclarator pointers name parameters) = ProperPointers pointers × ProperParameters parameters

  -- The parameters of a function are proper, and a single `void` without a name counts as none (C99 6.7.5.3).
  pub ProperParameters : Parameters → Type 0
  ProperParameters (NoParameters left right) = Unit {0}
  ProperParameters (VoidParameters left word right) = Unit {0}
  ProperParameters (SomeParameters left first more right) =
      (is_void first more ≡ false) × ProperParameter first × ProperNextParameters more

  -- A parameter is proper: it has a specifier or a qualifier, its parts are proper, and its brackets are not taken for
  -- a layout (C99 6.7.5.3, UPC 6.5.1.1).
  pub ProperParameter : Parameter → Type 0
  ProperParameter (Parametric specs pointers name array) =
      IsSome specs × ProperSpecs specs × ProperPointers pointers × ProperArray array
      × KeepsArray (open_pointers (open_specs false specs) pointers) name array

  -- Each further parameter is proper (C99 6.7.5.3).
  pub ProperNextParameters : NextParameters → Type 0
  ProperNextParameters NoNextParameters = Unit {0}
  ProperNextParameters (AndParameter comma parameter more) = ProperParameter parameter × ProperNextParameters more

  -- The size in the brackets of a parameter is proper, and no assignment and no comma expression (C99 6.6, 6.7.5.3).
  pub ProperArray : ParameterArray → Type 0
  ProperArray NoArray = Unit {0}
  ProperArray (UnsizedArray left right) = Unit {0}
  ProperArray (SizedArray left size right) = (2 ≤ level size) × Proper size
