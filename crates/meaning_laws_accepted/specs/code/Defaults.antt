-- Functions in which no default of the meaning is taken.
use Rattle.std.specs.Prelude.{◌≡◌, ℕ, Bool, true, false, List, [], ◌∷◌, map, Option, Some, None, is_some, slice_get}
use Rattle.std.specs.Prelude.{pos}
use Rattle.upc_text.specs.declared.place.Place.{Place}
use Rattle.integers.specs.declared.operator.BinOp.{BinOp}
use Rattle.block_layout.specs.declared.kind.Shape.{Shape}
use Rattle.upc_values.specs.declared.library.LibraryCall.{LibraryCall}
use Rattle.upc_values.specs.declared.library.LibraryCall.TheVariants.{Printf}
use Rattle.upc_values.specs.LibraryCalls.{library_call}
use Rattle.upc_values.specs.declared.scalar.Value.{Value}
use Rattle.upc_types.specs.Types.{CType, base_of}
use Rattle.typing_rules.specs.declared.library.LibraryParameter.{LibraryParameter}
use Rattle.typing_rules.specs.declared.library.LibraryParameter.TheVariants as parameter
use Rattle.typing_rules.specs.Library.{int, call_parameters, is_allocation}
use Rattle.typing_rules.specs.Nodes.{Attr}
use Rattle.typing_rules.specs.Rules.{is_zero}
use Rattle.typed_tree.specs.declared.tree.Target.TheVariants as target
use Rattle.typed_tree.specs.Tree as tree
use Rattle.typed_tree.specs.Tree.{Expr, Is, ExprKind, Literal, Mythread, Object, Callee, Format, Paren, Subscript}
use Rattle.typed_tree.specs.Tree.{Call, Member, MemberBehind, Step, Address, Dereference, Unary, SizeOf, SizeOfType}
use Rattle.typed_tree.specs.Tree.{Cast, Binary, And, Or, Assign, Compound, Conditional, Comma, Exprs, NoExprs}
use Rattle.typed_tree.specs.Tree.{AndExpr, attr_of, Initial, NoInitial, InitialValue, InitialList, DeclaredObject}
use Rattle.typed_tree.specs.Tree.{Affinity, Everyone, AtValue, Head, Statement, Stands, StatementKind, Block, If}
use Rattle.typed_tree.specs.Tree.{Switch, While, DoWhile, For, Forall, Break, Continue, Return, Synchronise, Fence}
use Rattle.typed_tree.specs.Tree.{StatementOption, NoStatement, TheStatement, Arms, NoArms, AndArm, Items, NoItems}
use Rattle.typed_tree.specs.Tree.{AndObjects, AndStatement, SwitchItems, NoSwitchItems, AndCase, AndDefault}
use Rattle.typed_tree.specs.Tree.{AndSwitchStatement, Function}
use Rattle.thread_steps.specs.States.{◌>>=◌}
use Rattle.thread_steps.specs.Operators.{cast}
use Rattle.thread_steps.specs.Values.{number}
use Rattle.thread_steps.specs.Library.{is_formed}
use Rattle.source_meaning.specs.Types.{cell_kind, conversion, parameter_conversion, promotion, target_of, integer_of}
use Rattle.source_meaning.specs.Running.{Running, parameters_of}
use Rattle.source_meaning.specs.Expressions.{type_of, types_of, value, address, binary, converted_to, step_operator}
use Rattle.source_meaning.specs.layer.Parts.{is_printf}
use Rattle.source_meaning.specs.Expressions.{arguments, allocated_shape}
use Rattle.source_meaning.specs.Laws.{Gives}
use Rattle.source_meaning.specs.Statements.{element_type}
use Rattle.source_meaning.specs.Threads.{called}
use Rattle.meaning_laws.specs.layer.Values.{FitsCell, IsOf, IsPlaceOf, IsGiven, Brings}
use Rattle.meaning_laws.specs.layer.Uses.{Leads, Counts, IsOperand, AreOperands, HasAffinity, IsTaken, AreArguments}
use Rattle.meaning_laws.specs.layer.Uses.{ArePromoted, AllNumbers}
use Rattle.meaning_laws.specs.layer.Copies.{TakesCells}

-- As a thread runs the program.
module _ (ρ : Running) where
  -- A value of an expression's type.
  abbrev pub OfType : Expr → Value → Type 0
  OfType e v = IsOf ρ.structs (type_of e) v

  -- However many calls may be active, an expression gives a value of its type; and where it has the form of an lvalue,
  -- it names a place of its type (C99 6.3.2.1, 6.5).
  pub record KeepsType (e : Expr) : Type 0 where
    pub result : (calls : ℕ) (strict : Bool) → Brings Value (OfType e) (value ρ (called ρ calls) strict e)
    pub given : (calls : ℕ) (strict : Bool)
        → Brings Value (IsGiven ρ.structs (attr_of e)) (address ρ (called ρ calls) strict e)

  -- What the conversion of an expression's value into a type gives fits a cell of that type, so that the cell keeps it
  -- (C99 6.3, 6.5.16.1).
  abbrev pub ConvertFits : CType → Expr → Type 0
  ConvertFits t e =
      (calls : ℕ) (strict : Bool)
      → Brings Value (FitsCell (cell_kind ρ.structs t)) (converted_to ρ t e (value ρ (called ρ calls) strict e))

  -- The conversion of an expression's value into a type takes each value of the expression's type; and what it gives
  -- fits a cell of that type (C99 6.3, 6.5.16.1).
  pub record IsConverted (t : CType) (e : Expr) : Type 0 where
    pub taken : (v : Value) → OfType e v → IsTaken (is_zero (attr_of e)) (conversion (type_of e) t) v
    pub fits : ConvertFits t e

  -- So is each argument, into the type of its parameter (C99 6.5.2.2).
  abbrev pub AreConverted : List CType → Exprs → Type 0
  AreConverted (t ∷ ts) (AndExpr a more) = IsConverted t a × AreConverted ts more
  AreConverted ts args = Unit {0}

  -- So is each value of a list, into the type of an array's elements (C99 6.7.8).
  abbrev pub AllConverted : CType → Exprs → Type 0
  AllConverted t NoExprs = Unit {0}
  AllConverted t (AndExpr a more) = IsConverted t a × AllConverted t more

  -- The conversion of an expression's value into the type of a parameter of the library takes each value of the
  -- expression's type; that of what stands for the function of a reduction is not looked at (UPC 7.2, 7.3).
  abbrev pub IsPassed : LibraryParameter → Expr → Type 0
  IsPassed parameter.NoFunction e = Unit {0}
  IsPassed x e = (v : Value) → OfType e v → IsTaken (is_zero (attr_of e)) (parameter_conversion x) v

  -- So is each argument, into the type of its parameter.
  abbrev pub ArePassed : List LibraryParameter → Exprs → Type 0
  ArePassed (x ∷ xs) (AndExpr a more) = IsPassed x a × ArePassed xs more
  ArePassed xs args = Unit {0}

  -- The arguments of printf after its format are integers, whose types have kinds of integers, and so is what comes of
  -- them; any other call has parameters instead (C99 6.5.2.2, 7.19.6.3).
  abbrev pub ArePrinted : LibraryCall → Exprs → Type 0
  ArePrinted Printf (AndExpr format more) =
      ArePromoted ρ.structs more
      × ((calls : ℕ) (strict : Bool)
      → Gives (List Value) AllNumbers (arguments ρ (called ρ calls) strict (map promotion (types_of more)) more []))
  ArePrinted c args = Unit {0}

  -- What comes of the arguments of a call of the library, whose value has this type, is what its parameters have, and
  -- all threads may meet with it; what the call reads of private cells are then scalars, and what it writes to them
  -- fits them; and the program has the shape of what the call allocates. printf has a format instead of parameters (UPC
  -- 7.2, 7.3).
  pub record LibraryTakes (c : LibraryCall) (t : CType) (args : Exprs) : Type 0 where
    pub passed : ArePassed (call_parameters c) args
    pub given : is_printf c ≡ false → (calls : ℕ) (strict : Bool)
        → Brings (List Value) (AreArguments (call_parameters c))
        (arguments ρ (called ρ calls) strict (map parameter_conversion (call_parameters c)) args [])
    pub cells : is_printf c ≡ false → (calls : ℕ) (strict : Bool)
        → Brings (List Value)
        (λ vs. (private : ℕ → Option Shape)
        → TakesCells (library_call ρ.thread.threads ρ.thread.shapes ρ.thread.number private c
        (allocated_shape ρ c t) vs))
        (arguments ρ (called ρ calls) strict (map parameter_conversion (call_parameters c)) args [])
    pub printed : ArePrinted c args
    pub formed : is_printf c ≡ false → (calls : ℕ) (strict : Bool)
        → Gives (List Value) (λ vs. is_formed ρ.thread.shapes c (allocated_shape ρ c t) vs ≡ true)
        (arguments ρ (called ρ calls) strict (map parameter_conversion (call_parameters c)) args [])
    pub shape : is_allocation c ≡ true → is_some (slice_get ρ.thread.shapes (allocated_shape ρ c t)) ≡ true

  -- A binary operator takes all values of these two types (C99 6.5.5 to 6.5.12).
  abbrev pub OperatorTakes : BinOp → (left right : CType) → Type 0
  OperatorTakes o t u =
      (x y : Value) → IsOf ρ.structs t x → IsOf ρ.structs u y
      → AreOperands o (target_of t) (target_of u) (integer_of t) (integer_of u) x y

  -- What the operator makes of the value of an object of type t and another value, converted back, fits a cell of the
  -- object's type, so that the cell keeps it (C99 6.5.2.4, 6.5.3.1, 6.5.16.2).
  abbrev pub ChangeFits : BinOp → (t u : CType) → Type 0
  ChangeFits o t u =
      (at : Place) (x y : Value) → IsOf ρ.structs t x
      → Brings Value (FitsCell (cell_kind ρ.structs t))
      (binary ρ at o t u x y >>= (λ z. cast ρ.thread (conversion t t) at z))

  -- ---- expressions

  abbrev mutual
    -- An expression, and each one in it that is evaluated, gives a value of its type; and what they do with the values
    -- of their parts is defined for them (C99 6.5).
    pub TakesExpr : Expr → Type 0
    TakesExpr (Is at attr kind) = KeepsType (Is at attr kind) × TakesKind attr kind

    -- What an expression does with the values of its parts is defined for them, and its parts are so.
    pub TakesKind : Attr → ExprKind → Type 0
    TakesKind attr Literal = Unit {0}
    TakesKind attr Mythread = Unit {0}
    TakesKind attr (Object home) = Unit {0}
    TakesKind attr (Callee called) = Unit {0}
    TakesKind attr (Format bytes) = Unit {0}
    TakesKind attr (Paren a) = TakesExpr a
    TakesKind attr (Subscript a i) =
        ((p n : Value) → OfType a p → OfType i n → Leads p × Counts (integer_of (type_of i)) n)
        × TakesExpr a × TakesExpr i
    TakesKind attr (Call (target.Function n) args) = AreConverted (parameters_of ρ n) args × TakesExprs args
    TakesKind attr (Call (target.Library c) args) = LibraryTakes c attr.ctype args × TakesExprs args
    TakesKind attr (Member a index) = ((p : Value) → IsPlaceOf ρ.structs (type_of a) p → Leads p) × TakesExpr a
    TakesKind attr (MemberBehind a index) = ((p : Value) → OfType a p → Leads p) × TakesExpr a
    TakesKind attr (Step o a) =
        ((v : Value) → OfType a v
        → AreOperands (step_operator ρ o) (target_of (type_of a)) (target_of int) (integer_of (type_of a))
        (integer_of int) v (number (pos 1)))
        × ChangeFits (step_operator ρ o) (type_of a) int × TakesExpr a
    TakesKind attr (Address a) = TakesExpr a
    TakesKind attr (Dereference a) = TakesExpr a
    TakesKind attr (Unary o a) = ((v : Value) → OfType a v → IsOperand o (integer_of (type_of a)) v) × TakesExpr a
    TakesKind attr (SizeOf o a) = Unit {0}
    TakesKind attr (SizeOfType o t) = Unit {0}
    TakesKind attr (Cast a) =
        ((v : Value) → OfType a v → IsTaken (is_zero (attr_of a)) (conversion (type_of a) attr.ctype) v) × TakesExpr a
    TakesKind attr (Binary o a b) = OperatorTakes o (type_of a) (type_of b) × TakesExpr a × TakesExpr b
    TakesKind attr (And a b) = TakesExpr a × TakesExpr b
    TakesKind attr (Or a b) = TakesExpr a × TakesExpr b
    TakesKind attr (Assign a b) = IsConverted (type_of a) b × TakesExpr a × TakesExpr b
    TakesKind attr (Compound o a b) =
        OperatorTakes o (type_of a) (type_of b) × ChangeFits o (type_of a) (type_of b) × TakesExpr a × TakesExpr b
    TakesKind attr (Conditional test a b) =
        IsConverted attr.ctype a × IsConverted attr.ctype b × TakesExpr test × TakesExpr a × TakesExpr b
    TakesKind attr (Comma parts) = TakesExprs parts

    -- Each of these expressions is so.
    pub TakesExprs : Exprs → Type 0
    TakesExprs NoExprs = Unit {0}
    TakesExprs (AndExpr a more) = TakesExpr a × TakesExprs more

  -- An expression is so, where there is one.
  abbrev pub TakesValue : Option Expr → Type 0
  TakesValue None = Unit {0}
  TakesValue (Some e) = TakesExpr e

  -- ---- initialisers and heads

  -- The initial values of an object of this type are so, and are converted into it (C99 6.7.8).
  abbrev pub TakesInitial : CType → Initial → Type 0
  TakesInitial t NoInitial = Unit {0}
  TakesInitial t (InitialValue e) = IsConverted t e × TakesExpr e
  TakesInitial t (InitialList es) = AllConverted (element_type (base_of t) t) es × TakesExprs es

  -- The initial values of these objects are so.
  abbrev pub TakesObjects : List DeclaredObject → Type 0
  TakesObjects [] = Unit {0}
  TakesObjects (x ∷ xs) = TakesInitial x.ctype x.initial × TakesObjects xs

  -- The value of an affinity says whose turn it is (UPC 6.6.2).
  abbrev pub TakesAffinity : Affinity → Type 0
  TakesAffinity Everyone = Unit {0}
  TakesAffinity (AtValue e) = ((v : Value) → OfType e v → HasAffinity v) × TakesExpr e

  -- The parts of a loop's head are so.
  abbrev pub TakesHead : Head → Type 0
  TakesHead head = TakesObjects head.objects × TakesValue head.first × TakesValue head.test × TakesValue head.step

  -- The value of an expression, where there is one, is an integer, and the expression is so.
  abbrev pub TakesInteger : Option Expr → Type 0
  TakesInteger None = Unit {0}
  TakesInteger (Some e) = ((v : Value) → OfType e v → Counts (integer_of (type_of e)) v) × TakesExpr e

  -- ---- statements, in a function whose result has this type
  module _ (result : CType) where
    abbrev mutual
      -- The expressions in a statement are so, and what the statement does with their values is defined for them.
      pub TakesStatement : Statement → Type 0
      TakesStatement (Stands at kind) = TakesBy kind

      -- So are those in what a statement consists of.
      pub TakesBy : StatementKind → Type 0
      TakesBy (Block strict items) = TakesItems items
      TakesBy (tree.Value e) = TakesValue e
      TakesBy (If arms last) = TakesArms arms × TakesLast last
      TakesBy (Switch e items) = TakesInteger (Some e) × TakesSwitch items
      TakesBy (While test body) = TakesExpr test × TakesStatement body
      TakesBy (DoWhile body test) = TakesStatement body × TakesExpr test
      TakesBy (For head body) = TakesHead head × TakesStatement body
      TakesBy (Forall head affinity body) = TakesHead head × TakesAffinity affinity × TakesStatement body
      TakesBy Break = Unit {0}
      TakesBy Continue = Unit {0}
      TakesBy (Return None) = Unit {0}
      TakesBy (Return (Some e)) = IsConverted result e × TakesExpr e
      TakesBy (Synchronise how e) = TakesInteger e
      TakesBy Fence = Unit {0}

      -- So are those in the statement after the last `else`.
      pub TakesLast : StatementOption → Type 0
      TakesLast NoStatement = Unit {0}
      TakesLast (TheStatement s) = TakesStatement s

      -- So are those in the arms of an `if`.
      pub TakesArms : Arms → Type 0
      TakesArms NoArms = Unit {0}
      TakesArms (AndArm test body more) = TakesExpr test × TakesStatement body × TakesArms more

      -- So are those in the parts of a block.
      pub TakesItems : Items → Type 0
      TakesItems NoItems = Unit {0}
      TakesItems (AndObjects objects more) = TakesObjects objects × TakesItems more
      TakesItems (AndStatement s more) = TakesStatement s × TakesItems more

      -- So are those in the body of a `switch`.
      pub TakesSwitch : SwitchItems → Type 0
      TakesSwitch NoSwitchItems = Unit {0}
      TakesSwitch (AndCase w more) = TakesSwitch more
      TakesSwitch (AndDefault more) = TakesSwitch more
      TakesSwitch (AndSwitchStatement s more) = TakesStatement s × TakesSwitch more

  -- The expressions in a function are so, and what its statements do with their values is defined for them.
  abbrev pub TakesFunction : Function → Type 0
  TakesFunction f = TakesStatement f.result f.body
