-- Why no default of the meaning is taken.
use Rattle.std.specs.Prelude.{◌≡◌, ℕ, suc, ℤ, ◌≤◌, ◌^◌, pos, Bool, true, List, [], length, map, Option, Some}
use Rattle.std.specs.Prelude.{is_some, Ok}
use Rattle.std.specs.Prelude.{slice_get}
use Rattle.upc_text.specs.declared.place.Place.{Place}
use Rattle.block_layout.specs.declared.kind.Kind.{Kind}
use Rattle.block_layout.specs.declared.place.Loc.{Loc}
use Rattle.block_layout.specs.declared.place.SharedPtr.{SharedPtr}
use Rattle.block_layout.specs.declared.place.LocalPtr.{LocalPtr}
use Rattle.integers.specs.declared.operator.BinOp.{BinOp}
use Rattle.integers.specs.declared.operator.UnOp.{UnOp}
use Rattle.upc_values.specs.declared.scalar.Scalar.{Scalar}
use Rattle.upc_values.specs.declared.scalar.Value.{Value}
use Rattle.upc_values.specs.declared.scalar.Value.TheVariants as value_of
use Rattle.upc_values.specs.declared.action.Reply.{Reply}
use Rattle.upc_values.specs.declared.library.LibraryCall.{LibraryCall}
use Rattle.upc_values.specs.declared.library.LibraryCall.TheVariants.{Printf}
use Rattle.upc_values.specs.LibraryCalls.{library_call}
use Rattle.block_layout.specs.declared.kind.Shape.{Shape}
use Rattle.private_store.specs.declared.frame.Call.{Call as PrivateCall}
use Rattle.private_store.specs.Live as live
use Rattle.private_store.specs.Live.{Live}
use Rattle.private_store.specs.Beginnings.{fits_cell, private_cell}
use Rattle.upc_values.specs.Lists.{Each}
use Rattle.upc_values.specs.Shapes.{fits_kind, value_fits}
use Rattle.upc_types.specs.Types.{CType, Structs, base_of, block_of}
use Rattle.upc_types.specs.Cells.{pointer_kind}
use Rattle.typing_rules.specs.Constants.{block_or_none}
use Rattle.typing_rules.specs.declared.setting.Home.TheVariants as home
use Rattle.typing_rules.specs.declared.setting.SizeOperator.{SizeOperator}
use Rattle.typing_rules.specs.declared.attribute.Constant.TheVariants.{Known}
use Rattle.typed_tree.specs.Initials.{numbered}
use Rattle.thread_steps.specs.Pointers.{phased}
use Rattle.block_layout.specs.declared.place.ObjectRef.{ObjectRef}
use Rattle.upc_values.specs.declared.scalar.Scalar.TheVariants.{Shared}
use Rattle.upc_types.specs.Conversions.{assignable, castable}
use Rattle.typing_rules.specs.declared.attribute.Constant.{Constant}
use Rattle.typing_rules.specs.Values.{value_type}
use Rattle.typing_rules.specs.Library.{int, call_parameters}
use Rattle.typing_rules.specs.Rules.{is_zero, moves}
use Rattle.typing_rules.specs.Nodes as node
use Rattle.typing_rules.specs.Nodes.{Use, Attr, Around}
use Rattle.typed_tree.specs.declared.tree.StepOperator.{StepOperator}
use Rattle.typed_tree.specs.Tree.{Expr, Subscript, MemberBehind, Step, Unary, Binary, Compound}
use Rattle.typed_tree.specs.declared.tree.Target.TheVariants as target
use Rattle.typed_tree.specs.Tree.{Object, SizeOf, SizeOfType, Statement}
use Rattle.typed_tree.specs.Tree.{Conditional, Call, Exprs, AndExpr, Function, attr_of}
use Rattle.typed_tree.specs.Programs.{Checked, start_of}
use Rattle.typed_tree.specs.layer.Judged.{Meets}
use Rattle.typed_tree.specs.layer.TypedNodes.{MeetsExpr, MeetsKind, MeetsStatement, MeetsRules}
use Rattle.thread_steps.specs.States.{Thread, ◌>>=◌}
use Rattle.thread_steps.specs.Values.{number, kept, kept_scalar}
use Rattle.thread_steps.specs.Accesses.{cell, read, load_private}
use Rattle.thread_steps.specs.Operators.{cast}
use Rattle.source_meaning.specs.Types.{cell_kind, conversion, promotion, target_of, integer_of}
use Rattle.source_meaning.specs.Types.{elements_of}
use Rattle.source_meaning.specs.Running.{Running, running}
use Rattle.source_meaning.specs.Expressions.{Calls, type_of, types_of, step_operator, value, address, binary}
use Rattle.source_meaning.specs.Expressions.{converted_to, arguments}
use Rattle.source_meaning.specs.Statements.{Flow, Standing, run}
use Rattle.source_meaning.specs.Laws.{Gives}
use Rattle.thread_steps.specs.layer.Parts.{one_more}
use Rattle.meaning_laws.specs.layer.Values.{FitsCell, IsOf, IsPlaceOf, IsGiven, HasIntegerKind, IsFormedType}
use Rattle.meaning_laws.specs.layer.Values.{IsFilled, Brings}
use Rattle.source_meaning.specs.Threads.{called, main_of, main_called, initial_state}
use Rattle.meaning_laws.specs.layer.Formed.{MakesSized, MakesShaped, IsFormed, CallsFit}
use Rattle.meaning_laws.specs.code.Scopes.{HasScope}
use Rattle.meaning_laws.specs.layer.Copies.{TakesCells}
use Rattle.meaning_laws.specs.layer.Uses.{Leads, Counts, IsOperand, AreOperands, HasAffinity, IsTaken, AreArguments}
use Rattle.meaning_laws.specs.layer.Uses.{ArePromoted, AllNumbers, IsLaid, LeadsLaid}
use Rattle.meaning_laws.specs.layer.FormedStatements.{IsFormedStatement, IsFormedFunction}

-- A cell keeps what fits it, in a private object and in a shared one (C99 6.5.16).
pub record CellsKeep : Type 0 where
  pub value : (kind : Kind) (v : Value) → value_fits v kind ≡ true → kept kind v ≡ v
  pub scalar : (kind : Kind) (v : Scalar) → fits_kind v kind ≡ true → kept_scalar kind v ≡ v

-- What is written to a cell of a shared object and fits it is a scalar: no such cell is of pointers to private objects
-- (UPC 6.5.1.1).
pub record ScalarsAreKept : Type 0 where
  pub each :
      (program : Checked) (thread budget : ℕ) (kind : Kind) (p : SharedPtr) (l : Loc) (v : Value)
      → cell (running program thread budget).thread kind p ≡ Ok l → value_fits v kind ≡ true
      → (s : Scalar) × (v ≡ value_of.Scalar s)

-- A call of the library with arguments of its parameters' types reads scalars of private cells, so that none counts as
-- 0, and what it writes to a private cell fits it, so that the cell keeps it (UPC 7.2.5).
pub record CopiesFit : Type 0 where
  -- What is read of a shared cell fits it.
  pub read : (τ : Thread) (kind : Kind) (strict : Bool) (l : Loc)
      → Brings Scalar (λ v. fits_kind v kind ≡ true) (read τ kind strict l)
  -- What is read of a private cell fits it.
  pub loaded : (τ : Thread) (kind : Kind) (at : Place) (p : LocalPtr)
      → Brings Value (λ v. value_fits v kind ≡ true) (load_private kind at p)
  -- Where this is so, the call reads scalars of private cells, and writes to them what fits.
  pub taken :
      (program : Checked) (thread budget : ℕ) (private : ℕ → Option Shape) (call : LibraryCall) (shape : ℕ)
      (args : List Value) → AreArguments (call_parameters call) args
      → TakesCells (library_call program.threads (start_of program).shapes thread private call shape args)

-- What the conversion of a value of one type into another type gives fits a cell of that type, so that the cell keeps
-- it (C99 6.3, 6.5.16.1).
pub record ConversionsFit : Type 0 where
  pub each :
      (structs : Structs) (τ : Thread) (from t : CType) (at : Place) (v : Value) → IsOf structs from v
      → HasIntegerKind (base_of t) → Brings Value (FitsCell (cell_kind structs t)) (cast τ (conversion from t) at v)

-- What an operator makes of the value of an object, converted back into the object's type, fits a cell of that type, so
-- that the cell keeps it (C99 6.5.2.4, 6.5.3.1, 6.5.16.2).
pub record ChangesFit : Type 0 where
  pub each :
      (ρ : Running) (at : Place) (op : BinOp) (t u : CType) (x y : Value) → IsOf ρ.structs t x
      → HasIntegerKind (base_of t)
      → Brings Value (FitsCell (cell_kind ρ.structs t))
      (binary ρ at op t u x y >>= (λ z. cast ρ.thread (conversion t t) at z))

-- The value of an expression that meets the rules is of the expression's type, where the types in it are formed, the
-- program has the shapes of what it allocates, and the functions that it calls give values of their types (C99 6.5).
pub record ExpressionsKeepTypes : Type 0 where
  pub each :
      (program : Checked) (thread budget : ℕ) (call : Calls) → CallsFit (running program thread budget) call
      → (locals : List CType) (how : Use) (strict : Bool) (e : Expr) → MeetsExpr program locals how e
      → IsFormed (MakesShaped program) e
      → Brings Value (IsOf (running program thread budget).structs (type_of e))
      (value (running program thread budget) call strict e)
  -- Where it has the form of an lvalue, it names a place of its type.
  pub given :
      (program : Checked) (thread budget : ℕ) (call : Calls) → CallsFit (running program thread budget) call
      → (locals : List CType) (how : Use) (strict : Bool) (e : Expr) → MeetsExpr program locals how e
      → IsFormed (MakesShaped program) e
      → Brings Value (IsGiven (running program thread budget).structs (attr_of e))
      (address (running program thread budget) call strict e)
  -- Converted into another type, as by an assignment, it fits a cell of that type, so that the cell keeps it.
  pub converted :
      (program : Checked) (thread budget : ℕ) (call : Calls) → CallsFit (running program thread budget) call
      → (locals : List CType) (how : Use) (strict : Bool) (e : Expr) (t : CType) → MeetsExpr program locals how e
      → IsFormed (MakesShaped program) e → IsFormedType t
      → Brings Value (FitsCell (cell_kind (running program thread budget).structs t))
      (converted_to (running program thread budget) t e (value (running program thread budget) call strict e))

-- A function of a program that meets the rules gives values of the type of its result, however many calls may be
-- active, where the types in the functions are formed, and the program has at most 2^64 shapes (C99 6.9.1).
pub record FunctionsKeepTypes : Type 0 where
  pub each :
      (program : Checked) (thread budget : ℕ) → MeetsRules program
      → Each (IsFormedFunction (MakesSized program)) program.functions → length (start_of program).shapes ≤ 2 ^ 64
      → (calls : ℕ) → CallsFit (running program thread budget) (called (running program thread budget) calls)

-- The main of a program that meets the rules gives a value of the type of its result, where the types in the functions
-- are formed, and the program has at most 2^64 shapes (C99 5.1.2.2.3).
pub record MainsKeepTypes : Type 0 where
  pub each :
      (program : Checked) (thread budget : ℕ) (f : Function) → MeetsRules program
      → Each (IsFormedFunction (MakesSized program)) program.functions → length (start_of program).shapes ≤ 2 ^ 64
      → main_of program.functions ≡ Some f
      → Brings Value (IsOf (running program thread budget).structs f.result)
      (main_called (running program thread budget) (Some f))

-- What an operator takes in a program that meets the rules is what it is defined for, where the types of its operands
-- are formed and their values have their types: no value stands there that counts as 0 or as null because it is no
-- integer or no pointer (C99 6.5.2 to 6.5.12).
pub record OperandsAreTaken : Type 0 where
  -- The place of an object whose type is formed is a pointer, by which its cells are read and written.
  pub place : (structs : Structs) (t : CType) (v : Value) → IsFormedType t → IsPlaceOf structs t v → Leads v
  -- A subscript steps a pointer by an integer.
  pub subscript :
      (program : Checked) (locals : List CType) (how : Use) (attr : Attr) (a i : Expr) (structs : Structs) (p n : Value)
      → MeetsKind program locals how attr (Subscript a i) → IsFormedType (type_of i) → IsOf structs (type_of a) p
      → IsOf structs (type_of i) n → Leads p × Counts (integer_of (type_of i)) n
  -- `->` goes from a pointer.
  pub behind :
      (program : Checked) (locals : List CType) (how : Use) (attr : Attr) (a : Expr) (index : ℕ) (structs : Structs)
      (p : Value) → MeetsKind program locals how attr (MemberBehind a index) → IsOf structs (type_of a) p → Leads p
  -- A unary operator but `!` takes an integer.
  pub unary :
      (program : Checked) (locals : List CType) (how : Use) (attr : Attr) (o : UnOp) (a : Expr) (structs : Structs)
      (v : Value) → MeetsKind program locals how attr (Unary o a) → IsFormedType (type_of a)
      → IsOf structs (type_of a) v → IsOperand o (integer_of (type_of a)) v
  -- A binary operator takes integers, or pointers of one kind, or a pointer that can be stepped and an integer.
  pub binary :
      (program : Checked) (locals : List CType) (how : Use) (attr : Attr) (o : BinOp) (a b : Expr) (structs : Structs)
      (x y : Value) → MeetsKind program locals how attr (Binary o a b) → IsFormedType (type_of a)
      → IsFormedType (type_of b) → IsOf structs (type_of a) x → IsOf structs (type_of b) y
      → AreOperands o (target_of (type_of a)) (target_of (type_of b)) (integer_of (type_of a)) (integer_of (type_of b))
      x y
  -- An assignment with an operator takes what the operator does.
  pub compound :
      (program : Checked) (locals : List CType) (how : Use) (attr : Attr) (o : BinOp) (a b : Expr) (structs : Structs)
      (x y : Value) → MeetsKind program locals how attr (Compound o a b) → IsFormedType (type_of a)
      → IsFormedType (type_of b) → IsOf structs (type_of a) x → IsOf structs (type_of b) y
      → AreOperands o (target_of (type_of a)) (target_of (type_of b)) (integer_of (type_of a)) (integer_of (type_of b))
      x y
  -- `++` and `--` take an integer, or a pointer that can be stepped.
  pub step :
      (program : Checked) (locals : List CType) (how : Use) (attr : Attr) (ρ : Running) (o : StepOperator) (a : Expr)
      (structs : Structs) (x : Value) → MeetsKind program locals how attr (Step o a) → IsFormedType (type_of a)
      → IsOf structs (type_of a) x
      → AreOperands (step_operator ρ o) (target_of (type_of a)) (target_of int) (integer_of (type_of a))
      (integer_of int) x (number (pos 1))
  -- The value of a `switch` is an integer.
  pub switch :
      (program : Checked) (a : Expr) (labels : List Constant) (defaults : ℕ) (structs : Structs) (v : Value)
      → Meets program (node.Switch (attr_of a) labels defaults) → IsFormedType (type_of a) → IsOf structs (type_of a) v
      → Counts (integer_of (type_of a)) v
  -- The value of a notify, wait or barrier is an integer.
  pub barrier :
      (program : Checked) (a : Expr) (structs : Structs) (v : Value) → Meets program (node.Barrier (attr_of a))
      → IsFormedType (type_of a) → IsOf structs (type_of a) v → Counts (integer_of (type_of a)) v
  -- The affinity of a upc_forall is an integer or a pointer-to-shared.
  pub affinity :
      (program : Checked) (a : Expr) (structs : Structs) (v : Value) → Meets program (node.Affinity (attr_of a))
      → IsFormedType (type_of a) → IsOf structs (type_of a) v → HasAffinity v

-- A conversion that the table of conversions allows takes the value, so that no value counts as null or as 0 there but
-- that of the constant 0; `zero` says that the value is that (C99 6.3.2.3, 6.5.4, 6.5.16.1; UPC 6.4.3).
pub record ConversionsAreTaken : Type 0 where
  -- Without a cast.
  pub assigned :
      (structs : Structs) (from into : CType) (zero : Bool) (v : Value)
      → assignable (value_type from) into zero ≡ true → IsOf structs from v → IsTaken zero (conversion from into) v
  -- By a cast.
  pub cast :
      (structs : Structs) (from into : CType) (zero : Bool) (v : Value)
      → castable (value_type from) into zero ≡ true → IsOf structs from v → IsTaken zero (conversion from into) v

-- The two last operands of `? :` are converted into the type of the whole, and the conversion takes each value of the
-- operand's type, so that no value counts as null or as 0 there but that of the constant 0 (C99 6.5.15).
pub record ChoicesAreTaken : Type 0 where
  -- The operand that is taken where the test is not 0.
  pub second :
      (program : Checked) (locals : List CType) (how : Use) (attr : Attr) (test a b : Expr) (structs : Structs)
      (v : Value) → MeetsKind program locals how attr (Conditional test a b) → IsOf structs (type_of a) v
      → IsTaken (is_zero (attr_of a)) (conversion (type_of a) attr.ctype) v
  -- The operand that is taken where it is 0.
  pub third :
      (program : Checked) (locals : List CType) (how : Use) (attr : Attr) (test a b : Expr) (structs : Structs)
      (v : Value) → MeetsKind program locals how attr (Conditional test a b) → IsOf structs (type_of b) v
      → IsTaken (is_zero (attr_of b)) (conversion (type_of b) attr.ctype) v

-- The arguments of printf after its format are integers, whose types have kinds of integers; so each is promoted, and
-- what comes of them are integers (C99 6.5.2.2, 7.19.6.3).
pub record PrintedArePromoted : Type 0 where
  pub each :
      (program : Checked) (locals : List CType) (how : Use) (attr : Attr) (format : Expr) (args : Exprs)
      (structs : Structs) → MeetsKind program locals how attr (Call (target.Library Printf) (AndExpr format args))
      → ArePromoted structs args
  -- What is promoted and printed is an integer.
  pub given :
      (ρ : Running) (call : Calls) (strict : Bool) (args : Exprs)
      → Gives (List Value) AllNumbers (arguments ρ call strict (map promotion (types_of args)) args [])

-- What a program that meets the rules steps over has a layout, so that none counts as one byte (C99 6.5.2.1, 6.5.2.4,
-- 6.5.6, 6.5.16.2). An order of two pointers to void, which steps over nothing, needs none.
pub record SteppedAreLaid : Type 0 where
  -- The objects over which a subscript steps.
  pub subscript :
      (program : Checked) (locals : List CType) (how : Use) (attr : Attr) (a i : Expr)
      → MeetsKind program locals how attr (Subscript a i) → IsLaid program attr.ctype
  -- What `+` and `-` step over: what the pointers among their operands lead to.
  pub binary :
      (program : Checked) (locals : List CType) (how : Use) (attr : Attr) (o : BinOp) (a b : Expr) → moves o ≡ true
      → MeetsKind program locals how attr (Binary o a b)
      → LeadsLaid program (target_of (type_of a)) × LeadsLaid program (target_of (type_of b))
  -- What `+=` and `-=` step over.
  pub compound :
      (program : Checked) (locals : List CType) (how : Use) (attr : Attr) (o : BinOp) (a b : Expr) → moves o ≡ true
      → MeetsKind program locals how attr (Compound o a b) → LeadsLaid program (target_of (type_of a))
  -- What `++` and `--` step over.
  pub step :
      (program : Checked) (locals : List CType) (how : Use) (attr : Attr) (o : StepOperator) (a : Expr)
      → MeetsKind program locals how attr (Step o a) → LeadsLaid program (target_of (type_of a))

-- A size operator of a program that meets the rules has a known value (C99 6.5.3.4, UPC 6.4.1).
pub record SizesAreKnown : Type 0 where
  -- On an expression.
  pub object :
      (program : Checked) (locals : List CType) (how : Use) (attr : Attr) (o : SizeOperator) (a : Expr)
      → MeetsKind program locals how attr (SizeOf o a) → (v : ℤ) × (attr.constant ≡ Known v)
  -- On a type.
  pub type :
      (program : Checked) (locals : List CType) (how : Use) (attr : Attr) (o : SizeOperator) (t : CType)
      → MeetsKind program locals how attr (SizeOfType o t) → (v : ℤ) × (attr.constant ≡ Known v)

-- Each name of a shared object in a program that meets the rules has the object (UPC 6.5.1).
pub record SharedAreThere : Type 0 where
  pub each :
      (program : Checked) (locals : List CType) (how : Use) (attr : Attr) (number : ℕ)
      → MeetsKind program locals how attr (Object (home.Shared number))
      → (o : ObjectRef) × (numbered (start_of program).shared_objects number ≡ Some o)

-- A pointer-to-shared that fits a cell of pointers to a type keeps its phase where it is stepped, if the block of the
-- type is at most 16,777,216 elements, as a declared one is (UPC 6.4.2, 6.5.1.1).
pub record PhasesStay : Type 0 where
  pub each :
      (structs : Structs) (t : CType) (p : SharedPtr) → block_or_none (block_of t) ≤ 16777216
      → value_fits (value_of.Scalar (Shared p)) (pointer_kind structs.targets t) ≡ true
      → phased (elements_of structs t) p ≡ p

-- A controlling body is left only where one was entered: a statement of a program that meets the rules is left in the
-- calls in which it was reached, each in as many controlling bodies; and where they are those of the body's begin, the
-- youngest is in one body at least, so that its count is one less than before (UPC 6.6.2).
pub record BodiesAreCounted : Type 0 where
  -- The calls in which a statement is left.
  pub statement :
      (program : Checked) (thread budget : ℕ) (call : Calls) → CallsFit (running program thread budget) call
      → (c : Around) (locals : List CType) (κ : Standing) (s : Statement) → IsFormedType c.result
      → κ.result ≡ c.result → MeetsStatement program c locals s → IsFormedStatement (MakesShaped program) s
      → Brings Flow (λ f. Unit {0}) (run (running program thread budget) call κ s)
  -- What is counted at the end of the body.
  pub counted :
      (s t : Live) (c : PrivateCall) → live.youngest s.calls ≡ Some c → t.calls ≡ (one_more s).calls
      → live.controls t ≡ suc (live.controls s)

-- The elements of each declared shared object have a shape that the program has (UPC 6.5.1.1).
pub record SharedHaveShapes : Type 0 where
  pub each :
      (program : Checked)
      → Each (λ x. is_some (slice_get (start_of program).shapes x.object.shape) ≡ true)
      (start_of program).shared_objects

-- Each local name has the number of an object where the block of its function is open, as it is from the begin of a
-- call on, in the blocks inside it too (C99 6.2.1, 6.2.4, 6.9.1).
pub record NamesAreFound : Type 0 where
  pub found : (n : ℕ) (s : Live) → HasScope s → (number : ℕ) × (live.local_number n s ≡ Some number)
  -- A call has begun, and then the block of its function.
  pub begins : (shapes : List Shape) (s : Live) → HasScope (live.entered 0 shapes (live.call_begun s))
  -- A block is entered.
  pub inside : (from : ℕ) (shapes : List Shape) (s : Live) → HasScope s → HasScope (live.entered from shapes s)

-- Where the initial values of a program's private objects fit their cells, the cells of what a thread begins with hold
-- values that fit them (C99 6.7.8).
pub record BeginningsAreFilled : Type 0 where
  pub each :
      (program : Checked) (replies : List Reply)
      → Each (λ x. fits_cell x.1 (private_cell (start_of program).private_shapes x.0) ≡ true)
      (start_of program).private_initials
      → IsFilled (initial_state program replies).store
