-- What operators take: values for which no default stands.
use Rattle.std.specs.Prelude.{◌≡◌, Bool, true, List, [], ◌∷◌, Option, Some, None, is_some}
use Rattle.block_layout.specs.declared.kind.Kind.{Kind}
use Rattle.integers.specs.declared.operator.BinOp.{BinOp}
use Rattle.integers.specs.declared.operator.BinOp.TheVariants as op
use Rattle.integers.specs.declared.operator.UnOp.{UnOp}
use Rattle.integers.specs.declared.operator.UnOp.TheVariants as un
use Rattle.upc_values.specs.declared.scalar.Scalar.TheVariants.{Int, Shared, Lock}
use Rattle.upc_values.specs.declared.scalar.Value.{Value}
use Rattle.upc_values.specs.declared.scalar.Value.TheVariants as value
use Rattle.upc_types.specs.Types.{CType, Structs, base_of}
use Rattle.upc_types.specs.Layout.{base_within}
use Rattle.upc_types.specs.Cells.{leaf_base}
use Rattle.typing_rules.specs.declared.library.LibraryParameter.{LibraryParameter}
use Rattle.typing_rules.specs.declared.library.LibraryParameter.TheVariants as parameter
use Rattle.typed_tree.specs.Tree.{Exprs, NoExprs, AndExpr}
use Rattle.typed_tree.specs.Programs.{Checked}
use Rattle.thread_steps.specs.declared.cast.CastTo.{CastTo}
use Rattle.thread_steps.specs.declared.cast.CastTo.TheVariants as to
use Rattle.source_meaning.specs.Types.{integer_of}
use Rattle.source_meaning.specs.Expressions.{type_of}
use Rattle.meaning_laws.specs.layer.Values.{IsNumber, IsOf}

-- The value is a pointer that can be stepped: a pointer-to-shared or a pointer-to-local.
abbrev pub Leads : Value → Type 0
Leads (value.Scalar (Shared p)) = Unit {0}
Leads (value.Local p) = Unit {0}
Leads v = ⊥

-- Both values are pointers-to-shared, or both pointers-to-local.
abbrev pub LeadAlike : Value → Value → Type 0
LeadAlike (value.Scalar (Shared p)) (value.Scalar (Shared q)) = Unit {0}
LeadAlike (value.Local p) (value.Local q) = Unit {0}
LeadAlike v w = ⊥

-- The value is a pointer: a pointer-to-shared, a pointer-to-local or a lock pointer.
abbrev pub Points : Value → Type 0
Points (value.Scalar (Int v)) = ⊥
Points v = Unit {0}

-- Both values are pointers-to-shared, or both pointers-to-local, or both lock pointers.
abbrev pub PointAlike : Value → Value → Type 0
PointAlike (value.Scalar (Lock l)) (value.Scalar (Lock m)) = Unit {0}
PointAlike v w = LeadAlike v w

-- The value is an integer, and its type has a kind of integers.
abbrev pub Counts : Option Kind → Value → Type 0
Counts (Some kind) v = IsNumber v
Counts None v = ⊥

-- The value is one that a unary operator takes, where its type has this kind of integers: for `!` any, for another
-- operator an integer (C99 6.5.3.3).
abbrev pub IsOperand : UnOp → Option Kind → Value → Type 0
IsOperand un.Not kind v = Unit {0}
IsOperand o kind v = Counts kind v

-- Two pointers are such as an operator takes: for an equality of one kind, for a difference or an order both shared or
-- both local; any other operator takes none (C99 6.5.6, 6.5.8, 6.5.9).
abbrev pub ArePointers : BinOp → Value → Value → Type 0
ArePointers op.Subtract x y = LeadAlike x y
ArePointers op.Less x y = LeadAlike x y
ArePointers op.Greater x y = LeadAlike x y
ArePointers op.LessEqual x y = LeadAlike x y
ArePointers op.GreaterEqual x y = LeadAlike x y
ArePointers op.Equal x y = PointAlike x y
ArePointers op.NotEqual x y = PointAlike x y
ArePointers o x y = ⊥

-- A pointer and an integer are such as an operator takes: for a sum or a difference a pointer that can be stepped, for
-- an equality any; any other operator takes none (C99 6.5.6, 6.5.9).
abbrev pub IsStepped : BinOp → Value → Value → Type 0
IsStepped op.Add p i = Leads p × IsNumber i
IsStepped op.Subtract p i = Leads p × IsNumber i
IsStepped op.Equal p i = Points p × IsNumber i
IsStepped op.NotEqual p i = Points p × IsNumber i
IsStepped o p i = ⊥

-- An integer and a pointer are such as an operator takes: as a pointer and an integer, but for a difference (C99 6.5.6,
-- 6.5.9).
abbrev pub IsSteppedBy : BinOp → Value → Value → Type 0
IsSteppedBy op.Add i p = Leads p × IsNumber i
IsSteppedBy op.Equal i p = Points p × IsNumber i
IsSteppedBy op.NotEqual i p = Points p × IsNumber i
IsSteppedBy o i p = ⊥

-- Two values are such as a binary operator takes, by the target of each that is a pointer and the kind of each that is
-- an integer (C99 6.5.5 to 6.5.12).
abbrev pub AreOperands : BinOp → (left right : Option CType) → (j k : Option Kind) → Value → Value → Type 0
AreOperands o (Some t) (Some u) j k x y = ArePointers o x y
AreOperands o (Some t) None j k x y = IsStepped o x y
AreOperands o None (Some u) j k x y = IsSteppedBy o x y
AreOperands o None None j k x y = Counts j x × Counts k y

-- The value says whose turn it is: an integer, or a pointer-to-shared (UPC 6.6.2).
abbrev pub HasAffinity : Value → Type 0
HasAffinity (value.Scalar (Int v)) = Unit {0}
HasAffinity (value.Scalar (Shared p)) = Unit {0}
HasAffinity v = ⊥

-- A conversion takes the value, where `zero` says that it is that of the constant 0: into an integer an integer, into a
-- pointer a pointer of a kind that converts into it or the constant 0, and into void any (C99 6.3.2.3, 6.5.4; UPC
-- 6.4.3).
abbrev pub IsTaken : (zero : Bool) → CastTo → Value → Type 0
IsTaken zero (to.Integer kind) v = IsNumber v
IsTaken zero to.Nothing v = Unit {0}
IsTaken zero to.Shared (value.Scalar (Shared p)) = Unit {0}
IsTaken zero to.OtherBlock (value.Scalar (Shared p)) = Unit {0}
IsTaken zero to.Local (value.Scalar (Shared p)) = Unit {0}
IsTaken zero to.Local (value.Local p) = Unit {0}
IsTaken zero to.Lock (value.Scalar (Lock l)) = Unit {0}
IsTaken zero into (value.Scalar (Int v)) = zero ≡ true
IsTaken zero into v = ⊥

-- A value is one that a parameter of the library has (UPC 7.2, 7.3).
abbrev pub IsArgument : LibraryParameter → Value → Type 0
IsArgument parameter.SharedPointer (value.Scalar (Shared p)) = Unit {0}
IsArgument parameter.PrivatePointer (value.Local p) = Unit {0}
IsArgument parameter.LockPointer (value.Scalar (Lock l)) = Unit {0}
IsArgument parameter.Size (value.Scalar (Int v)) = Unit {0}
IsArgument parameter.Int (value.Scalar (Int v)) = Unit {0}
IsArgument parameter.NoFunction (value.Scalar (Int v)) = Unit {0}
IsArgument x v = ⊥

-- Values are those that the parameters of the library have, as many and in order.
abbrev pub AreArguments : List LibraryParameter → List Value → Type 0
AreArguments [] [] = Unit {0}
AreArguments (x ∷ xs) (v ∷ vs) = IsArgument x v × AreArguments xs vs
AreArguments xs vs = ⊥

-- A value of this type is an integer, and the type has a kind of integers, which is promoted (C99 6.3.1.1).
pub record IsPromoted (structs : Structs) (t : CType) : Type 0 where
  pub kind : (k : Kind) × (integer_of t ≡ Some k)
  pub value : (v : Value) → IsOf structs t v → IsNumber v

-- So is the type of each of these expressions.
abbrev pub ArePromoted : Structs → Exprs → Type 0
ArePromoted structs NoExprs = Unit {0}
ArePromoted structs (AndExpr a more) = IsPromoted structs (type_of a) × ArePromoted structs more

-- All of these values are integers.
abbrev pub AllNumbers : List Value → Type 0
AllNumbers [] = Unit {0}
AllNumbers (v ∷ vs) = IsNumber v × AllNumbers vs

-- The leaf elements of what has this type have a layout, so that none counts as one byte (C99 6.5.3.4).
abbrev pub IsLaid : Checked → CType → Type 0
IsLaid program t = is_some (base_within program.structs.completed (leaf_base (base_of t))) ≡ true

-- So have those of a target, where there is one.
abbrev pub LeadsLaid : Checked → Option CType → Type 0
LeadsLaid program None = Unit {0}
LeadsLaid program (Some t) = IsLaid program t
