-- Expressions whose types are formed as declarations form them.
use Rattle.std.specs.Prelude.{◌≡◌, ℕ, ◌<◌, ◌^◌, true, List, [], ◌∷◌, length, Option, Some, None, slice_get}
use Rattle.upc_text.specs.declared.place.Place.{Place}
use Rattle.upc_values.specs.declared.scalar.Value.{Value}
use Rattle.upc_values.specs.declared.library.LibraryCall.{LibraryCall}
use Rattle.upc_values.specs.declared.library.LibraryCall.TheVariants.{GlobalAlloc, AllAlloc, Alloc}
use Rattle.upc_values.specs.Lists.{Each}
use Rattle.upc_types.specs.Types.{CType, Structs, base_of, block_of}
use Rattle.typing_rules.specs.declared.setting.Home.{Home}
use Rattle.typing_rules.specs.declared.setting.Home.TheVariants as home
use Rattle.typing_rules.specs.Nodes.{Attr}
use Rattle.typing_rules.specs.Values.{base_target}
use Rattle.typing_rules.specs.Rules.{has_size}
use Rattle.typed_tree.specs.Elements.{element_shape, number_among}
use Rattle.typed_tree.specs.Programs.{Checked, start_of}
use Rattle.typed_tree.specs.declared.tree.Target.TheVariants as target
use Rattle.typed_tree.specs.Tree.{Expr, Is, ExprKind, Literal, Mythread, Object, Callee, Format, Paren, Subscript}
use Rattle.typed_tree.specs.Tree.{Call, Member, MemberBehind, Step, Address, Dereference, Unary, SizeOf, SizeOfType}
use Rattle.typed_tree.specs.Tree.{Cast, Binary, And, Or, Assign, Compound, Conditional, Comma, Exprs, NoExprs}
use Rattle.typed_tree.specs.Tree.{AndExpr, attr_of, Function}
use Rattle.source_meaning.specs.Types.{cell_kind}
use Rattle.source_meaning.specs.Running.{Running}
use Rattle.source_meaning.specs.Expressions.{Calls}
use Rattle.source_meaning.specs.layer.Parts.{is_lvalue}
use Rattle.meaning_laws.specs.layer.Values.{FitsCell, IsOf, IsFormedType, Brings}

-- An object lies where its type says: among the shared ones exactly where it is shared (UPC 6.5.1).
abbrev pub LiesBy : Home → Option ℕ → Type 0
LiesBy (home.Shared number) (Some block) = Unit {0}
LiesBy (home.Shared number) None = ⊥
LiesBy (home.Private number) (Some block) = ⊥
LiesBy (home.Private number) None = Unit {0}
LiesBy (home.Local number) (Some block) = ⊥
LiesBy (home.Local number) None = Unit {0}

-- The target passes, where there is one.
abbrev pub AtTarget : (CType → Type 0) → Option CType → Type 0
AtTarget P None = Unit {0}
AtTarget P (Some t) = P t

-- The elements that an allocation with a value of this type makes have a size: they are complete, and have no more
-- bytes than an object can have (UPC 7.2.2).
abbrev pub MakesSized : Checked → CType → Type 0
MakesSized program t = AtTarget (λ u. has_size program.structs u ≡ true) (base_target (base_of t))

-- The program has the shape of the leaf elements of this type, by a number below 2^64 (UPC 6.5.1.1).
abbrev pub HasShape : Checked → CType → Type 0
HasShape program t =
    let start = start_of program in
    let number = number_among start.shapes (element_shape start.structs t) in
    (number < length start.shapes) × (number < 2 ^ 64)

-- The program has the shape of the elements that an allocation with a value of this type makes (UPC 7.2.2).
abbrev pub MakesShaped : Checked → CType → Type 0
MakesShaped program t = AtTarget (HasShape program) (base_target (base_of t))

-- The type of a call that allocates passes; any other call may have any type (UPC 7.2.2).
abbrev pub MakesBy : (CType → Type 0) → LibraryCall → CType → Type 0
MakesBy makes GlobalAlloc t = makes t
MakesBy makes AllAlloc t = makes t
MakesBy makes Alloc t = makes t
MakesBy makes c t = Unit {0}

-- Where the type of each call that allocates passes this.
module _ (makes : CType → Type 0) where
  -- Expressions whose types are formed, in which an object lies where its type says, a struct before `.` is an lvalue,
  -- and the type of each call that allocates passes. An operand of a size operator is not evaluated and may be any.
  abbrev mutual
    -- The types in an expression are formed.
    pub IsFormed : Expr → Type 0
    IsFormed (Is at attr kind) = IsFormedType attr.ctype × HasFormedParts attr kind

    -- The types in the parts of an expression are formed.
    pub HasFormedParts : Attr → ExprKind → Type 0
    HasFormedParts attr Literal = Unit {0}
    HasFormedParts attr Mythread = Unit {0}
    HasFormedParts attr (Object home) = LiesBy home (block_of attr.ctype)
    HasFormedParts attr (Callee target) = Unit {0}
    HasFormedParts attr (Format bytes) = Unit {0}
    HasFormedParts attr (Paren a) = IsFormed a
    HasFormedParts attr (Subscript a i) = IsFormed a × IsFormed i
    HasFormedParts attr (Call (target.Function n) args) = AreFormed args
    HasFormedParts attr (Call (target.Library c) args) = MakesBy makes c attr.ctype × AreFormed args
    HasFormedParts attr (Member a index) = (is_lvalue (attr_of a).form ≡ true) × IsFormed a
    HasFormedParts attr (MemberBehind a index) = IsFormed a
    HasFormedParts attr (Step op a) = IsFormed a
    HasFormedParts attr (Address a) = IsFormed a
    HasFormedParts attr (Dereference a) = IsFormed a
    HasFormedParts attr (Unary op a) = IsFormed a
    HasFormedParts attr (SizeOf op a) = Unit {0}
    HasFormedParts attr (SizeOfType op t) = Unit {0}
    HasFormedParts attr (Cast a) = IsFormed a
    HasFormedParts attr (Binary op a b) = IsFormed a × IsFormed b
    HasFormedParts attr (And a b) = IsFormed a × IsFormed b
    HasFormedParts attr (Or a b) = IsFormed a × IsFormed b
    HasFormedParts attr (Assign a b) = IsFormed a × IsFormed b
    HasFormedParts attr (Compound op a b) = IsFormed a × IsFormed b
    HasFormedParts attr (Conditional test a b) = IsFormed test × IsFormed a × IsFormed b
    HasFormedParts attr (Comma parts) = AreFormed parts

    -- The types in some expressions are formed.
    pub AreFormed : Exprs → Type 0
    AreFormed NoExprs = Unit {0}
    AreFormed (AndExpr a more) = IsFormed a × AreFormed more

-- Each argument fits a cell of its parameter's type, while there are both.
abbrev pub AreFor : Structs → List CType → List Value → Type 0
AreFor structs (t ∷ ts) (v ∷ vs) = FitsCell (cell_kind structs t) v × AreFor structs ts vs
AreFor structs (t ∷ ts) [] = Unit {0}
AreFor structs [] vs = Unit {0}

-- A call of a function with arguments that fit its parameters gives a value of the type of its result, and the types of
-- parameters are formed (C99 6.5.2.2).
pub record CallsFit (ρ : Running) (call : Calls) : Type 0 where
  pub formed : (number : ℕ) (f : Function) → slice_get ρ.functions number ≡ Some f → Each IsFormedType f.parameters
  pub gives :
      (number : ℕ) (f : Function) (args : List Value) (at : Place) → slice_get ρ.functions number ≡ Some f
      → AreFor ρ.structs f.parameters args → Brings Value (IsOf ρ.structs f.result) (call number args at)
