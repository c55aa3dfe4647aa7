-- What a value of a type is (C99 6.2.5, 6.3.2.1), and what a cell holds.
use Rattle.std.specs.Prelude.{◌≡◌, ℕ, Bool, true, false, List, [], ◌∷◌, Option, Some, None}
use Rattle.block_layout.specs.declared.kind.Kind.{Kind}
use Rattle.integers.specs.Integers as integers
use Rattle.upc_values.specs.declared.scalar.Scalar.TheVariants.{Int}
use Rattle.upc_values.specs.declared.scalar.Value.{Value}
use Rattle.upc_values.specs.declared.scalar.Value.TheVariants as value
use Rattle.upc_values.specs.Lists.{Each}
use Rattle.upc_values.specs.Shapes.{value_fits}
use Rattle.upc_types.specs.Types.{CType, Base, Qualified, Integer, Array, Pointer, LockObject, Structs, base_of}
use Rattle.upc_types.specs.Same.{is_lock_object}
use Rattle.upc_types.specs.Cells.{pointer_kind}
use Rattle.typing_rules.specs.Nodes.{Attr}
use Rattle.private_store.specs.declared.frame.Call.{Call}
use Rattle.private_store.specs.Live.{Live, Thing}
use Rattle.thread_steps.specs.States.{State, Res, Val, Over, Unfinished, Doing}
use Rattle.source_meaning.specs.layer.Parts.{is_lvalue}

-- ---- values

-- The value fits a cell of the kind, where there is a kind.
abbrev pub FitsCell : Option Kind → Value → Type 0
FitsCell (Some kind) v = value_fits v kind ≡ true
FitsCell None v = Unit {0}

-- The value is an integer.
abbrev pub IsNumber : Value → Type 0
IsNumber (value.Scalar (Int v)) = Unit {0}
IsNumber v = ⊥

-- A value of a type, seen without its qualifiers: an integer, or a pointer that fits a cell of the type of pointers, an
-- array being the pointer to its first element; any other type says nothing of its values (C99 6.2.5, 6.3.2.1).
abbrev pub IsOfBase : List CType → Base → Value → Type 0
IsOfBase targets (Integer kind) v = IsNumber v
IsOfBase targets (Array t count) v = value_fits v (pointer_kind targets t) ≡ true
IsOfBase targets (Pointer t) v = value_fits v (pointer_kind targets t) ≡ true
IsOfBase targets b v = Unit {0}

-- A value of a type (C99 6.2.5, 6.3.2.1).
abbrev pub IsOf : Structs → CType → Value → Type 0
IsOf structs t v = IsOfBase structs.targets (base_of t) v

-- The place of an object of a type is a pointer to the type (C99 6.5.3.2).
abbrev pub IsPlaceOf : Structs → CType → Value → Type 0
IsPlaceOf structs t v = value_fits v (pointer_kind structs.targets t) ≡ true

-- What an expression gives: the place of an object where it has the form of an lvalue, else a value of its type (C99
-- 6.3.2.1).
abbrev pub IsGivenBy : Structs → Bool → CType → Value → Type 0
IsGivenBy structs true t v = IsPlaceOf structs t v
IsGivenBy structs false t v = IsOf structs t v

-- What an expression with this attribute gives (C99 6.3.2.1).
abbrev pub IsGiven : Structs → Attr → Value → Type 0
IsGiven structs attr v = IsGivenBy structs (is_lvalue attr.form) attr.ctype v

-- ---- types

-- An integer type, seen without its qualifiers, is of a kind of integers (C99 6.2.5).
abbrev pub HasIntegerKind : Base → Type 0
HasIntegerKind (Integer kind) = integers.IsInteger kind
HasIntegerKind b = Unit {0}

-- A type as every declaration forms it: integers are of a kind of integers, an array is shared as its elements are, and
-- a lock stands behind a pointer alone (C99 6.2.5, 6.7.5.2; UPC 6.5.1.1, 7.2.4).
abbrev pub IsFormedType : CType → Type 0
IsFormedType (Qualified (Integer kind) c s x) = integers.IsInteger kind
IsFormedType (Qualified (Array (Qualified e d t y) count) c s x) = (t ≡ s) × (is_lock_object e ≡ false)
IsFormedType (Qualified LockObject c s x) = ⊥
IsFormedType t = Unit {0}

-- ---- cells

-- Each of these values fits the cell at its place.
abbrev pub AreCellValues : List (ℕ × Kind) → List Value → Type 0
AreCellValues [] vs = Unit {0}
AreCellValues (c ∷ cells) [] = Unit {0}
AreCellValues (c ∷ cells) (v ∷ vs) = (value_fits v c.1 ≡ true) × AreCellValues cells vs

-- Each cell of these objects holds a value that fits it.
abbrev pub AreFilled : List Thing → Type 0
AreFilled things = Each (λ x. AreCellValues x.shape.cells x.values) things

-- Each cell of the private objects that live holds a value that fits it.
abbrev pub IsFilled : Live → Type 0
IsFilled s = AreFilled s.objects

-- ---- steps

-- The value of a result passes, the cells of private objects then hold values that fit them, and these are the active
-- calls, each in as many bodies of controlling upc_foralls.
abbrev pub Comes : {A : Type 0} → (A → Type 0) → List Call → Res A → Type 0
Comes V calls (Val v σ) = V v × IsFilled σ.store × (σ.store.calls ≡ calls)
Comes V calls (Over e σ) = Unit {0}
Comes V calls Unfinished = Unit {0}

-- Where the cells of private objects hold values that fit them, whatever value comes of what is done passes, the cells
-- then hold values that fit them, and the active calls are as before, each in as many bodies of controlling
-- upc_foralls (UPC 6.6.2).
pub record Brings (A : Type 0) (V : A → Type 0) (m : Doing A) : Type 0 where
  pub by : (σ : State) → IsFilled σ.store → Comes V σ.store.calls (m σ)
