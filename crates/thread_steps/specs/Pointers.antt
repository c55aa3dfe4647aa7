-- Pointers of both kinds (C99 6.5.6, 6.5.8, 6.5.9; UPC 6.4.2 to 6.4.4).
use Rattle.std.specs.Prelude.{ℕ, ℤ, pos, ◌+ℤ◌, ◌-ℤ◌, ◌*ℤ◌, ◌==◌, nat_lt, Bool, true, false, ◌&&◌, ◌||◌, if◌then◌else◌}
use Rattle.std.specs.Prelude.{int_le, int_lt, Result, Ok, Err}
use Rattle.std.specs.Ordering.{int_eq}
use Rattle.upc_text.specs.declared.place.Place.{Place}
use Rattle.block_layout.specs.declared.place.SharedPtr.{SharedPtr}
use Rattle.block_layout.specs.declared.place.LocalPtr.{LocalPtr}
use Rattle.block_layout.specs.declared.place.LocalPtr.TheVariants as local
use Rattle.block_layout.specs.declared.kind.Kind.TheVariants as kind
use Rattle.block_layout.specs.declared.run_error.TheConstants.{NULL_ACCESS, POINTER_RANGE, POINTER_PAIR}
use Rattle.block_layout.specs.declared.run_error.TheConstants.{OUT_OF_OBJECT, PRIVATE_RANGE}
use Rattle.block_layout.specs.Floor.{floor_div}
use Rattle.block_layout.specs.Places.{in_range}
use Rattle.block_layout.specs.Pointers.{same_object, same_target}
use Rattle.integers.specs.declared.operator.BinOp.{BinOp}
use Rattle.integers.specs.Operators.{binary_of}
use Rattle.shared_pointers.specs.Steps as step
use Rattle.shared_pointers.specs.Casts.{member_of}
use Rattle.upc_values.specs.declared.scalar.Scalar.TheVariants.{Int, Shared, Lock}
use Rattle.upc_values.specs.declared.scalar.Value.{Value}
use Rattle.upc_values.specs.declared.scalar.Value.TheVariants as value
use Rattle.thread_steps.specs.declared.elements.Elements.{Elements}
use Rattle.thread_steps.specs.States.{Thread, Doing, ◌>>=◌, give, skip, choose, fault, valued}
use Rattle.thread_steps.specs.Values.{number, truth_value, is_zero}

-- The pointer, with phase 0 where its own phase is none of the block; in a typed program it always is one.
abbrev pub phased : Elements → SharedPtr → SharedPtr
phased ε p = if p.phase == 0 || nat_lt p.phase ε.block then p else record p { phase = 0 }

-- The pointer-to-shared that a computation gives, as a value, or the code of its run error.
abbrev pub shared_value : Result SharedPtr ℕ → Result Value ℕ
shared_value (Ok p) = Ok (value.Scalar (Shared p))
shared_value (Err code) = Err code

-- The pointer-to-local that a computation gives, as a value, or the code of its run error.
abbrev pub local_value : Result LocalPtr ℕ → Result Value ℕ
local_value (Ok p) = Ok (value.Local p)
local_value (Err code) = Err code

-- A pointer-to-local with this offset, where the offset is in range; else run error 8.
abbrev pub ranged : LocalPtr → ℤ → Result LocalPtr ℕ
ranged p offset = if in_range offset then Ok p else Err POINTER_RANGE

-- The pointer-to-local so many bytes after another, where its offset is in range; run error 4 of null (C99 6.5.6).
abbrev pub local_moved : LocalPtr → ℤ → Result LocalPtr ℕ
local_moved local.Null bytes = Err NULL_ACCESS
local_moved (local.Private object offset) bytes = ranged (local.Private object (offset +ℤ bytes)) (offset +ℤ bytes)
local_moved (local.Shared object thread offset) bytes = ranged (local.Shared object thread (offset +ℤ bytes))
    (offset +ℤ bytes)

-- How many elements of a size lie between two offsets, where it is a whole number of them; else run error 9.
abbrev pub elements_between : ℤ → ℤ → ℕ → Result ℤ ℕ
elements_between q p size =
    let x = floor_div (q -ℤ p) size in
    if int_eq (q -ℤ p) (x *ℤ pos size) then Ok x else Err POINTER_PAIR

-- The difference of two pointers-to-local, which is run error 9 unless they lie in one object and whole elements apart
-- (C99 6.5.6).
abbrev pub local_difference : LocalPtr → LocalPtr → ℕ → Result ℤ ℕ
local_difference (local.Private n q) (local.Private m p) size = if n == m then elements_between q p size else Err
    POINTER_PAIR
local_difference (local.Shared a t q) (local.Shared b u p) size =
    if same_object a b && t == u then elements_between q p size else Err POINTER_PAIR
local_difference q p size = Err POINTER_PAIR

-- Whether two pointers-to-local are equal (C99 6.5.9).
abbrev pub same_local : LocalPtr → LocalPtr → Bool
same_local local.Null local.Null = true
same_local (local.Private n q) (local.Private m p) = n == m && int_eq q p
same_local (local.Shared a t q) (local.Shared b u p) = same_object a b && t == u && int_eq q p
same_local q p = false

-- Whether two values are equal as pointers. An integer beside a pointer is the constant 0, which equals a null one
-- (C99 6.5.9); two pointers of different kinds are not equal.
abbrev pub same_value : Value → Value → Bool
same_value (value.Scalar (Int i)) p = is_zero p
same_value p (value.Scalar (Int i)) = is_zero p
same_value (value.Scalar (Shared q)) (value.Scalar (Shared p)) = same_target q p
same_value (value.Scalar (Lock m)) (value.Scalar (Lock n)) = m == n
same_value (value.Local q) (value.Local p) = same_local q p
same_value q p = false

-- An index lies in a row of an array of arrays, which has so many elements; else a run error of the pointer's object,
-- which is a shared or a private one (C99 6.5.2.1, 6.5.6).
abbrev pub in_row : (count : ℕ) → Place → Value → ℤ → Doing (Unit {0})
in_row count at p i =
    choose (int_le (pos 0) i && int_lt i (pos count)) skip
    (fault (elim p [ value.Scalar v ↦ OUT_OF_OBJECT | value.Local q ↦ PRIVATE_RANGE ]) at)

module _ (τ : Thread) where
  -- The pointer i elements after another; what is no pointer counts as null (C99 6.5.6, UPC 6.4.2).
  abbrev pub advanced : Elements → ℤ → Value → Result Value ℕ
  advanced ε i (value.Scalar (Shared p)) = shared_value (step.advanced (phased ε p) i ε.block ε.size τ.threads)
  advanced ε i (value.Local p) = local_value (local_moved p (i *ℤ pos ε.size))
  advanced ε i v = Err NULL_ACCESS

  -- The pointer to the member at this offset of the struct to which a pointer leads (C99 6.5.2.3, UPC 6.4.4).
  abbrev pub member_behind : ℕ → Value → Result Value ℕ
  member_behind offset (value.Scalar (Shared p)) = shared_value (member_of p offset)
  member_behind offset (value.Local p) = local_value (local_moved p (pos offset))
  member_behind offset v = Err NULL_ACCESS

  -- How many elements q lies after p; what are not two pointers of one kind have no difference (C99 6.5.6, UPC 6.4.2).
  abbrev pub apart : Elements → (q p : Value) → Result ℤ ℕ
  apart ε (value.Scalar (Shared q)) (value.Scalar (Shared p)) = step.difference (phased ε q) (phased ε p) ε.block
      ε.size τ.threads
  apart ε (value.Local q) (value.Local p) = local_difference q p ε.size
  apart ε q p = Err POINTER_PAIR

  -- The value of `p + i` (C99 6.5.6, UPC 6.4.2).
  unfoldable pub advance : Elements → Place → Value → ℤ → Doing Value
  advance ε at p i = valued at (advanced ε i p)

  -- The place that `p->m` names (C99 6.5.2.3, UPC 6.4.4).
  unfoldable pub member : ℕ → Place → Value → Doing Value
  member offset at p = valued at (member_behind offset p)

  -- The value of `q - p` (C99 6.5.6, UPC 6.4.2).
  unfoldable pub difference : Elements → Place → Value → Value → Doing Value
  difference ε at q p = do
    x ← valued at (apart ε q p)
    give (number x)

  -- The value of `q < p`, `q > p`, `q <= p` or `q >= p`, which compares their difference with 0 (C99 6.5.8, UPC 6.4.2).
  unfoldable pub order : BinOp → Elements → Place → Value → Value → Doing Value
  order op ε at q p = do
    x ← valued at (apart ε q p)
    y ← valued at (binary_of op kind.Long x (pos 0))
    give (number y)

  -- The value of `q == p` (C99 6.5.9, UPC 6.4.2).
  unfoldable pub same : Value → Value → Doing Value
  same q p = give (truth_value (same_value q p))
