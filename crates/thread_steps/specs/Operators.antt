-- Operators on integers, and conversions (C99 6.3, 6.5; UPC 6.4.3).
use Rattle.std.specs.Prelude.{ℕ, pos, Result, Ok}
use Rattle.upc_text.specs.declared.place.Place.{Place}
use Rattle.block_layout.specs.declared.kind.Kind.{Kind}
use Rattle.block_layout.specs.declared.place.LocalPtr.TheVariants as local
use Rattle.block_layout.specs.Pointers.{null}
use Rattle.integers.specs.declared.operator.BinOp.{BinOp}
use Rattle.integers.specs.declared.operator.UnOp.{UnOp}
use Rattle.integers.specs.Integers.{converted}
use Rattle.integers.specs.Operators.{binary_of, unary_of}
use Rattle.shared_pointers.specs.Casts.{local_of}
use Rattle.upc_values.specs.declared.scalar.Scalar.TheVariants.{Shared, Lock}
use Rattle.upc_values.specs.declared.scalar.Value.{Value}
use Rattle.upc_values.specs.declared.scalar.Value.TheVariants as value
use Rattle.upc_values.specs.Views.{from_phase_0}
use Rattle.thread_steps.specs.declared.cast.CastTo.{CastTo}
use Rattle.thread_steps.specs.declared.cast.CastTo.TheVariants as to
use Rattle.thread_steps.specs.States.{Thread, Doing, ◌>>=◌, give, valued}
use Rattle.thread_steps.specs.Values.{number, number_of}
use Rattle.thread_steps.specs.Pointers.{local_value}

-- A binary operator on integers: the left operand at the kind at which it works, the right one at its own (C99 6.5.5 to
-- 6.5.12). In a typed program they are values of these kinds once the usual conversions are done.
unfoldable pub operate : BinOp → (left right : Kind) → Place → Value → Value → Doing Value
operate op left right at a b = do
  v ← valued at (binary_of op left (converted left (number_of a)) (converted right (number_of b)))
  give (number v)

-- A unary operator on an integer of a kind (C99 6.5.3.3).
unfoldable pub apply : UnOp → Kind → Place → Value → Doing Value
apply op kind at a = do
  v ← valued at (unary_of op kind (converted kind (number_of a)))
  give (number v)

module _ (τ : Thread) where
  -- The value that a conversion gives, or its run error (C99 6.3, 6.5.4; UPC 6.4.3).
  abbrev pub cast_value : CastTo → Value → Result Value ℕ
  cast_value (to.Integer kind) v = Ok (number (converted kind (number_of v)))
  cast_value to.Shared (value.Scalar (Shared p)) = Ok (value.Scalar (Shared p))
  cast_value to.Shared v = Ok (value.Scalar (Shared null))
  cast_value to.OtherBlock (value.Scalar (Shared p)) = Ok (value.Scalar (Shared (from_phase_0 p)))
  cast_value to.OtherBlock v = Ok (value.Scalar (Shared null))
  cast_value to.Local (value.Scalar (Shared p)) = local_value (local_of p τ.number)
  cast_value to.Local (value.Local p) = Ok (value.Local p)
  cast_value to.Local v = Ok (value.Local local.Null)
  cast_value to.Lock (value.Scalar (Lock l)) = Ok (value.Scalar (Lock l))
  cast_value to.Lock v = Ok (value.Scalar (Lock 0))
  cast_value to.Nothing v = Ok (number (pos 0))

  -- A value is converted, or the conversion is a run error at this place (C99 6.3, 6.5.4; UPC 6.4.3).
  unfoldable pub cast : CastTo → Place → Value → Doing Value
  cast into at v = valued at (cast_value into v)
