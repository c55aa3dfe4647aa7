-- The values of expressions, and what stands for one where a program is not typed.
use Rattle.std.specs.Prelude.{ℤ, pos, ◌==◌, Bool, true, false, if◌then◌else◌}
use Rattle.std.specs.Ordering.{int_eq}
use Rattle.block_layout.specs.declared.kind.Kind.{Kind}
use Rattle.block_layout.specs.declared.place.LocalPtr.TheVariants as local
use Rattle.block_layout.specs.Pointers.{is_null}
use Rattle.integers.specs.Operators.{truth}
use Rattle.upc_values.specs.declared.scalar.Scalar.{Scalar}
use Rattle.upc_values.specs.declared.scalar.Scalar.TheVariants.{Int, Shared, Lock}
use Rattle.upc_values.specs.declared.scalar.Value.{Value}
use Rattle.upc_values.specs.declared.scalar.Value.TheVariants as value
use Rattle.upc_values.specs.Shapes.{fits_kind, blank, value_fits, blank_value}

-- An integer as a value.
abbrev pub number : ℤ → Value
number v = value.Scalar (Int v)

-- 1 for true, 0 for false (C99 6.5.8, 6.5.9, 6.5.13, 6.5.14).
abbrev pub truth_value : Bool → Value
truth_value b = number (truth b)

-- The integer that a value is; what is none counts as 0.
abbrev pub number_of : Value → ℤ
number_of (value.Scalar (Int v)) = v
number_of v = pos 0

-- The scalar that a value is; a pointer-to-local counts as 0.
abbrev pub scalar_of : Value → Scalar
scalar_of (value.Scalar v) = v
scalar_of (value.Local p) = Int (pos 0)

-- Whether a value compares equal to 0: the integer 0, or a null pointer (C99 6.5.3.3, 6.8.4.1).
abbrev pub is_zero : Value → Bool
is_zero (value.Scalar (Int v)) = int_eq v (pos 0)
is_zero (value.Scalar (Shared p)) = is_null p
is_zero (value.Scalar (Lock l)) = l == 0
is_zero (value.Local local.Null) = true
is_zero (value.Local p) = false

-- What a cell keeps of a value: the value, where it fits the cell's kind; else 0 or null.
abbrev pub kept : Kind → Value → Value
kept kind v = if value_fits v kind then v else blank_value kind

-- What a cell of a shared object keeps of a scalar: the scalar, where it fits the cell's kind; else 0 or null.
abbrev pub kept_scalar : Kind → Scalar → Scalar
kept_scalar kind v = if fits_kind v kind then v else blank kind
