-- When locations and scalars are the same, and the value that a cell begins with.
use Rattle.std.specs.Prelude.{pos, ◌==◌, Bool, false, ◌&&◌, Option, Some, None}
use Rattle.std.specs.Ordering.{int_eq}
use Rattle.block_layout.specs.declared.place.Loc.{Loc}
use Rattle.block_layout.specs.Pointers.{same_pointer}
use Rattle.upc_values.specs.declared.scalar.Scalar.{Scalar}
use Rattle.upc_values.specs.declared.scalar.Scalar.TheVariants.{Int, Shared, Lock}

-- Two locations are the same.
abbrev pub same_loc : Loc → Loc → Bool
same_loc l k = (l.object == k.object) && ((l.thread == k.thread) && (l.offset == k.offset))

-- Two scalars are the same.
abbrev pub same_scalar : Scalar → Scalar → Bool
same_scalar (Int a) (Int b) = int_eq a b
same_scalar (Shared p) (Shared q) = same_pointer p q
same_scalar (Lock a) (Lock b) = a == b
same_scalar v w = false

-- The 0 with which an object without an initialiser begins (C99 6.7.8).
abbrev pub zero : Scalar
zero = Int (pos 0)

-- The first value, where there is one; else the second.
abbrev pub value_or : Option Scalar → Scalar → Scalar
value_or (Some v) d = v
value_or None d = d
