-- Parts of definitions that code and proofs speak of by a name of their own.
use Rattle.std.specs.Prelude.{ℕ, nat_lt, Bool, not, ◌&&◌, List, length, is_some}
use Rattle.upc_types.specs.Types.{CType, Qualified, Completed}
use Rattle.upc_types.specs.Same.{is_lock_object}
use Rattle.upc_types.specs.Layout.{private_or_not, known_in}
use Rattle.upc_types.specs.Cells.{number_of}

-- Whether this target of pointers, or one that is alike, has a number.
abbrev pub is_noted : List CType → CType → Bool
is_noted targets t = nat_lt (number_of targets t) (length targets)

-- Whether a pointer to this target leads to a private object: neither to a shared object nor to a lock.
abbrev pub is_private_target : CType → Bool
is_private_target (Qualified b c s x) = not (is_some s) && not (is_lock_object b)

-- Whether an object of the struct with this number holds a pointer to a private object.
abbrev pub private_in : List Completed → ℕ → Bool
private_in completed number = private_or_not (known_in completed number)
