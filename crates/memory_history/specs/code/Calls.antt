-- What a collective call asks of the memory, as the program reads it.
use Rattle.std.specs.Prelude.{ℕ, ◌==◌, nat_lt, unsigned_abs, Bool, false, ◌&&◌, ◌||◌, is_some, cond, Option, Some, None}
use Rattle.block_layout.specs.declared.place.SharedPtr.{SharedPtr}
use Rattle.upc_values.specs.declared.scalar.Scalar.{Scalar}
use Rattle.upc_values.specs.declared.scalar.Scalar.TheVariants.{Int, Shared}
use Rattle.upc_values.specs.Calls.{Call, Allocates, Makes_lock, Frees, Frees_lock, Copies, Permutes, Reduces}
use Rattle.upc_values.specs.Calls.{Reduces_prefixes, Other, is_size, is_int}
use Rattle.memory_history.specs.declared.calls.Asked.{Asked}
use Rattle.memory_history.specs.declared.calls.Asked.TheVariants as asks

-- What a call asks for.
abbrev pub asked_of : Call → Asked
asked_of (Allocates n b s) = asks.Allocates n b s
asked_of Makes_lock = asks.MakesLock
asked_of (Frees p) = asks.Frees p
asked_of (Frees_lock l) = asks.FreesLock l
asked_of (Copies w dst src n f) = asks.Uses dst src
asked_of (Permutes dst src perm n f) = asks.UsesThree dst src perm
asked_of (Reduces dst src op n b k f) = asks.Uses dst src
asked_of (Reduces_prefixes dst src op n b k f) = asks.Uses dst src
asked_of Other = asks.Nothing

-- What was read, if anything was.
abbrev pub or_nothing : Option Asked → Asked
or_nothing (Some a) = a
or_nothing None = asks.Nothing

-- A value's pointer, if it is one.
abbrev pub shared_in : Scalar → Option SharedPtr
shared_in (Shared p) = Some p
shared_in v = None

-- A value's size_t, if it is one.
abbrev pub size_in : Scalar → Option ℕ
size_in (Int v) = cond (is_size v) (Some (unsigned_abs v)) None
size_in v = None

-- A value is an int.
abbrev pub has_int : Scalar → Bool
has_int (Int v) = is_int v
has_int v = false

-- A value is the number of a type of elements.
abbrev pub has_kind : Scalar → Bool
has_kind (Int v) = is_size v && nat_lt (unsigned_abs v) 8
has_kind v = false

-- Five values are the numbers of a reduction.
abbrev pub are_numbers : (op count block kind flags : Scalar) → Bool
are_numbers op count block kind flags =
    has_int op && (is_some (size_in count) && (is_some (size_in block) && (has_kind kind && has_int flags)))

-- What a reduction over two pointers asks for, if there are both and its numbers are such.
abbrev pub reduced : ℕ → Option SharedPtr → Option SharedPtr → Bool → Asked
reduced c (Some dst) (Some src) numbers = cond (numbers && ((c == 11) || (c == 12))) (asks.Uses dst src) asks.Nothing
reduced c dst src numbers = asks.Nothing
