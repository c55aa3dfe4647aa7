-- How many bytes of a shared object lie on each thread (UPC 6.5.1.1, 6.5.2.1).
use Rattle.std.specs.Prelude.{ℕ, zero, suc, ◌/◌, ◌%◌, Bool, ◌==◌, if◌then◌else◌}
use Rattle.block_layout.specs.declared.place.ObjectRef.{ObjectRef}

-- How many of the numbers below n pass a test.
abbrev pub count_below : (ℕ → Bool) → ℕ → ℕ
count_below passes zero = 0
count_below passes (suc n) = if passes n then suc (count_below passes n) else count_below passes n

-- The bytes of an object on a thread: those whose block falls to the thread, counted. An indefinite object has all its
-- bytes on its home (UPC 6.5.1.1).
abbrev pub piece_of : ObjectRef → ℕ → ℕ → ℕ
piece_of object thread threads =
    if object.block == 0
    then (if object.home == thread then object.total else 0)
    else count_below (λ x. x / object.block % threads == thread) object.total
