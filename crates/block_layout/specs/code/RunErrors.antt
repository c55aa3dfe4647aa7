-- The numbers of the run errors.
use Rattle.std.specs.Prelude.{ℕ, List, [], ◌∷◌}
use Rattle.block_layout.specs.declared.run_error.TheConstants.{SIGNED_OVERFLOW, ZERO_DIVISOR, SHIFT_RANGE}
use Rattle.block_layout.specs.declared.run_error.TheConstants.{NULL_ACCESS, OUT_OF_OBJECT, PRIVATE_RANGE, NOT_LOCAL}
use Rattle.block_layout.specs.declared.run_error.TheConstants.{POINTER_RANGE, POINTER_PAIR, PHASE_ORDER}
use Rattle.block_layout.specs.declared.run_error.TheConstants.{BARRIER_MISMATCH, BARRIER_IN_FORALL, LOCK_AGAIN}
use Rattle.block_layout.specs.declared.run_error.TheConstants.{LOCK_NOT_HELD, LOCK_FREED, BAD_FREE}
use Rattle.block_layout.specs.declared.run_error.TheConstants.{COLLECTIVE_MISMATCH, CELL_TYPE, DEPTH, PRIVATE_SPACE}
use Rattle.block_layout.specs.declared.run_error.TheConstants.{SHARED_SPACE, LIBRARY_ARGS}

-- All run errors, by number.
abbrev pub run_errors : List ℕ
run_errors =
    SIGNED_OVERFLOW ∷ ZERO_DIVISOR ∷ SHIFT_RANGE ∷ NULL_ACCESS ∷ OUT_OF_OBJECT ∷ PRIVATE_RANGE ∷ NOT_LOCAL
    ∷ POINTER_RANGE ∷ POINTER_PAIR ∷ PHASE_ORDER ∷ BARRIER_MISMATCH ∷ BARRIER_IN_FORALL ∷ LOCK_AGAIN ∷ LOCK_NOT_HELD
    ∷ LOCK_FREED ∷ BAD_FREE ∷ COLLECTIVE_MISMATCH ∷ CELL_TYPE ∷ DEPTH ∷ PRIVATE_SPACE ∷ SHARED_SPACE ∷ LIBRARY_ARGS ∷ []
