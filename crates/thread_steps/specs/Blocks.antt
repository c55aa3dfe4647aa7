-- Blocks and calls, and the bodies of upc_foralls (C99 6.2.4, 6.5.2.2, 6.8.2; UPC 6.6.2).
use Rattle.std.specs.Prelude.{ℕ, suc, pred, ◌+◌, pos, ◌==◌, nat_le, nat_lt, Bool, if◌then◌else◌, List, length}
use Rattle.std.specs.Prelude.{Some, None, Result, Ok, Err}
use Rattle.upc_text.specs.declared.place.Place.{Place}
use Rattle.block_layout.specs.declared.kind.Shape.{Shape}
use Rattle.block_layout.specs.declared.place.LocalPtr.TheVariants as local
use Rattle.block_layout.specs.declared.run_error.TheConstants.{NULL_ACCESS, DEPTH, PRIVATE_SPACE}
use Rattle.block_layout.specs.Floor.{floor_mod}
use Rattle.block_layout.specs.Pointers.{is_null}
use Rattle.upc_values.specs.declared.scalar.Scalar.TheVariants.{Shared}
use Rattle.upc_values.specs.declared.scalar.Value.{Value}
use Rattle.upc_values.specs.declared.scalar.Value.TheVariants as value
use Rattle.private_store.specs.declared.store.TheConstants.{MOST_BYTES, MOST_CALLS}
use Rattle.private_store.specs.Live.{Live, thing_bytes, bytes_in, entered, left, call_begun, returned}
use Rattle.private_store.specs.Live.{controls, recounted}
use Rattle.private_store.specs.Live.{local_number}
use Rattle.thread_steps.specs.States.{Thread, State, Doing, ◌>>=◌, ◌>>◌, give, know, change, fault_if, valued}
use Rattle.thread_steps.specs.Values.{number_of, truth_value}

-- The state in which f has changed the thread's private objects, open blocks and active calls.
abbrev pub with_live : (Live → Live) → State → State
with_live f σ = record σ { store = f σ.store }

-- ---- blocks (C99 6.2.4, 6.8.2)

-- A block begins, and its objects are made anew, before which `from` names of its function are in scope; too many bytes
-- are run error 20 (C99 6.2.4, 6.8.2).
unfoldable pub open_block : (from : ℕ) → List Shape → Place → Doing (Unit {0})
open_block from shapes at = do
  fault_if (λ σ. nat_lt MOST_BYTES (thing_bytes σ.store.objects + bytes_in shapes)) PRIVATE_SPACE at
  change (with_live (entered from shapes))

-- The youngest block ends, and its objects with it (C99 6.2.4).
unfoldable pub close_block : Doing (Unit {0})
close_block = change (with_live left)

-- The pointer to the beginning of the object that the n-th local name in scope stands for; null where there is none
-- (C99 6.2.1, 6.2.4).
unfoldable pub local_object : ℕ → Doing Value
local_object n = know (λ σ.
    elim (local_number n σ.store) [ Some m ↦ value.Local (local.Private m (pos 0)) | None ↦ value.Local local.Null ])

-- ---- calls (C99 6.5.2.2)

-- A call begins, in as many controlling bodies as its caller; one too many is run error 19 (C99 6.5.2.2).
unfoldable pub begin_call : Place → Doing (Unit {0})
begin_call at = do
  fault_if (λ σ. nat_le MOST_CALLS (length σ.store.calls)) DEPTH at
  change (with_live call_begun)

-- The youngest call ends, with its blocks and their objects (C99 6.2.4, 6.8.6.4).
unfoldable pub end_call : Doing (Unit {0})
end_call = change (with_live returned)

-- ---- the bodies of upc_foralls (UPC 6.6.2)

-- The thread enters the body of a upc_forall whose affinity counts: the youngest call stands in one more (UPC 6.6.2).
unfoldable pub control : Doing (Unit {0})
control = change (with_live (λ s. recounted (suc (controls s)) s))

-- The thread leaves the body of a upc_forall whose affinity counts: the youngest call stands in one fewer (UPC 6.6.2).
unfoldable pub release : Doing (Unit {0})
release = change (with_live (λ s. recounted (pred (controls s)) s))

module _ (τ : Thread) where
  -- Whether a turn with this affinity is the thread's: that of the thread of a pointer's target, or of the thread with
  -- that number, modulo the number of threads; a null pointer is run error 4 (UPC 6.6.2).
  abbrev pub has_turn : Value → Result Bool ℕ
  has_turn (value.Scalar (Shared p)) = if is_null p then Err NULL_ACCESS else Ok (p.thread == τ.number)
  has_turn v = Ok (floor_mod (number_of v) τ.threads == τ.number)

  -- 1 where a turn with this affinity is the thread's, else 0 (UPC 6.6.2).
  unfoldable pub mine : Place → Value → Doing Value
  mine at v = do
    b ← valued at (has_turn v)
    give (truth_value b)
