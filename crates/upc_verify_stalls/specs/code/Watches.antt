-- How far a walk over the history has come with the Stalls of the threads.
use Rattle.std.specs.Prelude.{ℕ, ◌≡◌, ◌≤◌, ◌<◌, true, List, [], ◌∷◌, ◌++◌, length, map, slice_index_or}
use Rattle.upc_values.specs.declared.journal.Entry.{Entry}
use Rattle.upc_values.specs.Lists.{Each, Pairwise}
use Rattle.upc_values.specs.Drain.{entries_of}
use Rattle.upc_values.specs.Openings.{Opening}
use Rattle.upc_values.specs.Strands.{may_wait}
use Rattle.upc_verify_stalls.specs.declared.points.Point.{Point}
use Rattle.upc_verify_stalls.specs.declared.walk.Watch.{Watch}
use Rattle.upc_verify_stalls.specs.code.Points.{waiting_of, WaitsAfter, WaitsOnce}

-- The Stalls of a record: ever more entries stand before them, and a Lock or a Wait after each.
pub record ArePoints (points : List Point) : Type 0 where
  pub ascend : Pairwise (λ p q. p.entries < q.entries) points
  pub wait : Each (λ p. may_wait p.action.now ≡ true) points

-- The walk has passed this front of the history with thread t: those of its Stalls that were found justified are so.
pub record IsPassed (o : Opening) (t : ℕ) (stalls : List Point) (front : List Entry) (w : Watch) : Type 0 where
  pub points : ArePoints stalls
  pub passed : w.passed ≡ length (entries_of t front)
  pub within : w.justified ≤ length stalls
  pub justified : (i : ℕ) (d : Point) → i < w.justified → WaitsOnce o t front (waiting_of (slice_index_or stalls i d))

-- The walk has passed this front, and is to look: no shorter front justifies the next Stall.
pub record IsDue (o : Opening) (t : ℕ) (points : List Point) (front : List Entry) (w : Watch) : Type 0 where
  pub at : IsPassed o t points front w
  pub before : (d : Point) (shorter rest : List Entry) (e : Entry) → w.justified < length points
      → front ≡ shorter ++ e ∷ rest → WaitsAfter o t (waiting_of (slice_index_or points w.justified d)) shorter → ⊥

-- The walk has passed this front, and has looked: neither it nor a shorter one justifies the next Stall.
pub record IsLooked (o : Opening) (t : ℕ) (points : List Point) (front : List Entry) (w : Watch) : Type 0 where
  pub at : IsPassed o t points front w
  pub before : (d : Point) (shorter rest : List Entry) → w.justified < length points → front ≡ shorter ++ rest
      → WaitsAfter o t (waiting_of (slice_index_or points w.justified d)) shorter → ⊥

-- The walk has passed this front with all threads, and is to look.
pub record AreDue (o : Opening) (points : List (List Point)) (front : List Entry) (watches : List Watch) : Type 0 where
  pub many : length watches ≡ length points
  pub each : (t : ℕ) (d : Watch) → t < length points
      → IsDue o t (slice_index_or points t []) front (slice_index_or watches t d)

-- The walk has passed this front with all threads, and has looked.
pub record AreLooked (o : Opening) (points : List (List Point)) (front : List Entry)
    (watches : List Watch) : Type 0 where
  pub many : length watches ≡ length points
  pub each : (t : ℕ) (d : Watch) → t < length points
      → IsLooked o t (slice_index_or points t []) front (slice_index_or watches t d)

-- All Stalls of a thread were found justified.
abbrev pub IsDone : List (List Point) → List Watch → ℕ → Type 0
IsDone points watches t =
    (d : Watch) → length (slice_index_or points t []) ≤ (slice_index_or watches t d).justified

-- For each Stall of a thread, its action has no lawful reply after some front of the history.
abbrev pub StallsWait : Opening → List Entry → List (List Point) → ℕ → Type 0
StallsWait o history points t = Each (WaitsOnce o t history) (map waiting_of (slice_index_or points t []))
