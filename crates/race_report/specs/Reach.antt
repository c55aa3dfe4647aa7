-- What comes before what in a run: in program order, over barriers, locks and strict accesses.
use Rattle.std.specs.Prelude.{ℕ, ◌≡◌, ◌<◌, ◌==◌, true, ◌&&◌, List, filter, Some, slice_get}
use Rattle.block_layout.specs.declared.place.Loc.{Loc}
use Rattle.upc_values.specs.declared.scalar.Scalar.{Scalar}
use Rattle.upc_values.specs.declared.action.Action.TheVariants as act
use Rattle.upc_values.specs.declared.journal.Entry.{Entry}
use Rattle.upc_values.specs.declared.journal.Journal.{Journal}
use Rattle.upc_values.specs.Lists.{Has, Precedes}
use Rattle.upc_values.specs.History.{is_notify, is_wait}
use Rattle.upc_values.specs.Locks.{takes, lets_go}
use Rattle.upc_values.specs.Operations.{Operation, accesses}
use Rattle.upc_values.specs.Orders.{IsOf, rank}

-- The notifies of a thread in a history, in order (UPC 6.6.1).
abbrev pub notifies_of : ℕ → List Entry → List Entry
notifies_of t h = filter (λ e. (e.thread == t) && is_notify e.action) h

-- The waits of a thread in a history, in order (UPC 6.6.1).
abbrev pub waits_of : ℕ → List Entry → List Entry
waits_of t h = filter (λ e. (e.thread == t) && is_wait e.action) h

-- One entry of a history lets another go on: the p-th notify of a thread the p-th wait of each thread (UPC 6.6.1), an
-- unlock each later taking of its lock (UPC 7.2.4), and a strict write each later strict read of its location
-- (UPC Appendix B).
pub data Releases (h : List Entry) : Entry → Entry → Type 0 where
  At_barrier :
      (p : ℕ) (e f : Entry) → slice_get (notifies_of e.thread h) p ≡ Some e → slice_get (waits_of f.thread h) p ≡ Some f
      → Releases h e f
  By_lock :
      (l : ℕ) (e f : Entry) → Precedes h e f → lets_go l e.action e.reply ≡ true → takes l f.action f.reply ≡ true
      → Releases h e f
  By_value :
      (l : Loc) (v : Scalar) (e f : Entry) → Precedes h e f → e.action ≡ act.Write true l v → f.action ≡ act.Read l true
      → Releases h e f

-- One operation of a journal comes before another: in its thread's program order, where its entry lets the other's go
-- on, and what follows by transitivity.
pub data ComesBefore (j : Journal) : Operation → Operation → Type 0 where
  As_written : (a b : Operation) → IsOf j a → IsOf j b → a.thread ≡ b.thread → rank a < rank b → ComesBefore j a b
  Across :
      (e f : Entry) (a b : Operation) → Releases j.history e f → Has (accesses e) a → Has (accesses f) b
      → ComesBefore j a b
  Through : (a b c : Operation) → ComesBefore j a b → ComesBefore j b c → ComesBefore j a c
