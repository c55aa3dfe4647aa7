-- Two readers that see two writes in opposite orders: one history of the ordinary memory does not show it, and copies
-- do (UPC Appendix B).
use Rattle.std.specs.Prelude.{ℕ, ◌≡◌, ◌<◌, ◌⊎◌, ◌==◌, pos, Bool, cond, List, [], ◌∷◌, map, drop}
use Rattle.std.specs.Prelude.{Option, Some, None}
use Rattle.std.specs.List.{filter_map}
use Rattle.block_layout.specs.declared.place.Loc.{Loc}
use Rattle.block_layout.specs.declared.kind.Kind.TheVariants as kind
use Rattle.upc_values.specs.declared.scalar.Scalar.TheVariants.{Int}
use Rattle.upc_values.specs.declared.action.Action.TheVariants as act
use Rattle.upc_values.specs.declared.action.Reply.TheVariants.{Value}
use Rattle.upc_values.specs.declared.record.Item.{Item}
use Rattle.upc_values.specs.declared.record.Item.TheVariants as item
use Rattle.upc_values.specs.declared.journal.Entry.{Entry}
use Rattle.upc_values.specs.Lists.{Each, Precedes}
use Rattle.upc_values.specs.Drain.{entry_of, written, drain, entries_of}
use Rattle.upc_values.specs.Openings.{Opening, IsOpening, initial_of}
use Rattle.upc_values.specs.History.{IsLegal, EachBelow}
use Rattle.upc_values.specs.Formed.{AreWellFormed}
use Rattle.upc_values.specs.Orders.{name_of}
use Rattle.replica_space.specs.declared.event.Event.{Event}
use Rattle.replica_space.specs.declared.event.Deed.{Deed}
use Rattle.replica_space.specs.declared.event.Deed.TheVariants.{Did, Delivered}
use Rattle.replica_space.specs.Events.{delivered, history_in}
use Rattle.replica_space.specs.Runs.{IsReplicaRun}
use Rattle.replica_space.specs.ReplicaOrders.{replica_order}
use Rattle.replica_space.specs.layer.ReplicaRows.{x, y, notified, waited, wrote, saw, write, read}

-- At the beginning of a run the location has the int 0.
abbrev pub BeginsWith0 : Opening → Loc → Type 0
BeginsWith0 o l = initial_of o o.declared l ≡ Some (Int (pos 0))

-- The entry writes nothing to the location, or the int 1.
abbrev pub WritesNoneOr1 : Loc → Entry → Type 0
WritesNoneOr1 l e = (written l e.action ≡ None) ⊎ (written l e.action ≡ Some (Int (pos 1)))

-- In the history a thread reads 1 from one location, and later 0 from the other.
pub record SeesAlone (one other : Loc) (history : List Entry) : Type 0 where
  pub thread : ℕ
  pub earlier : ℕ
  pub later : ℕ
  pub strict : Bool
  pub strict_later : Bool
  pub reads :
      Precedes history (entry_of thread earlier (act.Read one strict) (Value (Int (pos 1))))
      (entry_of thread later (act.Read other strict_later) (Value (Int (pos 0))))

-- In a legal history in which nothing but 1 is written to two locations that begin with 0, no two threads see the
-- writes to them in opposite orders.
abbrev pub ReadersAgree : Type 0
ReadersAgree =
    (o : Opening) (history : List Entry) (l k : Loc) → IsLegal o history → BeginsWith0 o l → BeginsWith0 o k
    → Each (WritesNoneOr1 l) history → Each (WritesNoneOr1 k) history → SeesAlone l k history → SeesAlone k l history
    → ⊥

-- What a deed of thread u puts into the record of thread t, if it is an action of its own.
abbrev pub item_by : ℕ → ℕ → Deed → Option Item
item_by t u (Did i a r) = cond (u == t) (Some (item.Did a r)) None
item_by t u (Delivered to from) = None

-- The record of thread t in some events: its actions with their replies.
abbrev pub record_in : ℕ → List Event → List Item
record_in t es = filter_map (λ e. item_by t e.by e.deed) es

-- A record without its stalls.
abbrev pub unstalled : List Item → List Item
unstalled [] = []
unstalled (item.Stall ∷ items) = unstalled items
unstalled (item.Did a r ∷ items) = item.Did a r ∷ unstalled items

-- A history that the ordinary memory may have with these records, where each thread does what it does in these events,
-- and may stall: it is legal, and each thread's entries are those that its write buffer lets out.
pub record IsOrdinary (o : Opening) (es : List Event) (records : ℕ → List Item) (history : List Entry) : Type 0 where
  pub same : (t : ℕ) → t < o.threads → unstalled (records t) ≡ record_in t es
  pub below : EachBelow o.threads history
  pub legal : IsLegal o history
  pub drains : (t : ℕ) → t < o.threads → entries_of t history ≡ drain t (records t)

-- The events are a run with a copy of the memory for each thread, and in no history of the ordinary memory do the
-- threads do the same and have the same replies.
pub record IsOfCopiesAlone (o : Opening) (es : List Event) : Type 0 where
  pub runs : IsReplicaRun o es
  pub alone : (records : ℕ → List Item) (history : List Entry) → IsOrdinary o es records history → ⊥

-- The events need copies, whatever opening of four threads they have at which both locations begin with 0.
abbrev pub NeedsCopies : List Event → Type 0
NeedsCopies es = (o : Opening) → o.threads ≡ 4 → BeginsWith0 o x → BeginsWith0 o y → IsOfCopiesAlone o es

-- Four threads go through a barrier; then threads 0 and 1 each write a location, thread 2 hears of the first write
-- alone and thread 3 of the second alone, and at last all that still waits is delivered.
abbrev pub readers_after_start : List Event
readers_after_start =
    notified 0 ∷ notified 1 ∷ notified 2 ∷ notified 3 ∷ waited 0 ∷ waited 1 ∷ waited 2 ∷ waited 3
    ∷ wrote 0 2 x (pos 1) ∷ wrote 1 2 y (pos 1)
    ∷ delivered 2 2 0 ∷ saw 2 2 x (pos 1) ∷ saw 2 3 y (pos 0)
    ∷ delivered 3 3 1 ∷ saw 3 2 y (pos 1) ∷ saw 3 3 x (pos 0)
    ∷ delivered 0 0 1 ∷ delivered 0 1 0 ∷ delivered 0 2 1 ∷ delivered 0 3 0 ∷ []

-- After the strict operations of the barrier, threads 2 and 3 place the two writes the other way round.
pub record StillDiffer : Type 0 where
  pub second :
      drop 8 (map name_of (replica_order 4 readers_after_start 2))
      ≡ write 0 2 ∷ read 2 2 ∷ read 2 3 ∷ write 1 2 ∷ []
  pub third :
      drop 8 (map name_of (replica_order 4 readers_after_start 3))
      ≡ write 1 2 ∷ read 3 2 ∷ read 3 3 ∷ write 0 2 ∷ []

-- Four threads and an array of two ints for each of them: both of thread 0 begin with 0.
abbrev pub four_threads : Opening
four_threads = record {
  threads = 4;
  declared = record { number = 1; total = 32; block = 8; home = 0; shape = 0; base = 0 } ∷ [];
  initials = [];
  shapes = record { size = 4; cells = (0, kind.Int) ∷ [] } ∷ [];
}

-- There is an opening of four threads at which both locations begin with 0, and after it each action of the run with
-- the barrier is well formed.
pub record SomeOpening : Type 0 where
  pub opening : IsOpening four_threads
  pub of_x : BeginsWith0 four_threads x
  pub of_y : BeginsWith0 four_threads y
  pub formed : AreWellFormed four_threads (history_in readers_after_start)

-- Thread 2 sees the first write alone, and thread 3 both.
abbrev pub one_sees_both : List Event
one_sees_both =
    wrote 0 0 x (pos 1) ∷ delivered 2 2 0 ∷ saw 2 0 x (pos 1) ∷ saw 2 1 y (pos 0)
    ∷ wrote 1 0 y (pos 1) ∷ delivered 3 3 0 ∷ delivered 3 3 1 ∷ saw 3 0 y (pos 1) ∷ saw 3 1 x (pos 1) ∷ []

-- Where one thread sees both writes, the ordinary memory has a history: that in the events.
abbrev pub IsOrdinaryToo : Type 0
IsOrdinaryToo = IsOrdinary four_threads one_sees_both (λ t. record_in t one_sees_both) (history_in one_sees_both)
