-- What the lists of a replica run keep, event by event.
use Rattle.std.specs.Prelude.{ℕ, ◌≡◌, ◌≢◌, ◌<◌, ◌≤◌, ◌⊎◌, true, false, ◌||◌, cond, List, [], ◌∷◌, filter}
use Rattle.std.specs.Prelude.{Option, Some, None}
use Rattle.block_layout.specs.declared.place.Loc.{Loc}
use Rattle.upc_values.specs.declared.scalar.Scalar.{Scalar}
use Rattle.upc_values.specs.Lists.{Has, Precedes, Pairwise}
use Rattle.upc_values.specs.Operations.{Operation}
use Rattle.upc_values.specs.Orders.{is_shown, rank, name_of}
use Rattle.upc_values.specs.Openings.{Opening}
use Rattle.replica_space.specs.declared.message.Stamp.{Stamp}
use Rattle.replica_space.specs.declared.message.Message.{Message}
use Rattle.replica_space.specs.declared.event.Event.{Event}
use Rattle.replica_space.specs.Spaces.{Space, is_later, space_after}
use Rattle.replica_space.specs.Runs.{IsReplicaRun, NoneWaits}
use Rattle.replica_space.specs.ReplicaOrders.{Placed, write_of, is_write_of, operations, operations_in}
use Rattle.replica_space.specs.ReplicaOrders.{listed_after, replica_strict_list}

-- Two writes of one location of which the first stands before the second: the first one's stamp is not the later one.
abbrev pub StandByStamps : Placed → Placed → Type 0
StandByStamps a b =
    (l : Loc) → is_write_of l a ≡ true → is_write_of l b ≡ true → is_later a.stamp b.stamp ≡ false

-- The stamp and the value of a write.
pub record Told : Type 0 where
  pub stamp : Stamp
  pub value : Scalar

-- What the first of two tells, where there is one; else what the second does.
abbrev pub told_or : Option Told → Option Told → Option Told
told_or (Some x) o = Some x
told_or None o = o

-- The stamp and the value of the last write of a location among some members, if there is one.
abbrev pub last_told : Loc → List Placed → Option Told
last_told l [] = None
last_told l (x ∷ xs) =
    told_or (last_told l xs)
    (cond (is_write_of l x) (Some (record { stamp = x.stamp; value = x.operation.value })) None)

-- The stamp and the value of a message, if there is one.
abbrev pub told : Option Message → Option Told
told (Some m) = Some (record { stamp = m.stamp; value = m.value })
told None = None

-- Of two operations of one thread, of which one is strict or both are thread t's own, a stands before b in program
-- order; and no two have one name.
abbrev pub StandsBefore : ℕ → Placed → Placed → Type 0
StandsBefore t a b =
    (name_of a.operation ≢ name_of b.operation)
    × (a.operation.thread ≡ b.operation.thread
    → ((a.operation.thread ≡ t) ⊎ ((a.operation.strict || b.operation.strict) ≡ true))
    → rank a.operation < rank b.operation)

-- The write of a message.
abbrev pub sent_by : Message → Operation
sent_by m = (write_of m).operation

-- The operation is that of a message that waits for thread t.
pub record Waits (n : ℕ) (mail : ℕ → List Message) (o : Operation) : Type 0 where
  pub from : ℕ
  pub below : from < n
  pub message : Message
  pub waits : Has (mail from) message
  pub is : sent_by message ≡ o

-- What holds of thread t, its list and its mail after some events, where its list and what the threads have are these.
pub record IsKept (n t : ℕ) (es : List Event) (s : Space) (list : List Placed) : Type 0 where
  -- the writes of a location stand by their stamps
  pub ascend : Pairwise StandByStamps list
  -- the thread's copy has the last of them
  pub last : (l : Loc) → told (s.copy t l) ≡ last_told l list
  -- own operations stand in program order, and so do two operations of any thread of which one is strict
  pub order : Pairwise (StandsBefore t) list
  -- each operation that the thread must see stands in its list or waits for it, and no other one
  pub has :
      (o : Operation) → Has (operations_in es) o → is_shown t o ≡ true
      → Has (operations list) o ⊎ Waits n (s.mail t) o
  pub only :
      (x : Placed) → Has list x → Has (operations_in es) x.operation × (is_shown t x.operation ≡ true)
  -- what waits does not stand in the list
  pub apart :
      (u : ℕ) (m : Message) (x : Placed) → u < n → Has (s.mail t u) m → Has list x
      → name_of (sent_by m) ≢ name_of x.operation
  -- the thread's clock is not below the stamps of its writes
  pub clock :
      (l : Loc) (x : Placed) → Has list x → is_write_of l x ≡ true → x.stamp.clock ≤ s.clock t
  -- its strict operations are those of all threads, as they were done
  pub strict : filter (λ o. o.strict) (operations list) ≡ replica_strict_list es
  -- what waits is later than each write that stands before a strict operation
  pub late :
      (u : ℕ) (m : Message) (l : Loc) (x y : Placed) → u < n → Has (s.mail t u) m → Precedes list x y
      → y.operation.strict ≡ true → is_write_of l x ≡ true → is_later m.stamp x.stamp ≡ true

-- After each replica run this holds of each thread.
abbrev pub AreKept : Type 0
AreKept =
    (o : Opening) (es : List Event) (t : ℕ) → IsReplicaRun o es → t < o.threads
    → IsKept o.threads t es (space_after o.threads es) ((listed_after o.threads es).lists t)

-- Where no message waits, all threads have the same in their copies.
abbrev pub CopiesAgree : Type 0
CopiesAgree =
    (o : Opening) (es : List Event) (t u : ℕ) (l : Loc) → IsReplicaRun o es
    → NoneWaits o.threads (space_after o.threads es) → t < o.threads → u < o.threads
    → (space_after o.threads es).copy t l ≡ (space_after o.threads es).copy u l
