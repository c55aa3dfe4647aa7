-- What a collective call leaves in a history (UPC 7.3): its value, where all threads are synchronised at both ends.
use Rattle.std.specs.Prelude.{ℕ, ◌≡◌, ◌<◌, ◌≤◌, ◌+◌, ◌*◌, ◌/◌, ◌%◌, ◌==◌, ◌⊎◌, ℤ, unsigned_abs, Bool, true, false}
use Rattle.std.specs.Prelude.{not, ◌&&◌, List, [], ◌∷◌, ◌++◌, length, Some, is_some, slice_get}
use Rattle.std.specs.List.{filter}
use Rattle.block_layout.specs.declared.place.Loc.{Loc}
use Rattle.block_layout.specs.Pointers.{location}
use Rattle.upc_values.specs.declared.scalar.Scalar.{Scalar}
use Rattle.upc_values.specs.declared.action.Action.TheVariants as act
use Rattle.upc_values.specs.declared.action.Reply.TheVariants.{Done}
use Rattle.upc_values.specs.declared.journal.Entry.{Entry}
use Rattle.upc_values.specs.Calls.{Call, Copies, Permutes, Reduces, Reduces_prefixes, call_of}
use Rattle.upc_values.specs.Collective.{HoldsCollective, operand_at}
use Rattle.upc_values.specs.Drain.{entries_of}
use Rattle.upc_values.specs.History.{objects, meets, notifies, all_notified, is_wait, held}
use Rattle.upc_values.specs.Openings.{Opening, cell_of}
use Rattle.upc_values.specs.Views.{destination, source, byte_at, from_phase_0, element}

-- Neither the entry nor the exit is NOSYNC (UPC 7.3.1).
abbrev pub is_synchronised : ℤ → Bool
is_synchronised f = not (unsigned_abs f % 8 == 1) && not (unsigned_abs f / 8 == 1)

-- The call is one from 5 to 12, and NOSYNC neither at its entry nor at its exit (UPC 7.3.1).
abbrev pub is_synchronised_call : Call → Bool
is_synchronised_call (Copies w dst src n f) = is_synchronised f
is_synchronised_call (Permutes dst src perm n f) = is_synchronised f
is_synchronised_call (Reduces dst src op n blk k f) = is_synchronised f
is_synchronised_call (Reduces_prefixes dst src op n blk k f) = is_synchronised f
is_synchronised_call call = false

-- A location of the destination.
abbrev pub IsInto : (threads : ℕ) → Call → Loc → Type 0
IsInto threads (Copies w dst src n f) l =
    let into = destination w threads n in
    (x : ℕ) × (x < into.bytes) × (l ≡ location (byte_at dst into.block threads x))
IsInto threads (Permutes dst src perm n f) l =
    (x : ℕ) × (x < n * threads) × (l ≡ location (byte_at dst n threads x))
IsInto threads (Reduces dst src op n blk k f) l = l ≡ location dst
IsInto threads (Reduces_prefixes dst src op n blk k f) l = (i : ℕ) × (i < n) × (l ≡ operand_at threads dst blk k i)
IsInto threads call l = ⊥

-- A location of the source, or of the permutation.
abbrev pub IsFrom : (threads : ℕ) → Call → Loc → Type 0
IsFrom threads (Copies w dst src n f) l =
    let from = source w threads n in
    (x : ℕ) × (x < from.bytes) × (l ≡ location (byte_at src from.block threads x))
IsFrom threads (Permutes dst src perm n f) l =
    ((x : ℕ) × (x < n * threads) × (l ≡ location (byte_at src n threads x)))
    ⊎ ((i : ℕ) × (i < threads) × (l ≡ location (element (from_phase_0 perm) 1 4 threads i)))
IsFrom threads (Reduces dst src op n blk k f) l = (i : ℕ) × (i < n) × (l ≡ operand_at threads src blk k i)
IsFrom threads (Reduces_prefixes dst src op n blk k f) l = (i : ℕ) × (i < n) × (l ≡ operand_at threads src blk k i)
IsFrom threads call l = ⊥

-- No cell of the destination is one of the source or of the permutation.
abbrev pub IsApart : Opening → List Entry → Call → Type 0
IsApart o history call =
    (l : Loc) → is_some (cell_of o (objects o history) l) ≡ true → IsInto o.threads call l → IsFrom o.threads call l → ⊥

-- The j-th collective call of thread t is this one, was answered Done after n notifies of the thread, and is over: the
-- thread's second wait after it, which is that of the exit, was answered Done.
pub record HasLeft (t j n c : ℕ) (args : List Scalar) (history : List Entry) : Type 0 where
  pub front : List Entry
  pub meet : Entry
  pub rest : List Entry
  pub is : history ≡ front ++ meet ∷ rest
  pub thread : meet.thread ≡ t
  pub number : length (meets t front) ≡ j
  pub notified : notifies t front ≡ n
  pub asks : meet.action ≡ act.Meet c args
  pub done : meet.reply ≡ Done
  pub exit : Entry
  pub waits : slice_get (filter (λ e. is_wait e.action) (entries_of t rest)) 1 ≡ Some exit
  pub passed : exit.reply ≡ Done

-- The front of a history that ends with the last of the p-th notifies, from 0, of the first n threads.
pub record EndsNotified (n p : ℕ) (front history : List Entry) : Type 0 where
  pub before : List Entry
  pub last : Entry
  pub rest : List Entry
  pub front_is : front ≡ before ++ last ∷ []
  pub history_is : history ≡ front ++ rest
  pub all : all_notified n p front ≡ true
  pub not_before : all_notified n p before ≡ false

-- Where the j-th collective calls of all threads are one call from 5 to 12, answered Done, synchronised at both ends
-- and left by all, and where no destination cell is a source or permutation cell, after the last of its exit notifies
-- each destination cell holds the call's value by the cells after the last of its entry notifies (UPC 7.3).
abbrev pub CollectivesHold : Opening → List Entry → Type 0
CollectivesHold o history =
    (j n c : ℕ) (args : List Scalar) (entered left : List Entry) → 5 ≤ c → c ≤ 12
    → ((t : ℕ) → t < o.threads → HasLeft t j n c args history)
    → is_synchronised_call (call_of c args) ≡ true
    → IsApart o history (call_of c args)
    → EndsNotified o.threads n entered history
    → EndsNotified o.threads (n + 1) left history
    → HoldsCollective o.threads (call_of c args) (held o entered) (held o left)
