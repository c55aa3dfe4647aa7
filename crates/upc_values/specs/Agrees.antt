-- A journal whose history and records agree.
use Rattle.std.specs.Prelude.{ℕ, ◌≡◌, ◌≤◌, ◌<◌, Bool, true, false, List, length, take, Some, slice_get}
use Rattle.std.specs.Prelude.{slice_index_or, All}
use Rattle.upc_values.specs.declared.record.Item.{Item}
use Rattle.upc_values.specs.declared.record.Item.TheVariants.{Did, Stall}
use Rattle.upc_values.specs.declared.journal.Entry.{Entry}
use Rattle.upc_values.specs.declared.journal.Strand.{Strand}
use Rattle.upc_values.specs.declared.journal.Journal.{Journal}
use Rattle.upc_values.specs.Records.{actions_of, replies_of}

-- The action of the record that has the entry's number, Stalls not counted, is the entry's, and so is its reply.
pub record IsIn (items : List Item) (e : Entry) : Type 0 where
  pub action : slice_get (actions_of items) e.index ≡ Some e.action
  pub reply : slice_get (replies_of items) e.index ≡ Some e.reply

-- The entry is the item that its thread and its number name in the records.
pub record IsOf (strands : List Strand) (e : Entry) : Type 0 where
  pub strand : Strand
  pub thread : slice_get strands e.thread ≡ Some strand
  pub item : IsIn strand.items e

-- Each entry of the history is the item that its thread and its number name in the records.
abbrev pub Agrees : Journal → Type 0
Agrees j = All (IsOf j.strands) j.history

-- The item is an action.
abbrev pub is_did : Item → Bool
is_did (Did a r) = true
is_did Stall = false

-- Of the first `at` items n are actions.
pub record IsPlace (items : List Item) (at n : ℕ) : Type 0 where
  pub within : at ≤ length items
  pub number : n ≡ length (actions_of (take at items))

-- Action n stands at this place, or the record ends there and has no action n.
pub record IsPlaceOf (items : List Item) (n at m : ℕ) : Type 0 where
  pub place : IsPlace items at m
  pub most : m ≤ n
  pub here : at < length items → (m ≡ n) × ((d : Item) → is_did (slice_index_or items at d) ≡ true)
