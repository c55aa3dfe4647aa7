-- The Stalls of a record as the program looks at them: so many entries of the thread stand before each, and the action
-- after it waits.
use Rattle.std.specs.Prelude.{ℕ, ◌≡◌, ◌≤◌, ◌<◌, List, [], ◌∷◌, ◌++◌, length, Option, Some, None, slice_index_or}
use Rattle.upc_values.specs.declared.action.Action.{Action}
use Rattle.upc_values.specs.declared.record.Item.{Item}
use Rattle.upc_values.specs.declared.record.Item.TheVariants.{Did, Stall}
use Rattle.upc_values.specs.declared.journal.Entry.{Entry}
use Rattle.upc_values.specs.Drain.{drain, entries_of}
use Rattle.upc_values.specs.Openings.{Opening}
use Rattle.upc_values.specs.History.{reply}
use Rattle.upc_values.specs.Strands.{next_action}
use Rattle.upc_verify_stalls.specs.declared.points.Point.{Point}

-- A Stall: how many entries of its thread are before it, and the action after it, if there is one.
pub record Waiting : Type 0 where
  pub entries : ℕ
  pub next : Option Action

-- The Stalls of these items of thread t, which stand after others.
abbrev pub waitings : ℕ → Option Action → List Item → List Item → List Waiting
waitings t want before [] = []
waitings t want before (Did a r ∷ items) = waitings t want (before ++ Did a r ∷ []) items
waitings t want before (Stall ∷ items) =
    record { entries = length (drain t before); next = next_action want items }
    ∷ waitings t want (before ++ Stall ∷ []) items

-- A Stall as the program has it.
abbrev pub waiting_of : Point → Waiting
waiting_of p = record { entries = p.entries; next = Some p.action.now }

-- After this front of the history, which has as many entries of t as stand before the Stall, its action has no lawful
-- reply.
pub record WaitsAfter (o : Opening) (t : ℕ) (w : Waiting) (front : List Entry) : Type 0 where
  pub many : length (entries_of t front) ≡ w.entries
  pub action : Action
  pub wants : w.next ≡ Some action
  pub none : reply o front t action ≡ None

-- After some front of the history, the Stall's action has no lawful reply.
pub record WaitsOnce (o : Opening) (t : ℕ) (history : List Entry) (w : Waiting) : Type 0 where
  pub front : List Entry
  pub rest : List Entry
  pub is : history ≡ front ++ rest
  pub waits : WaitsAfter o t w front

-- Of these entries the first k, and no others, have numbers below n, as far as the next one shows.
pub record AreBelow (entries : List Entry) (n k : ℕ) : Type 0 where
  pub within : k ≤ length entries
  pub less : (i : ℕ) (d : Entry) → i < k → (slice_index_or entries i d).index < n
  pub stop : (d : Entry) → k < length entries → n ≤ (slice_index_or entries k d).index
