-- What has been seen of a record in the search for its Stalls.
use Rattle.std.specs.Prelude.{ℕ, ◌≡◌, ◌≤◌, ◌<◌, Bool, true, false, List, [], ◌∷◌, ◌++◌, length, map, Option}
use Rattle.std.specs.Prelude.{slice_index_or}
use Rattle.upc_values.specs.declared.action.Action.{Action}
use Rattle.upc_values.specs.declared.record.Item.{Item}
use Rattle.upc_values.specs.declared.record.Item.TheVariants.{Stall}
use Rattle.upc_values.specs.declared.journal.Entry.{Entry}
use Rattle.upc_values.specs.Records.{actions_of}
use Rattle.upc_values.specs.Strands.{StallsStand}
use Rattle.upc_verify_stalls.specs.declared.points.Search.{Search}
use Rattle.upc_verify_stalls.specs.code.Points.{Waiting, waiting_of, waitings}

-- The entries before the place are numbered below the next action.
pub record IsReady (entries : List Entry) (s : Search) : Type 0 where
  pub within : s.place ≤ length entries
  pub less : (i : ℕ) (d : Entry) → i < s.place → (slice_index_or entries i d).index < s.number

-- The items that are left, with the Stall right before, if there is one.
abbrev pub with_stall : Bool → List Item → List Item
with_stall false items = items
with_stall true items = Stall ∷ items

-- Of the items of thread t these are left, maybe with a Stall right before, the next action has this number, and these
-- Stalls were found: they and those that are left are those of all items.
pub record IsFound (t : ℕ) (want : Option Action) (items left : List Item) (stalled : Bool) (number : ℕ)
    (found : List Waiting) : Type 0 where
  pub before : List Item
  pub parts : before ++ with_stall stalled left ≡ items
  pub counted : number ≡ length (actions_of before)
  pub stand : StallsStand want (with_stall stalled left)
  pub all : found ++ waitings t want before (with_stall stalled left) ≡ waitings t want [] items

-- The search has come so far that these items are left.
abbrev pub IsAt : ℕ → Option Action → List Item → List Item → Search → Type 0
IsAt t want items left s = IsFound t want items left s.stalled s.number (map waiting_of s.points.items)
