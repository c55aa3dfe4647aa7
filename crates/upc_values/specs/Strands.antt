-- When a thread's record is what its source gives, and when a Stall is justified.
use Rattle.std.specs.Prelude.{ℕ, ◌≡◌, ◌*◌, Bool, true, false, cond, List, [], ◌∷◌, ◌++◌, length, Option, Some, None}
use Rattle.upc_values.specs.declared.action.Action.{Action}
use Rattle.upc_values.specs.declared.action.Action.TheVariants.{Lock, Wait}
use Rattle.upc_values.specs.declared.record.Item.{Item}
use Rattle.upc_values.specs.declared.record.Item.TheVariants.{Did, Stall}
use Rattle.upc_values.specs.declared.record.End.{End}
use Rattle.upc_values.specs.declared.record.End.TheVariants.{Halted}
use Rattle.upc_values.specs.declared.journal.Entry.{Entry}
use Rattle.upc_values.specs.declared.journal.Strand.{Strand}
use Rattle.upc_values.specs.Records.{actions_of, last_item, is_beat_item, beats}
use Rattle.upc_values.specs.Outcomes.{Outcome, wanted}
use Rattle.upc_values.specs.Drain.{drain, entries_of}
use Rattle.upc_values.specs.Openings.{Opening}
use Rattle.upc_values.specs.History.{reply}

-- A Lock or a Wait alone may find no lawful reply.
abbrev pub may_wait : Action → Bool
may_wait (Lock l) = true
may_wait (Wait m) = true
may_wait a = false

-- There is an action, and it is a Lock or a Wait.
abbrev pub MayWait : Option Action → Type 0
MayWait (Some a) = may_wait a ≡ true
MayWait None = ⊥

-- The first of the items is a Stall.
abbrev pub first_is_stall : List Item → Bool
first_is_stall (Stall ∷ items) = true
first_is_stall items = false

-- The action that comes first in some items; where they have none, the one that is wanted after them.
abbrev pub next_action : Option Action → List Item → Option Action
next_action want [] = want
next_action want (Did a r ∷ items) = Some a
next_action want (Stall ∷ items) = next_action want items

-- No two Stalls are adjacent, and each stands before a Lock or a Wait, or is last while one is wanted.
abbrev pub StallsStand : Option Action → List Item → Type 0
StallsStand want [] = Unit {0}
StallsStand want (Did a r ∷ items) = StallsStand want items
StallsStand want (Stall ∷ items) =
    (first_is_stall items ≡ false) × MayWait (next_action want items) × StallsStand want items

-- The ticks of a strand whose outcome has n: those of the Beats where it was halted at one.
abbrev pub strand_ticks : End → List Item → ℕ → ℕ
strand_ticks Halted items n = cond (is_beat_item (last_item items)) (1024 * beats (actions_of items)) n
strand_ticks e items n = n

-- The strand's actions, Stalls and ticks are those of the outcome that its source has on its replies.
pub record Conforms (outcome : Outcome) (s : Strand) : Type 0 where
  pub actions : outcome.actions ≡ actions_of s.items
  pub stalls : StallsStand (wanted outcome.«end») s.items
  pub ticks : s.ticks ≡ strand_ticks s.«end» s.items outcome.ticks

-- A Stall of t after these items, before the next action: some prefix of the history has just the entries that the
-- items emit, and after it the action has no lawful reply.
pub record IsJustified (o : Opening) (t : ℕ) (history : List Entry) (before : List Item)
    (next : Option Action) : Type 0 where
  pub front : List Entry
  pub rest : List Entry
  pub is : history ≡ front ++ rest
  pub many : length (entries_of t front) ≡ length (drain t before)
  pub action : Action
  pub wants : next ≡ Some action
  pub none : reply o front t action ≡ None

-- Each Stall of the items, which stand after others, is justified.
abbrev pub AreJustified : Opening → ℕ → List Entry → Option Action → List Item → List Item → Type 0
AreJustified o t history want before [] = Unit {0}
AreJustified o t history want before (Did a r ∷ items) =
    AreJustified o t history want (before ++ Did a r ∷ []) items
AreJustified o t history want before (Stall ∷ items) =
    IsJustified o t history before (next_action want items)
    × AreJustified o t history want (before ++ Stall ∷ []) items
