-- The serial order of a journal's operations.
use Rattle.std.specs.Prelude.{ℕ, ◌≡◌, ◌<◌, ◌≤◌, ◌⊎◌, ◌==◌, Bool, true, false, cond, List, [], ◌∷◌, map}
use Rattle.std.specs.List.{flat_map}
use Rattle.upc_values.specs.declared.action.Action.TheVariants.{Notify}
use Rattle.upc_values.specs.declared.action.Reply.TheVariants.{Done}
use Rattle.upc_values.specs.declared.record.Item.{Item}
use Rattle.upc_values.specs.declared.record.Item.TheVariants.{Did}
use Rattle.upc_values.specs.declared.journal.Journal.{Journal}
use Rattle.upc_values.specs.declared.order.Op.{Op}
use Rattle.upc_values.specs.Lists.{Numbered, Pairwise, Precedes}
use Rattle.upc_values.specs.Openings.{Opening}
use Rattle.upc_values.specs.History.{IsLegal}
use Rattle.upc_values.specs.Waits.{WaitsFollow}
use Rattle.upc_values.specs.Operations.{Operation}
use Rattle.upc_values.specs.Orders.{IsOf, rank, name_of, strict_list, operations_of}
use Rattle.upc_values.specs.Consistent.{IsOrderOf, ReadsLast, FollowsBuffers, begins}
use Rattle.race_report.specs.Races.{IsRaceFree}

-- Of these operations, those before the first strict one.
abbrev pub until_strict : List Operation → List Operation
until_strict [] = []
until_strict (o ∷ os) = cond o.strict [] (o ∷ until_strict os)

-- Of these operations, those after the one with this rank and before the next strict one.
abbrev pub relaxed_after : ℕ → List Operation → List Operation
relaxed_after r [] = []
relaxed_after r (o ∷ os) = cond (rank o == r) (until_strict os) (relaxed_after r os)

-- A strict operation, and what its thread does after it and before its next strict one, in program order.
abbrev pub phase : Journal → Operation → List Operation
phase j s = s ∷ relaxed_after (rank s) (operations_of j s.thread)

-- All operations, sorted by the place of their thread's last strict operation at or before them, then by program order.
abbrev pub serial_list : Journal → List Operation
serial_list j = flat_map (phase j) (strict_list j)

-- The record begins with a notify, answered Done.
abbrev pub begins_notified : List Item → Bool
begins_notified (Did (Notify m) Done ∷ items) = true
begins_notified items = false

-- The history takes each record as its write buffer drains, waits follow notifies in it, and each record begins with a
-- notify: every sound journal of threads that are allowed an action is so.
pub record IsRun (j : Journal) : Type 0 where
  pub follows : FollowsBuffers j
  pub waits : WaitsFollow j.threads j.history
  pub notified : Numbered (λ t s. begins_notified s.items ≡ true) j.strands

-- Two operations, if they are of one thread, are in program order.
abbrev pub AreInOrder : Operation → Operation → Type 0
AreInOrder a b = a.thread ≡ b.thread → rank a < rank b

-- A strict operation leads another: it is the last strict one of that thread at or before it.
pub record Leads (j : Journal) (s a : Operation) : Type 0 where
  pub is : IsOf j s
  pub strict : s.strict ≡ true
  pub thread : s.thread ≡ a.thread
  pub before : rank s ≤ rank a
  pub last :
      (u : Operation) → IsOf j u → u.strict ≡ true → u.thread ≡ a.thread → rank u ≤ rank a → rank u ≤ rank s

-- One operation stands before another in the serial order: the strict one that leads it stands first in the strict
-- list, or the same one leads both, and they are in program order.
pub record StandsBefore (j : Journal) (a b : Operation) : Type 0 where
  pub first : Operation
  pub second : Operation
  pub leads_first : Leads j first a
  pub leads_second : Leads j second b
  pub ordered : Precedes (strict_list j) first second ⊎ ((first ≡ second) × (rank a < rank b))

-- A list is the serial order of a journal: it has each operation once, sorted by the strict ones that lead them and
-- then by program order; it keeps program order, and in a legal history without races each read has in it the value of
-- the last write before it on its location, or the initial value if there is none.
pub record IsSerial (j : Journal) (list : List Operation) : Type 0 where
  pub whole : IsOrderOf (IsOf j) list
  pub sorted : Pairwise (StandsBefore j) list
  pub program : Pairwise AreInOrder list
  pub values : (o : Opening) → IsLegal o j.history → IsRaceFree j → ReadsLast (begins o j.history) list

-- The names are those of such a list of operations.
pub record NamesSerial (j : Journal) (names : List Op) : Type 0 where
  pub list : List Operation
  pub are : names ≡ map name_of list
  pub serial : IsSerial j list

-- The serial order of every run is so.
abbrev pub SerialIsRight : Type 0
SerialIsRight = (j : Journal) → IsRun j → IsSerial j (serial_list j)
