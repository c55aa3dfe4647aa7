-- Worked rows of docs/DEFINITIONS.md, computed by the definitions themselves.
use Rattle.std.specs.Prelude.{ℕ, ◌≡◌, pos, Bool, true, false, List, [], ◌∷◌, map, slice_index_or}
use Rattle.std.proofs.Common.{refl}
use Rattle.upc_values.specs.declared.scalar.Scalar.TheVariants.{Int}
use Rattle.upc_values.specs.declared.scalar.Mark.TheVariants.{Start, Finish}
use Rattle.upc_values.specs.declared.action.Action.TheVariants.{Write, Fence, Notify, Wait}
use Rattle.upc_values.specs.declared.action.Reply.TheVariants.{Done}
use Rattle.upc_values.specs.declared.record.Item.{Item}
use Rattle.upc_values.specs.declared.record.Item.TheVariants.{Did}
use Rattle.upc_values.specs.declared.record.End.TheVariants.{Ended}
use Rattle.upc_values.specs.declared.journal.Entry.{Entry}
use Rattle.upc_values.specs.declared.journal.Journal.{Journal}
use Rattle.upc_values.specs.declared.order.Op.{Op}
use Rattle.upc_values.specs.Drain.{entry_of}
use Rattle.upc_values.specs.Orders.{name_of}
use Rattle.race_report.specs.Serial.{serial_list}

-- the entry of a record's item
abbrev entry_in : List Item → ℕ → ℕ → Entry
entry_in items t i =
    elim (slice_index_or items i (Did Fence Done)) [ Did a r ↦ entry_of t i a r | _ ↦ entry_of t i Fence Done ]

abbrev journal : ℕ → List (List Item) → List (ℕ × ℕ) → Journal
journal threads strands names =
    record {
      threads = threads;
      budget = 1;
      actions = 100;
      strands = map (λ items. record { items = items; ticks = 0; «end» = Ended (pos 0) }) strands;
      history = map (λ n. entry_in (slice_index_or strands n.0 []) n.0 n.1) names;
    }

abbrev name : ℕ → ℕ → Bool → Op
name t i w = record { thread = t; index = i; write = w }

-- `int main(void){return 0;}` on one thread
abbrev empty_main : Journal
empty_main =
    journal 1
    ((Did (Notify Start) Done ∷ Did (Wait Start) Done ∷ Did (Notify Finish) Done ∷ Did (Wait Finish) Done ∷ []) ∷ [])
    ((0, 0) ∷ (0, 1) ∷ (0, 2) ∷ (0, 3) ∷ [])

serial-empty : map name_of (serial_list empty_main) ≡ name 0 0 true ∷ name 0 1 false ∷ name 0 2 true ∷ name 0 3 false ∷ []
serial-empty = refl

-- a relaxed write on each of two threads, after the first barrier
abbrev beginning : ℕ → List Item
beginning n =
    Did (Notify Start) Done ∷ Did (Wait Start) Done
    ∷ Did (Write false (record { object = n; thread = 0; offset = 0 }) (Int (pos 1))) Done ∷ []

abbrev two_writes : Journal
two_writes =
    journal 2 (beginning 1 ∷ beginning 2 ∷ []) ((0, 0) ∷ (1, 0) ∷ (0, 1) ∷ (1, 1) ∷ (0, 2) ∷ (1, 2) ∷ [])

serial-writes : map name_of (serial_list two_writes) ≡ name 0 0 true ∷ name 1 0 true ∷ name 0 1 false ∷ name 0 2 true ∷ name 1 1 false ∷ name 1 2 true ∷ []
serial-writes = refl
