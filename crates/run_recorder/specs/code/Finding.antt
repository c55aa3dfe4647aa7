-- The entries of a history, by the thread and the number of each.
use Rattle.std.specs.Prelude.{ℕ, zero, suc, ◌≡◌, List, [], ◌∷◌, ◌++◌, Option, Some, None, Vec, slice_get}
use Rattle.std.specs.declared.alloc.Global.{Global}
use Rattle.upc_values.specs.declared.action.Action.{Action}
use Rattle.upc_values.specs.declared.action.Reply.{Reply}
use Rattle.upc_values.specs.declared.record.Item.{Item}
use Rattle.upc_values.specs.declared.record.Item.TheVariants.{Did, Stall}
use Rattle.upc_values.specs.declared.journal.Entry.{Entry}
use Rattle.upc_values.specs.declared.journal.Strand.{Strand}
use Rattle.run_recorder_parts.specs.declared.names.Name.{Name}
use Rattle.run_recorder_parts.specs.layer.Readers.{bind}

-- Action n of a record, stalls not counted, with its reply.
abbrev pub did_at : List Item → ℕ → Option (Action × Reply)
did_at [] n = None
did_at (Stall ∷ items) n = did_at items n
did_at (Did a r ∷ items) zero = Some (a, r)
did_at (Did a r ∷ items) (suc n) = did_at items n

-- The name of an entry.
abbrev pub entry_name : Entry → Name
entry_name e = record { thread = e.thread; index = e.index }

-- The entry of this name and this action with its reply.
abbrev pub entry_by : Name → Option (Action × Reply) → Option Entry
entry_by n did =
    bind did (λ d. Some (record { thread = n.thread; index = n.index; action = d.0; reply = d.1 }))

-- The entry that the name names.
abbrev pub entry_of : List Strand → Name → Option Entry
entry_of strands n = bind (slice_get strands n.thread) (λ s. entry_by n (did_at s.items n.index))

-- The entries that the names name.
abbrev pub entries_of : List Strand → List Name → Option (List Entry)
entries_of strands [] = Some []
entries_of strands (n ∷ ns) = bind (entry_of strands n) (λ e. bind (entries_of strands ns) (λ es. Some (e ∷ es)))

-- The action in an item, with its reply.
abbrev pub did_of_item : Item → Option (Action × Reply)
did_of_item (Did a r) = Some (a, r)
did_of_item Stall = None

-- The action at a place, where there is a place.
abbrev pub did_in : List Item → Option ℕ → Option (Action × Reply)
did_in items place = bind place (λ k. bind (slice_get items k) did_of_item)

-- The places of a record's actions, by number.
abbrev pub IsTable : List Item → List ℕ → Type 0
IsTable items places = (n : ℕ) → did_at items n ≡ did_in items (slice_get places n)

-- The places after one more item, which stands at this place.
abbrev pub after : ℕ → Item → List ℕ → List ℕ
after at (Did a r) places = places ++ at ∷ []
after at Stall places = places

-- There is a table for each thread.
abbrev pub AreTables : List Strand → List (Vec ℕ Global) → Type 0
AreTables [] [] = Unit {0}
AreTables (s ∷ ss) (v ∷ vs) = IsTable s.items v.items × AreTables ss vs
AreTables [] (v ∷ vs) = ⊥
AreTables (s ∷ ss) [] = ⊥
