-- No two pending writes have one location.
use Rattle.std.specs.Prelude.{ℕ, ◌+◌, ◌≤◌, cond, List, [], ◌∷◌, is_some}
use Rattle.block_layout.specs.declared.place.Loc.{Loc}
use Rattle.upc_values.specs.declared.record.Item.{Item}
use Rattle.upc_values.specs.declared.journal.Entry.{Entry}
use Rattle.upc_values.specs.Drain.{entries_in, written, walked}

-- How many of the entries write the location.
abbrev pub writers : Loc → List Entry → ℕ
writers l [] = 0
writers l (e ∷ es) = cond (is_some (written l e.action)) 1 0 + writers l es

-- Each location is written by one of the entries at most.
abbrev pub AreApart : List Entry → Type 0
AreApart es = (l : Loc) → writers l es ≤ 1

-- Each location is written by one pending write at most, after whatever items of a thread.
abbrev pub PendingApart : Type 0
PendingApart = (t : ℕ) (items : List Item) → AreApart (entries_in (walked t items).pending)
