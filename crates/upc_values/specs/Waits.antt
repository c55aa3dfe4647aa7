-- What a legal history says of barriers (UPC 6.6.1).
use Rattle.std.specs.Prelude.{ℕ, ◌≡◌, ◌<◌, true, List, ◌∷◌, ◌++◌}
use Rattle.upc_values.specs.declared.journal.Entry.{Entry}
use Rattle.upc_values.specs.History.{is_wait, notifies, waits}

-- The p-th wait of each thread stands after the p-th notify of each of the first n threads: before a wait, each has
-- more notifies than the waiting thread has waits.
abbrev pub WaitsFollow : ℕ → List Entry → Type 0
WaitsFollow n history =
    (front rest : List Entry) (e : Entry) → history ≡ front ++ e ∷ rest → is_wait e.action ≡ true
    → (u : ℕ) → u < n → waits e.thread front < notifies u front
