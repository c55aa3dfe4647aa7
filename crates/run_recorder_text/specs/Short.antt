-- Which runs have a text.
use Rattle.std.specs.Prelude.{ℕ, ◌≡◌, ◌+◌, ◌&&◌, nat_le, Bool, true, List, [], ◌∷◌, length}
use Rattle.upc_values.specs.declared.journal.Strand.{Strand}
use Rattle.upc_values.specs.declared.journal.Journal.{Journal}
use Rattle.upc_values.specs.declared.order.Orders.{Orders}
use Rattle.upc_values.specs.Agrees.{Agrees}

-- The most entries that a history in a text has.
abbrev pub most_entries : ℕ
most_entries = 32768

-- The most items that all records in a text have together.
abbrev pub most_items : ℕ
most_items = 131072

-- How many items the records have together.
abbrev pub item_count : List Strand → ℕ
item_count [] = 0
item_count (s ∷ strands) = length s.items + item_count strands

-- A journal is short where its history and its records are no longer than a text has them.
abbrev pub is_short : Journal → Bool
is_short j = nat_le (length j.history) most_entries && nat_le (item_count j.strands) most_items

-- A run has a text where there is a strand and an order for each thread, its history agrees with its records, and it
-- is short.
pub record HasText (j : Journal) (o : Orders) : Type 0 where
  pub strands : length j.strands ≡ j.threads
  pub orders : length o.threads ≡ j.threads
  pub agrees : Agrees j
  pub short : is_short j ≡ true
