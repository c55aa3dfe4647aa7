-- Counting the items of all threads.
use Rattle.std.proofs.Common.{◌≡◌, ◌∙◌, ◌<◌, ◌≤◌, ◌+◌, ℕ, suc, true, false, List, length, drop}
use Rattle.std.proofs.Common.{sym, ap, add-one, drop-cons, le-leb}
use Rattle.std.specs.Prelude.{nat_le}
use Rattle.std.specs.List.{slice_index_or}
use Rattle.std.proofs.lemmas.Bool.{lt-leb}
use Rattle.std.proofs.lemmas.List.{drop_all}
use Rattle.upc_values.specs.declared.journal.Strand.{Strand}
use Rattle.run_recorder_text.specs.Short.{item_count, most_items}

pub one_more : (ss : List Strand) (i : ℕ) (s : Strand) → i < length ss → s ≡ slice_index_or ss i s
    → item_count (drop i ss) ≡ length s.items + item_count (drop (i + 1) ss)
one_more ss i s lt is =
    ap item_count (drop-cons ss i s lt)
    ∙ ap (λ (x : Strand). length x.items + item_count (drop (suc i) ss)) (sym is)
    ∙ ap (λ k. length s.items + item_count (drop k ss)) (sym (add-one i))

pub too_many : (ss : List Strand) → most_items < item_count ss → false ≡ nat_le (item_count ss) most_items
too_many ss lt = sym (lt-leb (item_count ss) most_items lt)

pub few : (ss : List Strand) → item_count ss ≤ most_items → true ≡ nat_le (item_count ss) most_items
few ss le = sym (le-leb (item_count ss) most_items le)

pub none_left : (ss : List Strand) (i : ℕ) → length ss ≤ i → item_count (drop i ss) ≡ 0
none_left ss i le = ap item_count (drop_all i ss le)
