-- Places: lines and columns count from 1, columns in bytes.
use Rattle.std.specs.Prelude.{ℕ, ◌+◌, ◌==◌, List, count_by}
use Rattle.std.specs.List.{suffix_len}
use Rattle.upc_text.specs.declared.place.Place.{Place}
use Rattle.upc_lexer.specs.Bytes.{is_in_line}

-- The place after these bytes of a source: one line more for each line end, and one column more for each byte since the
-- last.
abbrev pub place_after : List ℕ → Place
place_after front = record {
  line = 1 + count_by (λ b. b == 10) front;
  column = 1 + suffix_len is_in_line front;
}
