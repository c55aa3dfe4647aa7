use Rattle.std.proofs.Common.{◌≡◌, ◌+◌, ◌≤◌, ℕ, List, ◌++◌, take}
use Rattle.upc_lexer.specs.Places.{place_after}
use Rattle.upc_lexer.proofs.places.place_behind.Given as goal

abbrev pub invariant-loop-byte : goal.invariant-loop-byte
invariant-loop-byte l = record {
  lines : l.line ≤ l.fn.place.line + l.byte-index;
  columns : l.column ≤ l.fn.place.column + l.byte-index;
  place_is : (front : List ℕ) → l.fn.place ≡ place_after front → record { line = l.line; column = l.column } ≡ place_after (front ++ take l.byte-index l.text);
}
