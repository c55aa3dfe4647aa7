use Rattle.std.proofs.Common.{◌≡◌, drop, map}
use Rattle.upc_checker_types.specs.Specifiers as pure
use Rattle.upc_checker_types.specs.code.ViewWords.{view_row}
use Rattle.upc_checker_types.proofs.words.base_among.Given as goal

-- what is left decides
abbrev pub invariant-loop-row : goal.invariant-loop-row
invariant-loop-row l = pure.base_among (map view_row l.rows) l.words ≡ pure.base_among (map view_row (drop l.row-index l.rows)) l.words
