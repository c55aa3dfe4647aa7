use Rattle.std.proofs.Common.{◌≡◌, ◌<◌}
use Rattle.std.specs.List.{All}
use Rattle.std.specs.Option.{option_copied}
use Rattle.upc_values.specs.Views.{cells_within}
use Rattle.collectives.proofs.cells.cells_within.Given as goal

abbrev pub invariant-loop-i : goal.invariant-loop-i
invariant-loop-i l = record {
  cells : l.cells.items ≡ cells_within (option_copied l.shape) l.byte l.i;
  within : All (λ c. c.0 < l.bytes) l.cells.items;
}
