use Rattle.std.proofs.Common.{◌≡◌, ℕ, ◌++◌, List, map, take, slice_index}
use Rattle.upc_values.specs.Lists.{Each}
use Rattle.upc_values.specs.Operations.{Operation}
use Rattle.order_builder.specs.layer.Commits.{named}
use Rattle.race_report_clocks.specs.layer.Clocks.{Clock}
use Rattle.race_report_places.specs.layer.Sights.{Sight, seen_with}
use Rattle.race_report_cells.specs.layer.Cells.{IsOn, IsKept, IsWalked}
use Rattle.race_report_cells.proofs.cells.Cells.look_all.Given as goal

-- the operations up to the index are seen
abbrev pub invariant-loop-name : goal.invariant-loop-name
invariant-loop-name l = record {
  kept : IsKept l.self;
  walked :
      (before : List Sight) (k : Clock) (os : List Operation) → l.names ≡ map named os → Each (IsOn l.loc) os
      → ((u : ℕ) → slice_index l.known u ≡ k u) → IsWalked l.initial.self before
      → IsWalked l.self (before ++ seen_with k (take l.name-index os));
}
