use Rattle.std.proofs.Common.{◌≡◌, ℕ}
use Rattle.std.specs.Option.{option_copied}
use Rattle.upc_values.specs.Drain.{drain}
use Rattle.upc_verify_stalls.specs.code.Searches.{IsReady, IsAt}
use Rattle.upc_verify_stalls.proofs.points.points_of.Given as goal

-- the search has come to the items that are left
abbrev pub invariant-loop-item : goal.invariant-loop-item
invariant-loop-item l = record {
  ready : IsReady l.entries l.search;
  at : (t : ℕ) → l.entries ≡ drain t l.items → IsAt t (option_copied l.want) l.items l.item-iterator l.search;
}
