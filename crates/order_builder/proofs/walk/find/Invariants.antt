use Rattle.std.proofs.Common.{◌≡◌, None, drop}
use Rattle.upc_values.specs.Drain.{last_written}
use Rattle.order_builder.specs.code.Views.{kept_entries}
use Rattle.order_builder.proofs.walk.find.Given as goal

-- none of the younger ones has the location
abbrev pub invariant-loop-at : goal.invariant-loop-at
invariant-loop-at l = last_written l.loc (drop l.at (kept_entries l.pending.items)) ≡ None
