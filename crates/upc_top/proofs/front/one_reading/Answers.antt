use Rattle.upc_top.proofs.Readings.{same_expanded, same_tree, same_checked, never_both}
use Rattle.upc_top.proofs.front.one_reading.Goals as goal

pub returns : goal.returns
returns c =
    record { expanded = same_expanded; tree = same_tree; checked = same_checked; either = never_both }
