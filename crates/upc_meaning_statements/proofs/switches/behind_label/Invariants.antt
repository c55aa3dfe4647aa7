use Rattle.std.proofs.Common.{◌≡◌, length}
use Rattle.typed_tree.specs.ViewStatements.{view_switch_items}
use Rattle.upc_meaning_work.specs.layer.Switches.{behind_label}
use Rattle.upc_meaning_statements.proofs.switches.behind_label.Given as goal

abbrev pub decreases-loop-item : goal.decreases-loop-item
decreases-loop-item l = length l.left

abbrev pub invariant-loop-item : goal.invariant-loop-item
invariant-loop-item l =
    behind_label l.label (view_switch_items l.left) ≡ behind_label l.label (view_switch_items l.items)
