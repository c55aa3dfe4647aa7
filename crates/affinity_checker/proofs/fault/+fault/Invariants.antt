use Rattle.std.proofs.Common.{◌≡◌, map, drop}
use Rattle.upc_tree.specs.layer.Lists.{block_items_of, switch_items_of, else_ifs_of}
use Rattle.upc_tree.specs.layer.ViewStatement.{view_block_item, view_switch_item, view_else_if}
use Rattle.affinity_checker.specs.layer.Rules.{first}
use Rattle.affinity_checker.specs.layer.Breaches.{in_block_items, in_switch_items, in_else_ifs}
use Rattle.affinity_checker.proofs.fault.+fault.Given as goal

abbrev pub invariant-else_ifs_fault-loop-part : goal.invariant-else_ifs_fault-loop-part
invariant-else_ifs_fault-loop-part l = first (in_else_ifs (else_ifs_of (map view_else_if (drop l.part-index l.more))) l.around) ≡ first (in_else_ifs (else_ifs_of (map view_else_if l.more)) l.around)

abbrev pub invariant-items_fault-loop-part : goal.invariant-items_fault-loop-part
invariant-items_fault-loop-part l = first (in_block_items (block_items_of (map view_block_item (drop l.part-index l.items))) l.around) ≡ first (in_block_items (block_items_of (map view_block_item l.items)) l.around)

abbrev pub invariant-switch_fault-loop-part : goal.invariant-switch_fault-loop-part
invariant-switch_fault-loop-part l = first (in_switch_items (switch_items_of (map view_switch_item (drop l.part-index l.items))) l.around) ≡ first (in_switch_items (switch_items_of (map view_switch_item l.items)) l.around)
