use Rattle.std.proofs.Common.{◌≡◌, max, map, drop}
use Rattle.upc_tree.specs.Statement.{height_block_items, height_switch_items, height_else_ifs}
use Rattle.upc_tree.specs.layer.Lists.{capped, block_items_of, switch_items_of, else_ifs_of}
use Rattle.upc_tree.specs.layer.ViewStatement.{view_block_item, view_switch_item, view_else_if}
use Rattle.upc_tree_tokens.proofs.unit_height.+statement_height.Given as goal

abbrev pub invariant-items_height-loop-part : goal.invariant-items_height-loop-part
invariant-items_height-loop-part l = max l.high (capped (height_block_items (block_items_of (map view_block_item (drop l.part-index l.items))))) ≡ capped (height_block_items (block_items_of (map view_block_item l.items)))

abbrev pub invariant-switch_height-loop-part : goal.invariant-switch_height-loop-part
invariant-switch_height-loop-part l = max l.high (capped (height_switch_items (switch_items_of (map view_switch_item (drop l.part-index l.items))))) ≡ capped (height_switch_items (switch_items_of (map view_switch_item l.items)))

abbrev pub invariant-else_ifs_height-loop-part : goal.invariant-else_ifs_height-loop-part
invariant-else_ifs_height-loop-part l = max l.high (capped (height_else_ifs (else_ifs_of (map view_else_if (drop l.part-index l.more))))) ≡ capped (height_else_ifs (else_ifs_of (map view_else_if l.more)))
