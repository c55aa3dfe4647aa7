use Rattle.std.proofs.Common.{◌≡◌, drop, map}
use Rattle.upc_tree.specs.Statement.{spell_block_items, spell_else_ifs, spell_switch_items}
use Rattle.upc_tree.specs.layer.Lists.{block_items_of, else_ifs_of, switch_items_of}
use Rattle.upc_tree.specs.layer.ViewStatement.{view_block_item, view_else_if, view_switch_item}
use Rattle.upc_tree_tokens.proofs.unit_tokens.+put_statement.Given as goal

abbrev pub invariant-put_block_items-loop-i : goal.invariant-put_block_items-loop-i
invariant-put_block_items-loop-i l = l.out ≡ spell_block_items (block_items_of (map view_block_item (drop l.i l.items))) l.fn.out

abbrev pub invariant-put_switch_items-loop-i : goal.invariant-put_switch_items-loop-i
invariant-put_switch_items-loop-i l = l.out ≡ spell_switch_items (switch_items_of (map view_switch_item (drop l.i l.items))) l.fn.out

abbrev pub invariant-put_else_ifs-loop-i : goal.invariant-put_else_ifs-loop-i
invariant-put_else_ifs-loop-i l = l.out ≡ spell_else_ifs (else_ifs_of (map view_else_if (drop l.i l.more))) l.fn.out
