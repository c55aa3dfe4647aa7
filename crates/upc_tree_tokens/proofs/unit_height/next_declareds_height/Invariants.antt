use Rattle.std.proofs.Common.{◌≡◌, max, map, drop}
use Rattle.upc_tree.specs.Declaration.{height_next_declareds}
use Rattle.upc_tree.specs.layer.Lists.{capped, next_declareds_of}
use Rattle.upc_tree.specs.layer.ViewStatement.{view_next_declared}
use Rattle.upc_tree_tokens.proofs.unit_height.next_declareds_height.Given as goal

abbrev pub invariant-loop-part : goal.invariant-loop-part
invariant-loop-part l = max l.high (capped (height_next_declareds (next_declareds_of (map view_next_declared (drop l.part-index l.more))))) ≡ capped (height_next_declareds (next_declareds_of (map view_next_declared l.more)))
