use Rattle.std.proofs.Common.{◌≡◌, drop, map}
use Rattle.upc_tree.specs.Declaration.{spell_next_declareds}
use Rattle.upc_tree.specs.layer.Lists.{next_declareds_of}
use Rattle.upc_tree.specs.layer.ViewStatement.{view_next_declared}
use Rattle.upc_tree_tokens.proofs.unit_tokens.put_next_declareds.Given as goal

abbrev pub invariant-loop-i : goal.invariant-loop-i
invariant-loop-i l = l.out ≡ spell_next_declareds (next_declareds_of (map view_next_declared (drop l.i l.more))) l.fn.out
