use Rattle.std.proofs.Common.{◌≡◌, drop, map}
use Rattle.upc_tree.specs.Unit.{spell_externals}
use Rattle.upc_tree.specs.layer.ViewStatement.{view_external}
use Rattle.upc_tree_tokens.proofs.unit_tokens.put_externals.Given as goal

abbrev pub invariant-loop-i : goal.invariant-loop-i
invariant-loop-i l = l.out ≡ spell_externals (map view_external (drop l.i l.externals)) l.fn.out
