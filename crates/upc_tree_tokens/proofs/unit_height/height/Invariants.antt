use Rattle.std.proofs.Common.{◌≡◌, max, map, drop}
use Rattle.upc_tree.specs.Unit.{height_externals}
use Rattle.upc_tree.specs.layer.Lists.{capped}
use Rattle.upc_tree.specs.layer.ViewStatement.{view_external}
use Rattle.upc_tree_tokens.proofs.unit_height.height.Given as goal

abbrev pub invariant-loop-part : goal.invariant-loop-part
invariant-loop-part l = max l.high (capped (height_externals (map view_external (drop l.part-index l.unit.externals.items)))) ≡ capped (height_externals (map view_external l.unit.externals.items))
