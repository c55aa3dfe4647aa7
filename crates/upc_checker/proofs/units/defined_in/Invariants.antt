use Rattle.std.proofs.Common.{◌≡◌, ◌++◌, map, drop}
use Rattle.upc_tree.specs.layer.ViewStatement.{view_external}
use Rattle.upc_checker.specs.Units as pure
use Rattle.upc_checker.proofs.units.defined_in.Given as goal

abbrev pub invariant-loop-part : goal.invariant-loop-part
invariant-loop-part l = l.all.names.items ++ pure.defined_in (map view_external (drop l.part-index l.externals)) ≡ pure.defined_in (map view_external l.externals)
