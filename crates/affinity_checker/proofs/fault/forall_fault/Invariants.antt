use Rattle.std.proofs.Common.{◌≡◌, map, drop}
use Rattle.upc_tree.specs.layer.ViewStatement.{view_external}
use Rattle.affinity_checker.specs.layer.Rules.{first}
use Rattle.affinity_checker.specs.layer.Breaches.{unit_breaches}
use Rattle.affinity_checker.proofs.fault.forall_fault.Given as goal

abbrev pub invariant-loop-part : goal.invariant-loop-part
invariant-loop-part l = first (unit_breaches (map view_external (drop l.part-index l.unit.externals.items))) ≡ first (unit_breaches (map view_external l.unit.externals.items))
