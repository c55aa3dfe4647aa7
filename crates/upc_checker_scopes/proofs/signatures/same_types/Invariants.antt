use Rattle.std.proofs.Common.{◌≡◌, drop, map}
use Rattle.upc_types.specs.View.{view}
use Rattle.typed_tree.specs.Scopes as pure
use Rattle.upc_checker_scopes.proofs.signatures.same_types.Given as goal

-- what is left decides
abbrev pub invariant-loop-i : goal.invariant-loop-i
invariant-loop-i l = pure.same_types (map view l.a) (map view l.b) ≡ pure.same_types (map view (drop l.i l.a)) (map view (drop l.i l.b))
