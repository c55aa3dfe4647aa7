use Rattle.std.proofs.Common.{◌≡◌, take, map}
use Rattle.upc_types.specs.View.{view}
use Rattle.upc_checker_scopes.proofs.signatures.copy_signature.Given as goal

abbrev pub invariant-loop-t : goal.invariant-loop-t
invariant-loop-t l = map view l.parameters.items ≡ map view (take l.t-index l.s.parameters.items)
