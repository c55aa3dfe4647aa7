use Rattle.std.proofs.Common.{◌≡◌, map, reverse, take}
use Rattle.typed_tree.specs.Scopes as pure
use Rattle.typing_rules.specs.layer.Views.{view_signature}
use Rattle.upc_checker_scopes.specs.code.ViewFunctions.{view_function}
use Rattle.upc_checker_scopes.specs.layer.Views.{view_functions}
use Rattle.upc_types.proofs.PlacesOfNumbers.{IsAt, up_to}
use Rattle.upc_checker_scopes.proofs.functions.Functions.differs.Given as goal

-- what stands up to the place decides
abbrev pub invariant-loop-at : goal.invariant-loop-at
invariant-loop-at l =
    IsAt l.self.places.names.items l.name l.at × (pure.differs l.name (view_signature l.signature) (view_functions l.self) ≡ pure.differs l.name (view_signature l.signature) (reverse (take (up_to l.at) (map view_function l.self.list.items))))

abbrev pub decreases-loop-at : goal.decreases-loop-at
decreases-loop-at l = up_to l.at
