use Rattle.std.proofs.Common.{◌≡◌, ℕ, ◌<◌, ◌≤◌, false, map, length, get_or}
use Rattle.upc_types.specs.Types.{CType}
use Rattle.upc_types.specs.View.{view}
use Rattle.upc_types.specs.Cells.{alike}
use Rattle.upc_types.specs.code.TypeCodes.{code_of}
use Rattle.upc_types.proofs.PlacesOfNumbers.{IsAt, up_to}
use Rattle.upc_types.proofs.targets.Targets.number_of.Given as goal

-- none from here on is alike
abbrev pub invariant-loop-at : goal.invariant-loop-at
invariant-loop-at l = record {
  at : IsAt l.self.places.numbers.items (code_of (view l.target)) l.at;
  rest : (i : ℕ) (d : CType) → up_to l.at ≤ i → i < length (map view l.self.list.items) → alike (get_or (map view l.self.list.items) i d) (view l.target) ≡ false;
}

abbrev pub decreases-loop-at : goal.decreases-loop-at
decreases-loop-at l = up_to l.at
