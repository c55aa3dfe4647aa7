use Rattle.std.proofs.Common.{◌≡◌, ◌≤◌, false, List, [], ◌∷◌, length, map, refl, arith}
use Rattle.upc_types.specs.declared.ctype.CType.{CType}
use Rattle.upc_types.specs.View.{view}
use Rattle.upc_checker.specs.Units.{is_empty}
use Rattle.upc_checker.proofs.units.is_empty.Goals as goal

filled : (xs : List CType) → 1 ≤ length xs → false ≡ is_empty (map view xs)
filled [] h = absurd (omega (arith, h))
filled (x ∷ xs) h = refl

pub returns-in-len1-up : goal.returns-in-len1-up
returns-in-len1-up c = filled c.args.parameters.now (omega (arith, c.in-len1-up.len_at_least))
