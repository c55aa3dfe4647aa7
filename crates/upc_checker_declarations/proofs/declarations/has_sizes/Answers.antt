use Rattle.std.proofs.Common.{◌≡◌, ◌≤◌, true, List, [], ◌∷◌, length, map, refl, arith}
use Rattle.upc_tree.specs.declared.expression.Dimension.{Dimension}
use Rattle.upc_tree.specs.layer.Lists.{dimensions_of}
use Rattle.upc_tree.specs.layer.View.{view_dimension}
use Rattle.upc_checker_types.specs.Shapes.{has_sizes}
use Rattle.upc_checker_declarations.proofs.declarations.has_sizes.Goals as goal

filled : (xs : List Dimension) → 1 ≤ length xs → true ≡ has_sizes (dimensions_of (map view_dimension xs))
filled [] h = absurd (omega (arith, h))
filled (x ∷ xs) h = refl

pub returns-in-len1-up : goal.returns-in-len1-up
returns-in-len1-up c = filled c.args.sizes.now (omega (arith, c.in-len1-up.len_at_least))
