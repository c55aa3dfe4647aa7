use Rattle.std.proofs.Common.{◌≡◌, ◌≤◌, false, List, [], ◌∷◌, length, map, refl, arith}
use Rattle.upc_tree.specs.declared.expression.Pointer.{Pointer}
use Rattle.upc_tree.specs.layer.Lists.{pointers_of}
use Rattle.upc_tree.specs.layer.View.{view_pointer}
use Rattle.upc_checker_types.specs.Shapes.{is_none}
use Rattle.upc_checker_declarations.proofs.declarations.is_none.Goals as goal

filled : (xs : List Pointer) → 1 ≤ length xs → false ≡ is_none (pointers_of (map view_pointer xs))
filled [] h = absurd (omega (arith, h))
filled (x ∷ xs) h = refl

pub returns-in-len1-up : goal.returns-in-len1-up
returns-in-len1-up c = filled c.args.pointers.now (omega (arith, c.in-len1-up.len_at_least))
