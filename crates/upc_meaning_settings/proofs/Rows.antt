-- Shapes, one by one.
use Rattle.std.proofs.Common.{List, [], ◌∷◌, ◌++◌}
use Rattle.block_layout.specs.declared.kind.Shape.{Shape}
use Rattle.block_layout.specs.Shapes.{IsShape}
use Rattle.upc_values.specs.Lists.{Each}

-- One shape more.
pub each_more : (xs : List Shape) (x : Shape) → Each IsShape xs → IsShape x → Each IsShape (xs ++ x ∷ [])
each_more [] x h e = (e, tt)
each_more (y ∷ xs) x h e = (h.0, each_more xs x h.1 e)
