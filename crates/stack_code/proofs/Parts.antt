-- Parts that are added to code.
use Rattle.std.proofs.Common.{ℕ, List, [], ◌∷◌, ◌++◌}
use Rattle.block_layout.specs.declared.kind.Shape.{Shape}
use Rattle.block_layout.specs.declared.place.LocalPtr.{LocalPtr}
use Rattle.upc_values.specs.Lists.{Each}
use Rattle.upc_values.proofs.Lists.{each-push}
use Rattle.upc_values.specs.declared.scalar.Value.{Value}
use Rattle.stack_code.specs.layer.Kept.{IsKnown}

-- One more initial value that names nothing out of range.
pub more_known : (threads : ℕ) (shapes : List Shape) (initials : List (LocalPtr × Value)) (at : LocalPtr) (v : Value)
    → Each (λ x. IsKnown threads shapes x.1) initials → IsKnown threads shapes v
    → Each (λ x. IsKnown threads shapes x.1) (initials ++ (at, v) ∷ [])
more_known threads shapes initials at v h known =
    each-push (λ x. IsKnown threads shapes x.1) initials (at, v) h known
