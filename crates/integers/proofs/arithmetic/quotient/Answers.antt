use Rattle.std.proofs.Common.{rules, ◌≡◌, ◌≢◌, ◌↔◌, IsErrOf, FitsSigned, int_div, ◌∙◌}
use Rattle.std.specs.Int.{w128}
use Rattle.std.proofs.Math.IntN.{pos}
use Rattle.std.proofs.lemmas.Int.{to_z-of_z}
use Rattle.block_layout.specs.declared.run_error.TheConstants.{SIGNED_OVERFLOW}
use Rattle.integers.specs.Integers.{IsLost}
use Rattle.integers.proofs.Conversions.{lost-as}
use Rattle.integers.proofs.arithmetic.quotient.Goals as goal

pub returns-clause-overflow : goal.returns-clause-overflow
returns-clause-overflow c =
    let mine : FitsSigned w128 c.divided.result = search rules in
    let same : c.divided.result ≡ int_div c.args.a c.args.b = search rules in
    let exact : IsErrOf c.bring.result SIGNED_OVERFLOW ↔ IsLost c.args.kind (int_div c.args.a c.args.b) = lost-as c.args.kind _ _ _ c.bring.ensures.overflow (to_z-of_z w128 c.divided.result mine ∙ same) in
    let some : c.args.b ≢ pos 0 = search rules in
    (λ e. (some, exact.0 e), λ x. exact.1 x.1)
