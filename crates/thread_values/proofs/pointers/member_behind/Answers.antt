use Rattle.std.proofs.Common.{rules, ◌≡◌, subst}
use Rattle.upc_values.specs.declared.scalar.Scalar.TheVariants.{Shared}
use Rattle.upc_values.specs.declared.scalar.Value.{Value}
use Rattle.upc_values.specs.declared.scalar.Value.TheVariants.{Scalar}
use Rattle.thread_steps.specs.layer.Ranges.{IsHeld}
use Rattle.thread_values.proofs.pointers.member_behind.Goals as goal

pub returns-in-Scalar-Shared-clause-held : goal.returns-in-Scalar-Shared-clause-held
returns-in-Scalar-Shared-clause-held c threads shapes h =
    let same : c.args.p ≡ Scalar (Shared c.in-Scalar-Shared.p) = search rules in
    c.member_shared.ensures.held threads shapes (subst (λ (v : Value). IsHeld threads shapes v) same h)
