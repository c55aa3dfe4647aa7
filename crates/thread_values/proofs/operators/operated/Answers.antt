use Rattle.std.proofs.Common.{rules, sym, subst, FitsSigned}
use Rattle.std.specs.Int.{w128}
use Rattle.std.proofs.lemmas.Int.{to_z-of_z}
use Rattle.integers.specs.Operators.{binary_kind}
use Rattle.upc_values.specs.declared.scalar.Value.{Value}
use Rattle.thread_steps.specs.layer.Ranges.{IsHeld}
use Rattle.thread_values.proofs.Numbers.{in_kind-number}
use Rattle.thread_values.proofs.operators.operated.Goals as goal

pub returns-in-Ok-clause-held : goal.returns-in-Ok-clause-held
returns-in-Ok-clause-held c threads shapes =
    let fits : FitsSigned w128 c.in-Ok.v = search rules in
    subst (λ (v : Value). IsHeld threads shapes v) (sym c.number.ensures)
    (simp to_z-of_z (in_kind-number c.in-Ok.v (binary_kind c.args.op c.args.left) c.in-Ok.ensures.range))
