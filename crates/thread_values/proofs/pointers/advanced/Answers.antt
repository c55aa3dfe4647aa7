use Rattle.std.proofs.Common.{subst}
use Rattle.upc_values.specs.declared.scalar.Value.{Value}
use Rattle.thread_steps.specs.layer.Ranges.{IsHeld}
use Rattle.thread_values.proofs.pointers.advanced.Goals as goal

pub returns-in-Local-clause-held : goal.returns-in-Local-clause-held
returns-in-Local-clause-held c shapes h =
    c.moved.ensures.held c.args.threads shapes
    (subst (λ (v : Value). IsHeld c.args.threads shapes v) c.in-Local.is h)
