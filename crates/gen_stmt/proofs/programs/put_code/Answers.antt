use Rattle.std.proofs.Common.{◌∙◌, ap}
use Rattle.stack_code.specs.layer.Making.{with_function}
use Rattle.gen_stmt.proofs.Behind.{on_ok}
use Rattle.gen_stmt.proofs.Compiling.{ended}
use Rattle.gen_stmt.proofs.programs.put_code.Goals as goal

pub returns : goal.returns
returns c =
    on_ok c.end_function.result _ _
    (λ h. h ∙ ap with_function c.in_ok-append_all.ensures.done
    ∙ ended c.args.builder.now c.args.code.items c.requires)
    c.end_function.ensures.done
