use Rattle.std.proofs.Common.{refl, sym, subst, List}
use Rattle.std.specs.Prelude.{Err}
use Rattle.block_layout.specs.declared.kind.Shape.{Shape}
use Rattle.thread_steps.specs.Blocks.{open_block}
use Rattle.stack_machine.specs.code.Turns.{Came, state_seen}
use Rattle.stack_machine.specs.declared.progress.Progress.{Progress}
use Rattle.stack_machine.specs.code.Kept.{HasKept}
use Rattle.stack_machine.proofs.Arrivals.{err_then}
use Rattle.stack_machine.proofs.Holding.{entered_held}
use Rattle.stack_machine.proofs.objects.enter.Goals as goal

pub returns-in-Err-clause-does : goal.returns-in-Err-clause-does
returns-in-Err-clause-does c = λ there given calls before.
    err_then before _ c.in-Err.e _ _ _ _
    (subst (λ (l : List Shape). Came before (open_block c.args.from l c.args.place (state_seen before c.args.progress.now))
    (Err c.in-Err.e) c.args.progress.now c.open_block.new.self) c.as_slice.ensures (c.in-Err.ensures.does before))

pub returns-in-Ok-clause-kept : goal.returns-in-Ok-clause-kept
returns-in-Ok-clause-kept c =
    subst (λ (q : Progress). HasKept c.args.code.now.threads c.args.code.now.shapes c.args.progress.now q c.args.operands.now)
    (sym c.in-Ok.ensures.done)
    (record {
      ticks = refl;
      held = record {
        operands_are = c.requires.held.operands_are;
        store_does = entered_held c.args.code.now.threads c.args.code.now.shapes c.args.from c.as_slice.result.now
            c.args.progress.now.store c.requires.held.store_does;
      };
    })
