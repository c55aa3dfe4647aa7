use Rattle.std.proofs.Common.{Option, subst}
use Rattle.std.specs.Prelude.{IfSome}
use Rattle.upc_values.specs.declared.action.Reply.{Reply}
use Rattle.upc_library.specs.layer.Walks.{rest}
use Rattle.upc_meaning_state.specs.declared.progress.Step.{Step}
use Rattle.upc_meaning_state.specs.code.Walking.{IsUnfinished}
use Rattle.upc_meaning_state.proofs.MemoryCalls.{unfinished_left}
use Rattle.upc_meaning_state.proofs.progress.Progress.go_inside.Goals as goal

pub loop-call-smaller : goal.loop-call-smaller
loop-call-smaller c =
    c.take.ensures.falls (unfinished_left c.loop-call.call
    (subst (λ (o : Option (Step Reply)). IfSome o (λ _. IsUnfinished (rest c.loop-call.call))) c.in-Some-Gives.is
    c.in_ok-answer_inside.ensures.unfinished))
