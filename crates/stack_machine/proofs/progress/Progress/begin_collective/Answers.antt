use Rattle.std.proofs.Common.{rules, ◌≡◌, true, List, sym, ap, ◌∙◌, subst}
use Rattle.std.specs.Prelude.{Err}
use Rattle.upc_values.specs.Calls.{call_of}
use Rattle.upc_values.specs.declared.scalar.Scalar.{Scalar}
use Rattle.upc_values.specs.Expansions.{collective}
use Rattle.upc_values.specs.LibraryCalls.{gives_zero}
use Rattle.collectives.specs.layer.Arguments.{copies_or_reduces}
use Rattle.thread_values.specs.layer.Copies.{shapes_in}
use Rattle.thread_values.specs.layer.Collectives.{scalars_met}
use Rattle.thread_values.proofs.CollectiveCalls.{collective_means, collective_formed}
use Rattle.stack_machine.specs.declared.open_calls.Walk.{Walk}
use Rattle.stack_machine.proofs.CollectivesOf.{collective_acts, acts_held, known_call, refuses_as}
use Rattle.stack_machine.proofs.Openings.{collective_is, fails_as, unless_so}
use Rattle.stack_machine.proofs.progress.Progress.begin_collective.Goals as goal

pub returns-in-Ok-clause-made : goal.returns-in-Ok-clause-made
returns-in-Ok-clause-made c =
    let code = c.args.code.now in
    let me = c.args.runner.now.number in
    let next = c.args.next.now in
    let same : c.as_slice-scalars.result.now ≡ scalars_met next.call c.args.args.now = search rules in
    collective_means code.threads code.shapes me (shapes_in c.args.self.now.store) next.shape c.args.args.now next.call
    c.args.number c.requires
    ∙ ap gives_zero (sym (c.in-Ok.ensures.made code.shapes
    ∙ collective_is c.threads.result code.threads code.shapes me c.args.number c.as_slice-scalars.result.now
    (scalars_met next.call c.args.args.now) c.threads.ensures.value same))

pub returns-in-Ok-clause-values : goal.returns-in-Ok-clause-values
returns-in-Ok-clause-values c =
    let code = c.args.code.now in
    acts_held code.threads code.shapes _ (collective_acts code.shapes c.in-Ok.collective)

pub returns-in-Ok-clause-formed : goal.returns-in-Ok-clause-formed
returns-in-Ok-clause-formed c =
    let next = c.args.next.now in
    let same : c.as_slice-scalars.result.now ≡ scalars_met next.call c.args.args.now = search rules in
    let on : copies_or_reduces (call_of c.args.number c.as_slice-scalars.result.now) ≡ true = search rules in
    collective_formed c.args.code.now.shapes next.shape c.args.args.now next.call c.args.number c.requires
    (known_call _ (subst (λ (l : List Scalar). copies_or_reduces (call_of c.args.number l) ≡ true) same on))

pub returns-clause-fails : goal.returns-clause-fails
returns-clause-fails c =
    let code = c.args.code.now in
    let me = c.args.runner.now.number in
    let next = c.args.next.now in
    let same : c.as_slice-scalars.result.now ≡ scalars_met next.call c.args.args.now = search rules in
    fails_as c.in-Err.e (collective c.threads.result code.shapes me c.args.number c.as_slice-scalars.result.now) _ next.place
    c.args.self.now.ticks c.refused.result
    (collective_means code.threads code.shapes me (shapes_in c.args.self.now.store) next.shape c.args.args.now next.call
    c.args.number c.requires
    ∙ ap gives_zero (sym (collective_is c.threads.result code.threads code.shapes me c.args.number c.as_slice-scalars.result.now
    (scalars_met next.call c.args.args.now) c.threads.ensures.value same)))
    (refuses_as c.in-Err.e _ (c.in-Err.ensures.refused code.shapes)) c.refused.ensures

pub returns-clause-formed : goal.returns-clause-formed
returns-clause-formed c =
    let next = c.args.next.now in
    let same : c.as_slice-scalars.result.now ≡ scalars_met next.call c.args.args.now = search rules in
    let on : copies_or_reduces (call_of c.args.number c.as_slice-scalars.result.now) ≡ true = search rules in
    unless_so {A = Walk} (Err c.refused.result) _
    (collective_formed c.args.code.now.shapes next.shape c.args.args.now next.call c.args.number c.requires
    (known_call _ (subst (λ (l : List Scalar). copies_or_reduces (call_of c.args.number l) ≡ true) same on)))
