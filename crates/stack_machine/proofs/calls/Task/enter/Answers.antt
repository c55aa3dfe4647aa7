use Rattle.std.proofs.Common.{◌≡◌, sym, ap, ◌∙◌, subst, List}
use Rattle.upc_values.specs.declared.scalar.Value.{Value}
use Rattle.upc_values.specs.LibraryCalls.{library_call, gives_zero}
use Rattle.thread_values.specs.layer.Copies.{shapes_in}
use Rattle.stack_machine.specs.layer.Machine.{listed}
use Rattle.stack_machine.specs.code.Calls.{left_of, FailsSo, UnlessWant}
use Rattle.stack_machine.specs.code.Inside.{StandsInside}
use Rattle.stack_machine.specs.code.Tasks.{task_seen}
use Rattle.std.specs.Prelude.{Err, true}
use Rattle.thread_steps.specs.Library.{is_formed}
use Rattle.stack_machine.specs.declared.open_calls.Walk.{Walk}
use Rattle.stack_machine.proofs.Openings.{enters_so, refused_so, walks_no_exit}
use Rattle.stack_machine.proofs.calls.Task.enter.Goals as goal

pub returns-in-Err-clause-enters : goal.returns-in-Err-clause-enters
returns-in-Err-clause-enters c = λ given s.
    let code = c.args.code.now in
    let r = c.args.runner.now in
    let t = c.args.self.now in
    let next = c.args.next in
    refused_so code r.number r.budget given (task_seen t) next c.requires.there
    (walks_no_exit next.call c.requires.walks) c.requires.meets (listed t.progress.reply) c.in-Err.halt t
    (subst (λ (args : List Value). FailsSo c.in-Err.halt (library_call code.threads code.shapes r.number
    (shapes_in t.progress.store) next.call next.shape args) next.place t.progress.ticks) c.youngest.ensures
    c.in-Err.ensures.fails)
    (subst (λ (args : List Value). UnlessWant {A = Walk} (Err c.in-Err.halt)
    (is_formed code.shapes next.call next.shape args ≡ true)) c.youngest.ensures c.in-Err.ensures.formed) s

pub returns-in-Ok-clause-enters : goal.returns-in-Ok-clause-enters
returns-in-Ok-clause-enters c = λ given s.
    let code = c.args.code.now in
    let r = c.args.runner.now in
    let t = c.args.self.now in
    let next = c.args.next in
    subst (λ (l : List Value). StandsInside code r.number r.budget given (listed t.progress.reply) next.place
    (gives_zero (left_of code.shapes c.in-Ok.walk)) (task_seen (record t { operands = l })))
    (sym c.drop_youngest.ensures)
    (enters_so code r.number r.budget given (task_seen t) next c.requires.there
    (walks_no_exit next.call c.requires.walks) c.requires.meets (listed t.progress.reply) c.in-Ok.walk
    (ap (λ (args : List Value). library_call code.threads code.shapes r.number (shapes_in t.progress.store) next.call
    next.shape args) (sym c.youngest.ensures) ∙ c.in-Ok.ensures.made)
    (subst (λ (args : List Value). is_formed code.shapes next.call next.shape args ≡ true) c.youngest.ensures
    c.in-Ok.ensures.formed) s)
