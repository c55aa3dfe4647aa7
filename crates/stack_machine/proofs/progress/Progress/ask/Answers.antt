use Rattle.std.proofs.Common.{rules, ◌≡◌, Some, None, true}
use Rattle.upc_values.specs.Formed.{fits}
use Rattle.thread_values.specs.layer.Asking.{IsHeldReply}
use Rattle.stack_code.specs.layer.Codes.{thread_of}
use Rattle.stack_machine.proofs.Asking.{took_ok, took_err}
use Rattle.stack_machine.proofs.progress.Progress.ask.Goals as goal

pub returns-in-Err-clause-does : goal.returns-in-Err-clause-does
returns-in-Err-clause-does c thread budget before =
    let there : c.args.self.now.reply ≡ Some c.in-Some.reply = search rules in
    let fit : fits c.args.code.now.threads c.args.code.now.shapes None c.args.action c.in-Some.reply ≡ true = search rules in
    rw c.fault.ensures (took_err (thread_of c.args.code.now thread budget) c.args.place before c.args.self.now
    c.args.action c.in-Some.reply c.in-Err.error (record c.args.self.now { reply = c.take.new.self }) there fit c.in-Err.ensures.value)

pub returns-clause-does : goal.returns-clause-does
returns-clause-does c thread budget before =
    let there : c.args.self.now.reply ≡ Some c.in-Some.reply = search rules in
    let fit : fits c.args.code.now.threads c.args.code.now.shapes None c.args.action c.in-Some.reply ≡ true = search rules in
    took_ok (thread_of c.args.code.now thread budget) c.args.place before c.args.self.now c.args.action c.in-Some.reply
    c.in-Ok.v c.take.new.self there fit c.in-Ok.ensures.value (search rules)

pub returns-clause-value : goal.returns-clause-value
returns-clause-value c =
    let held : IsHeldReply c.args.code.now.threads c.args.code.now.shapes c.in-Some.reply = search rules in
    c.in-Ok.ensures.held c.args.code.now.threads c.args.code.now.shapes held
