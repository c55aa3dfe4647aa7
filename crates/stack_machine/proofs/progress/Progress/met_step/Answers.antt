use Rattle.std.proofs.Common.{rules, ◌≡◌, true, false}
use Rattle.thread_values.specs.layer.Asking.{expansion_of}
use Rattle.stack_code.specs.layer.Codes.{thread_of}
use Rattle.stack_machine.proofs.Asking.{alone, met_err, met_ok}
use Rattle.stack_machine.proofs.progress.Progress.met_step.Goals as goal

pub returns-then-not-is_collective-clause-does : goal.returns-then-not-is_collective-clause-does
returns-then-not-is_collective-clause-does c thread budget before =
    let plain : c.args.is_collective ≡ false = search rules in
    alone (thread_of c.args.code.now thread budget) c.args.place before c.args.self.now (expansion_of c.args.step)
    c.args.is_collective c.take_step.result c.take_step.new.self plain (c.take_step.ensures.does thread budget before)

pub returns-in-Err-clause-does : goal.returns-in-Err-clause-does
returns-in-Err-clause-does c thread budget before =
    let met : c.args.is_collective ≡ true = search rules in
    met_err (thread_of c.args.code.now thread budget) c.args.place before c.args.self.now (expansion_of c.args.step)
    c.args.is_collective c.in-Err.e met (c.in-Err.ensures.does (thread_of c.args.code.now thread budget) before)

pub returns-in-Ok-clause-does : goal.returns-in-Ok-clause-does
returns-in-Ok-clause-does c thread budget before =
    let met : c.args.is_collective ≡ true = search rules in
    met_ok (thread_of c.args.code.now thread budget) c.args.place before c.args.self.now (expansion_of c.args.step)
    c.args.is_collective c.take_step-in-Ok.result c.take_step-in-Ok.new.self met
    (c.in-Ok.ensures.exact (thread_of c.args.code.now thread budget) before)
    (c.take_step-in-Ok.ensures.does thread budget before)
