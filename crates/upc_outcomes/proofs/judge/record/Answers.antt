use Rattle.typed_tree.specs.ViewProgram.{view_program}
use Rattle.upc_top.proofs.Readings.{accepted_threads}
use Rattle.upc_outcomes_words.specs.layer.Views.{view_call}
use Rattle.upc_outcomes.proofs.Records.{record-comes}
use Rattle.upc_outcomes.proofs.Runs.{ticks, items, same-threads, run-within}
use Rattle.upc_outcomes.proofs.judge.record.Goals as goal

pub run_program_by-requires-clause-threads : goal.run_program_by-requires-clause-threads
run_program_by-requires-clause-threads g c =
    same-threads (view_call c.args.call.now) c.limits.result c.args.program.now.threads c.limits.ensures
    (accepted_threads _ _ _ c.requires.accepted)

pub run_program_by-requires-clause-budget : goal.run_program_by-requires-clause-budget
run_program_by-requires-clause-budget g c = ticks (view_call c.args.call.now) c.limits.result c.limits.ensures c.requires.allowed

pub run_program_by-requires-clause-actions : goal.run_program_by-requires-clause-actions
run_program_by-requires-clause-actions g c = items (view_call c.args.call.now) c.limits.result c.limits.ensures c.requires.allowed

pub returns-in-Ok : goal.returns-in-Ok
returns-in-Ok g c =
    let a = view_call c.args.call.now in
    record-comes a c.args.bytes.now _ c.recorded.result c.recorded.ensures
    (record {
      picks = c.args.picks.now;
      wanted = c.requires.wanted;
      checked = view_program c.args.program.now;
      accepted = c.requires.accepted;
      run = run-within a c.limits.result _ _ _ c.limits.ensures c.in-Ok.ensures.ran;
    })
