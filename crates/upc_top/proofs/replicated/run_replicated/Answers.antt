use Rattle.std.proofs.Common.{arith}
use Rattle.typed_tree.specs.ViewProgram.{view_program}
use Rattle.upc_top_words.specs.Values.{view_call}
use Rattle.upc_top_words.proofs.Taken.{all-items}
use Rattle.upc_top.proofs.Readings.{accepted_threads}
use Rattle.upc_top.proofs.replicated.run_replicated.Goals as goal

pub returns-in-Err : goal.returns-in-Err
returns-in-Err g c r = c.stopped.ensures r (view_call c.args.call.now) c.args.bytes.now c.in-Err.ensures.refused

pub run_program_replicas-requires-clause-threads : goal.run_program_replicas-requires-clause-threads
run_program_replicas-requires-clause-threads g c κs within = accepted_threads _ _ _ c.in-Ok.ensures.accepted

pub run_program_replicas-requires-clause-actions : goal.run_program_replicas-requires-clause-actions
run_program_replicas-requires-clause-actions g c κs within =
    let call = view_call c.args.call.now in
    let range = c.requires.range in
    let all = all-items call.mode call.threads call.actions range.one_thread range.threads in
    let most = c.requires.allowed.items in
    (range.one_item, omega arith)

pub returns-in-Ok-run_program_replicas : goal.returns-in-Ok-run_program_replicas
returns-in-Ok-run_program_replicas g c r = record {
  mode = c.requires.mode;
  checked = view_program c.in-Ok.program;
  accepted = c.in-Ok.ensures.accepted;
  run = c.in-Ok-run_program_replicas.ensures;
}
