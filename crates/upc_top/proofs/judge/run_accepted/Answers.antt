use Rattle.std.proofs.Common.{arith, refl}
use Rattle.typed_tree.specs.ViewProgram.{view_program}
use Rattle.upc_top_words.specs.Values.{view_call}
use Rattle.upc_top_words.proofs.Taken.{all-items}
use Rattle.upc_top.specs.Verdicts.{RunsAs}
use Rattle.upc_top.proofs.Readings.{accepted_threads}
use Rattle.upc_top.proofs.Records.{run-is, shown-comes}
use Rattle.upc_top.proofs.judge.run_accepted.Goals as goal

pub run_program-requires-clause-threads : goal.run_program-requires-clause-threads
run_program-requires-clause-threads g c κs within = accepted_threads _ _ _ c.requires.accepted

pub run_program-requires-clause-actions : goal.run_program-requires-clause-actions
run_program-requires-clause-actions g c κs within =
    let call = view_call c.args.call.now in
    let range = c.requires.range in
    let all = all-items call.mode call.threads call.actions range.one_thread range.threads in
    let most = c.requires.allowed.items in
    (range.one_item, omega arith)

pub shown-requires-clause-run : goal.shown-requires-clause-run
shown-requires-clause-run g c =
    let run : RunsAs (view_call c.args.call.now) c.args.bytes.now c.in-Ok.journal = record {
      mode = c.requires.mode;
      checked = view_program c.args.program.now;
      accepted = c.requires.accepted;
      run = c.in-Ok.ensures.ran;
    } in
    run-is (view_call c.args.call.now) c.args.bytes.now c.in-Ok.journal c.requires.range c.in-Ok.ensures.follows run

pub returns-in-Ok : goal.returns-in-Ok
returns-in-Ok g c r =
    let run : RunsAs (view_call c.args.call.now) c.args.bytes.now c.in-Ok.journal = record {
      mode = c.requires.mode;
      checked = view_program c.args.program.now;
      accepted = c.requires.accepted;
      run = c.in-Ok.ensures.ran;
    } in
    let is = run-is (view_call c.args.call.now) c.args.bytes.now c.in-Ok.journal c.requires.range c.in-Ok.ensures.follows run in
    shown-comes r (view_call c.args.call.now) c.args.bytes.now c.in-Ok.journal c.shown.result c.args.call.now.mode refl
    c.shown.ensures run is
