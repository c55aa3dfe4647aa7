use Rattle.upc_values.proofs.SoundOrders.{sound-follows}
use Rattle.program_runs.proofs.ThreadSources.{gives_outcomes, meaning, is_run}
use Rattle.program_runs.proofs.run.run_program_by.Goals as goal

pub returns-clause-follows : goal.returns-clause-follows
returns-clause-follows g c =
    let program = c.args.program.now in
    sound-follows _ (meaning program) c.in_ok-journal.journal
    (c.in_ok-journal.ensures.sound (meaning program)
    (gives_outcomes program c.in_ok-code.code c.args.limits c.in_ok-code.ensures.means c.requires.budget.0))

pub returns-clause-ran : goal.returns-clause-ran
returns-clause-ran g c =
    let program = c.args.program.now in
    let ran = c.in_ok-journal.ensures in
    let gives =
    gives_outcomes program c.in_ok-code.code c.args.limits c.in_ok-code.ensures.means c.requires.budget.0 in
    record {
      run =
          is_run program c.args.limits c.in_ok-journal.journal (ran.sound (meaning program) gives) ran.limits ran.waits
          ran.locks ran.spent c.requires.budget.0;
      course = ran.course;
    }
