use Rattle.program_runs.proofs.ThreadSources.{fits_run}
use Rattle.program_runs.proofs.run.code_of.Goals as goal

pub returns-clause-fits : goal.returns-clause-fits
returns-clause-fits c =
    let kept = c.in_ok-code.ensures in
    fits_run c.args.program.now c.in_ok-code.code kept.threads kept.shapes kept.names
