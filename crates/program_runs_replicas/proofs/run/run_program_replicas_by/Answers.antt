use Rattle.std.proofs.Common.{subst}
use Rattle.replica_space.specs.ReplicaSound.{IsSoundReplica}
use Rattle.program_runs.proofs.ThreadSources.{fits_run, gives_outcomes, meaning, openings_agree}
use Rattle.program_runs_replicas.proofs.run.run_program_replicas_by.Goals as goal

pub run_replicas_by-requires-clause-fits : goal.run_replicas_by-requires-clause-fits
run_replicas_by-requires-clause-fits g c =
    let kept = c.in_ok-code.ensures in
    fits_run c.args.program.now c.in_ok-code.code kept.threads kept.shapes kept.names

pub returns-clause-sound : goal.returns-clause-sound
returns-clause-sound g c =
    let program = c.args.program.now in let ran = c.in_ok-journal.ensures in
    let gives =
    gives_outcomes program c.in_ok-code.code c.args.limits c.in_ok-code.ensures.means c.requires.budget.0 in
    subst (λ o. IsSoundReplica o (meaning program) c.in_ok-journal.journal) (openings_agree program)
    (ran.sound (meaning program) gives)
