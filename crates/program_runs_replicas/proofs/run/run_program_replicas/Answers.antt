use Rattle.std.proofs.Common.{subst}
use Rattle.typed_tree.specs.ViewProgram.{view_program}
use Rattle.source_meaning.specs.Laws.{opening_of}
use Rattle.replica_space.specs.ReplicaSound.{IsSoundReplica}
use Rattle.replica_space_rounds.specs.ReplicaRounds.{GoesByReplicaRounds}
use Rattle.replica_space_consistent.proofs.Judging.{are-consistent}
use Rattle.program_runs.proofs.ThreadSources.{fits_run, gives_outcomes, meaning, openings_agree}
use Rattle.program_runs_replicas.proofs.run.run_program_replicas.Goals as goal

pub run_replicas-requires-clause-fits : goal.run_replicas-requires-clause-fits
run_replicas-requires-clause-fits g c κs within =
    let kept = c.in_ok-code.ensures in
    fits_run c.args.program.now c.in_ok-code.code kept.threads kept.shapes kept.names

pub returns : goal.returns
returns g c =
    let program = c.args.program.now in
    let ran = c.in_ok-journal.ensures in
    let gives =
    gives_outcomes program c.in_ok-code.code c.args.limits c.in_ok-code.ensures.means c.requires.budget.0 in
    let begins = opening_of (view_program program) in
    let journal = c.in_ok-journal.journal in
    let sound : IsSoundReplica begins (meaning program) journal =
    subst (λ o. IsSoundReplica o (meaning program) journal) (openings_agree program) (ran.sound (meaning program) gives) in
    let limits = ran.limits in
    record {
      threads = limits.0;
      budget = limits.1;
      actions = limits.2;
      sound = sound;
      orders = are-consistent begins journal.events sound.run;
      spent = ran.spent;
      rounds =
          subst (λ o. GoesByReplicaRounds o (meaning program) journal) (openings_agree program) (ran.rounds (meaning program) gives);
    }
