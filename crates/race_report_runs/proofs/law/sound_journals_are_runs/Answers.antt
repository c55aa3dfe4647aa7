use Rattle.race_report_runs.proofs.Beginning.{sound-run}
use Rattle.race_report_runs.proofs.law.sound_journals_are_runs.Goals as goal

pub returns : goal.returns
returns c = sound-run
