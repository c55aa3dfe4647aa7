use Rattle.std.proofs.Common.{refl}
use Rattle.tests_runs.proofs.Running.{picked_is_run}
use Rattle.tests_runs.proofs.runs.run_of.Goals as goal

pub returns-clause-run : goal.returns-clause-run
returns-clause-run g c =
    picked_is_run _ _ _ _ c.in_ok-journal.ensures.ran c.in_ok-journal.ensures.follows (c.if-not-may_be.ensures.budget refl).0
    (c.if-not-may_be.ensures.actions refl).0
