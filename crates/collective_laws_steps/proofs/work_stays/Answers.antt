-- Each step is of the call.
use Rattle.collective_laws_steps.proofs.work_stays.Goals as goal
use Rattle.collective_laws_steps.proofs.Stays as stays

pub returns : goal.returns
returns c = stays.work_stays
