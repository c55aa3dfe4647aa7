-- The destination holds the call's value.
use Rattle.collective_laws_steps.proofs.values_hold.Goals as goal
use Rattle.collective_laws_steps.proofs.Values as values

pub returns : goal.returns
returns c = values.values_hold
