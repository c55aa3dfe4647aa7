use Rattle.thread_values.proofs.calls.library_value.Goals as goal

pub returns-in-ThreadOf-clause-value : goal.returns-in-ThreadOf-clause-value
returns-in-ThreadOf-clause-value c shapes me private shape =
    rw c.in-ThreadOf.is (c.thread_of.ensures.value c.args.threads shapes me private shape)

pub returns-in-ThreadOf-clause-held : goal.returns-in-ThreadOf-clause-held
returns-in-ThreadOf-clause-held c shapes = c.thread_of.ensures.held c.args.threads shapes

pub returns-in-PhaseOf-clause-value : goal.returns-in-PhaseOf-clause-value
returns-in-PhaseOf-clause-value c shapes me private shape =
    rw c.in-PhaseOf.is (c.phase_of.ensures.value c.args.threads shapes me private shape)

pub returns-in-PhaseOf-clause-held : goal.returns-in-PhaseOf-clause-held
returns-in-PhaseOf-clause-held c shapes = c.phase_of.ensures.held c.args.threads shapes

pub returns-in-AddressField-clause-value : goal.returns-in-AddressField-clause-value
returns-in-AddressField-clause-value c shapes me private shape =
    rw c.in-AddressField.is (c.address_field.ensures.value c.args.threads shapes me private shape)

pub returns-in-AddressField-clause-held : goal.returns-in-AddressField-clause-held
returns-in-AddressField-clause-held c shapes = c.address_field.ensures.held c.args.threads shapes

pub returns-in-AffinitySize-clause-value : goal.returns-in-AffinitySize-clause-value
returns-in-AffinitySize-clause-value c shapes me private shape =
    rw c.in-AffinitySize.is (c.affinity_size.ensures.value shapes me private shape)
