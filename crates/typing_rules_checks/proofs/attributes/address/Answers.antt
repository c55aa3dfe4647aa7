use Rattle.typing_rules_checks.proofs.attributes.address.Goals as goal

pub invariant_of-result-clause-within : goal.invariant_of-result-clause-within
invariant_of-result-clause-within c = c.address_in.ensures.within c.args.a.now.names
