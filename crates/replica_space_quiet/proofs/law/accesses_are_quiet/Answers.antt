use Rattle.replica_space_quiet.proofs.Quiet.{replies-loud, formed-loud}
use Rattle.replica_space_quiet.proofs.law.accesses_are_quiet.Goals as goal

pub returns-clause-replies : goal.returns-clause-replies
returns-clause-replies c = λ o es t a h. replies-loud o es t a h

pub returns-clause-formed : goal.returns-clause-formed
returns-clause-formed c = λ o es a. formed-loud o es a
