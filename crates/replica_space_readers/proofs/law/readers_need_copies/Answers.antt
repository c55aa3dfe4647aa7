use Rattle.replica_space_readers.proofs.Reading.{readers-agree}
use Rattle.replica_space_readers.proofs.Showing.{two_readers-none, after_start-none, ordinary-too}
use Rattle.replica_space_readers.proofs.Running.{two_readers-run, after_start-run, some-opening}
use Rattle.replica_space_readers.proofs.law.readers_need_copies.Goals as goal

pub returns-clause-agree : goal.returns-clause-agree
returns-clause-agree c = readers-agree

pub returns-clause-need : goal.returns-clause-need
returns-clause-need c o n bx by = record { runs = two_readers-run o n bx by; alone = two_readers-none o n bx by }

pub returns-clause-need_after_start : goal.returns-clause-need_after_start
returns-clause-need_after_start c o n bx by = record { runs = after_start-run o n bx by; alone = after_start-none o n bx by }

pub returns-clause-opens : goal.returns-clause-opens
returns-clause-opens c = some-opening

pub returns-clause-ordinary : goal.returns-clause-ordinary
returns-clause-ordinary c = ordinary-too
