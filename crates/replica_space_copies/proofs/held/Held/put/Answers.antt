use Rattle.replica_space_copies.proofs.Holding.{put-at}
use Rattle.replica_space_copies.proofs.held.Held.put.Goals as goal

pub returns-clause-put : goal.returns-clause-put
returns-clause-put c = λ t l.
    rw (← c.self.view_is)
    (put-at c.insert.new.self.entries c.self.inside.map.entries c.key_of.result c.args.holder t c.args.message l c.key_of.ensures
    c.in-Ok.ensures.updates.0)
