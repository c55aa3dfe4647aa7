use Rattle.private_store.proofs.Straight.{named_store}
use Rattle.private_store.proofs.store.Store.store_local.Goals as goal

pub returns-in-Some : goal.returns-in-Some
returns-in-Some c = named_store c.args.self.now c.args.n c.in-Some.at c.in-Some.ensures c.store_at.result c.args.kind c.args.v c.store_at.new.self c.store_at.ensures
