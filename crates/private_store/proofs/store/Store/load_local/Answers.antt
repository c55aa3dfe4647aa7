use Rattle.private_store.proofs.Straight.{named_load}
use Rattle.private_store.proofs.store.Store.load_local.Goals as goal

pub returns-in-Some-clause-value : goal.returns-in-Some-clause-value
returns-in-Some-clause-value c = named_load c.args.self.now c.args.n c.in-Some.at c.in-Some.ensures c.load_at.result c.args.kind c.load_at.ensures.value
