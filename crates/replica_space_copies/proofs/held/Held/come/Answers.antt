use Rattle.std.proofs.Common.{sym, ◌∙◌}
use Rattle.replica_space_copies.proofs.Holding.{come_at}
use Rattle.replica_space_copies.proofs.held.Held.come.Goals as goal

pub returns-clause-come : goal.returns-clause-come
returns-clause-come c = λ t l.
    c.put.ensures.put t l ∙ come_at c.args.holder t c.args.message l c.args.self.now (sym c.is_behind.ensures ∙ c.if-is_behind.false)
