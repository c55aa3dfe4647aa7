use Rattle.upc_checker_types.proofs.Naming.{noted}
use Rattle.upc_checker_types.proofs.members.note.Goals as goal

pub returns-clause-ok : goal.returns-clause-ok
returns-clause-ok c = λ q. noted c.args.numbers.now c.insert.new.self (λ k. k.items) c.args.name.items c.args.number c.in_ok-insert.ensures.updates q
