use Rattle.std.proofs.Common.{◌∙◌}
use Rattle.collectives.proofs.EachElement.{total_fails}
use Rattle.collectives.proofs.EachElement.{total_reads}
use Rattle.collectives.proofs.total.Total.take.Goals as goal

pub returns-in-Ok-clause-rest : goal.returns-in-Ok-clause-rest
returns-in-Ok-clause-rest c = λ threads shapes me.
    let l = c.args.self in
    c.further.ensures threads shapes me
    ∙ total_reads l.op l.kind l.so_far c.in-Ok.so_far l.dst l.element l.elements c.args.reply.now c.in-Ok.ensures

pub returns-in-Err-clause-refused : goal.returns-in-Err-clause-refused
returns-in-Err-clause-refused c =
    let l = c.args.self in
    total_fails l.op l.kind l.so_far c.in-Err.code l.dst l.element l.elements c.args.reply.now c.in-Err.ensures
