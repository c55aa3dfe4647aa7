use Rattle.collectives.proofs.EachElement.{prefix_fails}
use Rattle.collectives.proofs.EachElement.{prefix_reads}
use Rattle.collectives.proofs.prefixes.Prefixes.take.Goals as goal

pub returns-in-Ok-clause-rest : goal.returns-in-Ok-clause-rest
returns-in-Ok-clause-rest c = λ threads shapes me.
    let l = c.args.self in
    prefix_reads l.op l.kind l.so_far c.in-Ok.value l.part l.parts c.args.reply.now c.in-Ok.ensures

pub returns-in-Err-clause-refused : goal.returns-in-Err-clause-refused
returns-in-Err-clause-refused c =
    let l = c.args.self in
    prefix_fails l.op l.kind l.so_far c.in-Err.code l.part l.parts c.args.reply.now c.in-Err.ensures
