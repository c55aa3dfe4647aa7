use Rattle.std.proofs.Common.{arith}
use Rattle.private_store.proofs.Things.{thing_here}
use Rattle.private_store.proofs.finding.object_place.Goals as goal

pub returns-then-number : goal.returns-then-number
returns-then-number c =
    thing_here c.args.objects.now c.args.number c.requires c.args.number c.number.result (omega arith) c.number.ensures c.if-number.true

pub returns-then-number-2 : goal.returns-then-number-2
returns-then-number-2 c =
    thing_here c.args.objects.now c.args.number c.requires c.saturating_sub-second.result c.number-then-second-len.result (omega arith)
    c.number-then-second-len.ensures c.if-number-2.true
