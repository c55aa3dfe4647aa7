use Rattle.std.proofs.Common.{arith}
use Rattle.std.proofs.lemmas.Bool.{leb-true}
use Rattle.upc_task.proofs.Recorders.{own-finish}
use Rattle.upc_task.proofs.recorder.Recorder.own_end.Goals as goal

pub returns-clause-some : goal.returns-clause-some
returns-clause-some g c =
    let k = c.args.self.now in
    own-finish k c.in-Some.wish _ c.end_of.result c.end_of.ensures c.in-Some.is
    (λ full. let le = leb-true k.limits.actions c.len.result full in let many = c.len.ensures in omega arith)
