use Rattle.std.proofs.Common.{rules}
use Rattle.shared_pointers.proofs.Results.{order-behind, order-ok}
use Rattle.shared_pointers.proofs.compare.order.Goals as goal

pub returns-in-Ok-clause-value : goal.returns-in-Ok-clause-value
returns-in-Ok-clause-value c = search rules

pub returns-in-Ok-clause-behind : goal.returns-in-Ok-clause-behind
returns-in-Ok-clause-behind c x =
    order-behind c.args.q.now c.args.p.now x c.args.block c.args.size c.args.threads _ c.requires.target.size_least c.requires.some_threads.least c.requires.pointer.thread c.requires.pointer.phase (returns-in-Ok-clause-value c)

pub returns-in-Ok-clause-ok : goal.returns-in-Ok-clause-ok
returns-in-Ok-clause-ok c =
    order-ok c.args.q.now c.args.p.now c.args.block c.args.size c.args.threads _ c.requires.target.size_least c.requires.some_threads.least c.requires.pointer.thread c.requires.pointer.phase (returns-in-Ok-clause-value c)

pub returns-in-Err-clause-value : goal.returns-in-Err-clause-value
returns-in-Err-clause-value c = search rules

pub returns-in-Err-clause-behind : goal.returns-in-Err-clause-behind
returns-in-Err-clause-behind c x =
    order-behind c.args.q.now c.args.p.now x c.args.block c.args.size c.args.threads _ c.requires.target.size_least c.requires.some_threads.least c.requires.pointer.thread c.requires.pointer.phase (returns-in-Err-clause-value c)
