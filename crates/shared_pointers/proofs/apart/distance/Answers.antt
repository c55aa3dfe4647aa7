use Rattle.std.proofs.Common.{rules}
use Rattle.shared_pointers.proofs.Results.{difference-exact}
use Rattle.shared_pointers.proofs.apart.distance.Goals as goal

pub returns-then-is_at-clause-value : goal.returns-then-is_at-clause-value
returns-then-is_at-clause-value c = search rules

pub returns-then-is_at-clause-exact : goal.returns-then-is_at-clause-exact
returns-then-is_at-clause-exact c x = difference-exact c.args.q.now c.args.p.now x c.args.block c.args.size c.args.threads _ c.requires.target.size_least c.requires.some_threads.least c.requires.pointer.thread c.requires.pointer.phase (returns-then-is_at-clause-value c)

pub returns-else-not-is_null-clause-value : goal.returns-else-not-is_null-clause-value
returns-else-not-is_null-clause-value c = search rules

pub returns-else-not-is_null-clause-exact : goal.returns-else-not-is_null-clause-exact
returns-else-not-is_null-clause-exact c x = difference-exact c.args.q.now c.args.p.now x c.args.block c.args.size c.args.threads _ c.requires.target.size_least c.requires.some_threads.least c.requires.pointer.thread c.requires.pointer.phase (returns-else-not-is_null-clause-value c)
