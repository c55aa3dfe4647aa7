use Rattle.std.proofs.Common.{rules}
use Rattle.shared_pointers.proofs.Results.{advanced-behind, advanced-range}
use Rattle.shared_pointers.proofs.step.advance.Goals as goal

pub returns-then-place-clause-value : goal.returns-then-place-clause-value
returns-then-place-clause-value c = search rules

pub returns-then-place-clause-range : goal.returns-then-place-clause-range
returns-then-place-clause-range c e d = advanced-range c.args.p.now c.args.i e d c.args.block c.args.size c.args.threads _ c.requires.some_threads.least (returns-then-place-clause-value c)

pub returns-clause-value : goal.returns-clause-value
returns-clause-value c = search rules

pub returns-clause-behind : goal.returns-clause-behind
returns-clause-behind c = advanced-behind c.args.p.now c.args.i c.args.block c.args.size c.args.threads _ c.requires.some_threads.least (returns-clause-value c)

pub returns-clause-range : goal.returns-clause-range
returns-clause-range c e d = advanced-range c.args.p.now c.args.i e d c.args.block c.args.size c.args.threads _ c.requires.some_threads.least (returns-clause-value c)
