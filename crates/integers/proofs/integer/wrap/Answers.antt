use Rattle.std.proofs.Common.{rules}
use Rattle.integers.proofs.Conversions.{congruent-as}
use Rattle.integers.proofs.integer.wrap.Goals as goal

pub returns-clause-value : goal.returns-clause-value
returns-clause-value c = search rules

pub returns-clause-congruent : goal.returns-clause-congruent
returns-clause-congruent c = congruent-as _ c.args.v c.args.kind (returns-clause-value c)
