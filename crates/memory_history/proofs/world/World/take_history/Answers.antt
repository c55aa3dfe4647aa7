use Rattle.std.proofs.Common.{rules}
use Rattle.upc_values.proofs.Waits.{legal-waits_follow}
use Rattle.upc_values.proofs.LockTurns.{legal-locks_exclude}
use Rattle.memory_history.proofs.world.World.take_history.Goals as goal

pub returns-clause-waits : goal.returns-clause-waits
returns-clause-waits c = legal-waits_follow c.args.self.0 c.args.self.1 (search rules)

pub returns-clause-locks : goal.returns-clause-locks
returns-clause-locks c = legal-locks_exclude c.args.self.0 c.args.self.1 (search rules)
