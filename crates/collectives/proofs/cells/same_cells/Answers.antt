use Rattle.std.proofs.Common.{sym}
use Rattle.collectives.proofs.Ranges.{other-length}
use Rattle.collectives.proofs.cells.same_cells.Goals as goal

pub returns-then-a-b : goal.returns-then-a-b
returns-then-a-b c = sym (other-length c.args.a.now c.args.b.now c.if-a-b.true)
