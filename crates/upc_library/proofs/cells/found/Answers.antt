use Rattle.upc_library.proofs.Cursors.{nothing_here}
use Rattle.upc_library.proofs.cells.found.Goals as goal

pub returns-then-start-cursor-clause-kind : goal.returns-then-start-cursor-clause-kind
returns-then-start-cursor-clause-kind c =
    nothing_here c.args.shape.now c.args.cursor.now.place _ _ (c.in-Some.start, c.in-Some.kind) c.requires.cursor c.in-Some.is c.if-start-cursor.true
