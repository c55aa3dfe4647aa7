use Rattle.std.proofs.Common.{◌∙◌}
use Rattle.upc_library.proofs.Cursors.{from_cursor, coming_is}
use Rattle.upc_library.proofs.cells.at.Goals as goal

pub returns-clause-cursor : goal.returns-clause-cursor
returns-clause-cursor c =
    from_cursor c.args.shape.now c.args.place c.next-next.result c.next-next.new.self c.requires.shape c.requires.inside
    (coming_is c.from-left.result c.next-next.result c.next-next.new.self c.next-next.ensures.steps ∙ c.from-left.ensures)
