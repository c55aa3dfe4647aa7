use Rattle.std.proofs.Common.{◌≡◌, ◌+◌, ◌<◌, ◌∷◌, length, drop, map, subst, rules}
use Rattle.collectives.proofs.Following.{cell_next}
use Rattle.collectives.proofs.Following.{cells_left}
use Rattle.collectives.specs.code.Parts.{part_of}
use Rattle.collectives.specs.layer.Left.{CopiesLeft}
use Rattle.collectives.specs.layer.Left.{cell_copied}
use Rattle.collectives.specs.layer.Left.{parts_copied}
use Rattle.upc_values.specs.Expansion.{bind}
use Rattle.upc_values.specs.Expansion.{each_in_turn}
use Rattle.collectives.proofs.copies.Copies.further.Goals as goal

pub returns-then-self-len : goal.returns-then-self-len
returns-then-self-len c =
    let s = c.self.inside in
    let shapes = c.args.thread.now.shapes.now in
    let lt : s.at < length s.cells.items = search rules in
    let xs = map part_of (drop s.next s.parts.items) in
    subst (λ (l : CopiesLeft). cells_left shapes s.bytes (part_of s.part) s.cells.items xs (c.index.result.now ∷ drop (s.at + 1) s.cells.items)
    ≡ bind (each_in_turn (cell_copied l.part) l.cells) (λ u. parts_copied shapes l.bytes l.parts)) c.self.view_is
    (cell_next shapes s.bytes (part_of s.part) s.cells.items xs s.at c.index.result.now lt c.index.ensures)
