use Rattle.std.proofs.Common.{sym, ap, ◌∙◌}
use Rattle.std.specs.Arc.{arc_value}
use Rattle.block_layout.specs.Cells.{sharable}
use Rattle.block_layout.specs.code.Runs.{Repeated}
use Rattle.block_layout.proofs.SharableCells.{sharable_is_run}
use Rattle.block_layout.proofs.run.Run.with_cells.Goals as goal

pub invariant_of-result : goal.invariant_of-result
invariant_of-result c =
    let i = c.self.inside in
    let r : Repeated = record { start = i.start; stride = i.stride; count = i.count; cells = (arc_value i.cells).items } in
    sharable_is_run r (arc_value c.args.cells).items c.self.invariant (c.requires.sharable ∙ ap (λ (s : Repeated). sharable s.cells) (sym c.self.view_is)) c.requires.cell
