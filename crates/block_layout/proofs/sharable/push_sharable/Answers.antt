use Rattle.std.proofs.Common.{rules, ◌≡◌, length, ap, ◌∙◌}
use Rattle.block_layout.specs.Cells.{sharable}
use Rattle.block_layout.specs.code.Runs.{Repeated, runs_cells}
use Rattle.block_layout.proofs.SharableCells.{nothing_pushed}
use Rattle.block_layout.proofs.sharable.push_sharable.Goals as goal

pub returns-then-is_empty : goal.returns-then-is_empty
returns-then-is_empty c =
    let cells = c.in_ok-cells.cells.items in
    let none : length cells ≡ 0 = search rules in
    nothing_pushed (runs_cells c.args.to.now.items) c.args.run.now cells
    (c.in_ok-cells.ensures ∙ ap sharable (c.as_slice.ensures.value ∙ ap (λ v. v.items) c.deref.ensures) ∙ ap (λ (r : Repeated). sharable r.cells) c.run.view_is) none
