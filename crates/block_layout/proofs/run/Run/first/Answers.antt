use Rattle.std.proofs.Common.{◌≡◌, ap, ◌∙◌, arith}
use Rattle.std.specs.Arc.{arc_value}
use Rattle.block_layout.specs.code.Runs.{Repeated, repeated, first_of, run_cells}
use Rattle.block_layout.proofs.FromPlace.{run_first}
use Rattle.block_layout.proofs.run.Run.first.Goals as goal

pub returns-clause-value : goal.returns-clause-value
returns-clause-value c =
    let i = c.self.inside in
    let r : Repeated = repeated i.start i.stride i.count (arc_value i.cells).items in
    let cells = c.as_slice.ensures.value ∙ ap (λ v. v.items) c.deref.ensures in
    let first = (run_first r c.self.invariant.some c.self.invariant.cell).0 in
    let place : c.first_place.result ≡ first_of (arc_value i.cells).items = c.first_place.ensures ∙ ap first_of cells in
    let view : first_of (run_cells r) ≡ first_of (run_cells c.args.self.now) = ap (λ x. first_of (run_cells x)) c.self.view_is in
    omega (arith, c.from.ensures, c.from-2.ensures, place, first, view)
