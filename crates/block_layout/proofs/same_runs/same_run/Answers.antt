use Rattle.std.proofs.Common.{◌≡◌, length, ap, ◌∙◌, subst, arith}
use Rattle.std.specs.Arc.{arc_value}
use Rattle.block_layout.specs.Cells.{same_cells}
use Rattle.block_layout.specs.code.Runs.{Repeated, run_cells}
use Rattle.block_layout.specs.code.SameRuns.{IsTold}
use Rattle.block_layout.proofs.Told.{run_told}
use Rattle.block_layout.proofs.same_runs.same_run.Goals as goal

pub returns : goal.returns
returns c =
    let i = c.a.inside in
    let j = c.b.inside in
    let a : Repeated = record { start = i.start; stride = i.stride; count = i.count; cells = (arc_value i.cells).items } in
    let b : Repeated = record { start = j.start; stride = j.stride; count = j.count; cells = (arc_value j.cells).items } in
    let same = c.same_lists.result in
    let lengths : length a.cells ≡ length b.cells = omega (arith, ap (λ v. length v.items) c.deref.ensures, ap (λ v. length v.items) c.deref-2.ensures) in
    let told : IsTold same (run_cells a) (run_cells b) =
    run_told a b same c.a.invariant.some c.if-a-b.false c.if-a-b-2.false c.if-a-b-3.false lengths
    (c.same_lists.ensures ∙ ap (λ xs. same_cells xs c.as_slice-2.result.now) (c.as_slice.ensures.value ∙ ap (λ v. v.items) c.deref-3.ensures)
    ∙ ap (λ ys. same_cells a.cells ys) (c.as_slice-2.ensures.value ∙ ap (λ v. v.items) c.deref-4.ensures))
    in
    subst (λ x. IsTold same (run_cells x) (run_cells c.args.b.now)) c.a.view_is (subst (λ y. IsTold same (run_cells a) (run_cells y)) c.b.view_is told)
