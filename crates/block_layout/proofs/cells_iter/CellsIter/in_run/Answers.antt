use Rattle.std.proofs.Common.{◌≡◌, ℕ, suc, ◌+◌, ◌-◌, ◌++◌, sym, ap, ◌∙◌, subst, arith}
use Rattle.block_layout.specs.Shapes.{CellsWithin}
use Rattle.block_layout.specs.Cells.{cells_from}
use Rattle.block_layout.specs.code.Runs.{Repeated, repeated, run_cells, runs_cells, IsRun, IsLastBy}
use Rattle.block_layout.proofs.FromPlace.{copy_within, run_left, left_is_left}
use Rattle.block_layout.proofs.cells_iter.CellsIter.in_run.Goals as goal

pub list_from-requires : goal.list_from-requires
list_from-requires c =
    let i = c.run.inside in
    let cells = c.as_slice-pattern.ensures.value ∙ ap (λ v. v.items) c.deref.ensures in
    let r : Repeated = repeated i.start i.stride i.count c.as_slice-pattern.result.now in
    let same : r ≡ c.args.run.now = ap (λ xs. repeated i.start i.stride i.count xs) cells ∙ c.run.view_is in
    let copy = c.last_by-copy.result in
    let by : IsLastBy c.args.place copy r = subst (λ x. IsLastBy c.args.place copy x) (sym same) c.last_by-copy.ensures in
    (c.requires.0, copy_within r c.requires.0 copy (i.count - 1 - copy) (subst (λ x. CellsWithin (run_cells x) 0 c.requires.0) (sym same) c.requires.1) (omega (arith, by.below)))

pub invariant_of-result : goal.invariant_of-result
invariant_of-result c =
    let i = c.run.inside in
    let cells = c.as_slice-pattern.ensures.value ∙ ap (λ v. v.items) c.deref.ensures in
    let r : Repeated = repeated i.start i.stride i.count c.as_slice-pattern.result.now in
    let same : r ≡ c.args.run.now = ap (λ xs. repeated i.start i.stride i.count xs) cells ∙ c.run.view_is in
    let run : IsRun r = subst IsRun (sym (ap (λ xs. repeated i.start i.stride i.count xs) cells)) c.run.invariant in
    let copy = c.last_by-copy.result in
    let by : IsLastBy c.args.place copy r = subst (λ x. IsLastBy c.args.place copy x) (sym same) c.last_by-copy.ensures in
    let within : CellsWithin (run_cells r) 0 c.requires.0 = subst (λ x. CellsWithin (run_cells x) 0 c.requires.0) (sym same) c.requires.1 in
    let m : ℕ = i.count - 1 - copy in
    let all : copy + suc m ≡ r.count = omega (arith, by.below) in
    left_is_left r c.args.place copy m c.list_from.result.now run all
    (run_left r c.requires.0 c.args.place copy m c.list_from.result.now within run by all c.list_from.ensures)

pub returns : goal.returns
returns c =
    let i = c.run.inside in
    let cells = c.as_slice-pattern.ensures.value ∙ ap (λ v. v.items) c.deref.ensures in
    let r : Repeated = repeated i.start i.stride i.count c.as_slice-pattern.result.now in
    let same : r ≡ c.args.run.now = ap (λ xs. repeated i.start i.stride i.count xs) cells ∙ c.run.view_is in
    let run : IsRun r = subst IsRun (sym (ap (λ xs. repeated i.start i.stride i.count xs) cells)) c.run.invariant in
    let copy = c.last_by-copy.result in
    let by : IsLastBy c.args.place copy r = subst (λ x. IsLastBy c.args.place copy x) (sym same) c.last_by-copy.ensures in
    let within : CellsWithin (run_cells r) 0 c.requires.0 = subst (λ x. CellsWithin (run_cells x) 0 c.requires.0) (sym same) c.requires.1 in
    let m : ℕ = i.count - 1 - copy in
    let all : copy + suc m ≡ r.count = omega (arith, by.below) in
    let rest = runs_cells c.args.runs.now ++ c.args.tail.now in
    ap (λ ws. ws ++ rest) (run_left r c.requires.0 c.args.place copy m c.list_from.result.now within run by all c.list_from.ensures)
    ∙ ap (λ x. cells_from c.args.place (run_cells x) ++ rest) same
