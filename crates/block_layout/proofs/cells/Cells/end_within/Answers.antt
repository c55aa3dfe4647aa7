use Rattle.std.proofs.Common.{◌≤◌, subst, arith}
use Rattle.std.proofs.lemmas.Bool.{leb-true}
use Rattle.block_layout.specs.code.Runs.{runs_cells}
use Rattle.block_layout.specs.Shapes.{CellsWithin}
use Rattle.block_layout.proofs.Within.{append_within, wider_within}
use Rattle.block_layout.proofs.cells.Cells.end_within.Goals as goal

pub returns-in-Some-end_of_list : goal.returns-in-Some-end_of_list
returns-in-Some-end_of_list c h =
    let rs = c.self.inside.runs.items in
    let tail = c.self.inside.tail.items in
    let end = c.in-Some.end in
    let last = c.in-Some-end_of_list.last in
    let first : CellsWithin (runs_cells rs) 0 end = subst (λ ts. CellsWithin (runs_cells ts) 0 end) c.as_slice.ensures.value c.in-Some.ensures.1 in
    let behind : CellsWithin tail end last = subst (λ xs. CellsWithin xs end last) c.as_slice-in-Some.ensures.value c.in-Some-end_of_list.ensures.1 in
    let less : last ≤ c.args.size = leb-true last c.args.size h in
    subst (λ xs. CellsWithin xs 0 c.args.size) c.self.view_is
    (append_within (runs_cells rs) tail 0 end c.args.size (omega arith) (omega (arith, c.in-Some-end_of_list.ensures.0, less)) first (wider_within tail end last c.args.size less behind))
