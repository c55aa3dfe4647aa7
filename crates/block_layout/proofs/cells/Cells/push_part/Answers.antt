use Rattle.std.proofs.Common.{sym, ◌∙◌, subst}
use Rattle.std.proofs.lemmas.Result.{on_ok_weaker}
use Rattle.block_layout.specs.Moved.{moved}
use Rattle.block_layout.specs.code.Runs.{AreNear, runs_cells}
use Rattle.block_layout.specs.Shapes.{CellsWithin}
use Rattle.block_layout.proofs.Within.{within_right}
use Rattle.block_layout.proofs.RunLists.{part_pushed, runs_near}
use Rattle.block_layout.proofs.cells.Cells.push_part.Goals as goal

pub push_moved_runs-requires : goal.push_moved_runs-requires
push_moved_runs-requires c =
    let rs = c.part.inside.runs.items in
    let tail = c.part.inside.tail.items in
    subst (λ ts. AreNear (moved c.args.start (runs_cells ts))) (sym c.as_slice.ensures.value)
    (runs_near rs tail c.args.start c.args.size c.requires.near (subst (λ xs. CellsWithin xs 0 c.args.size) (sym c.part.view_is) c.requires.within))

pub push_pattern-requires-clause-within : goal.push_pattern-requires-clause-within
push_pattern-requires-clause-within c =
    let rs = c.part.inside.runs.items in
    let tail = c.part.inside.tail.items in
    subst (λ xs. CellsWithin xs 0 c.args.size) (sym c.as_slice-2.ensures.value)
    (within_right (runs_cells rs) tail 0 c.args.size (subst (λ xs. CellsWithin xs 0 c.args.size) (sym c.part.view_is) c.requires.within))

pub returns : goal.returns
returns c = on_ok_weaker c.push_pattern.result
    (λ e. part_pushed c.push_moved_runs.new.to.items c.seal.new.runs.items c.part.inside.runs.items c.as_slice.result.now c.seal.new.tail.items c.args.self.now c.part.inside.tail.items
    c.as_slice-2.result.now c.args.part.now c.push_pattern.new.self c.args.start c.args.size (c.in_ok-seal.ensures.cells ∙ c.self.view_is) c.in_ok-seal.ensures.empty
    c.as_slice.ensures.value c.in_ok-push_moved_runs.ensures c.as_slice-2.ensures.value c.part.view_is e)
    c.push_pattern.ensures
