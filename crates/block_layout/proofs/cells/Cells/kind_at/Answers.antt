use Rattle.std.proofs.Common.{◌<◌, ◌≤◌, List, ◌++◌, length, sym, ap, ◌∙◌, subst}
use Rattle.block_layout.specs.Lists.{under}
use Rattle.block_layout.specs.Moved.{moved}
use Rattle.block_layout.specs.Shapes.{CellsWithin}
use Rattle.block_layout.specs.code.Runs.{Repeated, first_of, BeginsBehind, runs_cells}
use Rattle.block_layout.proofs.FromPlace.{tail_within, within_left}
use Rattle.block_layout.proofs.UnderByte.{under_tail, under_before}
use Rattle.block_layout.proofs.cells.Cells.kind_at.Goals as goal

pub kind_among-requires : goal.kind_among-requires
kind_among-requires c =
    let i = c.self.inside in
    let all : CellsWithin (runs_cells i.runs.items ++ i.tail.items) 0 c.requires.0 = subst (λ xs. CellsWithin xs 0 c.requires.0) (sym c.self.view_is) c.requires.1 in
    (c.requires.0, subst (λ xs. CellsWithin (moved 0 xs) 0 c.requires.0) (sym c.as_slice-tail.ensures.value) (tail_within i.runs.items i.tail.items c.requires.0 all))

pub returns-then-begins_by : goal.returns-then-begins_by
returns-then-begins_by c =
    let i = c.self.inside in
    let all : CellsWithin (runs_cells i.runs.items ++ i.tail.items) 0 c.requires.0 = subst (λ xs. CellsWithin xs 0 c.requires.0) (sym c.self.view_is) c.requires.1 in
    let same = c.as_slice-tail.ensures.value in
    let by = subst (λ xs. (0 < length xs) × (first_of xs ≤ c.args.place)) same (c.begins_by.ensures.by c.if-begins_by.true) in
    c.kind_among.ensures ∙ ap (λ xs. under c.args.place (moved 0 xs)) same
    ∙ under_tail i.runs.items i.tail.items c.requires.0 c.args.place all by ∙ ap (under c.args.place) c.self.view_is

pub kind_in_runs-requires : goal.kind_in_runs-requires
kind_in_runs-requires c =
    let i = c.self.inside in
    let all : CellsWithin (runs_cells i.runs.items ++ i.tail.items) 0 c.requires.0 = subst (λ xs. CellsWithin xs 0 c.requires.0) (sym c.self.view_is) c.requires.1 in (
      c.requires.0,
      subst (λ (rs : List Repeated). CellsWithin (runs_cells rs) 0 c.requires.0) (sym c.as_slice.ensures.value)
          (within_left (runs_cells i.runs.items) i.tail.items 0 c.requires.0 all),
    )

pub returns : goal.returns
returns c =
    let i = c.self.inside in
    let all : CellsWithin (runs_cells i.runs.items ++ i.tail.items) 0 c.requires.0 = subst (λ xs. CellsWithin xs 0 c.requires.0) (sym c.self.view_is) c.requires.1 in
    let behind = subst (λ xs. BeginsBehind c.args.place xs) c.as_slice-tail.ensures.value (c.begins_by.ensures.behind c.if-begins_by.false) in
    c.kind_in_runs.ensures ∙ ap (λ (rs : List Repeated). under c.args.place (runs_cells rs)) c.as_slice.ensures.value
    ∙ under_before i.runs.items i.tail.items c.requires.0 c.args.place all behind ∙ ap (under c.args.place) c.self.view_is
