use Rattle.std.proofs.Common.{◌≡◌, ℕ, ◌+◌, ◌-◌, ◌<◌, ◌≤◌, ◌++◌, List, length, drop, sym, ap, ◌∙◌, subst, arith}
use Rattle.std.proofs.lemmas.List.{take_rest}
use Rattle.block_layout.specs.Cells.{cells_from}
use Rattle.block_layout.specs.code.Runs.{Repeated, first_of, BeginsBehind, run_cells, runs_cells}
use Rattle.block_layout.proofs.FromPlace.{tail_within, from_tail, from_run, run_within, behind_append, from_all}
use Rattle.block_layout.proofs.cells_iter.CellsIter.from.Goals as goal

pub list_from-requires : goal.list_from-requires
list_from-requires c = (c.requires.0, tail_within c.args.runs.now c.args.tail.now c.requires.0 c.requires.1)

pub returns-then-begins_by : goal.returns-then-begins_by
returns-then-begins_by c =
    c.of.ensures ∙ from_tail c.args.runs.now c.args.tail.now c.list_from.result.now c.requires.0 c.args.place c.requires.1
    (c.begins_by.ensures.by c.if-begins_by.true) c.list_from.ensures

pub returns-then-by-eq0 : goal.returns-then-by-eq0
returns-then-by-eq0 c =
    let none : c.runs_by-by.result ≡ 0 = omega (arith, c.if-by-eq0.true) in
    let runs = subst (λ (n : ℕ). BeginsBehind c.args.place (runs_cells (drop n c.args.runs.now))) none c.runs_by-by.ensures.behind in
    c.of-then-by-eq0.ensures ∙ from_all (runs_cells c.args.runs.now ++ c.args.tail.now) c.requires.0 c.args.place c.requires.1
    (behind_append (runs_cells c.args.runs.now) c.args.tail.now c.args.place runs (c.begins_by.ensures.behind c.if-begins_by.false))

pub in_run-requires : goal.in_run-requires
in_run-requires c =
    let i : ℕ = c.runs_by-by.result - 1 in
    let inside : i < length c.args.runs.now = omega (arith, c.if-by-eq0.false, c.runs_by-by.ensures.within) in
    (c.requires.0, run_within c.args.runs.now i c.index-runs-by.result c.args.tail.now c.requires.0 inside c.index-runs-by.is c.requires.1)

pub returns : goal.returns
returns c =
    let runs = c.args.runs.now in
    let tail = c.args.tail.now in
    let d : Repeated = c.index-runs-by.result in
    let i : ℕ = c.runs_by-by.result - 1 in
    let inside : i < length runs = omega (arith, c.if-by-eq0.false, c.runs_by-by.ensures.within) in
    let next : c.runs_by-by.result ≡ i + 1 = omega (arith, c.if-by-eq0.false) in
    let by = subst (λ (x : Repeated). (0 < length (run_cells x)) × (first_of (run_cells x) ≤ c.args.place)) (sym c.index-runs-by.is)
    (c.runs_by-by.ensures.by d (omega (arith, c.if-by-eq0.false))) in
    let later = subst (λ (n : ℕ). BeginsBehind c.args.place (runs_cells (drop n runs))) next c.runs_by-by.ensures.behind in
    let behind = behind_append (runs_cells (drop (i + 1) runs)) tail c.args.place later (c.begins_by.ensures.behind c.if-begins_by.false) in
    c.in_run.ensures
    ∙ ap (λ (xs : List Repeated). cells_from c.args.place (run_cells d) ++ (runs_cells xs ++ tail)) (take_rest runs c.runs_by-by.result ∙ ap (λ (n : ℕ). drop n runs) next)
    ∙ from_run runs i d tail c.requires.0 c.args.place inside c.index-runs-by.is c.requires.1 by.0 by.1 behind
