use Rattle.std.proofs.Common.{◌≡◌, ℕ, ◌+◌, ◌-◌, ◌<◌, ◌≤◌, [], length, drop, sym, ◌∙◌, subst, arith}
use Rattle.std.proofs.lemmas.List.{append-nil}
use Rattle.block_layout.specs.Shapes.{CellsWithin}
use Rattle.block_layout.specs.code.Runs.{Repeated, first_of, BeginsBehind, run_cells, runs_cells}
use Rattle.block_layout.proofs.FromPlace.{run_within}
use Rattle.block_layout.proofs.UnderByte.{under_runs, under_none}
use Rattle.block_layout.proofs.runs.kind_in_runs.Goals as goal

pub returns-then-by-eq0 : goal.returns-then-by-eq0
returns-then-by-eq0 c =
    sym (under_none c.args.runs.now c.runs_by-by.result c.requires.0 c.args.place (omega (arith, c.if-by-eq0.true)) c.requires.1 c.runs_by-by.ensures.behind)

pub kind_at-requires : goal.kind_at-requires
kind_at-requires c =
    let i : ℕ = c.runs_by-by.result - 1 in
    let inside : i < length c.args.runs.now = omega (arith, c.if-by-eq0.false, c.runs_by-by.ensures.within) in (
      c.requires.0,
      run_within c.args.runs.now i c.index-runs-by.result [] c.requires.0 inside c.index-runs-by.is
          (subst (λ ws. CellsWithin ws 0 c.requires.0) (sym (append-nil (runs_cells c.args.runs.now))) c.requires.1),
    )

pub returns : goal.returns
returns c =
    let runs = c.args.runs.now in
    let d : Repeated = c.index-runs-by.result in
    let i : ℕ = c.runs_by-by.result - 1 in
    let inside : i < length runs = omega (arith, c.if-by-eq0.false, c.runs_by-by.ensures.within) in
    let next : c.runs_by-by.result ≡ i + 1 = omega (arith, c.if-by-eq0.false) in
    let by = subst (λ (x : Repeated). (0 < length (run_cells x)) × (first_of (run_cells x) ≤ c.args.place)) (sym c.index-runs-by.is)
    (c.runs_by-by.ensures.by d (omega (arith, c.if-by-eq0.false))) in
    let behind = subst (λ (n : ℕ). BeginsBehind c.args.place (runs_cells (drop n runs))) next c.runs_by-by.ensures.behind in
    c.kind_at.ensures ∙ under_runs runs i d c.requires.0 c.args.place inside c.index-runs-by.is c.requires.1 by behind
