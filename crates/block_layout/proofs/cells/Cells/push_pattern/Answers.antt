use Rattle.std.proofs.Common.{rules, ◌≡◌, ◌++◌, length, ap, ◌∙◌}
use Rattle.std.proofs.lemmas.Result.{on_ok_weaker}
use Rattle.block_layout.specs.code.Runs.{run_cells}
use Rattle.block_layout.proofs.RunLists.{runs_behind, no_copy, no_cell}
use Rattle.block_layout.proofs.cells.Cells.push_pattern.Goals as goal
use Rattle.block_layout.proofs.cells.Cells.push_pattern.Goals.{then-count-eq0-via-then-count-eq0, then-count-eq0-via-else-count-eq0+then-is_empty}

pub returns-then-count-eq0 : goal.returns-then-count-eq0
returns-then-count-eq0 c =
    let a = c.args in
    elim c.then-count-eq0.branch [
      | then-count-eq0-via-then-count-eq0 w ↦ no_copy a.self.now a.cells.now a.start a.count a.size w.if-count-eq0.true
      | then-count-eq0-via-else-count-eq0+then-is_empty w ↦ let none : length a.cells.now ≡ 0 = search rules in no_cell a.self.now a.cells.now a.start a.count a.size none
    ]

pub returns : goal.returns
returns c = on_ok_weaker c.push_run.result
    (λ e. runs_behind c.push_run.new.to.items c.seal.new.tail.items c.args.self.now (run_cells c.in_ok-run.run')
    (e ∙ ap (λ xs. xs ++ run_cells c.in_ok-run.run') (c.in_ok-seal.ensures.cells ∙ c.self.view_is)) c.in_ok-seal.ensures.empty
    ∙ ap (λ r. c.args.self.now ++ run_cells r) c.in_ok-run.ensures)
    c.push_run.ensures
