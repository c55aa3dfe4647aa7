use Rattle.block_layout.proofs.FoundRuns.{exact_of, told_first, told_behind}
use Rattle.block_layout.proofs.cells.Cells.has.Goals as goal

pub returns-then-runs_have-clause-exact : goal.returns-then-runs_have-clause-exact
returns-then-runs_have-clause-exact c =
    let a = c.args in
    exact_of a.self.now a.place a.kind c.runs_have.result
    (told_first c.as_slice.result.now c.self.inside.runs.items c.self.inside.tail.items a.self.now a.place a.kind c.runs_have.result c.as_slice.ensures.value c.self.view_is c.runs_have.ensures c.if-runs_have.true)

pub returns-else-runs_have-clause-exact : goal.returns-else-runs_have-clause-exact
returns-else-runs_have-clause-exact c =
    let a = c.args in
    exact_of a.self.now a.place a.kind c.list_has.result
    (told_behind c.as_slice.result.now c.self.inside.runs.items c.as_slice-else-runs_have.result.now c.self.inside.tail.items a.self.now a.place a.kind c.runs_have.result c.list_has.result
    c.as_slice.ensures.value c.as_slice-else-runs_have.ensures.value c.self.view_is c.runs_have.ensures c.if-runs_have.false c.list_has.ensures)
