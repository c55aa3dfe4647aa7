use Rattle.std.proofs.Common.{sym, subst}
use Rattle.upc_values.specs.Orders.{placed}
use Rattle.race_report_clocks.specs.layer.Clocks.{known, clocks}
use Rattle.race_report_cells.specs.layer.Cells.{IsWalked}
use Rattle.race_report_walk.specs.code.Walk.{sights_before}
use Rattle.race_report_walk.proofs.Placed.{placed-on}
use Rattle.race_report_walk.proofs.Stepping.{sights-more, knows, walked-off}
use Rattle.race_report_walk.proofs.walk.step.Goals as goal

pub returns-in_ok-look_all-in-Some-clause-cells : goal.returns-in_ok-look_all-in-Some-clause-cells
returns-in_ok-look_all-in-Some-clause-cells c = λ j before is clocks_are walked.
    let e = c.args.entry.now in
    subst (IsWalked c.look_all.new.self) (sym (sights-more j before e))
    (c.in_ok-look_all-in-Some.ensures (sights_before j before) (known before (clocks before) e) (placed j e) is.names_are
    (placed-on j is.follows e is.below is.has c.in-Some.loc (sym c.in-Some.ensures))
    (knows j.threads before e c.step.new.self c.of.result.now is.below (c.in_ok-step.ensures.clocks j.threads before clocks_are) c.of.ensures)
    walked)

pub returns-in-None-clause-cells : goal.returns-in-None-clause-cells
returns-in-None-clause-cells c = λ j before is clocks_are walked.
    walked-off j before c.args.entry.now c.args.names.now c.args.cells.now is (sym c.in-None.ensures) walked
