use Rattle.race_report_walk.proofs.Reported.{reported}
use Rattle.race_report_walk.proofs.walk.races.Goals as goal

pub returns : goal.returns
returns c =
    reported c.args.journal.now c.in_ok-cells.cells c.in_ok-races.field-0 c.requires c.in_ok-cells.ensures
    c.in_ok-races.ensures.list c.in_ok-races.ensures.ascending
