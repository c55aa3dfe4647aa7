use Rattle.race_report.proofs.Placing.{named-right}
use Rattle.race_report.proofs.serial.serial_order.Goals as goal

pub returns-clause-right : goal.returns-clause-right
returns-clause-right c = named-right c.args.journal.now c.requires c.place_phases.result c.place_phases.ensures
