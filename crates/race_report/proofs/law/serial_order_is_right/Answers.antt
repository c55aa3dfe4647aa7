use Rattle.race_report.proofs.Reading.{all-serial}
use Rattle.race_report.proofs.law.serial_order_is_right.Goals as goal

pub returns : goal.returns
returns c = all-serial
