use Rattle.race_report_bridge.proofs.Racing.{all-shown}
use Rattle.race_report_bridge.proofs.law.clocks_show_races.Goals as goal

pub returns : goal.returns
returns c = all-shown
