use Rattle.race_report_bridge.proofs.Telling.{all-forward}
use Rattle.race_report_bridge.proofs.law.what_comes_before_stands_before.Goals as goal

pub returns : goal.returns
returns c = all-forward
