use Rattle.race_report_bridge.proofs.Telling.{all-tell}
use Rattle.race_report_bridge.proofs.law.clocks_tell_what_comes_before.Goals as goal

pub returns : goal.returns
returns c = all-tell
