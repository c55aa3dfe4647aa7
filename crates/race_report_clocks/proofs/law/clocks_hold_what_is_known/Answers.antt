use Rattle.race_report_clocks.proofs.Holding.{all-held}
use Rattle.race_report_clocks.proofs.law.clocks_hold_what_is_known.Goals as goal

pub returns : goal.returns
returns c = all-held
