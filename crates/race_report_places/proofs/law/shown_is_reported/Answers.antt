use Rattle.race_report_places.proofs.Reporting.{all-reported}
use Rattle.race_report_places.proofs.law.shown_is_reported.Goals as goal

pub returns : goal.returns
returns c = all-reported
