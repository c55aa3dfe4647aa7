use Rattle.race_report_places.proofs.Sights.{all-sights}
use Rattle.race_report_places.proofs.law.sights_show_races.Goals as goal

pub returns : goal.returns
returns c = all-sights
