use Rattle.std.proofs.Common.{ap}
use Rattle.std.specs.Map.{lookup}
use Rattle.race_report_tables.specs.layer.Places.{key_of, same_key, place_of}
use Rattle.race_report_tables.proofs.places.Places.new.Goals as goal

pub returns : goal.returns
unfolding place_of
returns c = λ k. ap (λ z. lookup (same_key (key_of k)) z) c.new.ensures.empty
