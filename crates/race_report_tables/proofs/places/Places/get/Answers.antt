use Rattle.std.proofs.Common.{ap, ◌∙◌}
use Rattle.std.specs.HashMap.{get}
use Rattle.race_report_tables.specs.layer.Places.{same_key, place_of}
use Rattle.race_report_tables.proofs.places.Places.get.Goals as goal

pub returns : goal.returns
unfolding place_of
returns c =
    c.copied.ensures ∙ c.get.ensures.value ∙ ap (λ z. get same_key c.args.self.now.slots z) c.key_of.ensures
