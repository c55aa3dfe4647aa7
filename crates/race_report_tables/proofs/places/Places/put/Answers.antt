use Rattle.std.proofs.Common.{cond, Some, ap, ◌∙◌}
use Rattle.race_report_tables.specs.layer.Places.{key_of, same_key, place_of}
use Rattle.race_report_tables.proofs.Keys.{same-key}
use Rattle.race_report_tables.proofs.places.Places.put.Goals as goal

pub returns : goal.returns
unfolding place_of
returns c = λ k.
    let old = place_of c.args.self.now k in
    c.in_ok-insert.ensures.updates.0 (key_of k)
    ∙ ap (λ z. cond (same_key z (key_of k)) (Some c.args.place) old) c.key_of.ensures
    ∙ ap (λ z. cond z (Some c.args.place) old) (same-key c.args.channel k)
