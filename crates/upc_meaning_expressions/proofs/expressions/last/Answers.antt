use Rattle.std.proofs.Common.{◌∷◌, [], ap, ◌∙◌}
use Rattle.std.proofs.lemmas.List.{nil_from_length}
use Rattle.upc_meaning_settings.specs.layer.Settings.{running_seen}
use Rattle.upc_meaning_work.specs.layer.Seen.{more_values}
use Rattle.upc_meaning_work.proofs.Arms.{last_gives}
use Rattle.upc_meaning_work.specs.layer.Evaluations.{seen}
use Rattle.upc_meaning_expressions.proofs.expressions.last.Goals as goal

pub returns-in_ok-push_value-in-None : goal.returns-in_ok-push_value-in-None
returns-in_ok-push_value-in-None c =
    let u = seen c.pop_value-v.new.self in
    last_gives (running_seen c.args.setting) c.args.strict (seen c.args.evaluation.now) (seen c.push_value.new.self)
    c.args.parts.now u (nil_from_length _ c.in-None.ensures.cases) c.pop_value-v.ensures.rest
    (c.in_ok-push_value-in-None.ensures ∙ ap (λ x. more_values (x ∷ []) u) c.pop_value-v.ensures.value)
