use Rattle.std.proofs.Common.{◌≡◌}
use Rattle.upc_meaning_settings.specs.layer.Settings.{running_seen}
use Rattle.upc_meaning_work.specs.layer.Seen.{meant}
use Rattle.upc_meaning_work.specs.layer.Evaluations.{seen}
use Rattle.upc_meaning.proofs.course.finish.Given as goal

abbrev pub invariant-loop : goal.invariant-loop
invariant-loop l =
    meant (running_seen l.setting) (seen l.initial.evaluation) ≡ meant (running_seen l.setting) (seen l.evaluation)
