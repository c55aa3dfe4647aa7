use Rattle.std.proofs.Common.{◌∙◌}
use Rattle.upc_rounds_teams.specs.layer.Teams.{seen_at}
use Rattle.upc_rounds_teams.proofs.Prefixes.{longer-whole}
use Rattle.upc_rounds_teams.proofs.meeting.meet_two.Goals as goal

pub returns-clause-whole : goal.returns-clause-whole
returns-clause-whole c = λ p. c.meet.ensures.seen.0 ∙ longer-whole (seen_at c.args.one.now) (seen_at c.args.other.now) p
