use Rattle.std.proofs.Common.{ap, ◌∙◌}
use Rattle.upc_values.specs.Calls.{call_of}
use Rattle.collectives.specs.layer.Arguments.{copies_or_reduces}
use Rattle.collectives.proofs.Known.{known_kept}
use Rattle.collectives.proofs.call.may_meet.Goals as goal

pub returns : goal.returns
returns c =
    c.is_known.ensures ∙ ap copies_or_reduces c.call_of.ensures ∙ known_kept (call_of c.args.call c.args.args.now)
