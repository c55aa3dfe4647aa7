use Rattle.std.proofs.Common.{[], ap, ◌∙◌}
use Rattle.collectives.proofs.Following.{goes_past}
use Rattle.collectives.proofs.Following.{stops_at}
use Rattle.collectives.proofs.Limits.{limits}
use Rattle.collectives.specs.code.Calls.{call_in}
use Rattle.collectives.specs.code.Calls.{kept}
use Rattle.collectives.specs.code.Calls.{refusal_in}
use Rattle.upc_values.specs.Calls.{call_of}
use Rattle.upc_values.specs.Expansions as said
use Rattle.collectives.proofs.asked.Asked.read.Goals as goal

pub invariant_of-result : goal.invariant_of-result
invariant_of-result c = limits c.call_of-call.result (c.in-None.ensures 0 [] 0)

pub returns-in-Some-clause-refused : goal.returns-in-Some-clause-refused
returns-in-Some-clause-refused c = λ threads shapes me go.
    stops_at (said.tests threads shapes me (kept (call_of c.args.call c.args.args.now))) go c.in-Some.code
    (c.in-Some.ensures threads shapes me ∙ ap (λ x. refusal_in (said.tests threads shapes me x)) c.call_of-call.ensures)

pub returns-in-None-clause-call : goal.returns-in-None-clause-call
returns-in-None-clause-call c = c.call_of-call.ensures

pub returns-in-None-clause-passed : goal.returns-in-None-clause-passed
returns-in-None-clause-passed c = λ threads shapes me go.
    goes_past (said.tests threads shapes me (call_in c.call_of-call.result)) go (c.in-None.ensures threads shapes me)
