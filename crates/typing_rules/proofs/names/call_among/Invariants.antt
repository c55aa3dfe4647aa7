use Rattle.std.proofs.Common.{◌≡◌, drop}
use Rattle.typing_rules.specs.Library as pure
use Rattle.typing_rules.proofs.names.call_among.Given as goal

-- what is left decides
abbrev pub invariant-loop-call : goal.invariant-loop-call
invariant-loop-call l =
    pure.spelled pure.call_name l.calls l.name ≡ pure.spelled pure.call_name (drop l.call-index l.calls) l.name
