use Rattle.std.proofs.Common.{◌≡◌, drop}
use Rattle.typing_rules.specs.Library as pure
use Rattle.typing_rules.proofs.names.constant_among.Given as goal

-- what is left decides
abbrev pub invariant-loop-constant : goal.invariant-loop-constant
invariant-loop-constant l =
    pure.spelled pure.constant_name l.constants l.name
    ≡ pure.spelled pure.constant_name (drop l.constant-index l.constants) l.name
