use Rattle.integers.specs.Operators.{binary_kind}
use Rattle.typing_rules_checks.proofs.Operands.{kind_value}
use Rattle.typing_rules_checks.proofs.constants.binary_known.Goals as goal

pub valued-requires : goal.valued-requires
valued-requires c = kind_value c.binary.result (binary_kind c.args.op c.working_kind-kind.result) c.binary.ensures.range
