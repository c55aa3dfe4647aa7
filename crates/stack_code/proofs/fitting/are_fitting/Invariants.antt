use Rattle.std.proofs.Common.{◌↔◌, drop}
use Rattle.upc_values.specs.Lists.{Each}
use Rattle.stack_code.specs.layer.Kept.{IsFitting}
use Rattle.stack_code.proofs.fitting.are_fitting.Given as goal

abbrev pub invariant-loop-instr : goal.invariant-loop-instr
invariant-loop-instr l =
    Each (IsFitting l.threads l.shapes) (drop l.instr-index l.code) ↔ Each (IsFitting l.threads l.shapes) l.code
