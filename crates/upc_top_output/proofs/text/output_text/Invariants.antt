use Rattle.std.proofs.Common.{◌≡◌, ◌++◌}
use Rattle.upc_top_output.specs.Output.{output}
use Rattle.upc_top_output.proofs.text.output_text.Given as goal

abbrev pub invariant-loop-entry : goal.invariant-loop-entry
invariant-loop-entry l = l.text.items ++ output l.entry-iterator ≡ output l.history
