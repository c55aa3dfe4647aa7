use Rattle.std.proofs.Common.{rules, ◌≡◌, true}
use Rattle.std.specs.Prelude.{Err}
use Rattle.upc_values.specs.Calls.{call_of}
use Rattle.upc_values.specs.declared.scalar.Value.{Value}
use Rattle.collectives.specs.layer.Arguments.{copies_or_reduces}
use Rattle.stack_machine.proofs.Openings.{unless_so}
use Rattle.stack_machine.proofs.progress.Progress.not_met.Goals as goal

pub returns-in-Err-clause-formed : goal.returns-in-Err-clause-formed
returns-in-Err-clause-formed c =
    let on : copies_or_reduces (call_of c.args.number c.args.met.now) ≡ true = search rules in
    unless_so {A = Value} (Err c.in-Err.e) _ on
