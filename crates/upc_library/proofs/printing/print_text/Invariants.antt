use Rattle.std.proofs.Common.{◌≡◌, ◌++◌, length, All}
use Rattle.upc_values.specs.Printing.{printed}
use Rattle.upc_library.specs.code.Printing.{IsNear}
use Rattle.upc_library.proofs.printing.print_text.Given as goal

abbrev pub decreases-loop-found : goal.decreases-loop-found
decreases-loop-found l = length l.rest

abbrev pub invariant-loop-found : goal.invariant-loop-found
invariant-loop-found l = record {
  near : All IsNear l.values;
  said : printed l.format l.args ≡ l.text.items ++ printed l.rest l.values;
}
