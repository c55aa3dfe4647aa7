use Rattle.std.proofs.Common.{◌≡◌, ◌↔◌, All}
use Rattle.upc_values.specs.declared.journal.Entry.{Entry}
use Rattle.upc_values.specs.Agrees.{IsIn, IsPlace}
use Rattle.upc_values.proofs.agree.are_in.Given as goal

-- each entry is in the record exactly where each entry that is left is
abbrev pub invariant-loop-entry : goal.invariant-loop-entry
invariant-loop-entry l = record {
  place : IsPlace l.items l.place.at l.place.number;
  left : All (λ (e : Entry). e.thread ≡ l.thread → IsIn l.items e) l.entry-iterator ↔ All (λ (e : Entry). e.thread ≡ l.thread → IsIn l.items e) l.history;
}
