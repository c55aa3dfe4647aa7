use Rattle.std.proofs.Common.{[], sym, subst, ◌∙◌}
use Rattle.upc_values.specs.Openings.{IsOpening}
use Rattle.tests_records.proofs.TwoInts.{opening, valid-zeros}
use Rattle.tests_records.proofs.histories.zeros.Goals as goal

pub make-requires : goal.make-requires
make-requires c = subst (λ z. IsOpening (opening [] z)) (sym (c.as_slice.ensures.value ∙ c.in_ok-shapes.ensures)) valid-zeros
