use Rattle.std.proofs.Common.{sym, subst, ◌∙◌}
use Rattle.upc_values.specs.Openings.{IsOpening}
use Rattle.tests_records.proofs.TwoInts.{five, opening, valid-five}
use Rattle.tests_records.proofs.histories.two.Goals as goal

pub make-requires : goal.make-requires
make-requires c = subst (λ z. IsOpening (opening five z)) (sym (c.as_slice.ensures.value ∙ c.in_ok-shapes.ensures)) valid-five
