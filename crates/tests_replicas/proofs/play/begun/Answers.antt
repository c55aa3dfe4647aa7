use Rattle.std.proofs.Common.{sym, subst, ◌∙◌}
use Rattle.upc_values.specs.Openings.{IsOpening}
use Rattle.tests_replicas.proofs.TwoInts.{opening, valid}
use Rattle.tests_replicas.proofs.play.begun.Goals as goal

pub make-requires : goal.make-requires
make-requires c =
    subst
    (λ z. IsOpening (opening c.args.threads z))
    (sym (c.as_slice.ensures.value ∙ c.in_ok-shapes.ensures))
    (valid c.args.threads c.requires.0 c.requires.1)
