use Rattle.std.proofs.Common.{ap, ◌∙◌, take}
use Rattle.std.proofs.lemmas.List.Folds.{length-prefix_len}
use Rattle.upc_values.specs.Printing as printing
use Rattle.upc_values.proofs.format.digits_in.Goals as goal

pub returns-clause-value : goal.returns-clause-value
returns-clause-value c =
    ap (λ n. take n c.args.bytes.now) (c.digit_count.ensures.value ∙ length-prefix_len printing.is_digit c.args.bytes.now)
