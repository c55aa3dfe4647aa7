use Rattle.std.proofs.Common.{ℕ, Bool, [], sym, ◌∙◌}
use Rattle.upc_values.specs.layer.Parts.{is_at}
use Rattle.collectives.proofs.Truths.{each-fails}
use Rattle.collectives.proofs.permute.is_permutation.Goals as goal

pub returns-then-not-is_at : goal.returns-then-not-is_at
returns-then-not-is_at c =
    let test : ℕ → Bool = λ t. is_at 0 [] 0 t c.args.numbers.now in
    sym (each-fails test c.args.threads c.loop-thread.thread c.loop-thread-test.true (sym c.is_at.ensures ∙ c.if-not-is_at.true))
