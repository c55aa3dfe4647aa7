use Rattle.std.proofs.Common.{◌≡◌, ◌≤◌, ◌<◌, ℕ, decimal}
use Rattle.upc_top_words.proofs.words.sample_number.Given as goal

abbrev pub invariant-loop-stages : goal.invariant-loop-stages
invariant-loop-stages l = (n : ℕ) → 1 ≤ n → n < l.stages → l.text ≡ decimal n → ⊥
