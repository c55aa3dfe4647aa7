use Rattle.std.proofs.Common.{◌≡◌, true, List, ℕ, ◌∙◌, ap, sym}
use Rattle.std.specs.Prelude.{nat_eq, codes}
use Rattle.std.specs.Cmp.Lexicographic.{pointwise}
use Rattle.upc_macros.specs.Spelling.{is_spelled}
use Rattle.upc_macros.proofs.DirectiveLemmas.{pragma_upc}
use Rattle.upc_macros.proofs.directives.pragma_effect.Goals as goal

pub returns-then-eq-clause-effect : goal.returns-then-eq-clause-effect
returns-then-eq-clause-effect c =
    let upc : is_spelled c.args.source.now c.first-item.result (codes "upc") ≡ true =
    ap (λ (s : List ℕ). pointwise nat_eq s (codes "upc")) (sym c.spelling.ensures) ∙ ap (λ (s : List ℕ). pointwise nat_eq c.spelling.result.now s) (sym c.as_slice.ensures) ∙ sym c.if-eq.ensures in
    λ tokens. c.access_effect.ensures.effect tokens ∙ pragma_upc c.args.source.now c.args.line.now c.first-item.result c.in-len1-up.len_at_least c.first-item.is upc
