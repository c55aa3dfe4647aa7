-- The depths of a test and its two sides.
use Rattle.std.proofs.Common.{◌≡◌, ℕ, suc, ◌+◌, List, [], ◌∷◌, ◌++◌, length, refl, ◌∙◌}
use Rattle.upc_text.specs.declared.place.Place.{Place}
use Rattle.stack_code.specs.declared.instruction.Jump.TheVariants.{GoOn, SkipIfZero}
use Rattle.stack_code.specs.declared.instruction.Instr.{Instr}
use Rattle.stack_code.specs.layer.Depths.{Lands}
use Rattle.stack_code.proofs.Deepenings.{Deepens, Then, joins, follows, single, lands_past, lands_end, lands_assoc}
use Rattle.gen_expr.specs.layer.Codes.{jumps}

-- A test and two sides of m and n instructions, which end at depth e.
pub either_deepens : (at : Place) (test first second : List Instr) (m n d e : ℕ) (P Q : List ℕ → Type 0)
    → Deepens test d (Then (suc d)) → (x : Deepens first d P) → length first ≡ m → (y : Deepens second d Q)
    → length second ≡ n → ((more : List ℕ) → Q more → Then e more)
    → ((more : List ℕ) → Q more → P (e ∷ (y.depths ++ more)))
    → Deepens (test ++ (jumps at (SkipIfZero (m + 1)) ∷ (first ++ (jumps at (GoOn n) ∷ second)))) d Q
either_deepens at test first second m n d e P Q t x em y en then side =
    let goes = jumps at (GoOn n) in
    let skips = jumps at (SkipIfZero (m + 1)) in
    let rest : Deepens (goes ∷ second) e Q = joins (goes ∷ []) second e d (λ more. Lands more n e) Q
    (single goes e e (λ more. Lands more n e) refl (λ f more l. l)) y
    (λ more q. lands_end y.depths more n e (y.long ∙ en) (then more q)) in
    let sides : Deepens (first ++ (goes ∷ second)) d Q = joins first (goes ∷ second) d e P Q x rest
    (λ more q. side more q) in
    follows test _ d (suc d) Q t
    (joins (skips ∷ []) (first ++ (goes ∷ second)) (suc d) d (λ more. Lands more 0 d × Lands more (m + 1) d) Q
    (single skips d (suc d) _ refl (λ f more l. l)) sides
    (λ more q. (
      sides.begins more q,
      lands_assoc x.depths (e ∷ y.depths) more (m + 1) d
          (lands_past x.depths (e ∷ (y.depths ++ more)) m 1 d (x.long ∙ em) (y.begins more q)),
    )))
