use Rattle.std.proofs.Common.{◌≡◌, ◌&&◌, Bool, true, false, List, [], ◌∷◌, length, refl, sym, ap, ◌∙◌, arith}
use Rattle.upc_values.specs.declared.scalar.Scalar.{Scalar}
use Rattle.upc_values.specs.Scalars.{same_scalar}
use Rattle.upc_values.specs.History.{same_list}
use Rattle.memory_history.proofs.leader.same_list.Goals as goal

nothing : (b : Bool) → (b && false) ≡ false
nothing true = refl
nothing false = refl

other-length : (a b : List Scalar) → (length a ≡ length b → ⊥) → same_list a b ≡ false
other-length [] [] h = absurd (h refl)
other-length [] (y ∷ ys) h = refl
other-length (x ∷ xs) [] h = refl
other-length (x ∷ xs) (y ∷ ys) h =
    ap (λ b. same_scalar x y && b) (other-length xs ys (λ e. h (omega arith))) ∙ nothing (same_scalar x y)

pub returns-then-a-b : goal.returns-then-a-b
returns-then-a-b c = sym (other-length c.args.a.now c.args.b.now c.if-a-b.true)
