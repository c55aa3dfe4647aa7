-- What lies in a box, seen.
use Rattle.std.proofs.Common.{◌≡◌, Result, Box, Global, ap, ◌∙◌}
use Rattle.std.specs.Prelude.{IfOk}
use Rattle.std.proofs.lemmas.Result.{IfOk-weaker}

pub seen : {X Y E : Type 0} (view : X → Y) (r : Result (Box X Global) E) (x : X) (y : Y) → view x ≡ y
    → IfOk r (λ made. made.value ≡ x) → IfOk r (λ made. view made.value ≡ y)
seen view r x y e h =
    IfOk-weaker r (λ made. made.value ≡ x) (λ made. view made.value ≡ y) (λ made k. ap view k ∙ e) h
