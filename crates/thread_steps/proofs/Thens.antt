-- Steps one after the other.
use Rattle.std.proofs.Common.{◌≡◌, refl}
use Rattle.thread_steps.specs.States.{State, Res, Val, Over, Unfinished, Doing, bind}

-- What follows may be done otherwise.
pub then_same : {A B : Type 0} (r : Res A) (f g : A → Doing B) → ((a : A) (σ : State) → f a σ ≡ g a σ)
    → bind r f ≡ bind r g
then_same (Val a σ) f g h = h a σ
then_same (Over e σ) f g h = refl
then_same Unfinished f g h = refl
