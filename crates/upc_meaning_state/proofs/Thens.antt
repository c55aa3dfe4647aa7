-- Steps one after the other.
use Rattle.std.proofs.Common.{◌≡◌, refl}
use Rattle.thread_steps.specs.States.{Res, Val, Over, Unfinished, Doing, bind, give}
pub use Rattle.thread_steps.proofs.Thens.{then_same}

pub then_one : {A B C : Type 0} (r : Res A) (f : A → Doing B) (g : B → Doing C)
    → bind (bind r f) g ≡ bind r (λ a σ. bind (f a σ) g)
then_one (Val a σ) f g = refl
then_one (Over e σ) f g = refl
then_one Unfinished f g = refl

pub then_two : {A B C D : Type 0} (r : Res A) (m : Doing B) (f : A → B → Doing C) (g : C → Doing D)
    → bind (bind r (λ a σ. bind (m σ) (f a))) g ≡ bind r (λ a σ. bind (m σ) (λ b τ. bind (f a b τ) g))
then_two (Val a σ) m f g = then_one (m σ) (f a) g
then_two (Over e σ) m f g = refl
then_two Unfinished m f g = refl

pub cast_in : {B C D F : Type 0} (r : Res B) (c : B → Doing C) (h : C → Doing D) (g : D → Doing F)
    → bind (bind (bind r c) h) g ≡ bind r (λ b τ. bind (bind (c b τ) h) g)
cast_in (Val b τ) c h g = refl
cast_in (Over e σ) c h g = refl
cast_in Unfinished c h g = refl

-- An assignment: a place, then a value, converted, and then what is done with both.
pub then_cast : {A B C D F : Type 0} (r : Res A) (m : Doing B) (c : B → Doing C) (h : A → C → Doing D) (g : D → Doing F)
    → bind (bind r (λ a σ. bind (bind (m σ) c) (h a))) g
    ≡ bind r (λ a σ. bind (m σ) (λ b τ. bind (bind (c b τ) (h a)) g))
then_cast (Val a σ) m c h g = cast_in (m σ) c (h a) g
then_cast (Over e σ) m c h g = refl
then_cast Unfinished m c h g = refl

-- What is given at last may be made of what was given before.
give_last : {A B : Type 0} (r : Res (Unit {0})) (u : A) (h : A → B)
    → bind r (λ _. give (h u)) ≡ bind (bind r (λ _. give u)) (λ x. give (h x))
give_last (Val a σ) u h = refl
give_last (Over e σ) u h = refl
give_last Unfinished u h = refl

pub put_last : {A B : Type 0} (r : Res A) (p : A → Doing (Unit {0})) (h : A → B)
    → bind r (λ u σ. bind (p u σ) (λ _. give (h u)))
    ≡ bind (bind r (λ u σ. bind (p u σ) (λ _. give u))) (λ x. give (h x))
put_last (Val a σ) p h = give_last (p a σ) a h
put_last (Over e σ) p h = refl
put_last Unfinished p h = refl

pub ruleset thens = (then_one, then_two)
