-- What comes of steps, one after another.
use Rattle.std.proofs.Common.{◌≡◌, ℕ, Bool, true, false, List, [], ◌∷◌, Option, refl, subst}
use Rattle.std.specs.Prelude.{Result, Ok, Err}
use Rattle.upc_text.specs.declared.place.Place.{Place}
use Rattle.block_layout.specs.declared.kind.Kind.{Kind}
use Rattle.upc_values.specs.declared.action.Action.{Action}
use Rattle.upc_values.specs.declared.action.Reply.{Reply}
use Rattle.upc_values.specs.Formed.{fits}
use Rattle.thread_steps.specs.States.{Thread, State, Res, Val, Over, Unfinished, bind, Doing, ◌>>=◌, give, skip}
use Rattle.thread_steps.specs.States.{choose, change, ◌>>◌}
use Rattle.thread_steps.specs.Blocks.{with_live}
use Rattle.private_store.specs.declared.frame.Call.{Call}
use Rattle.private_store.specs.Live.{Live}
use Rattle.thread_steps.specs.States.{valued}
use Rattle.thread_steps.specs.Actions.{ask, answered}
use Rattle.thread_steps.specs.layer.Parts.{answered_from}
use Rattle.meaning_laws.specs.layer.Values.{IsFilled, Comes, Brings}

-- The value of a result passes, if it has one.
abbrev pub ResultIs : {A : Type 0} → (A → Type 0) → Result A ℕ → Type 0
ResultIs V (Ok v) = V v
ResultIs V (Err code) = Unit {0}

-- Whatever value there is.
abbrev pub Any : {A : Type 0} → A → Type 0
Any v = Unit {0}

pub give_brings : {A : Type 0} (V : A → Type 0) (v : A) → V v → Brings A V (give v)
give_brings V v h = record { by = λ σ i. (h, i, refl) }

pub skip_brings : Brings (Unit {0}) Any skip
skip_brings = give_brings Any tt tt

pub over_brings : {A : Type 0} (V : A → Type 0) (m : Doing A) → ((σ : State) → Comes V σ.store.calls (m σ))
    → Brings A V m
over_brings V m h = record { by = λ σ i. h σ }

pub first_brings : {A B : Type 0} (V : A → Type 0) (W : B → Type 0) (m : Doing A) (f : A → Doing B) → Brings A V m
    → ((v : A) → V v → Brings B W (f v)) → Brings B W (m >>= f)
first_brings {A = A} V W m f h g = record { by = λ σ i. in_result σ.store.calls (m σ) (h.by σ i) }
  where
    in_result : (calls : List Call) (r : Res A) → Comes V calls r → Comes W calls (bind r f)
    in_result calls (Val v υ) c = subst (λ (cs : List Call). Comes W cs (f v υ)) c.2 ((g v c.0).by υ c.1)
    in_result calls (Over end υ) c = tt
    in_result calls Unfinished c = tt

pub weaker_brings : {A : Type 0} (V W : A → Type 0) (m : Doing A) → Brings A V m → ((v : A) → V v → W v)
    → Brings A W m
weaker_brings {A = A} V W m h g = record { by = λ σ i. in_result σ.store.calls (m σ) (h.by σ i) }
  where
    in_result : (calls : List Call) (r : Res A) → Comes V calls r → Comes W calls r
    in_result calls (Val v υ) c = (g v c.0, c.1, c.2)
    in_result calls (Over end υ) c = tt
    in_result calls Unfinished c = tt

-- What is done between two changes of the private objects, of which the second brings back the calls that were active.
pub between_brings : {A B : Type 0} (V : A → Type 0) (W : B → Type 0) (before after : Live → Live) (m : Doing A)
    (f : A → B) → ((s : Live) → IsFilled s → IsFilled (before s)) → ((s : Live) → IsFilled s → IsFilled (after s))
    → ((s t : Live) → t.calls ≡ (before s).calls → (after t).calls ≡ s.calls) → Brings A V m
    → ((v : A) → V v → W (f v))
    → Brings B W (change (with_live before) >> (m >>= (λ v. change (with_live after) >> give (f v))))
between_brings {A = A} {B = B} V W before after m f hb ha back h g =
    record { by = λ σ i. in_result σ.store (m (with_live before σ)) (h.by (with_live before σ) (hb σ.store i)) }
  where
    in_result : (s : Live) (r : Res A) → Comes V (before s).calls r
        → Comes W s.calls (bind r (λ v. change (with_live after) >> give (f v)))
    in_result s (Val v υ) c = (g v c.0, ha υ.store c.1, back s υ.store c.2)
    in_result s (Over end υ) c = tt
    in_result s Unfinished c = tt

pub choose_brings : {A : Type 0} (V : A → Type 0) (test : Bool) (m n : Doing A) → Brings A V m → Brings A V n
    → Brings A V (choose test m n)
choose_brings V true m n h g = h
choose_brings V false m n h g = g

pub valued_brings : {A : Type 0} (V : A → Type 0) (at : Place) (r : Result A ℕ) → ResultIs V r
    → Brings A V (valued at r)
valued_brings V at (Ok v) h = give_brings V v h
valued_brings V at (Err code) h = record { by = λ σ i. tt }

pub any_result : {A : Type 0} (r : Result A ℕ) → ResultIs Any r
any_result (Ok v) = tt
any_result (Err code) = tt

module _ (τ : Thread) (kind : Option Kind) (a : Action) where
  abbrev pub Answers : Reply → Type 0
  Answers r = fits τ.threads τ.shapes kind a r ≡ true

  answered_by : (b : Bool) (r : Reply) (rest : List Reply) (σ : State) → fits τ.threads τ.shapes kind a r ≡ b
      → IsFilled σ.store → Comes Answers σ.store.calls (answered b a r rest σ)
  answered_by true r rest σ e i = (e, i, refl)
  answered_by false r rest σ e i = tt

  answered_in : (replies : List Reply) (σ : State) → IsFilled σ.store
      → Comes Answers σ.store.calls (answered_from τ kind a replies σ)
  answered_in [] σ i = tt
  answered_in (r ∷ rest) σ i = answered_by (fits τ.threads τ.shapes kind a r) r rest σ refl i

  pub ask_brings : Brings Reply Answers (ask τ kind a)
  unfolding ask
  ask_brings = record { by = λ σ i. answered_in σ.replies σ i }
