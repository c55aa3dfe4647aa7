-- How meetings of code and meaning are put together.
use Rattle.std.proofs.Common.{◌≡◌, ℕ, ◌+◌, List, [], ◌∷◌, ◌++◌, length, take, drop, reverse, Some}
use Rattle.std.proofs.Common.{Bool, true, false, refl, sym, ap, ◌∙◌, subst, arith, append_assoc}
use Rattle.std.specs.Prelude.{slice_get}
use Rattle.std.proofs.Math.Seq.{take-append_seam, drop-append_seam}
use Rattle.std.proofs.lemmas.List.{reverse-append, reverse-reverse, length-reverse}
use Rattle.upc_values.specs.declared.scalar.Value.{Value}
use Rattle.thread_steps.specs.States.{Thread, State, Res, Val, Over, Unfinished, bind, Doing, choose}
use Rattle.stack_code.specs.declared.instruction.Instr.{Instr}
use Rattle.stack_code.specs.layer.Codes.{function_at}
use Rattle.stack_code.specs.layer.Steps.{Spot, Conf, At, Halt, conf_of, act, step, steps, youngest, pick}
use Rattle.stack_code.specs.layer.Meets.{HasAt, piled, Leads, Meets}
use Rattle.stack_code.proofs.Ends.{steps_add}

-- ---- parts of code

-- The first of two parts, and the second.
pub has_front : (code : List Instr) (place : ℕ) (a b : List Instr) → HasAt code place (a ++ b) → HasAt code place a
has_front code place [] b h = tt
has_front code place (i ∷ a) b h = (h.0, has_front code (place + 1) a b h.1)

pub has_back : (code : List Instr) (place : ℕ) (a b : List Instr)
    → HasAt code place (a ++ b) → HasAt code (place + length a) b
has_back code place [] b h = let e : place ≡ place + 0 = omega arith in subst (λ n. HasAt code n b) e h
has_back code place (i ∷ a) b h =
    let e : place + 1 + length a ≡ place + length (i ∷ a) = omega arith in
    subst (λ n. HasAt code n b) e (has_back code (place + 1) a b h.1)

-- The second, where the length of the first is known otherwise.
pub has_past : (code : List Instr) (place n : ℕ) (a b : List Instr) → length a ≡ n
    → HasAt code place (a ++ b) → HasAt code (place + n) b
has_past code place n a b e h = subst (λ m. HasAt code (place + m) b) e (has_back code place a b h)

-- ---- operands

-- Values over others are their list backwards before the others.
pub piled_is : (vs operands : List Value) → piled vs operands ≡ reverse vs ++ operands
piled_is [] operands = refl
piled_is (v ∷ vs) operands =
    piled_is vs (v ∷ operands) ∙ sym (append_assoc (reverse vs) (v ∷ []) operands)
    ∙ ap (λ l. l ++ operands) (sym (reverse-append (v ∷ []) vs))

-- One more value is the youngest.
pub piled_more : (vs : List Value) (v : Value) (operands : List Value)
    → piled (vs ++ v ∷ []) operands ≡ v ∷ piled vs operands
piled_more [] v operands = refl
piled_more (w ∷ vs) v operands = piled_more vs v (w ∷ operands)

-- The arguments of a call are the youngest operands, and below them lie the others.
pub youngest_piled : (vs operands : List Value) (n : ℕ) → length vs ≡ n → youngest n (piled vs operands) ≡ vs
youngest_piled vs operands n e =
    let long : length (reverse vs) ≡ n = length-reverse vs ∙ e in
    ap (λ l. reverse (take n l)) (piled_is vs operands)
    ∙ ap (λ m. reverse (take m (reverse vs ++ operands))) (sym long)
    ∙ ap reverse (take-append_seam (reverse vs) operands) ∙ reverse-reverse vs

pub below_piled : (vs operands : List Value) (n : ℕ) → length vs ≡ n → drop n (piled vs operands) ≡ operands
below_piled vs operands n e =
    let long : length (reverse vs) ≡ n = length-reverse vs ∙ e in
    ap (drop n) (piled_is vs operands) ∙ ap (λ m. drop m (reverse vs ++ operands)) (sym long)
    ∙ drop-append_seam (reverse vs) operands

-- ---- what one part leads to

module _ (τ : Thread) (functions : List (List Instr)) where
  pub leads_on : (c d e : Conf) → Leads τ functions c d → Leads τ functions d e → Leads τ functions c e
  leads_on c d e l m = record {
    count = l.count + m.count;
    is = steps_add τ functions l.count m.count c ∙ ap (steps τ functions m.count) l.is ∙ m.is;
  }

  pub stays : (c : Conf) → Leads τ functions c c
  stays c = record { count = 0; is = refl }

  pub one_step : (c d : Conf) → step τ functions c ≡ d → Leads τ functions c d
  one_step c d e = record { count = 1; is = e }

  -- What is met from where the code leads to is met from here.
  pub after : (A : Type 0) (c d : Conf) (go : A → State → Conf) (r : Res A)
      → Leads τ functions c d → Meets τ functions A d go r → Meets τ functions A c go r
  after A c d go (Val a σ) l m = record { by = leads_on c d _ l m.by }
  after A c d go (Over told σ) l m = record { by = leads_on c d _ l m.by }
  after A c d go Unfinished l m = record { by = tt }

  -- One meeting, and what is met from each place of its result: every end of the thread is passed on here.
  pub then_meets : (A B : Type 0) (c : Conf) (go : A → State → Conf) (on : B → State → Conf) (r : Res A)
      (f : A → State → Res B) → Meets τ functions A c go r
      → ((a : A) (σ : State) → Meets τ functions B (go a σ) on (f a σ)) → Meets τ functions B c on (bind r f)
  then_meets A B c go on (Val a σ) f m n = after B c (go a σ) on (f a σ) m.by (n a σ)
  then_meets A B c go on (Over told σ) f m n = record { by = m.by }
  then_meets A B c go on Unfinished f m n = record { by = tt }

  -- The same, where it helps to know that the result is that result.
  pub then_meets_is : (A B : Type 0) (c : Conf) (go : A → State → Conf) (on : B → State → Conf) (r : Res A)
      (f : A → State → Res B) → Meets τ functions A c go r
      → ((a : A) (σ : State) → r ≡ Val a σ → Meets τ functions B (go a σ) on (f a σ))
      → Meets τ functions B c on (bind r f)
  then_meets_is A B c go on (Val a σ) f m n = after B c (go a σ) on (f a σ) m.by (n a σ refl)
  then_meets_is A B c go on (Over told σ) f m n = record { by = m.by }
  then_meets_is A B c go on Unfinished f m n = record { by = tt }

  -- One instruction that does what a primitive does.
  pub same_step : (A : Type 0) (c : Conf) (go : A → State → Conf) (r : Res A)
      → step τ functions c ≡ conf_of r go → Meets τ functions A c go r
  same_step A c go (Val a σ) e = record { by = one_step c (go a σ) e }
  same_step A c go (Over told σ) e = record { by = one_step c (Halt told σ) e }
  same_step A c go Unfinished e = record { by = tt }

  -- A result that is here.
  pub here : (A : Type 0) (go : A → State → Conf) (a : A) (σ : State) → Meets τ functions A (go a σ) go (Val a σ)
  here A go a σ = record { by = stays (go a σ) }

  -- The code goes on from each place of a result.
  pub lands : (A : Type 0) (c : Conf) (go on : A → State → Conf) (r : Res A)
      → ((a : A) (σ : State) → Leads τ functions (go a σ) (on a σ)) → Meets τ functions A c go r
      → Meets τ functions A c on r
  lands A c go on (Val a σ) l m = record { by = leads_on c _ _ m.by (l a σ) }
  lands A c go on (Over told σ) l m = record { by = m.by }
  lands A c go on Unfinished l m = record { by = tt }

  -- The two sides of a test, after its jump.
  pub chooses : (A : Type 0) (go : A → State → Conf) (at : Spot → Conf) (b : Bool) (p q : Spot) (c : Conf)
      (x y : Doing A) (σ : State) → step τ functions c ≡ at (pick b p q) → Meets τ functions A (at p) go (x σ)
      → Meets τ functions A (at q) go (y σ) → Meets τ functions A c go (choose b x y σ)
  chooses A go at true p q c x y σ e mx my = after A c _ _ (x σ) (one_step c _ e) mx
  chooses A go at false p q c x y σ e mx my = after A c _ _ (y σ) (one_step c _ e) my

  -- The instruction that stands at a spot is the one that is carried out there.
  pub fetched : (at : Spot) (given operands : List Value) (calls : List Spot) (σ : State) (i : Instr)
      → slice_get (function_at functions at.function) at.place ≡ Some i
      → step τ functions (At at given operands calls σ) ≡ act τ (Some i) at given operands calls σ
  fetched at given operands calls σ i h = ap (λ o. act τ o at given operands calls σ) h
