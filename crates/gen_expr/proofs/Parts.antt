-- Parts of code that do what a meaning says, and how they are put together. Every place is counted here alone.
use Rattle.std.proofs.Common.{◌≡◌, ℕ, ◌+◌, List, [], ◌∷◌, ◌++◌, length, Some}
use Rattle.std.proofs.Common.{refl, sym, ap, ◌∙◌, subst, arith, length-append}
use Rattle.upc_text.specs.declared.place.Place.{Place}
use Rattle.upc_values.specs.declared.scalar.Value.{Value}
use Rattle.thread_steps.specs.States.{Thread, State, Res, Val, Over, Unfinished, bind, Doing, ◌>>=◌, give}
use Rattle.thread_steps.specs.States.{choose}
use Rattle.thread_steps.specs.Values.{is_zero}
use Rattle.stack_code.specs.declared.instruction.StackWork.{StackWork}
use Rattle.stack_code.specs.declared.instruction.Jump.TheVariants.{GoOn, SkipIfZero}
use Rattle.stack_code.specs.declared.instruction.Instr.{Instr}
use Rattle.stack_code.specs.layer.Codes.{function_at}
use Rattle.stack_code.specs.layer.Steps.{Spot, Conf, conf_of, further, act, stacked}
use Rattle.stack_code.specs.layer.Meets.{HasAt, HasFrom, Meets, there}
use Rattle.stack_code.proofs.Meetings as meet
use Rattle.gen_expr.specs.layer.Codes.{stacks, jumps, either_code}

-- The place n of a function.
abbrev pub spot : (function n : ℕ) → Spot
spot function n = record { function = function; place = n }

further_twice : (at : Spot) (first second : List Instr)
    → further (length second) (further (length first) at) ≡ further (length (first ++ second)) at
further_twice at first second =
    let e : at.place + length first + length second ≡ at.place + length (first ++ second)
    = omega (arith, length-append first second) in
    ap (spot at.function) e

further_none : (at : Spot) → at ≡ further 0 at
further_none at = let e : at.place ≡ at.place + 0 = omega arith in ap (spot at.function) e

bind_assoc : {A B C : Type 0} (r : Res A) (f : A → State → Res B) (g : B → State → Res C)
    → bind r (λ a σ. bind (f a σ) g) ≡ bind (bind r f) g
bind_assoc (Val a σ) f g = refl
bind_assoc (Over told σ) f g = refl
bind_assoc Unfinished f g = refl

pub length_after : {A : Type 0} (xs : List A) (x : A) → length (xs ++ (x ∷ [])) ≡ length xs + 1
length_after xs x = length-append xs (x ∷ [])

-- ---- results of a kind

-- Each value that comes has the property.
abbrev pub Every : {A : Type 0} → (A → Type 0) → Res A → Type 0
Every P (Val a σ) = P a
Every P (Over told σ) = Unit {0}
Every P Unfinished = Unit {0}

pub record Gives (A : Type 0) (P : A → Type 0) (m : Doing A) : Type 0 where
  pub by : (σ : State) → Every P (m σ)

every_bind : {A B : Type 0} (P : B → Type 0) (r : Res A) (f : A → State → Res B)
    → ((a : A) (σ : State) → Every P (f a σ)) → Every P (bind r f)
every_bind P (Val a σ) f h = h a σ
every_bind P (Over told σ) f h = tt
every_bind P Unfinished f h = tt

pub then_gives : (A B : Type 0) (P : B → Type 0) (m : Doing A) (f : A → Doing B)
    → ((a : A) → Gives B P (f a)) → Gives B P (m >>= f)
then_gives A B P m f h = record { by = λ σ. every_bind P (m σ) f (λ a υ. (h a).by υ) }

-- ---- parts of code

module _ (τ : Thread) (functions : List (List Instr)) where
  -- Wherever these instructions stand and these operands lie, they do what m does, and leave operands by its result.
  pub record Runs (A : Type 0) (code : List Instr) (operands : List Value) (left : A → List Value) (m : Doing A)
      : Type 0 where
    pub by : (at : Spot) (calls : List Spot) (σ : State) → HasFrom functions at code
        → Meets τ functions A (there at operands calls σ) (λ a. there (further (length code) at) (left a) calls) (m σ)

  -- The same place under another name.
  lands_at : (A : Type 0) (c : Conf) (p q : Spot) (left : A → List Value) (calls : List Spot) (r : Res A) → p ≡ q
      → Meets τ functions A c (λ a. there p (left a) calls) r → Meets τ functions A c (λ a. there q (left a) calls) r
  lands_at A c p q left calls r e m = subst (λ (s : Spot). Meets τ functions A c (λ a. there s (left a) calls) r) e m

  -- One part after another.
  pub then_runs : (A B : Type 0) (first second : List Instr) (operands : List Value) (mid : A → List Value)
      (left : B → List Value) (m : Doing A) (f : A → Doing B) → Runs A first operands mid m
      → ((a : A) → Runs B second (mid a) left (f a)) → Runs B (first ++ second) operands left (m >>= f)
  then_runs A B first second operands mid left m f x y = record {
    by = λ at calls σ has.
        let code = function_at functions at.function in
        let near = further (length first) at in
        lands_at B _ _ _ left calls _ (further_twice at first second)
        (meet.then_meets τ functions A B _ (λ a. there near (mid a) calls)
        (λ b. there (further (length second) near) (left b) calls) (m σ) f
        (x.by at calls σ (meet.has_front code at.place first second has))
        (λ a υ. (y a).by near calls υ (meet.has_back code at.place first second has)));
  }

  -- The same, where each value that comes has a property.
  pub then_runs_with : (A B : Type 0) (P : A → Type 0) (first second : List Instr) (operands : List Value)
      (mid : A → List Value) (left : B → List Value) (m : Doing A) (f : A → Doing B) → Gives A P m
      → Runs A first operands mid m → ((a : A) → P a → Runs B second (mid a) left (f a))
      → Runs B (first ++ second) operands left (m >>= f)
  then_runs_with A B P first second operands mid left m f g x y = record {
    by = λ at calls σ has.
        let code = function_at functions at.function in
        let near = further (length first) at in
        lands_at B _ _ _ left calls _ (further_twice at first second)
        (meet.then_meets_is τ functions A B _ (λ a. there near (mid a) calls)
        (λ b. there (further (length second) near) (left b) calls) (m σ) f
        (x.by at calls σ (meet.has_front code at.place first second has))
        (λ a υ is. (y a (subst (λ (r : Res A). Every P r) is (g.by σ))).by near calls υ
        (meet.has_back code at.place first second has)));
  }

  -- No code, and nothing is done.
  pub none_runs : (A : Type 0) (v : A) (left : A → List Value) → Runs A [] (left v) left (give v)
  none_runs A v left = record {
    by = λ at calls σ has. lands_at A _ _ _ left calls (Val v σ) (further_none at)
        (meet.here τ functions A (λ a. there at (left a) calls) v σ);
  }

  -- One instruction that does what a step does.
  pub one_runs : (A : Type 0) (i : Instr) (operands : List Value) (left : A → List Value) (m : Doing A)
      → ((at : Spot) (calls : List Spot) (σ : State)
      → act τ (Some i) at [] operands calls σ ≡ conf_of (m σ) (λ a. there (further 1 at) (left a) calls))
      → Runs A (i ∷ []) operands left m
  one_runs A i operands left m e = record {
    by = λ at calls σ has.
        meet.same_step τ functions A _ (λ a. there (further 1 at) (left a) calls) (m σ)
        (meet.fetched τ functions at [] operands calls σ i has.0 ∙ e at calls σ);
  }

  -- Work on the stack alone, before a part.
  pub stack_runs : (B : Type 0) (place : Place) (w : StackWork) (code : List Instr) (operands : List Value)
      (left : B → List Value) (m : Doing B) → Runs B code (stacked τ w operands) left m
      → Runs B (stacks place w ∷ code) operands left m
  stack_runs B place w code operands left m x = record {
    by = λ at calls σ has.
        lands_at B _ _ _ left calls _ (further_twice at (stacks place w ∷ []) code)
        (meet.after τ functions B _ (there (further 1 at) (stacked τ w operands) calls σ)
        (λ b. there (further (length code) (further 1 at)) (left b) calls) (m σ)
        (meet.one_step τ functions _ _ (meet.fetched τ functions at [] operands calls σ (stacks place w) has.0))
        (x.by (further 1 at) calls σ has.1));
  }

  -- A part whose result is another one by a function.
  pub ends_runs : (A B : Type 0) (code : List Instr) (operands : List Value) (mid : A → List Value)
      (left : B → List Value) (m : Doing A) (h : A → B) → ((a : A) → mid a ≡ left (h a)) → Runs A code operands mid m
      → Runs B code operands left (m >>= (λ a. give (h a)))
  ends_runs A B code operands mid left m h e x = record {
    by = λ at calls σ has.
        let near = further (length code) at in
        meet.then_meets τ functions A B _ (λ a. there near (mid a) calls) (λ b. there near (left b) calls) (m σ) _
        (x.by at calls σ has)
        (λ a υ. subst (λ (l : List Value). Meets τ functions B (there near l calls υ) (λ b. there near (left b) calls)
        (Val (h a) υ)) (sym (e a)) (meet.here τ functions B (λ b. there near (left b) calls) (h a) υ));
  }

  -- The same meaning, given otherwise.
  pub told_runs : (A : Type 0) (code : List Instr) (operands : List Value) (left : A → List Value) (m n : Doing A)
      → ((σ : State) → m σ ≡ n σ) → Runs A code operands left m → Runs A code operands left n
  told_runs A code operands left m n e x = record {
    by = λ at calls σ has.
        subst (λ (r : Res A). Meets τ functions A (there at operands calls σ)
        (λ a. there (further (length code) at) (left a) calls) r) (e σ) (x.by at calls σ has);
  }

  pub assoc_runs : (A B C : Type 0) (code : List Instr) (operands : List Value) (left : C → List Value) (m : Doing A)
      (f : A → Doing B) (g : B → Doing C) → Runs C code operands left (m >>= (λ a. f a >>= g))
      → Runs C code operands left ((m >>= f) >>= g)
  assoc_runs A B C code operands left m f g x =
      told_runs C code operands left (m >>= (λ a. f a >>= g)) ((m >>= f) >>= g) (λ σ. bind_assoc (m σ) f g) x

  -- Other operands that are the same.
  pub over_runs : (A : Type 0) (code : List Instr) (some others : List Value) (left : A → List Value) (m : Doing A)
      → some ≡ others → Runs A code some left m → Runs A code others left m
  over_runs A code some others left m e x = subst (λ (l : List Value). Runs A code l left m) e x

  -- Two parts after the jump of a test.
  sides_run : (B : Type 0) (place : Place) (first second : List Instr) (v : Value) (operands : List Value)
      (left : B → List Value) (x y : Doing B) → Runs B first operands left x → Runs B second operands left y
      → Runs B (jumps place (SkipIfZero (length first + 1)) ∷ (first ++ (jumps place (GoOn (length second)) ∷ second)))
      (v ∷ operands) left (choose (is_zero v) y x)
  sides_run B place first second v operands left x y rx ry = record {
    by = λ at calls σ has.
        let code = function_at functions at.function in
        let skips = jumps place (SkipIfZero (length first + 1)) in
        let goes = jumps place (GoOn (length second)) in
        let near = further 1 at in
        let far = further (length first + 1 + 1) at in
        let out = further (length (skips ∷ (first ++ (goes ∷ second)))) at in
        let back = meet.has_back code near.place first (goes ∷ second) has.1 in
        let mid : at.place + 1 + length first + 1 ≡ at.place + (length first + 1 + 1) = omega arith in
        let e : at.place + 1 + length first + (length second + 1)
        ≡ at.place + length (skips ∷ (first ++ (goes ∷ second)))
        = omega (arith, length-append first (goes ∷ second)) in
        let f : at.place + (length first + 1 + 1) + length second
        ≡ at.place + length (skips ∷ (first ++ (goes ∷ second)))
        = omega (arith, length-append first (goes ∷ second)) in
        meet.chooses τ functions B (λ b. there out (left b) calls) (λ s. there s operands calls σ) (is_zero v) far near _
        y x σ
        (meet.fetched τ functions at [] (v ∷ operands) calls σ skips has.0)
        (lands_at B _ (further (length second) far) out left calls _ (ap (spot at.function) f)
        (ry.by far calls σ (subst (λ (n : ℕ). HasAt code n second) mid back.1)))
        (meet.lands τ functions B _ (λ b. there (further (length first) near) (left b) calls)
        (λ b. there out (left b) calls) (x σ)
        (λ b υ. meet.one_step τ functions _ _
        (meet.fetched τ functions (further (length first) near) [] (left b) calls υ goes back.0
        ∙ ap (λ (n : ℕ). there (spot at.function n) (left b) calls υ) e))
        (rx.by near calls σ (meet.has_front code near.place first (goes ∷ second) has.1)));
  }

  -- A test and two parts (C99 6.5.13 to 6.5.15, 6.8.4).
  pub either_runs : (B : Type 0) (place : Place) (test first second : List Instr) (operands : List Value)
      (left : B → List Value) (m : Doing Value) (x y : Doing B) → Runs Value test operands (λ v. v ∷ operands) m
      → Runs B first operands left x → Runs B second operands left y
      → Runs B (either_code place test first second) operands left (m >>= (λ v. choose (is_zero v) y x))
  either_runs B place test first second operands left m x y rt rx ry =
      then_runs Value B test _ operands (λ v. v ∷ operands) left m _ rt
      (λ v. sides_run B place first second v operands left x y rx ry)
