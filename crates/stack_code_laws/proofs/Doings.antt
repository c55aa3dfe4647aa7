-- Steps of a thread that ask well: what is asked for may be asked for, where all values are known; a reply that fits
-- it is taken; and what was done before goes by the replies that were heard alone.
use Rattle.std.proofs.Common.{◌≡◌, ℕ, List, [], ◌∷◌, ◌++◌, length, Option, Bool, true, false}
use Rattle.std.proofs.Common.{refl, sym, ◌∙◌, ap, subst, arith}
use Rattle.std.specs.Prelude.{Result, Ok, Err}
use Rattle.std.proofs.lemmas.Bool.{false≢true}
use Rattle.std.proofs.lemmas.List.{length_push}
use Rattle.upc_text.specs.declared.place.Place.{Place}
use Rattle.block_layout.specs.declared.kind.Kind.{Kind}
use Rattle.block_layout.specs.declared.place.Loc.{Loc}
use Rattle.upc_values.specs.declared.action.Action.{Action}
use Rattle.upc_values.specs.declared.action.Reply.{Reply}
use Rattle.upc_values.specs.declared.record.ToldEnd.{ToldEnd}
use Rattle.upc_values.specs.declared.record.ToldEnd.TheVariants.{Wants, Misfit, Ended, Exit, Fault, OutOfTicks}
use Rattle.upc_values.specs.Openings.{Opening}
use Rattle.upc_values.specs.Formed.{fits}
use Rattle.private_store.specs.Live.{Live}
use Rattle.thread_steps.specs.States.{Thread, State, Res, Val, Over, Unfinished, bind, Doing, ◌>>=◌}
use Rattle.thread_steps.specs.layer.Parts.{with_store, answered_from}
use Rattle.thread_steps.specs.States.{give, skip, know, change, choose, over, fault, fault_if, valued}
use Rattle.thread_steps.specs.Actions.{ask, answered}
use Rattle.thread_steps.specs.layer.Fronts.{Begins}
use Rattle.thread_steps.proofs.Fronts.{begins_itself, begins_pushed, begins_on}
use Rattle.thread_steps.proofs.Following.{total, plus, Later}
use Rattle.stack_code_laws.proofs.Given.{gives_known, AreHeard, IsWellFormed}
use Rattle.stack_code_laws.proofs.Heard.{answer_known}
use Rattle.stack_code_laws.proofs.KnownValues.{runner}
use Rattle.stack_code_laws.proofs.Stores.{IsFilled, FilledIn}

-- ---- what was done stays, whatever is heard

-- The actions grow, each by one reply.
abbrev pub GrownTo : (before after : State) → Type 0
GrownTo σ υ = Begins σ.actions υ.actions × (total υ ≡ total σ)

abbrev pub Grown : {A : Type 0} → State → Res A → Type 0
Grown σ (Val v υ) = GrownTo σ υ
Grown σ (Over e υ) = GrownTo σ υ
Grown σ Unfinished = ⊥

-- The actions so far begin with these.
abbrev pub Reaches : {A : Type 0} → List Action → Res A → Type 0
Reaches actions (Val v υ) = Begins actions υ.actions
Reaches actions (Over e υ) = Begins actions υ.actions
Reaches actions Unfinished = ⊥

-- The thread ends after these actions, since a reply does not fit.
abbrev pub Misses : {A : Type 0} → List Action → Res A → Type 0
Misses actions (Val v υ) = ⊥
Misses actions (Over e υ) = (e ≡ Misfit (length actions)) × (υ.actions ≡ actions)
Misses actions Unfinished = ⊥

pub grown_to : (σ υ ω : State) → GrownTo σ υ → GrownTo υ ω → GrownTo σ ω
grown_to σ υ ω g h = (begins_on σ.actions υ.actions ω.actions g.0 h.0, h.1 ∙ g.1)

grown_on : (A : Type 0) (σ υ : State) (r : Res A) → GrownTo σ υ → Grown υ r → Grown σ r
grown_on A σ υ (Val v ω) g h = grown_to σ υ ω g h
grown_on A σ υ (Over e ω) g h = grown_to σ υ ω g h
grown_on A σ υ Unfinished g h = h

reaches_on : (A : Type 0) (actions : List Action) (υ : State) (r : Res A) → Begins actions υ.actions → Grown υ r
    → Reaches actions r
reaches_on A actions υ (Val v ω) b h = begins_on actions υ.actions ω.actions b h.0
reaches_on A actions υ (Over e ω) b h = begins_on actions υ.actions ω.actions b h.0
reaches_on A actions υ Unfinished b h = h

unmoved : (σ : State) → GrownTo σ σ
unmoved σ = (begins_itself σ.actions, refl)

-- Nothing is said of no value.
abbrev pub Nothing : Unit {0} → Type 0
Nothing u = Unit {0}

-- What comes of no run error passes.
abbrev pub Holds : {A : Type 0} → (A → Type 0) → Result A ℕ → Type 0
Holds V (Ok v) = V v
Holds V (Err code) = Unit {0}

-- R holds of what a read reads.
module _ (o : Opening) (past : List Reply) (R : Kind → Loc → Type 0) where
  -- The values of the store are known, and what the replies to come name was given.
  pub record IsGood (σ : State) : Type 0 where
    pub store : IsFilled o past σ.store
    pub replies : AreHeard o past σ.replies

  -- An action that may be asked for is wanted; with a reply that fits it, a read by the kind of its cell, it is done,
  -- and with another one the thread ends.
  pub record IsAsked (A : Type 0) (a : Action) (υ : State) (later : Later A) : Type 0 where
    pub none : υ.replies ≡ []
    pub kind : Option Kind
    pub formed : IsWellFormed o past R kind a
    pub fit :
        (x : Reply) (xs : List Reply) → fits o.threads o.shapes kind a x ≡ true
        → Reaches (υ.actions ++ a ∷ []) (later x xs)
    pub misfit :
        (x : Reply) (xs : List Reply) → fits o.threads o.shapes kind a x ≡ false → Misses υ.actions (later x xs)

  abbrev pub EndsWell : {A : Type 0} → ToldEnd → State → Later A → Type 0
  EndsWell {A} (Wants a) υ later = IsAsked A a υ later
  EndsWell e υ later = Unit {0}

  -- A value that passes, or such an end; with further replies the same value comes.
  abbrev pub Comes : {A : Type 0} → (A → Type 0) → Res A → Later A → Type 0
  Comes V (Val v υ) later = V v × IsGood υ × ((x : Reply) (xs : List Reply) → later x xs ≡ Val v (plus υ x xs))
  Comes V (Over e υ) later = EndsWell e υ later
  Comes V Unfinished later = ⊥

  -- What is done grows the actions, and, where P holds, comes well to a value that passes or to an end.
  pub record Asks (A P : Type 0) (V : A → Type 0) (m : Doing A) : Type 0 where
    pub grows : (σ : State) → Grown σ (m σ)
    pub by : P → (σ : State) → IsGood σ → Comes V (m σ) (λ x xs. m (plus σ x xs))

  comes_wider : {A : Type 0} (V W : A → Type 0) → ((v : A) → V v → W v) → (r : Res A) (later : Later A)
      → Comes V r later → Comes W r later
  comes_wider V W f (Val v υ) later c = (f v c.0, c.1, c.2)
  comes_wider V W f (Over e υ) later c = c
  comes_wider V W f Unfinished later c = c

  pub wider : {A : Type 0} (P : Type 0) (V W : A → Type 0) (m : Doing A) → ((v : A) → V v → W v) → Asks A P V m
      → Asks A P W m
  wider P V W m f h = record {
    grows = h.grows;
    by = λ p σ g. comes_wider V W f (m σ) (λ x xs. m (plus σ x xs)) (h.by p σ g);
  }

  module _ (A B P : Type 0) (V : A → Type 0) (W : B → Type 0) (f : A → Doing B)
      (lf : (v : A) → Asks B (P × V v) W (f v)) where
    grown_then : (σ : State) (r : Res A) → Grown σ r → Grown σ (bind r f)
    grown_then σ (Val v υ) g = grown_on B σ υ (f v υ) g ((lf v).grows υ)
    grown_then σ (Over e υ) g = g
    grown_then σ Unfinished g = g

    reaches_then : (actions : List Action) (r : Res A) → Reaches actions r → Reaches actions (bind r f)
    reaches_then actions (Val v υ) h = reaches_on B actions υ (f v υ) h ((lf v).grows υ)
    reaches_then actions (Over e υ) h = h
    reaches_then actions Unfinished h = h

    misses_then : (actions : List Action) (r : Res A) → Misses actions r → Misses actions (bind r f)
    misses_then actions (Val v υ) h = absurd h
    misses_then actions (Over e υ) h = h
    misses_then actions Unfinished h = absurd h

    end_then : (e : ToldEnd) (υ : State) (later : Later A) → EndsWell e υ later
        → EndsWell e υ (λ x xs. bind (later x xs) f)
    end_then (Wants a) υ later h = record {
      none = h.none;
      kind = h.kind;
      formed = h.formed;
      fit = λ x xs e. reaches_then (υ.actions ++ a ∷ []) (later x xs) (h.fit x xs e);
      misfit = λ x xs e. misses_then υ.actions (later x xs) (h.misfit x xs e);
    }
    end_then (Misfit k) υ later h = tt
    end_then (Ended v) υ later h = tt
    end_then (Exit v) υ later h = tt
    end_then (Fault code at) υ later h = tt
    end_then OutOfTicks υ later h = tt

    comes_then : P → (r : Res A) (later : Later A) → Comes V r later → Comes W (bind r f) (λ x xs. bind (later x xs) f)
    comes_then p (Val v υ) later c =
        let h = (lf v).by (p, c.0) υ c.1 in
        let same : (λ x xs. Val v (plus υ x xs)) ≡ later = λ i x xs. sym (c.2 x xs) i in
        subst (λ S. Comes W (f v υ) (λ x xs. bind (S x xs) f)) same h
    comes_then p (Over e υ) later c = end_then e υ later c
    comes_then p Unfinished later c = c

  -- First the one, then what its value leads to.
  pub then_asks : (A B P : Type 0) (V : A → Type 0) (W : B → Type 0) (m : Doing A) (f : A → Doing B) → Asks A P V m
      → ((v : A) → Asks B (P × V v) W (f v)) → Asks B P W (m >>= f)
  then_asks A B P V W m f lm lf = record {
    grows = λ σ. grown_then A B P V W f lf σ (m σ) (lm.grows σ);
    by = λ p σ g. comes_then A B P V W f lf p (m σ) (λ x xs. m (plus σ x xs)) (lm.by p σ g);
  }

  -- ---- what asks for nothing

  pub give_asks : (A P : Type 0) (V : A → Type 0) (v : A) → (P → V v) → Asks A P V (give v)
  give_asks A P V v h = record { grows = λ σ. unmoved σ; by = λ p σ g. (h p, g, λ x xs. refl) }

  pub skip_asks : (P : Type 0) → Asks (Unit {0}) P Nothing skip
  skip_asks P = give_asks (Unit {0}) P Nothing tt (λ p. tt)

  pub fault_asks : (A P : Type 0) (V : A → Type 0) (code : ℕ) (at : Place) → Asks A P V (fault code at)
  fault_asks A P V code at = record { grows = λ σ. unmoved σ; by = λ p σ g. tt }

  pub exit_asks : (A P : Type 0) (V : A → Type 0) (over_by : ToldEnd)
      → ((υ : State) (later : Later A) → EndsWell over_by υ later)
      → Asks A P V (over over_by)
  exit_asks A P V e h = record { grows = λ σ. unmoved σ; by = λ p σ g. h σ _ }

  pub valued_asks : (A P : Type 0) (V : A → Type 0) (at : Place) (r : Result A ℕ) → (P → Holds V r)
      → Asks A P V (valued at r)
  valued_asks A P V at (Ok v) h = give_asks A P V v h
  valued_asks A P V at (Err code) h = fault_asks A P V code at

  pub know_asks : (A P : Type 0) (V : A → Type 0) (f : State → A) → (P → (σ : State) → IsGood σ → V (f σ))
      → ((σ : State) (x : Reply) (xs : List Reply) → f (plus σ x xs) ≡ f σ) → Asks A P V (know f)
  know_asks A P V f h same = record {
    grows = λ σ. unmoved σ;
    by = λ p σ g. (h p σ g, g, λ x xs. ap (λ v. Val v (plus σ x xs)) (same σ x xs));
  }

  -- A change of the state that leaves actions and replies as they are.
  pub change_asks : (P : Type 0) (f : State → State)
      → ((σ : State) → IsFilled o past σ.store → IsFilled o past (f σ).store)
      → ((σ : State) → (f σ).actions ≡ σ.actions) → ((σ : State) → (f σ).replies ≡ σ.replies)
      → ((σ : State) (x : Reply) (xs : List Reply) → f (plus σ x xs) ≡ plus (f σ) x xs)
      → Asks (Unit {0}) P Nothing (change f)
  change_asks P f kept acts reps comm = record {
    grows = λ σ. (
      subst (λ l. Begins σ.actions l) (sym (acts σ)) (begins_itself σ.actions),
      let e = ap length (acts σ) in let g = ap length (reps σ) in omega arith,
    );
    by = λ p σ g. (
      tt,
      record {
        store = kept σ g.store;
        replies = subst (λ l. AreHeard o past l) (sym (reps σ)) g.replies;
      },
      λ x xs. ap (λ s. Val tt s) (comm σ x xs),
    );
  }

  pub store_asks : (P : Type 0) (at : Place) (f : Live → Result Live ℕ)
      → (P → (s : Live) → IsFilled o past s → FilledIn o past (f s))
      → Asks (Unit {0}) P Nothing (λ σ. with_store at σ (f σ.store))
  store_asks P at f kept = record {
    grows = λ σ. grown_by σ (f σ.store);
    by = λ p σ g. comes_by σ g (f σ.store) (kept p σ.store g.store);
  }
    where
      grown_by : (σ : State) (r : Result Live ℕ) → Grown σ (with_store at σ r)
      grown_by σ (Ok s) = (begins_itself σ.actions, refl)
      grown_by σ (Err code) = (begins_itself σ.actions, refl)

      comes_by : (σ : State) → IsGood σ → (r : Result Live ℕ) → FilledIn o past r
          → Comes Nothing (with_store at σ r) (λ x xs. with_store at (plus σ x xs) r)
      comes_by σ g (Ok s) h = (tt, record { store = h; replies = g.replies }, λ x xs. refl)
      comes_by σ g (Err code) h = tt

  pub choose_asks : (A P : Type 0) (V : A → Type 0) (test : Bool) (m k : Doing A) → Asks A P V m → Asks A P V k
      → Asks A P V (choose test m k)
  choose_asks A P V true m k hm hk = hm
  choose_asks A P V false m k hm hk = hk

  pub fault_if_asks : (P : Type 0) (test : State → Bool) (code : ℕ) (at : Place)
      → ((σ : State) (x : Reply) (xs : List Reply) → test (plus σ x xs) ≡ test σ)
      → Asks (Unit {0}) P Nothing (fault_if test code at)
  fault_if_asks P test code at same =
      then_asks Bool (Unit {0}) P (λ b. Unit {0}) Nothing (know test) (λ b. choose b (fault code at) skip)
      (know_asks Bool P (λ b. Unit {0}) test (λ p σ g. tt) same) (λ b.
      choose_asks (Unit {0}) (P × Unit {0}) Nothing b (fault code at) skip
      (fault_asks (Unit {0}) (P × Unit {0}) Nothing code at) (skip_asks (P × Unit {0})))

  -- ---- one action

  module _ (me budget : ℕ) (kind : Option Kind) (a : Action) where
    abbrev τ : Thread
    τ = runner o me budget

    grown_by_fit : (b : Bool) (r : Reply) (rest : List Reply) (σ : State) → σ.replies ≡ r ∷ rest
        → Grown σ (answered b a r rest σ)
    grown_by_fit true r rest σ e =
        let n = length_push σ.actions a in let m = ap length e in (begins_pushed σ.actions a, omega arith)
    grown_by_fit false r rest σ e = unmoved σ

    grown_by_replies : (rs : List Reply) (σ : State) → σ.replies ≡ rs → Grown σ (answered_from τ kind a rs σ)
    grown_by_replies [] σ e = unmoved σ
    grown_by_replies (r ∷ rest) σ e = grown_by_fit (fits o.threads o.shapes kind a r) r rest σ e

    taken : (b : Bool) (x : Reply) (xs : List Reply) (σ : State) → b ≡ true
        → Reaches (σ.actions ++ a ∷ []) (answered b a x xs (plus σ x xs))
    taken true x xs σ e = begins_itself (σ.actions ++ a ∷ [])
    taken false x xs σ e = absurd (false≢true e)

    missed : (b : Bool) (x : Reply) (xs : List Reply) (σ : State) → b ≡ false
        → Misses σ.actions (answered b a x xs (plus σ x xs))
    missed true x xs σ e = absurd (false≢true (sym e))
    missed false x xs σ e = (refl, refl)

    -- What answers the action: a reply that gives what is known, and fits it.
    pub record IsAnswer (r : Reply) : Type 0 where
      pub given : gives_known o past r ≡ true
      pub fit : fits o.threads o.shapes kind a r ≡ true

    comes_by_fit : (b : Bool) (r : Reply) (rest : List Reply) (σ : State) → IsGood σ → σ.replies ≡ r ∷ rest
        → fits o.threads o.shapes kind a r ≡ b
        → Comes IsAnswer (answered b a r rest σ) (λ x xs. answered b a r (rest ++ x ∷ xs) (plus σ x xs))
    comes_by_fit true r rest σ g e f =
        let k = subst (λ l. AreHeard o past l) e g.replies in (
          record { given = answer_known o past kind a r k.0 f; fit = f },
          record { store = g.store; replies = k.1 },
          λ x xs. refl,
        )
    comes_by_fit false r rest σ g e f = tt

    module _ (P : Type 0) (formed : P → IsWellFormed o past R kind a) where
      comes_by_replies : P → (rs : List Reply) (σ : State) → IsGood σ → σ.replies ≡ rs
          → Comes IsAnswer (answered_from τ kind a rs σ) (λ x xs. answered_from τ kind a (rs ++ x ∷ xs) (plus σ x xs))
      comes_by_replies p [] σ g e = record {
        none = e;
        kind = kind;
        formed = formed p;
        fit = λ x xs h. taken (fits o.threads o.shapes kind a x) x xs σ h;
        misfit = λ x xs h. missed (fits o.threads o.shapes kind a x) x xs σ h;
      }
      comes_by_replies p (r ∷ rest) σ g e = comes_by_fit (fits o.threads o.shapes kind a r) r rest σ g e refl

      pub ask_asks : Asks Reply P IsAnswer (ask τ kind a)
      unfolding ask
      ask_asks = record {
        grows = λ σ. grown_by_replies σ.replies σ refl;
        by = λ p σ g. comes_by_replies p σ.replies σ g refl;
      }
