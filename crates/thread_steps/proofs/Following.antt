-- With more replies a thread does the same as before, and goes on where it had none.
use Rattle.std.proofs.Common.{◌≡◌, ℕ, suc, ◌+◌, ◌<◌, List, [], ◌∷◌, ◌++◌, length, Option}
use Rattle.std.proofs.Common.{Bool, true, false, refl, sym, ◌∙◌, ap, subst, arith}
use Rattle.std.specs.Prelude.{Result, Ok, Err}
use Rattle.std.proofs.lemmas.List.{length_push}
use Rattle.upc_text.specs.declared.place.Place.{Place}
use Rattle.block_layout.specs.declared.kind.Kind.{Kind}
use Rattle.block_layout.specs.declared.run_error.TheConstants.{DEPTH}
use Rattle.upc_values.specs.declared.action.Action.{Action}
use Rattle.upc_values.specs.declared.action.Reply.{Reply}
use Rattle.upc_values.specs.declared.record.ToldEnd.{ToldEnd}
use Rattle.upc_values.specs.declared.record.ToldEnd.TheVariants.{Wants, Misfit, Ended, Exit, Fault, OutOfTicks}
use Rattle.upc_values.specs.Formed.{fits}
use Rattle.private_store.specs.Live.{Live, call_begun, returned}
use Rattle.thread_steps.specs.States.{Thread, State, Res, Val, Over, Unfinished, bind, Doing, ◌>>=◌, ◌>>◌}
use Rattle.thread_steps.specs.layer.Parts.{is_deep, with_tick, with_store, with_notified, answered_from}
use Rattle.thread_steps.specs.States.{give, skip, know, change, choose, over, fault}
use Rattle.thread_steps.specs.Actions.{ask, answered, tick}
use Rattle.thread_steps.specs.Blocks.{begin_call, end_call, with_live}
use Rattle.thread_steps.specs.layer.Fronts.{Begins}
use Rattle.thread_steps.proofs.Depths.{depth, SameDepth, called_depth, returned_depth, not_deep}
use Rattle.thread_steps.proofs.Kept.{IsBasic, IsAsking, IsKept, Ignores, IsOwn}
use Rattle.thread_steps.proofs.Kept.{asked_notify_kept, asked_wait_kept, asked_called_kept, asked_tick_kept}
use Rattle.thread_steps.proofs.Fronts.{begins_itself, begins_pushed, begins_on}

-- How many actions are done and replies are left.
abbrev pub total : State → ℕ
total σ = length σ.actions + length σ.replies

-- With further replies after those that are left.
abbrev pub plus : State → Reply → List Reply → State
plus σ x xs = record σ { replies = σ.replies ++ x ∷ xs }

-- What comes of further replies.
abbrev pub Later : Type 0 → Type 0
Later A = Reply → List Reply → Res A

abbrev later_on : {A B : Type 0} → Later A → (A → Doing B) → Later B
later_on R f = λ x xs. bind (R x xs) f

-- The end of a thread by an operation is no value of main, and a reply that does not fit is the next one.
abbrev pub IsFair : ToldEnd → State → Type 0
IsFair (Ended v) υ = ⊥
IsFair (Misfit k) υ = (k ≡ length υ.actions) × (0 < length υ.replies)
IsFair e υ = Unit {0}

-- The actions grow, each by one reply; as many calls are active as before.
abbrev pub Grown : {A : Type 0} → ℕ → State → Res A → Type 0
Grown d σ (Val v υ) = (depth υ.store ≡ d) × Begins σ.actions υ.actions × (total υ ≡ total σ)
Grown d σ (Over e υ) = Begins σ.actions υ.actions × (total υ ≡ total σ) × IsFair e υ
Grown d σ Unfinished = Unit {0}

abbrev pub Reaches : {A : Type 0} → ℕ → List Action → Res A → Type 0
Reaches d actions (Val v υ) = (depth υ.store ≡ d) × Begins actions υ.actions
Reaches d actions (Over e υ) = Begins actions υ.actions
Reaches d actions Unfinished = Unit {0}

module _ (τ : Thread) where
  -- Where the action was wanted, it is done with a reply that fits, and the thread ends where the reply does not.
  pub record Asked (A : Type 0) (d : ℕ) (a : Action) (υ : State) (R : Later A) : Type 0 where
    pub none : υ.replies ≡ []
    pub kind : Option Kind
    pub fit : (x : Reply) (xs : List Reply) → fits τ.threads τ.shapes kind a x ≡ true
        → Reaches d (υ.actions ++ a ∷ []) (R x xs)
    pub misfit : (x : Reply) (xs : List Reply) → fits τ.threads τ.shapes kind a x ≡ false
        → R x xs ≡ Over (Misfit (length υ.actions)) (plus υ x xs)

  abbrev pub SameEnd : {A : Type 0} → ℕ → ToldEnd → State → Later A → Type 0
  SameEnd {A} d (Wants a) υ R = Asked A d a υ R
  SameEnd d (Misfit k) υ R = (x : Reply) (xs : List Reply) → R x xs ≡ Over (Misfit k) (plus υ x xs)
  SameEnd d (Ended v) υ R = (x : Reply) (xs : List Reply) → R x xs ≡ Over (Ended v) (plus υ x xs)
  SameEnd d (Exit v) υ R = (x : Reply) (xs : List Reply) → R x xs ≡ Over (Exit v) (plus υ x xs)
  SameEnd d (Fault code at) υ R = (x : Reply) (xs : List Reply) → R x xs ≡ Over (Fault code at) (plus υ x xs)
  SameEnd d OutOfTicks υ R = (x : Reply) (xs : List Reply) → R x xs ≡ Over OutOfTicks (plus υ x xs)

  -- What comes with further replies of what came without.
  abbrev pub Extends : {A : Type 0} → ℕ → Res A → Later A → Type 0
  Extends d (Val v υ) R = (x : Reply) (xs : List Reply) → R x xs ≡ Val v (plus υ x xs)
  Extends d (Over e υ) R = SameEnd d e υ R
  Extends d Unfinished R = Unit {0}

  pub record Goes (A : Type 0) (d : ℕ) (σ : State) (r : Res A) (R : Later A) : Type 0 where
    pub grown : Grown d σ r
    pub extends : Extends d r R

  pub record Follows (n d : ℕ) (A : Type 0) (m : Doing A) : Type 0 where
    pub by : (σ : State) → depth σ.store ≡ d → Goes A d σ (m σ) (λ x xs. m (plus σ x xs))

  grown_on : (A : Type 0) (d : ℕ) (σ υ : State) (r : Res A) → Begins σ.actions υ.actions → total υ ≡ total σ
      → Grown d υ r → Grown d σ r
  grown_on A d σ υ (Val v ω) b t g = (g.0, begins_on σ.actions υ.actions ω.actions b g.1, g.2 ∙ t)
  grown_on A d σ υ (Over e ω) b t g = (begins_on σ.actions υ.actions ω.actions b g.0, g.1 ∙ t, g.2)
  grown_on A d σ υ Unfinished b t g = tt

  reaches_on : (B : Type 0) (d : ℕ) (actions : List Action) (υ : State) (r : Res B) → Begins actions υ.actions
      → Grown d υ r → Reaches d actions r
  reaches_on B d actions υ (Val v ω) b g = (g.0, begins_on actions υ.actions ω.actions b g.1)
  reaches_on B d actions υ (Over e ω) b g = begins_on actions υ.actions ω.actions b g.0
  reaches_on B d actions υ Unfinished b g = tt

  module _ (n d : ℕ) (A B : Type 0) (f : A → Doing B) (lf : (v : A) → Follows n d B (f v)) where
    reaches_then : (actions : List Action) (r : Res A) → Reaches d actions r → Reaches d actions (bind r f)
    reaches_then actions (Val v υ) h = reaches_on B d actions υ (f v υ) h.1 ((lf v).by υ h.0).grown
    reaches_then actions (Over e υ) h = h
    reaches_then actions Unfinished h = tt

    end_then : (e : ToldEnd) (υ : State) (R : Later A) → SameEnd d e υ R → SameEnd d e υ (λ x xs. bind (R x xs) f)
    end_then (Wants a) υ R h = record {
      none = h.none;
      kind = h.kind;
      fit = λ x xs e. reaches_then (υ.actions ++ a ∷ []) (R x xs) (h.fit x xs e);
      misfit = λ x xs e. ap (λ s. bind s f) (h.misfit x xs e);
    }
    end_then (Misfit k) υ R h = λ x xs. ap (λ s. bind s f) (h x xs)
    end_then (Ended v) υ R h = λ x xs. ap (λ s. bind s f) (h x xs)
    end_then (Exit v) υ R h = λ x xs. ap (λ s. bind s f) (h x xs)
    end_then (Fault code at) υ R h = λ x xs. ap (λ s. bind s f) (h x xs)
    end_then OutOfTicks υ R h = λ x xs. ap (λ s. bind s f) (h x xs)

    goes_then : (σ : State) (r : Res A) (R : Later A) → Goes A d σ r R → Goes B d σ (bind r f) (λ x xs. bind (R x xs) f)
    goes_then σ (Val v υ) R g =
        let h = (lf v).by υ g.grown.0 in
        let same : (λ x xs. Val v (plus υ x xs)) ≡ R = λ i x xs. sym (g.extends x xs) i in
        subst (λ S. Goes B d σ (f v υ) (λ x xs. bind (S x xs) f)) same
        (record { grown = grown_on B d σ υ (f v υ) g.grown.1 g.grown.2 h.grown; extends = h.extends })
    goes_then σ (Over e υ) R g = record { grown = g.grown; extends = end_then e υ R g.extends }
    goes_then σ Unfinished R g = record { grown = tt; extends = tt }

  then_follows : (n d : ℕ) (A B : Type 0) (m : Doing A) (f : A → Doing B) → Follows n d A m
      → ((v : A) → Follows n d B (f v)) → Follows n d B (m >>= f)
  then_follows n d A B m f lm lf =
      record { by = λ σ same. goes_then n d A B f lf σ (m σ) (λ x xs. m (plus σ x xs)) (lm.by σ same) }

  give_follows : (n d : ℕ) (A : Type 0) (v : A) → Follows n d A (give v)
  give_follows n d A v = record {
    by = λ σ same. record
        { grown = (same, begins_itself σ.actions, refl); extends = λ x xs. refl };
  }

  own_follows : (n d : ℕ) (A : Type 0) (e : ToldEnd) → IsOwn e → Follows n d A (over e)
  own_follows n d A (Fault code at) own = record {
    by = λ σ same. record
        { grown = (begins_itself σ.actions, refl, tt); extends = λ x xs. refl };
  }
  own_follows n d A (Exit v) own = record {
    by = λ σ same. record
        { grown = (begins_itself σ.actions, refl, tt); extends = λ x xs. refl };
  }
  own_follows n d A OutOfTicks own = absurd own
  own_follows n d A (Wants a) own = absurd own
  own_follows n d A (Misfit k) own = absurd own
  own_follows n d A (Ended v) own = absurd own

  know_follows : (n d : ℕ) (A : Type 0) (f : State → A) → Ignores f → Follows n d A (know f)
  know_follows n d A f ignores =
      record {
        by = λ σ same. record {
          grown = (same, begins_itself σ.actions, refl);
          extends = λ x xs. ap (λ v. Val v (plus σ x xs)) (ignores σ σ.actions (σ.replies ++ x ∷ xs));
        };
      }

  change_follows : (n d : ℕ) (f : State → State) → ((σ : State) → depth (f σ).store ≡ depth σ.store)
      → ((σ : State) → (f σ).actions ≡ σ.actions) → ((σ : State) → (f σ).replies ≡ σ.replies)
      → ((σ : State) (x : Reply) (xs : List Reply) → f (plus σ x xs) ≡ plus (f σ) x xs)
      → Follows n d (Unit {0}) (λ σ. Val tt (f σ))
  change_follows n d f deep acts reps comm =
      record {
        by = λ σ same. record {
          grown = (
            deep σ ∙ same,
            subst (λ l. Begins σ.actions l) (sym (acts σ)) (begins_itself σ.actions),
            let e = ap
                length (acts σ) in let g = ap length (reps σ) in omega arith,
          );
          extends = λ x xs. ap (λ s. Val tt s) (comm σ x xs);
        };
      }

  -- ---- one action

  module _ (d : ℕ) (kind : Option Kind) (a : Action) where
    fit_reply : (b : Bool) (x : Reply) (xs : List Reply) (σ : State) → depth σ.store ≡ d → b ≡ true
        → Reaches d (σ.actions ++ a ∷ []) (answered b a x xs (plus σ x xs))
    fit_reply true x xs σ same e = (same, begins_itself (σ.actions ++ a ∷ []))
    fit_reply false x xs σ same e = absurd (grind arith)

    misfit_reply : (b : Bool) (x : Reply) (xs : List Reply) (σ : State) → b ≡ false
        → answered b a x xs (plus σ x xs) ≡ Over (Misfit (length σ.actions)) (plus σ x xs)
    misfit_reply true x xs σ e = absurd (grind arith)
    misfit_reply false x xs σ e = refl

    old_reply : (b : Bool) (r : Reply) (rest : List Reply) (σ : State) → depth σ.store ≡ d → σ.replies ≡ r ∷ rest
        → Goes Reply d σ (answered b a r rest σ) (λ x xs. answered b a r (rest ++ x ∷ xs) (plus σ x xs))
    old_reply true r rest σ same e =
        let p = length_push σ.actions a in
        let q = ap length e in
        record { grown = (same, begins_pushed σ.actions a, omega arith); extends = λ x xs. refl }
    old_reply false r rest σ same e =
        let q = ap length e in
        record { grown = (begins_itself σ.actions, refl, (refl, omega arith)); extends = λ x xs. refl }

    by_replies : (rs : List Reply) (σ : State) → depth σ.store ≡ d → σ.replies ≡ rs
        → Goes Reply d σ (answered_from τ kind a rs σ) (λ x xs. answered_from τ kind a (rs ++ x ∷ xs) (plus σ x xs))
    by_replies [] σ same e = record {
      grown = (begins_itself σ.actions, refl, tt);
      extends = record {
        none = e;
        kind = kind;
        fit = λ x xs h. fit_reply (fits τ.threads τ.shapes kind a x) x xs σ same h;
        misfit = λ x xs h. misfit_reply (fits τ.threads τ.shapes kind a x) x xs σ h;
      };
    }
    by_replies (r ∷ rest) σ same e = old_reply (fits τ.threads τ.shapes kind a r) r rest σ same e

  ask_follows : (n d : ℕ) (kind : Option Kind) (a : Action) → Follows n d Reply (ask τ kind a)
  unfolding ask
  ask_follows n d kind a = record { by = λ σ same. by_replies d kind a σ.replies σ same refl }

  -- ---- private objects and calls

  store_follows : (n d : ℕ) (at : Place) (f : Live → Result Live ℕ) → ((s : Live) → SameDepth s (f s))
      → Follows n d (Unit {0}) (λ σ. with_store at σ (f σ.store))
  store_follows n d at f kept = record { by = λ σ same. on_store (f σ.store) σ same (kept σ.store) }
    where
      on_store : (r : Result Live ℕ) (σ : State) → depth σ.store ≡ d → SameDepth σ.store r
          → Goes (Unit {0}) d σ (with_store at σ r) (λ x xs. with_store at (plus σ x xs) r)
      on_store (Ok s) σ same k = record { grown = (k ∙ same, begins_itself σ.actions, refl); extends = λ x xs. refl }
      on_store (Err code) σ same k = record { grown = (begins_itself σ.actions, refl, tt); extends = λ x xs. refl }

  -- After the end of a call one call less is active.
  module _ (d : ℕ) (A : Type 0) where
    abbrev back : A → Doing A
    back v = change (with_live returned) >> give v

    back_grown : (σ : State) (r : Res A) → Grown (suc d) σ r → Grown d σ (bind r back)
    back_grown σ (Val v υ) g = (returned_depth d υ.store g.0, g.1, g.2)
    back_grown σ (Over e υ) g = g
    back_grown σ Unfinished g = tt

    back_reaches : (actions : List Action) (r : Res A) → Reaches (suc d) actions r → Reaches d actions (bind r back)
    back_reaches actions (Val v υ) h = (returned_depth d υ.store h.0, h.1)
    back_reaches actions (Over e υ) h = h
    back_reaches actions Unfinished h = tt

    back_end : (e : ToldEnd) (υ : State) (R : Later A) → SameEnd (suc d) e υ R → SameEnd d e υ (later_on R back)
    back_end (Wants a) υ R h = record {
      none = h.none;
      kind = h.kind;
      fit = λ x xs e. back_reaches (υ.actions ++ a ∷ []) (R x xs) (h.fit x xs e);
      misfit = λ x xs e. ap (λ s. bind s back) (h.misfit x xs e);
    }
    back_end (Misfit k) υ R h = λ x xs. ap (λ s. bind s back) (h x xs)
    back_end (Ended v) υ R h = λ x xs. ap (λ s. bind s back) (h x xs)
    back_end (Exit v) υ R h = λ x xs. ap (λ s. bind s back) (h x xs)
    back_end (Fault code at) υ R h = λ x xs. ap (λ s. bind s back) (h x xs)
    back_end OutOfTicks υ R h = λ x xs. ap (λ s. bind s back) (h x xs)

    back_extends : (r : Res A) (R : Later A) → Extends (suc d) r R → Extends d (bind r back) (later_on R back)
    back_extends (Val v υ) R h = λ x xs. ap (λ s. bind s back) (h x xs)
    back_extends (Over e υ) R h = back_end e υ R h
    back_extends Unfinished R h = tt

    back_goes : (σ υ : State) (r : Res A) (R : Later A) → υ.actions ≡ σ.actions → υ.replies ≡ σ.replies
        → Goes A (suc d) υ r R → Goes A d σ (bind r back) (later_on R back)
    back_goes σ υ r R acts reps g = record {
      grown = back_grown σ r (grown_on A (suc d) σ υ r
          (subst (λ l. Begins σ.actions l) (sym acts) (begins_itself σ.actions))
          (let e = ap length acts in let f = ap length reps in omega arith) g.grown);
      extends = back_extends r R g.extends;
    }

  call_follows : (n d : ℕ) (A : Type 0) (at : Place) (m : Doing A) → (d < 1000 → Follows n (suc d) A m)
      → Follows n d A (begin_call at >> (m >>= (λ v. end_call >> give v)))
  unfolding begin_call end_call
  call_follows n d A at m lm = record { by = λ σ same. by_depth (is_deep σ) σ refl same }
    where
      run : Bool → State → Res A
      run b σ = bind (bind (choose b (fault DEPTH at) skip σ) (λ _. change (with_live call_begun))) (λ _. m >>= back d A)

      by_depth : (b : Bool) (σ : State) → is_deep σ ≡ b → depth σ.store ≡ d
          → Goes A d σ (run b σ) (λ x xs. run b (plus σ x xs))
      by_depth true σ e same = record { grown = (begins_itself σ.actions, refl, tt); extends = λ x xs. refl }
      by_depth false σ e same =
          let υ = with_live call_begun σ in
          back_goes d A σ υ (m υ) (λ x xs. m (plus υ x xs)) refl refl
          ((lm (not_deep d (depth σ.store) e same)).by υ (called_depth σ.store ∙ omega arith))

  -- The number of turns has no say.
  counted : (k n d : ℕ) (A : Type 0) (m : Doing A) → Follows n d A m → Follows k d A m
  counted k n d A m l = record { by = λ σ same. l.by σ same }

  basic_following : IsBasic Follows
  basic_following = record {
    of_give = give_follows;
    of_over = own_follows;
    of_know = know_follows;
    of_bind = then_follows;
    of_store = store_follows;
  }

  asking_following : IsAsking τ Follows
  asking_following = record {
    basic = basic_following;
    of_ask = ask_follows;
    of_notified = λ n d v. change_follows n d (with_notified v) (λ σ. refl) (λ σ. refl) (λ σ. refl) (λ σ x xs. refl);
  }

  spent_follows : (n d : ℕ) → Follows n d (Unit {0}) (over OutOfTicks)
  spent_follows n d = record {
    by = λ σ same. record {
      grown = (begins_itself σ.actions, refl, tt);
      extends = λ x xs. refl;
    };
  }

  tick_follows : (n d : ℕ) → Follows n d (Unit {0}) (tick τ)
  tick_follows n d = asked_tick_kept τ Follows asking_following n d
      (change_follows n d with_tick (λ σ. refl) (λ σ. refl) (λ σ. refl) (λ σ x xs. refl)) (spent_follows n d)

  pub following : IsKept τ Follows
  following = record {
    basic = basic_following;
    of_fewer = λ k n d A m le l. counted k n d A m l;
    of_unfinished = λ d A. record { by = λ σ same. record { grown = tt; extends = tt } };
    of_ask = λ n d kind action plain. ask_follows n d kind action;
    of_notify = λ n d at mark. asked_notify_kept τ Follows asking_following n d at mark;
    of_wait = λ n d at mark. asked_wait_kept τ Follows asking_following n d at mark;
    of_called = λ n d call shape at args. asked_called_kept τ Follows asking_following n d call shape at args;
    of_tick = tick_follows;
    of_turn = λ n d A m l. counted (suc n) n d A _ (then_follows n d (Unit {0}) A (tick τ) _ (tick_follows n d)
        (λ u. l));
    of_call = call_follows;
  }
