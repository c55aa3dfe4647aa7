-- What a thread does has nothing to do with the actions before, nor with the replies after those that it takes.
use Rattle.std.proofs.Common.{◌≡◌, ℕ, suc, ◌<◌, List, [], ◌∷◌, ◌++◌, Option}
use Rattle.std.proofs.Common.{Bool, true, false, refl, sym, ◌∙◌, ap, subst, arith, append_assoc}
use Rattle.std.specs.Prelude.{Result, Ok, Err}
use Rattle.upc_text.specs.declared.place.Place.{Place}
use Rattle.block_layout.specs.declared.kind.Kind.{Kind}
use Rattle.block_layout.specs.declared.run_error.TheConstants.{DEPTH}
use Rattle.upc_values.specs.declared.action.Action.{Action}
use Rattle.upc_values.specs.declared.action.Reply.{Reply}
use Rattle.upc_values.specs.declared.record.ToldEnd.{ToldEnd}
use Rattle.upc_values.specs.declared.record.ToldEnd.TheVariants.{Wants, Misfit, Ended, Exit, Fault, OutOfTicks}
use Rattle.upc_values.specs.Formed.{fits}
use Rattle.private_store.specs.Live.{Live, call_begun, returned}
use Rattle.thread_steps.specs.States.{Thread, State, Res, Val, Over, Unfinished, bind, Doing, ◌>>=◌, ◌>>◌}
use Rattle.thread_steps.specs.layer.Parts.{is_deep, with_tick, with_store, with_notified, answered_from}
use Rattle.thread_steps.specs.States.{give, skip, know, change, choose, over, fault}
use Rattle.thread_steps.specs.Actions.{ask, answered, tick}
use Rattle.thread_steps.specs.Blocks.{begin_call, end_call, with_live}
use Rattle.thread_steps.proofs.Depths.{depth, SameDepth, called_depth, returned_depth, not_deep}
use Rattle.thread_steps.proofs.Kept.{Property, IsBasic, IsAsking, IsKept, Ignores, IsOwn}
use Rattle.thread_steps.proofs.Kept.{asked_notify_kept, asked_wait_kept, asked_called_kept, asked_tick_kept}
use Rattle.thread_steps.proofs.Lasting.{Lasts, lasting}

-- The state with actions before its own, and replies after its own.
abbrev pub shift : State → List Action → List Reply → State
shift σ before later = record σ { actions = before ++ σ.actions; replies = σ.replies ++ later }

-- What comes of actions before and replies after.
abbrev pub Shifted : Type 0 → Type 0
Shifted A = List Action → List Reply → Res A

-- An action that is wanted is so where no reply comes; nothing is said of a reply that does not fit.
abbrev pub SameEnd : {A : Type 0} → ToldEnd → State → Shifted A → Type 0
SameEnd (Wants a) υ R = (before : List Action) → R before [] ≡ Over (Wants a) (shift υ before [])
SameEnd (Misfit k) υ R = Unit {0}
SameEnd (Ended v) υ R = (before : List Action) (later : List Reply) → R before later ≡ Over (Ended v) (shift υ before later)
SameEnd (Exit v) υ R = (before : List Action) (later : List Reply) → R before later ≡ Over (Exit v) (shift υ before later)
SameEnd (Fault code at) υ R =
    (before : List Action) (later : List Reply) → R before later ≡ Over (Fault code at) (shift υ before later)
SameEnd OutOfTicks υ R = (before : List Action) (later : List Reply) → R before later ≡ Over OutOfTicks (shift υ before later)

abbrev pub Same : {A : Type 0} → Res A → Shifted A → Type 0
Same (Val v υ) R = (before : List Action) (later : List Reply) → R before later ≡ Val v (shift υ before later)
Same (Over e υ) R = SameEnd e υ R
Same Unfinished R = Unit {0}

abbrev pub Deep : {A : Type 0} → ℕ → Res A → Type 0
Deep d (Val v υ) = depth υ.store ≡ d
Deep d (Over e υ) = Unit {0}
Deep d Unfinished = Unit {0}

pub record Goes (A : Type 0) (d : ℕ) (r : Res A) (R : Shifted A) : Type 0 where
  pub deep : Deep d r
  pub same : Same r R

-- Where so many calls are active.
pub record Framed (n d : ℕ) (A : Type 0) (m : Doing A) : Type 0 where
  pub by : (σ : State) → depth σ.store ≡ d → Goes A d (m σ) (λ before later. m (shift σ before later))

-- An end stays as it is, whatever would have come next.
end_then : (A B : Type 0) (f : Res A → Res B) (h : (e : ToldEnd) (υ : State) → f (Over e υ) ≡ Over e υ)
    (e : ToldEnd) (υ : State) (R : Shifted A) → SameEnd e υ R → SameEnd e υ (λ before later. f (R before later))
end_then A B f h (Wants a) υ R s = λ before. ap f (s before) ∙ h (Wants a) (shift υ before [])
end_then A B f h (Misfit k) υ R s = tt
end_then A B f h (Ended v) υ R s = λ before later. ap f (s before later) ∙ h (Ended v) (shift υ before later)
end_then A B f h (Exit v) υ R s = λ before later. ap f (s before later) ∙ h (Exit v) (shift υ before later)
end_then A B f h (Fault code at) υ R s =
    λ before later. ap f (s before later) ∙ h (Fault code at) (shift υ before later)
end_then A B f h OutOfTicks υ R s = λ before later. ap f (s before later) ∙ h OutOfTicks (shift υ before later)

module _ (n d : ℕ) (A B : Type 0) (f : A → Doing B) (lf : (v : A) → Framed n d B (f v)) where
  goes_then : (r : Res A) (R : Shifted A) → Goes A d r R → Goes B d (bind r f) (λ before later. bind (R before later) f)
  goes_then (Val v υ) R g =
      let same : (λ before later. Val v (shift υ before later)) ≡ R = λ i before later. sym (g.same before later) i in
      subst (λ S. Goes B d (f v υ) (λ before later. bind (S before later) f)) same ((lf v).by υ g.deep)
  goes_then (Over e υ) R g = record {
    deep = tt;
    same = end_then A B (λ r. bind r f) (λ e υ. refl) e υ R g.same;
  }
  goes_then Unfinished R g = record { deep = tt; same = tt }

then_framed : (n d : ℕ) (A B : Type 0) (m : Doing A) (f : A → Doing B) → Framed n d A m
    → ((v : A) → Framed n d B (f v)) → Framed n d B (m >>= f)
then_framed n d A B m f lm lf =
    record { by = λ σ e. goes_then n d A B f lf (m σ) (λ before later. m (shift σ before later)) (lm.by σ e) }

give_framed : (n d : ℕ) (A : Type 0) (v : A) → Framed n d A (give v)
give_framed n d A v = record { by = λ σ e. record { deep = e; same = λ before later. refl } }

own_framed : (n d : ℕ) (A : Type 0) (e : ToldEnd) → IsOwn e → Framed n d A (over e)
own_framed n d A (Fault code at) own = record { by = λ σ e. record { deep = tt; same = λ before later. refl } }
own_framed n d A (Exit v) own = record { by = λ σ e. record { deep = tt; same = λ before later. refl } }
own_framed n d A OutOfTicks own = absurd own
own_framed n d A (Wants a) own = absurd own
own_framed n d A (Misfit k) own = absurd own
own_framed n d A (Ended v) own = absurd own

know_framed : (n d : ℕ) (A : Type 0) (f : State → A) → Ignores f → Framed n d A (know f)
know_framed n d A f ignores = record {
  by = λ σ e. record {
    deep = e;
    same = λ before later. ap (λ v. Val v (shift σ before later)) (ignores σ (before ++ σ.actions) (σ.replies ++ later));
  };
}

change_framed : (n d : ℕ) (f : State → State) → ((σ : State) → depth (f σ).store ≡ depth σ.store)
    → ((σ : State) (before : List Action) (later : List Reply) → f (shift σ before later) ≡ shift (f σ) before later)
    → Framed n d (Unit {0}) (λ σ. Val tt (f σ))
change_framed n d f deep comm = record {
  by = λ σ e. record { deep = deep σ ∙ e; same = λ before later. ap (λ s. Val tt s) (comm σ before later) };
}

store_framed : (n d : ℕ) (at : Place) (f : Live → Result Live ℕ) → ((s : Live) → SameDepth s (f s))
    → Framed n d (Unit {0}) (λ σ. with_store at σ (f σ.store))
store_framed n d at f kept = record { by = λ σ e. on_store (f σ.store) σ e (kept σ.store) }
  where
    on_store : (r : Result Live ℕ) (σ : State) → depth σ.store ≡ d → SameDepth σ.store r
        → Goes (Unit {0}) d (with_store at σ r) (λ before later. with_store at (shift σ before later) r)
    on_store (Ok s) σ e k = record { deep = k ∙ e; same = λ before later. refl }
    on_store (Err code) σ e k = record { deep = tt; same = λ before later. refl }

module _ (τ : Thread) where
  -- ---- one action

  module _ (d : ℕ) (kind : Option Kind) (a : Action) where
    by_fit : (b : Bool) (r : Reply) (rest : List Reply) (σ : State) → depth σ.store ≡ d
        → Goes Reply d (answered b a r rest σ) (λ before later. answered b a r (rest ++ later) (shift σ before later))
    by_fit true r rest σ e = record {
      deep = e;
      same = λ before later.
          ap (λ l. Val r (record σ { actions = l; replies = rest ++ later })) (append_assoc before σ.actions (a ∷ []));
    }
    by_fit false r rest σ e = record { deep = tt; same = tt }

    by_replies : (rs : List Reply) (σ : State) → depth σ.store ≡ d → σ.replies ≡ rs
        → Goes Reply d (answered_from τ kind a rs σ)
        (λ before later. answered_from τ kind a (rs ++ later) (shift σ before later))
    by_replies [] σ e h = record { deep = tt; same = λ before. refl }
    by_replies (r ∷ rest) σ e h = by_fit (fits τ.threads τ.shapes kind a r) r rest σ e

  ask_framed : (n d : ℕ) (kind : Option Kind) (a : Action) → Framed n d Reply (ask τ kind a)
  unfolding ask
  ask_framed n d kind a = record { by = λ σ e. by_replies d kind a σ.replies σ e refl }

  -- ---- calls

  module _ (d : ℕ) (A : Type 0) where
    abbrev back : A → Doing A
    back v = change (with_live returned) >> give v

    back_goes : (r : Res A) (R : Shifted A) → Goes A (suc d) r R
        → Goes A d (bind r back) (λ before later. bind (R before later) back)
    back_goes (Val v υ) R g = record {
      deep = returned_depth d υ.store g.deep;
      same = λ before later. ap (λ s. bind s back) (g.same before later);
    }
    back_goes (Over e υ) R g = record {
      deep = tt;
      same = end_then A A (λ r. bind r back) (λ e υ. refl) e υ R g.same;
    }
    back_goes Unfinished R g = record { deep = tt; same = tt }

  call_framed : (n d : ℕ) (A : Type 0) (at : Place) (m : Doing A) → (d < 1000 → Framed n (suc d) A m)
      → Framed n d A (begin_call at >> (m >>= (λ v. end_call >> give v)))
  unfolding begin_call end_call
  call_framed n d A at m lm = record { by = λ σ e. by_depth (is_deep σ) σ refl e }
    where
      run : Bool → State → Res A
      run b σ = bind (bind (choose b (fault DEPTH at) skip σ) (λ _. change (with_live call_begun))) (λ _. m >>= back d A)

      by_depth : (b : Bool) (σ : State) → is_deep σ ≡ b → depth σ.store ≡ d
          → Goes A d (run b σ) (λ before later. run b (shift σ before later))
      by_depth true σ e same = record { deep = tt; same = λ before later. refl }
      by_depth false σ e same =
          let υ = with_live call_begun σ in
          back_goes d A (m υ) (λ before later. m (shift υ before later))
          ((lm (not_deep d (depth σ.store) e same)).by υ (called_depth σ.store ∙ omega arith))

  basic_framing : IsBasic Framed
  basic_framing = record {
    of_give = give_framed;
    of_over = own_framed;
    of_know = know_framed;
    of_bind = then_framed;
    of_store = store_framed;
  }

  asking_framing : IsAsking τ Framed
  asking_framing = record {
    basic = basic_framing;
    of_ask = ask_framed;
    of_notified = λ n d v. change_framed n d (with_notified v) (λ σ. refl) (λ σ before later. refl);
  }

  spent_framed : (n d : ℕ) → Framed n d (Unit {0}) (over OutOfTicks)
  spent_framed n d = record { by = λ σ e. record { deep = tt; same = λ before later. refl } }

  tick_framed : (n d : ℕ) → Framed n d (Unit {0}) (tick τ)
  tick_framed n d = asked_tick_kept τ Framed asking_framing n d
      (change_framed n d with_tick (λ σ. refl) (λ σ before later. refl)) (spent_framed n d)

  -- The number of turns has no say.
  counted : (k n d : ℕ) (A : Type 0) (m : Doing A) → Framed n d A m → Framed k d A m
  counted k n d A m l = record { by = λ σ e. l.by σ e }

  pub framing : IsKept τ Framed
  framing = record {
    basic = basic_framing;
    of_fewer = λ k n d A m le l. counted k n d A m l;
    of_unfinished = λ d A. record { by = λ σ e. record { deep = tt; same = tt } };
    of_ask = λ n d kind action plain. ask_framed n d kind action;
    of_notify = λ n d at mark. asked_notify_kept τ Framed asking_framing n d at mark;
    of_wait = λ n d at mark. asked_wait_kept τ Framed asking_framing n d at mark;
    of_called = λ n d call shape at args. asked_called_kept τ Framed asking_framing n d call shape at args;
    of_tick = tick_framed;
    of_turn = λ n d A m l. counted (suc n) n d A _ (then_framed n d (Unit {0}) A (tick τ) _ (tick_framed n d) (λ u. l));
    of_call = call_framed;
  }

-- ---- two properties at once

pub record Both (P Q : Property) (n d : ℕ) (A : Type 0) (m : Doing A) : Type 0 where
  pub one : P n d A m
  pub other : Q n d A m

both : (τ : Thread) (P Q : Property) → IsKept τ P → IsKept τ Q → IsKept τ (Both P Q)
both τ P Q K L = record {
  basic = record {
    of_give = λ n d A v. record { one = K.basic.of_give n d A v; other = L.basic.of_give n d A v };
    of_over = λ n d A e own. record { one = K.basic.of_over n d A e own; other = L.basic.of_over n d A e own };
    of_know = λ n d A f i. record { one = K.basic.of_know n d A f i; other = L.basic.of_know n d A f i };
    of_bind = λ n d A B m f pm pf. record {
      one = K.basic.of_bind n d A B m f pm.one (λ v. (pf v).one);
      other = L.basic.of_bind n d A B m f pm.other (λ v. (pf v).other);
    };
    of_store = λ n d at f k. record { one = K.basic.of_store n d at f k; other = L.basic.of_store n d at f k };
  };
  of_fewer = λ k n d A m le p. record { one = K.of_fewer k n d A m le p.one; other = L.of_fewer k n d A m le p.other };
  of_unfinished = λ d A. record { one = K.of_unfinished d A; other = L.of_unfinished d A };
  of_ask = λ n d kind a plain. record { one = K.of_ask n d kind a plain; other = L.of_ask n d kind a plain };
  of_notify = λ n d at mark. record { one = K.of_notify n d at mark; other = L.of_notify n d at mark };
  of_wait = λ n d at mark. record { one = K.of_wait n d at mark; other = L.of_wait n d at mark };
  of_called = λ n d call shape at args. record {
    one = K.of_called n d call shape at args;
    other = L.of_called n d call shape at args;
  };
  of_tick = λ n d. record { one = K.of_tick n d; other = L.of_tick n d };
  of_turn = λ n d A m p. record { one = K.of_turn n d A m p.one; other = L.of_turn n d A m p.other };
  of_call = λ n d A at m p. record {
    one = K.of_call n d A at m (λ lt. (p lt).one);
    other = L.of_call n d A at m (λ lt. (p lt).other);
  };
}

-- A step that is framed, and gives a value or ends the thread.
abbrev pub Calm : Thread → Property
Calm τ = Both Framed (Lasts τ)

pub calm : (τ : Thread) → IsKept τ (Calm τ)
calm τ = both τ Framed (Lasts τ) (framing τ) (lasting τ)
