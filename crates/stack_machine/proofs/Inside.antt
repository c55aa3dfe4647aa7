-- A call is walked reply by reply.
use Rattle.std.proofs.Common.{◌≡◌, ℕ, ◌<◌, true, false, List, [], ◌∷◌, ◌++◌, Some, None}
use Rattle.std.proofs.Common.{refl, sym, ◌∙◌, ap, subst, append_assoc, append-nil}
use Rattle.std.specs.Prelude.{Ok}
use Rattle.upc_text.specs.declared.place.Place.{Place}
use Rattle.block_layout.specs.declared.place.Loc.{Loc}
use Rattle.block_layout.specs.declared.place.LocalPtr.{LocalPtr}
use Rattle.block_layout.specs.declared.kind.Kind.{Kind}
use Rattle.upc_values.specs.declared.scalar.Scalar.{Scalar}
use Rattle.upc_values.specs.declared.scalar.Value.{Value}
use Rattle.upc_values.specs.declared.scalar.Value.TheVariants as value
use Rattle.upc_values.specs.declared.action.Action.{Action}
use Rattle.upc_values.specs.declared.action.Action.TheVariants as act
use Rattle.upc_values.specs.declared.action.Reply.{Reply}
use Rattle.upc_values.specs.declared.record.ToldEnd.{ToldEnd}
use Rattle.upc_values.specs.declared.record.ToldEnd.TheVariants.{Wants, Fault}
use Rattle.upc_values.specs.Outcomes.{Outcome}
use Rattle.upc_values.specs.Formed.{fits}
use Rattle.upc_values.specs.Expansion.{Expansion, Gives, Fails, Reads, Asks, Loads, Stores, value_in}
use Rattle.private_store.specs.Live.{Live}
use Rattle.private_store.specs.Cells.{loaded, stored}
use Rattle.thread_steps.specs.States.{Thread, Res, bind, give, valued}
use Rattle.thread_steps.specs.layer.Parts.{with_store}
use Rattle.thread_steps.specs.Values.{kept, scalar_of}
use Rattle.thread_steps.specs.Actions.{ask, answered}
use Rattle.thread_steps.specs.Accesses.{library_steps, expanded}
use Rattle.stack_code.specs.layer.Codes.{Codes, thread_of}
use Rattle.stack_code.specs.layer.Steps.{Conf, At, Halt, conf_of, further, steps}
use Rattle.stack_code.specs.layer.Outcomes.{HasEnded, CodeMeans, beginning}
use Rattle.stack_code.proofs.Ends.{one_outcome}
use Rattle.stack_machine.specs.code.Bodies.{Body, conf, state_of}
use Rattle.stack_machine.specs.code.Standing.{first_body}
use Rattle.stack_machine.specs.code.Inside.{inside, with_value, StandsInside, wanted_in, FailsBy, GoesInside}

-- ---- one step of what is left

module _ (τ : Thread) (at : Place) (b : Body) where
  -- What the code comes to by what comes of the rest.
  abbrev onto : Res Scalar → Conf
  onto r = conf_of (bind r (λ v. give (value.Scalar v))) (λ v. At (further 1 b.at) b.given (v ∷ b.operands) b.calls)

  read_step : (l : Loc) (k : Kind) (go : Scalar → Expansion Scalar) (r : Reply) (before : List Action)
      (later : List Reply) → fits τ.threads τ.shapes (Some k) (act.Read l false) r ≡ true
      → inside τ at (Reads l k go) b before (r ∷ later)
      ≡ inside τ at (go (value_in r)) b (before ++ act.Read l false ∷ []) later
  unfolding library_steps ask
  read_step l k go r before later e =
      ap (λ t. onto (bind (bind (answered t (act.Read l false) r later (state_of b before (r ∷ later)))
      (λ r. give (value_in r))) (λ v. expanded τ at (go v)))) e

  ask_step : (a : Action) (go : Reply → Expansion Scalar) (r : Reply) (before : List Action) (later : List Reply)
      → fits τ.threads τ.shapes None a r ≡ true
      → inside τ at (Asks a go) b before (r ∷ later) ≡ inside τ at (go r) b (before ++ a ∷ []) later
  unfolding library_steps ask
  ask_step a go r before later e =
      ap (λ t. onto (bind (answered t a r later (state_of b before (r ∷ later))) (λ r. expanded τ at (go r)))) e

  load_step : (p : LocalPtr) (k : Kind) (go : Scalar → Expansion Scalar) (v : Value) (before : List Action)
      (later : List Reply) → loaded p k b.store ≡ Ok v
      → inside τ at (Loads p k go) b before later ≡ inside τ at (go (scalar_of v)) b before later
  unfolding library_steps
  load_step p k go v before later e =
      ap (λ r. onto (bind (valued at r (state_of b before later)) (λ v. expanded τ at (go (scalar_of v))))) e

  store_step : (p : LocalPtr) (k : Kind) (v : Scalar) (go : Expansion Scalar) (s : Live) (before : List Action)
      (later : List Reply) → stored p k (kept k (value.Scalar v)) b.store ≡ Ok s
      → inside τ at (Stores p k v go) b before later ≡ inside τ at go (record b { store = s }) before later
  unfolding library_steps
  store_step p k v go s before later e =
      ap (λ r. onto (bind (with_store at (state_of b before later) r) (λ _. expanded τ at go))) e

  give_step : (v : Scalar) (before : List Action) (later : List Reply)
      → inside τ at (Gives v) b before later ≡ conf (with_value v b) before later
  unfolding library_steps
  give_step v before later = refl

  fail_step : (x : Expansion Scalar) (code : ℕ) (before : List Action) (later : List Reply) → FailsBy code x b
      → inside τ at x b before later ≡ Halt (Fault code at) (state_of b before later)
  unfolding library_steps
  fail_step (Fails c) code before later e = ap (λ c. Halt (Fault c at) (state_of b before later)) e
  fail_step (Loads p k go) code before later e =
      ap (λ r. onto (bind (valued at r (state_of b before later)) (λ v. expanded τ at (go (scalar_of v))))) e
  fail_step (Stores p k v go) code before later e =
      ap (λ r. onto (bind (with_store at (state_of b before later) r) (λ _. expanded τ at go))) e
  fail_step (Gives v) code before later e = absurd e
  fail_step (Reads l k go) code before later e = absurd e
  fail_step (Asks a go) code before later e = absurd e

  want_step : (x : Expansion Scalar) (a : Action) (before : List Action) → wanted_in x ≡ Some a
      → inside τ at x b before [] ≡ Halt (Wants a) (state_of b before [])
  unfolding library_steps ask
  want_step (Gives v) a before e = absurd cc
  want_step (Fails code) a before e = absurd cc
  want_step (Reads l k go) a before e =
      let same : act.Read l false ≡ a = cc in ap (λ a. Halt (Wants a) (state_of b before [])) same
  want_step (Asks c go) a before e =
      let same : c ≡ a = cc in ap (λ a. Halt (Wants a) (state_of b before [])) same
  want_step (Loads p k go) a before e = absurd cc
  want_step (Stores p k v go) a before e = absurd cc

-- ---- where a thread stands

module _ (codes : Codes) (thread budget : ℕ) where
  abbrev runner : Thread
  runner = thread_of codes thread budget

  -- The same spot, told otherwise.
  goes_on : (given left rest : List Reply) (at : Place) (x y : Expansion Scalar) (b d : Body) (more : List Action)
      → StandsInside codes thread budget given left at x b → d.ticks < budget
      → ((before : List Action) (later : List Reply)
      → inside runner at x b before (left ++ later) ≡ inside runner at y d (before ++ more) (rest ++ later))
      → StandsInside codes thread budget given rest at y d
  goes_on given left rest at x y b d more s lt e = record {
    did = s.did ++ more;
    leads = λ before later.
        let h = s.leads before later in (
          h.0,
          h.1 ∙ e (before ++ s.did) later
              ∙ ap (λ l. inside runner at y d l (rest ++ later)) (append_assoc before s.did more),
        );
    in_time = lt;
  }

  -- Nothing is done on the way.
  stays_on : (given left : List Reply) (at : Place) (x y : Expansion Scalar) (b d : Body)
      → StandsInside codes thread budget given left at x b → d.ticks < budget
      → ((before : List Action) (later : List Reply) → inside runner at x b before later ≡ inside runner at y d before later)
      → StandsInside codes thread budget given left at y d
  stays_on given left at x y b d s lt e = record {
    did = s.did;
    leads = λ before later. let h = s.leads before later in (h.0, h.1 ∙ e (before ++ s.did) (left ++ later));
    in_time = lt;
  }

  more_heard : (given left more : List Reply) (at : Place) (x : Expansion Scalar) (b : Body)
      → StandsInside codes thread budget given left at x b
      → StandsInside codes thread budget (given ++ more) (left ++ more) at x b
  more_heard given left more at x b s = record {
    did = s.did;
    leads = λ before later.
        let h = s.leads before (more ++ later) in (
          h.0,
          ap (λ l. steps runner codes.functions h.0 (conf (first_body codes) before l)) (append_assoc given more later)
              ∙ h.1 ∙ ap (inside runner at x b (before ++ s.did)) (sym (append_assoc left more later)),
        );
    in_time = s.in_time;
  }

  ended : (count : ℕ) (replies : List Reply) (told : ToldEnd) (b : Body) (did : List Action) (later : List Reply)
      → steps runner codes.functions count (beginning codes replies) ≡ Halt told (state_of b did later)
      → CodeMeans codes thread budget replies (record { actions = did; ticks = b.ticks; «end» = told })
  ended count replies told b did later e = record {
    count = count;
    ended = subst (λ c. HasEnded c (record { actions = did; ticks = b.ticks; «end» = told })) (sym e) refl;
  }

  told : (f : List Reply → Outcome) (replies : List Reply) (o : Outcome)
      → ((replies : List Reply) → CodeMeans codes thread budget replies (f replies))
      → CodeMeans codes thread budget replies o → f replies ≡ o
  told f replies o all m = (one_outcome codes).same thread budget replies (f replies) o (all replies) m

  wanted : (f : List Reply → Outcome) (given : List Reply) (at : Place) (x : Expansion Scalar) (b : Body) (a : Action)
      → ((replies : List Reply) → CodeMeans codes thread budget replies (f replies))
      → StandsInside codes thread budget given [] at x b → wanted_in x ≡ Some a
      → ((f given).«end» ≡ Wants a) × ((f given).ticks ≡ b.ticks)
  wanted f given at x b a all s e =
      let h = s.leads [] [] in
      let g = ap (λ l. steps runner codes.functions h.0 (conf (first_body codes) [] l)) (sym (append-nil given)) ∙ h.1
      ∙ want_step runner at b x a s.did e in
      let o : Outcome = record { actions = s.did; ticks = b.ticks; «end» = Wants a } in
      let t = told f given o all (ended h.0 given (Wants a) b s.did [] g) in
      (ap (λ (p : Outcome). p.«end») t, ap (λ (p : Outcome). p.ticks) t)

  failed : (f : List Reply → Outcome) (given left later : List Reply) (at : Place) (x : Expansion Scalar) (code : ℕ)
      (b : Body) → ((replies : List Reply) → CodeMeans codes thread budget replies (f replies))
      → StandsInside codes thread budget given left at x b → FailsBy code x b
      → ((f (given ++ later)).«end» ≡ Fault code at) × ((f (given ++ later)).ticks ≡ b.ticks)
  failed f given left later at x code b all s e =
      let h = s.leads [] later in
      let g = h.1 ∙ fail_step runner at b x code s.did (left ++ later) e in
      let o : Outcome = record { actions = s.did; ticks = b.ticks; «end» = Fault code at } in
      let t = told f (given ++ later) o all (ended h.0 (given ++ later) (Fault code at) b s.did (left ++ later) g) in
      (ap (λ (p : Outcome). p.«end») t, ap (λ (p : Outcome). p.ticks) t)

pub goes_inside : (codes : Codes) (thread budget : ℕ) → GoesInside codes thread budget
goes_inside codes thread budget = record {
  hears = λ given left more at x b s. more_heard codes thread budget given left more at x b s;
  reads = λ given left r at l k go b s e.
      goes_on codes thread budget given (r ∷ left) left at (Reads l k go) (go (value_in r)) b b (act.Read l false ∷ []) s
      s.in_time (λ before later. read_step (thread_of codes thread budget) at b l k go r before (left ++ later) e);
  asks = λ given left r at a go b s e.
      goes_on codes thread budget given (r ∷ left) left at (Asks a go) (go r) b b (a ∷ []) s
      s.in_time (λ before later. ask_step (thread_of codes thread budget) at b a go r before (left ++ later) e);
  loads = λ given left at p k go b v s e.
      stays_on codes thread budget given left at (Loads p k go) (go (scalar_of v)) b b s s.in_time
      (λ before later. load_step (thread_of codes thread budget) at b p k go v before later e);
  stores = λ given left at p k v go b st s e.
      stays_on codes thread budget given left at (Stores p k v go) go b (record b { store = st }) s s.in_time
      (λ before later. store_step (thread_of codes thread budget) at b p k v go st before later e);
  gives = λ given left at v b s. record {
    did = s.did;
    leads = record {
      by = λ before later.
          let h = s.leads before later in
          (h.0, h.1 ∙ give_step (thread_of codes thread budget) at b v (before ++ s.did) (left ++ later));
    };
    in_time = s.in_time;
  };
  wants = λ f given at x b a all s e. wanted codes thread budget f given at x b a all s e;
  fails = λ f given left later at x code b all s e. failed codes thread budget f given left later at x code b all s e;
}
