-- The calls of the library go through collective calls as their definition says.
use Rattle.std.proofs.Common.{◌≡◌, ℕ, List, [], ◌∷◌, ◌++◌, Option, Some, None, Bool, true, false, refl, sym, ◌∙◌}
use Rattle.std.proofs.Common.{cond, subst, ◌⊎◌, inl, inr}
use Rattle.std.specs.Prelude.{Result, Ok, Err}
use Rattle.upc_text.specs.declared.place.Place.{Place}
use Rattle.block_layout.specs.declared.kind.Kind.{Kind}
use Rattle.block_layout.specs.declared.kind.Shape.{Shape}
use Rattle.block_layout.specs.declared.place.Loc.{Loc}
use Rattle.block_layout.specs.declared.place.LocalPtr.{LocalPtr}
use Rattle.upc_values.specs.declared.scalar.Scalar.{Scalar}
use Rattle.upc_values.specs.layer.Parts.{unless_refused}
use Rattle.upc_values.specs.declared.scalar.Value.{Value}
use Rattle.upc_values.specs.declared.scalar.Value.TheVariants as value
use Rattle.upc_values.specs.declared.action.Action.{Action}
use Rattle.upc_values.specs.declared.action.Action.TheVariants as act
use Rattle.upc_values.specs.declared.action.Reply.{Reply}
use Rattle.upc_values.specs.declared.action.Reply.TheVariants as reply
use Rattle.upc_values.specs.declared.library.LibraryCall.{LibraryCall}
use Rattle.upc_values.specs.Calls.{call_of}
use Rattle.upc_values.specs.Scalars.{zero}
use Rattle.upc_values.specs.Formed.{fits, is_read}
use Rattle.upc_values.specs.Expansion.{Expansion, Gives, Fails, Reads, Asks, Loads, Stores, value_in, refused_by}
use Rattle.upc_values.specs.Expansion as e
use Rattle.upc_values.specs.Expansions as c
use Rattle.upc_values.specs.LibraryCalls as l
use Rattle.private_store.specs.Live.{Live}
use Rattle.private_store.specs.Cells.{loaded, stored}
use Rattle.thread_steps.specs.States.{Thread, State, Res, Val, Over, Unfinished, bind, give, valued}
use Rattle.thread_steps.specs.layer.Parts as parts
use Rattle.thread_steps.specs.Values.{kept, scalar_of}
use Rattle.thread_steps.specs.Actions as a
use Rattle.thread_steps.specs.Accesses as x
use Rattle.thread_steps.proofs.Depths.{depth, SameDepth, stored_depth}
use Rattle.collective_laws_words.specs.layer.Steps.{Step, Walks, Performs}
use Rattle.collective_laws_source.proofs.Quiet.{BeginsNone, IsQuiet, Quiet, then_quiet, unless_quiet, gives_quiet}
use Rattle.collective_laws_source.proofs.Quiet.{met_quiet, of_library}
use Rattle.collective_laws_source.proofs.Steps.{no_walk, loads_walk, stores_walk, performed_walk, front_walk}
use Rattle.collective_laws_source.proofs.Steps.{Begins, Together, IsClosed, none_closed, quiet_together, quiet_closed}
use Rattle.collective_laws_source.proofs.Steps.{begins_so, Did, none_did, first_did}

-- A test refuses the call, or none does.
refused_either : {A : Type 0} (tests : List (Bool × ℕ)) (go : Expansion A)
    → ((code : ℕ) × (refused_by tests go ≡ Fails code)) ⊎ (refused_by tests go ≡ go)
refused_either [] go = inr refl
refused_either (t ∷ ts) go = by_test t.0 (refused_either ts go)
  where
    by_test : (b : Bool) → ((code : ℕ) × (refused_by ts go ≡ Fails code)) ⊎ (refused_by ts go ≡ go)
        → ((code : ℕ) × (cond b (Fails t.1) (refused_by ts go) ≡ Fails code))
        ⊎ (cond b (Fails t.1) (refused_by ts go) ≡ go)
    by_test true h = inl (t.1, refl)
    by_test false h = h

module _ (τ : Thread) where
  -- A value came by steps that leave no collective call open.
  pub record Comes (d : ℕ) (σ υ : State) : Type 0 where
    pub deep : depth υ.store ≡ d
    pub did : List Step
    pub is : Did σ υ did
    pub closed : IsClosed τ.threads τ.shapes τ.number did

  -- The thread ended after steps that go together.
  pub record Stops (σ υ : State) : Type 0 where
    pub did : List Step
    pub is : Did σ υ did
    pub together : Together τ.threads τ.shapes τ.number did

  -- What was done from a state on went together; with a value it left no collective call open.
  abbrev pub Leads : {A : Type 0} → ℕ → State → Res A → Type 0
  Leads d σ (Val v υ) = Comes d σ υ
  Leads d σ (Over t υ) = Stops σ υ
  Leads d σ Unfinished = Unit {0}

  -- ---- calls that begin no other

  -- The value of a call came by its steps.
  pub record Performed (A : Type 0) (d : ℕ) (σ υ : State) (e : Expansion A) (v : A) : Type 0 where
    pub deep : depth υ.store ≡ d
    pub did : List Step
    pub is : Did σ υ did
    pub closed : IsClosed τ.threads τ.shapes τ.number did
    pub performs : Performs e did v

  -- The thread ended within a call, after steps of it.
  pub record Walked (A : Type 0) (σ υ : State) (e : Expansion A) : Type 0 where
    pub did : List Step
    pub is : Did σ υ did
    pub together : Together τ.threads τ.shapes τ.number did
    pub walks : Walks e did

  -- What was done from a state on were steps of a call; with a value all of its steps.
  abbrev pub Follows : {A : Type 0} → ℕ → State → Expansion A → Res A → Type 0
  Follows {A} d σ e (Val v υ) = Performed A d σ υ e v
  Follows {A} d σ e (Over t υ) = Walked A σ υ e
  Follows {A} d σ e Unfinished = Unit {0}

  stands : {A : Type 0} (σ : State) (e : Expansion A) → Walked A σ σ e
  stands σ e = record { did = []; is = none_did σ; together = tt; walks = no_walk e }

  follows_leads : {A : Type 0} (d : ℕ) (σ : State) (e : Expansion A) (r : Res A) → Follows d σ e r → Leads d σ r
  follows_leads d σ e (Val v υ) h = record { deep = h.deep; did = h.did; is = h.is; closed = h.closed }
  follows_leads d σ e (Over t υ) h = record { did = h.did; is = h.is; together = h.together }
  follows_leads d σ e Unfinished h = tt

  module _ (A : Type 0) (d : ℕ) (at : Place) (k : Loc) (kind : Kind) (after : Scalar → Expansion A)
      (go : (v : Scalar) (υ : State) → depth υ.store ≡ d → Follows d υ (after v) (x.expanded τ at (after v) υ)) where
    read_first : (v : Scalar) (rest : List Reply) (σ : State) → σ.replies ≡ reply.Value v ∷ rest → (r : Res A)
        → Follows d (record σ { actions = σ.actions ++ act.Read k false ∷ []; replies = rest }) (after v) r
        → Follows d σ (Reads k kind after) r
    read_first v rest σ e (Val w ω) h =
        let s : Step = record { action = act.Read k false; reply = reply.Value v } in
        record {
          deep = h.deep;
          did = s ∷ h.did;
          is = first_did σ ω (act.Read k false) (reply.Value v) rest h.did e h.is;
          closed = quiet_closed τ.threads τ.shapes τ.number s h.did tt h.closed;
          performs = (refl, v, refl, h.performs);
        }
    read_first v rest σ e (Over t ω) h =
        let s : Step = record { action = act.Read k false; reply = reply.Value v } in
        record {
          did = s ∷ h.did;
          is = first_did σ ω (act.Read k false) (reply.Value v) rest h.did e h.is;
          together = quiet_together τ.threads τ.shapes τ.number s h.did tt h.together;
          walks = (refl, v, refl, h.walks);
        }
    read_first v rest σ e Unfinished h = tt

    -- What comes of a reply to the read.
    abbrev read_on : Res Reply → Res A
    read_on b = bind (bind b (λ r. give (value_in r))) (λ v. x.expanded τ at (after v))

    read_fit : (t : Bool) (v : Scalar) (rest : List Reply) (σ : State) → depth σ.store ≡ d
        → σ.replies ≡ reply.Value v ∷ rest
        → Follows d σ (Reads k kind after) (read_on (a.answered t (act.Read k false) (reply.Value v) rest σ))
    read_fit true v rest σ same e =
        let υ : State = record σ { actions = σ.actions ++ act.Read k false ∷ []; replies = rest } in
        read_first v rest σ e (x.expanded τ at (after v) υ) (go v υ same)
    read_fit false v rest σ same e = stands σ (Reads k kind after)

    read_reply : (r : Reply) (rest : List Reply) (σ : State) → depth σ.store ≡ d → σ.replies ≡ r ∷ rest
        → Follows d σ (Reads k kind after)
        (read_on (a.answered (fits τ.threads τ.shapes (Some kind) (act.Read k false) r) (act.Read k false) r rest σ))
    read_reply (reply.Value v) rest σ same e = read_fit (is_read τ.threads τ.shapes (Some kind) v) v rest σ same e
    read_reply reply.Done rest σ same e = stands σ (Reads k kind after)
    read_reply (reply.Flag v) rest σ same e = stands σ (Reads k kind after)
    read_reply (reply.Refused code) rest σ same e = stands σ (Reads k kind after)

    read_replies : (rs : List Reply) (σ : State) → depth σ.store ≡ d → σ.replies ≡ rs
        → Follows d σ (Reads k kind after) (read_on (parts.answered_from τ (Some kind) (act.Read k false) rs σ))
    read_replies [] σ same e = stands σ (Reads k kind after)
    read_replies (r ∷ rest) σ same e = read_reply r rest σ same e

    reads_follow : (σ : State) → depth σ.store ≡ d
        → Follows d σ (Reads k kind after) (x.expanded τ at (Reads k kind after) σ)
    unfolding a.ask
    reads_follow σ same = read_replies σ.replies σ same refl

  module _ (A : Type 0) (d : ℕ) (at : Place) (y : Action) (quiet : BeginsNone y) (after : Reply → Expansion A)
      (go : (r : Reply) (υ : State) → depth υ.store ≡ d → Follows d υ (after r) (x.expanded τ at (after r) υ)) where
    ask_first : (r : Reply) (rest : List Reply) (σ : State) → σ.replies ≡ r ∷ rest → (o : Res A)
        → Follows d (record σ { actions = σ.actions ++ y ∷ []; replies = rest }) (after r) o
        → Follows d σ (Asks y after) o
    ask_first r rest σ e (Val w ω) h =
        let s : Step = record { action = y; reply = r } in
        record {
          deep = h.deep;
          did = s ∷ h.did;
          is = first_did σ ω y r rest h.did e h.is;
          closed = quiet_closed τ.threads τ.shapes τ.number s h.did quiet h.closed;
          performs = (refl, h.performs);
        }
    ask_first r rest σ e (Over t ω) h =
        let s : Step = record { action = y; reply = r } in
        record {
          did = s ∷ h.did;
          is = first_did σ ω y r rest h.did e h.is;
          together = quiet_together τ.threads τ.shapes τ.number s h.did quiet h.together;
          walks = (refl, h.walks);
        }
    ask_first r rest σ e Unfinished h = tt

    ask_fit : (t : Bool) (r : Reply) (rest : List Reply) (σ : State) → depth σ.store ≡ d → σ.replies ≡ r ∷ rest
        → Follows d σ (Asks y after) (bind (a.answered t y r rest σ) (λ v. x.expanded τ at (after v)))
    ask_fit true r rest σ same e =
        let υ : State = record σ { actions = σ.actions ++ y ∷ []; replies = rest } in
        ask_first r rest σ e (x.expanded τ at (after r) υ) (go r υ same)
    ask_fit false r rest σ same e = stands σ (Asks y after)

    ask_replies : (rs : List Reply) (σ : State) → depth σ.store ≡ d → σ.replies ≡ rs
        → Follows d σ (Asks y after) (bind (parts.answered_from τ None y rs σ) (λ v. x.expanded τ at (after v)))
    ask_replies [] σ same e = stands σ (Asks y after)
    ask_replies (r ∷ rest) σ same e = ask_fit (fits τ.threads τ.shapes None y r) r rest σ same e

    asks_follow : (σ : State) → depth σ.store ≡ d → Follows d σ (Asks y after) (x.expanded τ at (Asks y after) σ)
    unfolding a.ask
    asks_follow σ same = ask_replies σ.replies σ same refl

  module _ (A : Type 0) (d : ℕ) (at : Place) (q : LocalPtr) (kind : Kind) (after : Scalar → Expansion A)
      (go : (v : Scalar) (υ : State) → depth υ.store ≡ d → Follows d υ (after v) (x.expanded τ at (after v) υ)) where
    load_first : (v : Scalar) (σ : State) (o : Res A) → Follows d σ (after v) o → Follows d σ (Loads q kind after) o
    load_first v σ (Val w ω) h = record {
      deep = h.deep;
      did = h.did;
      is = h.is;
      closed = h.closed;
      performs = (v, h.performs);
    }
    load_first v σ (Over t ω) h = record {
      did = h.did;
      is = h.is;
      together = h.together;
      walks = loads_walk q kind after v h.did h.walks;
    }
    load_first v σ Unfinished h = tt

    load_result : (r : Result Value ℕ) (σ : State) → depth σ.store ≡ d
        → Follows d σ (Loads q kind after) (bind (valued at r σ) (λ v. x.expanded τ at (after (scalar_of v))))
    load_result (Ok v) σ same =
        load_first (scalar_of v) σ (x.expanded τ at (after (scalar_of v)) σ) (go (scalar_of v) σ same)
    load_result (Err code) σ same = stands σ (Loads q kind after)

    loads_follow : (σ : State) → depth σ.store ≡ d
        → Follows d σ (Loads q kind after) (x.expanded τ at (Loads q kind after) σ)
    loads_follow σ same = load_result (loaded q kind σ.store) σ same

  module _ (A : Type 0) (d : ℕ) (at : Place) (q : LocalPtr) (kind : Kind) (v : Scalar) (after : Expansion A)
      (go : (υ : State) → depth υ.store ≡ d → Follows d υ after (x.expanded τ at after υ)) where
    store_first : (s : Live) (σ : State) (o : Res A) → Follows d (record σ { store = s }) after o
        → Follows d σ (Stores q kind v after) o
    store_first s σ (Val w ω) h = record {
      deep = h.deep;
      did = h.did;
      is = h.is;
      closed = h.closed;
      performs = h.performs;
    }
    store_first s σ (Over t ω) h = record {
      did = h.did;
      is = h.is;
      together = h.together;
      walks = stores_walk q kind v after h.did h.walks;
    }
    store_first s σ Unfinished h = tt

    store_result : (r : Result Live ℕ) (σ : State) → SameDepth σ.store r → depth σ.store ≡ d
        → Follows d σ (Stores q kind v after) (bind (parts.with_store at σ r) (λ u. x.expanded τ at after))
    store_result (Ok s) σ kept same =
        let υ : State = record σ { store = s } in
        store_first s σ (x.expanded τ at after υ) (go υ (kept ∙ same))
    store_result (Err code) σ kept same = stands σ (Stores q kind v after)

    stores_follow : (σ : State) → depth σ.store ≡ d
        → Follows d σ (Stores q kind v after) (x.expanded τ at (Stores q kind v after) σ)
    stores_follow σ same =
        store_result (stored q kind (kept kind (value.Scalar v)) σ.store) σ
        (stored_depth q kind (kept kind (value.Scalar v)) σ.store) same

  -- A call that begins no collective call from 5 to 12 takes its own steps.
  expanded_follows : {A : Type 0} (d : ℕ) (at : Place) (e : Expansion A) → IsQuiet e → (σ : State)
      → depth σ.store ≡ d → Follows d σ e (x.expanded τ at e σ)
  expanded_follows d at (Gives v) quiet σ same = record {
    deep = same;
    did = [];
    is = none_did σ;
    closed = none_closed τ.threads τ.shapes τ.number;
    performs = (refl, refl);
  }
  expanded_follows d at (Fails code) quiet σ same = stands σ (Fails code)
  expanded_follows {A} d at (Reads k kind after) quiet σ same =
      reads_follow A d at k kind after (λ v υ h. expanded_follows d at (after v) (quiet v) υ h) σ same
  expanded_follows {A} d at (Asks y after) quiet σ same =
      asks_follow A d at y quiet.0 after (λ r υ h. expanded_follows d at (after r) (quiet.1 r) υ h) σ same
  expanded_follows {A} d at (Loads q kind after) quiet σ same =
      loads_follow A d at q kind after (λ v υ h. expanded_follows d at (after v) (quiet v) υ h) σ same
  expanded_follows {A} d at (Stores q kind v after) quiet σ same =
      stores_follow A d at q kind v after (λ υ h. expanded_follows d at after quiet υ h) σ same

  -- ---- calls of the library

  -- What a call does goes together, and leaves no collective call open.
  pub record Runs (e : Expansion Scalar) : Type 0 where
    pub by : (d : ℕ) (at : Place) (σ : State) → depth σ.store ≡ d → Leads d σ (x.expanded τ at e σ)

  quiet_runs : (e : Expansion Scalar) → Quiet Scalar e → Runs e
  quiet_runs e h = record {
    by = λ d at σ same. follows_leads d σ e (x.expanded τ at e σ)
        (expanded_follows d at e h.by σ same);
  }

  module _ (number : ℕ) (args : List Scalar) where
    -- What the thread does in a collective call after its Meet.
    abbrev met : Reply → Expansion (Unit {0})
    met r =
        let call = call_of number args in
        let f = c.flags_of τ.threads τ.shapes τ.number call in
        e.bind (unless_refused r)
        (λ u. e.bind (c.entry f) (λ v. e.bind (c.work τ.threads τ.shapes τ.number call) (λ w. c.exit f)))

    -- A collective call whose tests all pass.
    abbrev made : Expansion (Unit {0})
    made = Asks (act.Meet number args) met

    -- What a call of the library does after its Meet.
    abbrev after : Reply → Expansion Scalar
    after r = e.bind (met r) (λ u. Gives zero)

    after_quiet : (r : Reply) → Quiet Scalar (after r)
    after_quiet r =
        let call = call_of number args in
        let f = c.flags_of τ.threads τ.shapes τ.number call in
        then_quiet (met r) (λ u. Gives zero)
        (then_quiet (unless_refused r)
        (λ u. e.bind (c.entry f) (λ v. e.bind (c.work τ.threads τ.shapes τ.number call) (λ w. c.exit f)))
        (unless_quiet r) (λ u. met_quiet τ.threads τ.shapes τ.number call)) (λ u. gives_quiet zero)

    module _ (is : c.collective τ.threads τ.shapes τ.number number args ≡ made) where
      meet_begins : (r : Reply) (did : List Step) → Walks (after r) did
          → Begins τ.threads τ.shapes τ.number (record { action = act.Meet number args; reply = r }) did
      meet_begins r did h =
          let s : Step = record { action = act.Meet number args; reply = r } in
          begins_so τ.threads τ.shapes τ.number s did number args refl
          (subst (λ z. Walks z (s ∷ did)) (sym is) (refl, front_walk (met r) zero did h))

      meet_first : (d : ℕ) (r : Reply) (rest : List Reply) (σ : State) → σ.replies ≡ r ∷ rest → (o : Res Scalar)
          → Follows d (record σ { actions = σ.actions ++ act.Meet number args ∷ []; replies = rest }) (after r) o
          → Leads d σ o
      meet_first d r rest σ e (Val w ω) h =
          let s : Step = record { action = act.Meet number args; reply = r } in
          record {
            deep = h.deep;
            did = s ∷ h.did;
            is = first_did σ ω (act.Meet number args) r rest h.did e h.is;
            closed = record {
              before = λ more t. (
                meet_begins r (h.did ++ more) (performed_walk (after r) h.did w more h.performs),
                h.closed.before more t,
              );
            };
          }
      meet_first d r rest σ e (Over t ω) h =
          let s : Step = record { action = act.Meet number args; reply = r } in
          record {
            did = s ∷ h.did;
            is = first_did σ ω (act.Meet number args) r rest h.did e h.is;
            together = (meet_begins r h.did h.walks, h.together);
          }
      meet_first d r rest σ e Unfinished h = tt

      meet_stops : (σ : State) → Stops σ σ
      meet_stops σ = record { did = []; is = none_did σ; together = tt }

      meet_fit : (d : ℕ) (at : Place) (t : Bool) (r : Reply) (rest : List Reply) (σ : State) → depth σ.store ≡ d
          → σ.replies ≡ r ∷ rest
          → Leads d σ (bind (a.answered t (act.Meet number args) r rest σ) (λ v. x.expanded τ at (after v)))
      meet_fit d at true r rest σ same e =
          let υ : State = record σ { actions = σ.actions ++ act.Meet number args ∷ []; replies = rest } in
          meet_first d r rest σ e (x.expanded τ at (after r) υ)
          (expanded_follows d at (after r) (after_quiet r).by υ same)
      meet_fit d at false r rest σ same e = meet_stops σ

      meet_replies : (d : ℕ) (at : Place) (rs : List Reply) (σ : State) → depth σ.store ≡ d → σ.replies ≡ rs
          → Leads d σ (bind (parts.answered_from τ None (act.Meet number args) rs σ) (λ v. x.expanded τ at (after v)))
      meet_replies d at [] σ same e = meet_stops σ
      meet_replies d at (r ∷ rest) σ same e =
          meet_fit d at (fits τ.threads τ.shapes None (act.Meet number args) r) r rest σ same e

      made_runs : Runs (l.gives_zero made)
      unfolding a.ask
      made_runs = record { by = λ d at σ same. meet_replies d at σ.replies σ same refl }

    collective_runs : Runs (l.gives_zero (c.collective τ.threads τ.shapes τ.number number args))
    collective_runs = by_tests (refused_either (c.tests τ.threads τ.shapes τ.number (call_of number args)) made)
      where
        by_tests : ((code : ℕ) × (c.collective τ.threads τ.shapes τ.number number args ≡ Fails code))
            ⊎ (c.collective τ.threads τ.shapes τ.number number args ≡ made)
            → Runs (l.gives_zero (c.collective τ.threads τ.shapes τ.number number args))
        by_tests (inl h) =
            subst (λ z. Runs (l.gives_zero z)) (sym h.1) (quiet_runs (l.gives_zero (Fails h.0)) (record { by = tt }))
        by_tests (inr h) = subst (λ z. Runs (l.gives_zero z)) (sym h) (made_runs h)

  pub library_runs : (private : ℕ → Option Shape) (call : LibraryCall) (shape : ℕ) (args : List Value)
      → Runs (l.library_call τ.threads τ.shapes τ.number private call shape args)
  library_runs private call shape args =
      of_library τ.threads τ.shapes τ.number private Runs quiet_runs
      (λ number vs. collective_runs number (l.scalars vs)) call shape args
