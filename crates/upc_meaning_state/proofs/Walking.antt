-- Calls that ask for many actions, reply by reply.
use Rattle.std.proofs.Common.{◌≡◌, ℕ, Some, None, refl, ap, subst}
use Rattle.std.specs.Prelude.{Ok, Err}
use Rattle.upc_text.specs.declared.place.Place.{Place}
use Rattle.block_layout.specs.declared.place.LocalPtr.{LocalPtr}
use Rattle.block_layout.specs.declared.kind.Kind.{Kind}
use Rattle.upc_values.specs.declared.scalar.Scalar.{Scalar}
use Rattle.upc_values.specs.declared.scalar.Value.{Value}
use Rattle.upc_values.specs.declared.scalar.Value.TheVariants as value
use Rattle.upc_values.specs.declared.action.Action.{Action}
use Rattle.upc_values.specs.declared.action.Reply.{Reply}
use Rattle.upc_values.specs.declared.action.Reply.TheVariants as reply
use Rattle.upc_values.specs.declared.record.ToldEnd.{ToldEnd}
use Rattle.upc_values.specs.declared.record.ToldEnd.TheVariants.{Fault}
use Rattle.upc_values.specs.Scalars.{zero}
use Rattle.upc_values.specs.Expansion.{Expansion, Gives, Fails, Reads, Asks, Loads, Stores, after_reply, value_in}
use Rattle.upc_values.specs.LibraryCalls.{gives_zero}
use Rattle.private_store.specs.Live.{Live}
use Rattle.private_store.specs.Cells.{loaded, stored}
use Rattle.thread_steps.specs.States.{Thread, State, Res, Val, Over, bind, give}
use Rattle.thread_steps.specs.layer.Parts.{with_store}
use Rattle.thread_steps.specs.States as states
use Rattle.thread_steps.specs.Values.{kept, scalar_of}
use Rattle.thread_steps.specs.Actions.{ask}
use Rattle.thread_steps.specs.Accesses.{library_steps, expanded}
use Rattle.upc_library.specs.layer.Wishes.{IsWish, kind_read}
use Rattle.upc_library.specs.declared.copying.CopyWish.TheVariants.{Act, LoadPrivate, StorePrivate, Finished}
use Rattle.upc_meaning_state.specs.layer.Libraries.{expanded_to}

-- What comes of the rest is given as a value.
abbrev onto : Res Scalar → Res Value
onto r = bind r (λ v. give (value.Scalar v))

module _ (τ : Thread) (at : Place) (σ : State) where
  pub act_gives : (x : Expansion (Unit {0})) (a : Action) (r : Reply) (υ : State) → IsWish x (Act a)
      → ask τ (kind_read x) a σ ≡ Val r υ
      → expanded_to τ at (gives_zero x) σ ≡ expanded_to τ at (gives_zero (after_reply x r)) υ
  unfolding library_steps
  act_gives (Reads l k go) a r υ e h =
      let there = subst (λ c. ask τ (Some k) c σ ≡ Val r υ) e h in
      ap (λ m. onto (bind (bind m (λ y. give (value_in y))) (λ v. expanded τ at (gives_zero (go v))))) there
  act_gives (Asks c go) a r υ e h =
      let there = subst (λ c. ask τ None c σ ≡ Val r υ) e h in
      ap (λ m. onto (bind m (λ y. expanded τ at (gives_zero (go y))))) there
  act_gives (Gives v) a r υ e h = absurd e
  act_gives (Fails c) a r υ e h = absurd e
  act_gives (Loads p k go) a r υ e h = absurd e
  act_gives (Stores p k v go) a r υ e h = absurd e

  pub act_ends : (x : Expansion (Unit {0})) (a : Action) (over : ToldEnd) (υ : State) → IsWish x (Act a)
      → ask τ (kind_read x) a σ ≡ Over over υ → expanded_to τ at (gives_zero x) σ ≡ Over over υ
  unfolding library_steps
  act_ends (Reads l k go) a over υ e h =
      let there = subst (λ c. ask τ (Some k) c σ ≡ Over over υ) e h in
      ap (λ m. onto (bind (bind m (λ y. give (value_in y))) (λ v. expanded τ at (gives_zero (go v))))) there
  act_ends (Asks c go) a over υ e h =
      let there = subst (λ c. ask τ None c σ ≡ Over over υ) e h in
      ap (λ m. onto (bind m (λ y. expanded τ at (gives_zero (go y))))) there
  act_ends (Gives v) a over υ e h = absurd e
  act_ends (Fails c) a over υ e h = absurd e
  act_ends (Loads p k go) a over υ e h = absurd e
  act_ends (Stores p k v go) a over υ e h = absurd e

  pub load_gives : (x : Expansion (Unit {0})) (p : LocalPtr) (k : Kind) (v : Value) → IsWish x (LoadPrivate p k)
      → loaded p k σ.store ≡ Ok v
      → expanded_to τ at (gives_zero x) σ ≡ expanded_to τ at (gives_zero (after_reply x (reply.Value (scalar_of v)))) σ
  unfolding library_steps
  load_gives (Loads q j go) p k v e f =
      let h = subst (λ q. loaded q j σ.store ≡ Ok v) e.0 (subst (λ j. loaded p j σ.store ≡ Ok v) e.1 f) in
      ap (λ r. onto (bind (states.valued at r σ) (λ v. expanded τ at (gives_zero (go (scalar_of v)))))) h
  load_gives (Reads l j go) p k v e f = absurd e
  load_gives (Asks c go) p k v e f = absurd e
  load_gives (Gives w) p k v e f = absurd e
  load_gives (Fails c) p k v e f = absurd e
  load_gives (Stores q j w go) p k v e f = absurd e

  pub load_ends : (x : Expansion (Unit {0})) (p : LocalPtr) (k : Kind) (code : ℕ) → IsWish x (LoadPrivate p k)
      → loaded p k σ.store ≡ Err code → expanded_to τ at (gives_zero x) σ ≡ Over (Fault code at) σ
  unfolding library_steps
  load_ends (Loads q j go) p k code e f =
      let h = subst (λ q. loaded q j σ.store ≡ Err code) e.0 (subst (λ j. loaded p j σ.store ≡ Err code) e.1 f) in
      ap (λ r. onto (bind (states.valued at r σ) (λ v. expanded τ at (gives_zero (go (scalar_of v)))))) h
  load_ends (Reads l j go) p k code e f = absurd e
  load_ends (Asks c go) p k code e f = absurd e
  load_ends (Gives w) p k code e f = absurd e
  load_ends (Fails c) p k code e f = absurd e
  load_ends (Stores q j w go) p k code e f = absurd e

  pub save_gives : (x : Expansion (Unit {0})) (p : LocalPtr) (k : Kind) (v : Scalar) (s : Live)
      → IsWish x (StorePrivate p k v) → stored p k (kept k (value.Scalar v)) σ.store ≡ Ok s
      → expanded_to τ at (gives_zero x) σ ≡ expanded_to τ at (gives_zero (after_reply x reply.Done)) (record σ { store = s })
  unfolding library_steps
  save_gives (Stores q j w go) p k v s e f =
      let h = subst (λ q. stored q j (kept j (value.Scalar w)) σ.store ≡ Ok s) e.0
      (subst (λ j. stored p j (kept j (value.Scalar w)) σ.store ≡ Ok s) e.1
      (subst (λ w. stored p k (kept k (value.Scalar w)) σ.store ≡ Ok s) e.2 f)) in
      ap (λ r. onto (bind (with_store at σ r) (λ _. expanded τ at (gives_zero go)))) h
  save_gives (Reads l j go) p k v s e f = absurd e
  save_gives (Asks c go) p k v s e f = absurd e
  save_gives (Gives w) p k v s e f = absurd e
  save_gives (Fails c) p k v s e f = absurd e
  save_gives (Loads q j go) p k v s e f = absurd e

  pub save_ends : (x : Expansion (Unit {0})) (p : LocalPtr) (k : Kind) (v : Scalar) (code : ℕ)
      → IsWish x (StorePrivate p k v) → stored p k (kept k (value.Scalar v)) σ.store ≡ Err code
      → expanded_to τ at (gives_zero x) σ ≡ Over (Fault code at) σ
  unfolding library_steps
  save_ends (Stores q j w go) p k v code e f =
      let h = subst (λ q. stored q j (kept j (value.Scalar w)) σ.store ≡ Err code) e.0
      (subst (λ j. stored p j (kept j (value.Scalar w)) σ.store ≡ Err code) e.1
      (subst (λ w. stored p k (kept k (value.Scalar w)) σ.store ≡ Err code) e.2 f)) in
      ap (λ r. onto (bind (with_store at σ r) (λ _. expanded τ at (gives_zero go)))) h
  save_ends (Reads l j go) p k v code e f = absurd e
  save_ends (Asks c go) p k v code e f = absurd e
  save_ends (Gives w) p k v code e f = absurd e
  save_ends (Fails c) p k v code e f = absurd e
  save_ends (Loads q j go) p k v code e f = absurd e

  pub finishes : (x : Expansion (Unit {0})) → IsWish x Finished
      → expanded_to τ at (gives_zero x) σ ≡ Val (value.Scalar zero) σ
  unfolding library_steps
  finishes (Gives v) e = refl
  finishes (Reads l k go) e = absurd e
  finishes (Asks c go) e = absurd e
  finishes (Fails c) e = absurd e
  finishes (Loads q j go) e = absurd e
  finishes (Stores q j w go) e = absurd e

  pub refused_so : (x : Expansion (Unit {0})) (code : ℕ) → x ≡ Fails code
      → expanded_to τ at (gives_zero x) σ ≡ Over (Fault code at) σ
  unfolding library_steps
  refused_so x code e = ap (λ x. onto (expanded τ at (gives_zero x) σ)) e
