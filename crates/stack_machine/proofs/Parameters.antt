-- Parameters that get the values of arguments.
use Rattle.std.proofs.Common.{◌≡◌, ℕ, ◌+◌, ◌<◌, ◌≤◌, inl, inr, List, [], ◌∷◌, length, get_or, drop, min, Option, Some, None, refl, sym, ap, ◌∙◌, subst, arith}
use Rattle.std.specs.Prelude.{Err}
use Rattle.std.proofs.lemmas.Bool.{cases_lt}
use Rattle.std.proofs.lemmas.List.{drop_more, drop_all}
use Rattle.block_layout.specs.declared.place.LocalPtr.{LocalPtr}
use Rattle.upc_text.specs.declared.place.Place.{Place}
use Rattle.upc_values.specs.declared.action.Action.{Action}
use Rattle.upc_values.specs.declared.scalar.Value.{Value}
use Rattle.upc_values.specs.declared.scalar.Value.TheVariants as value
use Rattle.private_store.specs.Live.{local_number}
use Rattle.private_store.specs.Cells.{IsPrivate}
use Rattle.thread_steps.specs.States.{Thread, State, Res, Val, bind}
use Rattle.thread_steps.specs.layer.Parts.{pointer_to}
use Rattle.thread_steps.specs.Accesses.{save_private}
use Rattle.thread_steps.specs.Blocks.{local_object}
use Rattle.stack_code.specs.declared.instruction.CellAccess.{CellAccess}
use Rattle.stack_code.specs.layer.Steps.{received}
use Rattle.stack_machine.specs.declared.wish.Halt.{Halt}
use Rattle.stack_machine.specs.declared.wish.Halt.TheVariants.{Memory, Asks, Stops}
use Rattle.stack_machine.specs.declared.progress.Progress.{Progress}
use Rattle.stack_machine.specs.code.Receiving.{received_one}
use Rattle.stack_machine.specs.code.Turns.{Came, IsFirm, state_seen}
use Rattle.stack_machine.proofs.Accessing.{save_is, save_private_at, bind_err}

-- for ends that want no action it does not count what was before
any_before : {A : Type 0} (before : List Action) (r : Res A) (e : Halt) (p o q : Progress) → IsFirm e
    → Came before r (Err e) p q → Came before r (Err e) o q
any_before before r Memory p o q f h = tt
any_before before r (Asks x n) p o q f h = absurd f
any_before before r (Stops x n) p o q f h = h

module _ (τ : Thread) (at : Place) where
  -- one of them, which is kept in a cell
  pub one_is : (i : ℕ) (a : CellAccess) (v : Value) (p : LocalPtr) (σ : State)
      → pointer_to (local_number i σ.store) ≡ value.Local p → IsPrivate p
      → save_private a.kind at p v σ ≡ received_one τ at i (Some a) v σ
  unfolding received_one local_object
  one_is i a v p σ e h =
      ap (λ m. m σ) (save_private_at τ a.kind a.strict at p v h ∙ save_is τ a.kind a.strict at (pointer_to (local_number i σ.store)) (value.Local p) v e)

  pub one_at : (i : ℕ) (o : Option CellAccess) (a : CellAccess) (v : Value) (p : LocalPtr) (σ : State) → o ≡ Some a
      → pointer_to (local_number i σ.store) ≡ value.Local p → IsPrivate p
      → save_private a.kind at p v σ ≡ received_one τ at i o v σ
  one_at i o a v p σ q e h = one_is i a v p σ e h ∙ ap (λ x. received_one τ at i x v σ) (sym q)

  pub none_is : (i : ℕ) (o : Option CellAccess) (v : Value) (σ : State) → o ≡ None → received_one τ at i o v σ ≡ Val tt σ
  unfolding received_one local_object
  none_is i o v σ q = ap (λ x. received_one τ at i x v σ) q

  received_step : (i : ℕ) (c : Option CellAccess) (v : Value) (cs : List (Option CellAccess)) (vs : List Value) (σ : State)
      → received τ at i (c ∷ cs) (v ∷ vs) σ ≡ bind (received_one τ at i c v σ) (λ _. received τ at (i + 1) cs vs)
  unfolding received_one local_object
  received_step i c v cs vs σ = refl

  parted : (i : ℕ) (cs : List (Option CellAccess)) (vs : List Value) (c : Option CellAccess) (v : Value) (σ : State)
      → i < length cs → i < length vs → c ≡ get_or cs i c → v ≡ get_or vs i v
      → received τ at i (drop i cs) (drop i vs) σ
      ≡ bind (received_one τ at i c v σ) (λ _. received τ at (i + 1) (drop (i + 1) cs) (drop (i + 1) vs))
  parted i cs vs c v σ k l e f =
      ap (λ l. received τ at i l (drop i vs) σ) (drop_more cs i c k ∙ ap (λ x. x ∷ drop (i + 1) cs) (sym e))
      ∙ ap (λ l. received τ at i (c ∷ drop (i + 1) cs) l σ) (drop_more vs i v l ∙ ap (λ x. x ∷ drop (i + 1) vs) (sym f))
      ∙ received_step i c v (drop (i + 1) cs) (drop (i + 1) vs) σ

  pub received_more : (i : ℕ) (cs : List (Option CellAccess)) (vs : List Value) (c : Option CellAccess) (v : Value) (σ υ : State)
      → i < length cs → i < length vs → c ≡ get_or cs i c → v ≡ get_or vs i v
      → received_one τ at i c v σ ≡ Val tt υ
      → received τ at i (drop i cs) (drop i vs) σ ≡ received τ at (i + 1) (drop (i + 1) cs) (drop (i + 1) vs) υ
  received_more i cs vs c v σ υ k l e f h =
      parted i cs vs c v σ k l e f
      ∙ ap (λ r. bind r (λ _. received τ at (i + 1) (drop (i + 1) cs) (drop (i + 1) vs))) h

  no_values : (i : ℕ) (cs : List (Option CellAccess)) (σ : State) → received τ at i cs [] σ ≡ Val tt σ
  no_values i [] σ = refl
  no_values i (c ∷ cs) σ = refl

  no_cells : (i : ℕ) (vs : List Value) (σ : State) → received τ at i [] vs σ ≡ Val tt σ
  no_cells i [] σ = refl
  no_cells i (v ∷ vs) σ = refl

  pub received_none : (i : ℕ) (cs : List (Option CellAccess)) (vs : List Value) (σ : State)
      → min (length cs) (length vs) ≤ i → received τ at i (drop i cs) (drop i vs) σ ≡ Val tt σ
  received_none i cs vs σ h = elim (cases_lt i (length cs)) [
    | inl k ↦ ap (λ l. received τ at i (drop i cs) l σ) (drop_all i vs (omega arith)) ∙ no_values i (drop i cs) σ
    | inr k ↦ ap (λ l. received τ at i l (drop i vs) σ) (drop_all i cs k) ∙ no_cells i (drop i vs) σ
  ]

  -- one of them ends the thread
  pub received_err : (i : ℕ) (cs : List (Option CellAccess)) (vs : List Value) (c : Option CellAccess) (v : Value)
      (before : List Action) (p q o : Progress) (e : Halt)
      → i < length cs → i < length vs → c ≡ get_or cs i c → v ≡ get_or vs i v → IsFirm e
      → Came before (received_one τ at i c v (state_seen before p)) (Err e) p q
      → Came before (received τ at i (drop i cs) (drop i vs) (state_seen before p)) (Err e) o q
  received_err i cs vs c v before p q o e k l f g firm h =
      subst (λ r. Came before r (Err e) o q) (sym (parted i cs vs c v (state_seen before p) k l f g))
      (any_before before _ e p o q firm
      (bind_err before (received_one τ at i c v (state_seen before p)) e p q
      (λ _. received τ at (i + 1) (drop (i + 1) cs) (drop (i + 1) vs)) h))
