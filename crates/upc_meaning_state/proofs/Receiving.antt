-- The parameters of a function get the values of its arguments.
use Rattle.std.proofs.Common.{◌≡◌, ℕ, ◌+◌, ◌<◌, ◌≤◌, false, List, [], ◌∷◌, length, map, drop, get_or, refl, ap, ◌∙◌}
use Rattle.std.proofs.Common.{min, inl, inr, arith}
use Rattle.std.proofs.lemmas.Bool.{cases_lt}
use Rattle.std.proofs.lemmas.List.{drop_all}
use Rattle.upc_text.specs.declared.place.Place.{Place}
use Rattle.upc_values.specs.declared.scalar.Value.{Value as Given}
use Rattle.upc_values.specs.declared.record.ToldEnd.{ToldEnd}
use Rattle.upc_values.proofs.Membership.{left_from}
use Rattle.upc_types.specs.declared.ctype.CType as c
use Rattle.upc_types.specs.Types.{CType}
use Rattle.upc_types.specs.View.{view}
use Rattle.thread_steps.specs.States.{State, Val, Over, Doing, bind, ◌>>◌}
use Rattle.thread_steps.specs.Blocks.{local_object}
use Rattle.source_meaning.specs.Running.{Running}
use Rattle.source_meaning.specs.Expressions.{put}
use Rattle.source_meaning.specs.Threads.{received}

module _ (ρ : Running) (at : Place) where
  abbrev receiving : ℕ → CType → Given → List CType → List Given → Given → Doing (Unit {0})
  receiving i u v us vs p = put ρ false at u p v >> received ρ at (i + 1) us vs

  -- One parameter more.
  next : (xs : List c.CType) (vs : List Given) (i : ℕ) (x : c.CType) (v : Given) (σ : State) → i < length xs
      → i < length vs → x ≡ get_or xs i x → v ≡ get_or vs i v
      → received ρ at i (map view (drop i xs)) (drop i vs) σ
      ≡ bind (local_object i σ) (receiving i (view x) v (map view (drop (i + 1) xs)) (drop (i + 1) vs))
  next xs vs i x v σ l m e f =
      ap (λ ys. received ρ at i (map view ys) (drop i vs) σ) (left_from xs i x l e)
      ∙ ap (λ ws. received ρ at i (map view (x ∷ drop (i + 1) xs)) ws σ) (left_from vs i v m f)

  pub received_step : (xs : List c.CType) (vs : List Given) (i : ℕ) (x : c.CType) (v p : Given) (σ τ : State)
      → i < length xs → i < length vs → x ≡ get_or xs i x → v ≡ get_or vs i v → local_object i σ ≡ Val p σ
      → put ρ false at (view x) p v σ ≡ Val tt τ
      → received ρ at i (map view (drop i xs)) (drop i vs) σ
      ≡ received ρ at (i + 1) (map view (drop (i + 1) xs)) (drop (i + 1) vs) τ
  received_step xs vs i x v p σ τ l m e f found kept =
      let us = map view (drop (i + 1) xs) in
      let ws = drop (i + 1) vs in
      next xs vs i x v σ l m e f ∙ ap (λ r. bind r (receiving i (view x) v us ws)) found
      ∙ ap (λ r. bind r (λ _. received ρ at (i + 1) us ws)) kept

  pub received_stop : (xs : List c.CType) (vs : List Given) (i : ℕ) (x : c.CType) (v p : Given) (over : ToldEnd)
      (σ τ : State) → i < length xs → i < length vs → x ≡ get_or xs i x → v ≡ get_or vs i v
      → local_object i σ ≡ Val p σ → put ρ false at (view x) p v σ ≡ Over over τ
      → received ρ at i (map view (drop i xs)) (drop i vs) σ ≡ Over over τ
  received_stop xs vs i x v p over σ τ l m e f found kept =
      let us = map view (drop (i + 1) xs) in
      let ws = drop (i + 1) vs in
      next xs vs i x v σ l m e f ∙ ap (λ r. bind r (receiving i (view x) v us ws)) found
      ∙ ap (λ r. bind r (λ _. received ρ at (i + 1) us ws)) kept

  no_argument : (i : ℕ) (us : List CType) (σ : State) → received ρ at i us [] σ ≡ Val tt σ
  no_argument i [] σ = refl
  no_argument i (u ∷ us) σ = refl

  pub received_all : (xs : List c.CType) (vs : List Given) (i : ℕ) (σ : State) → length xs ≤ i
      → received ρ at i (map view (drop i xs)) (drop i vs) σ ≡ Val tt σ
  received_all xs vs i σ l = ap (λ ys. received ρ at i (map view ys) (drop i vs) σ) (drop_all i xs l)

  pub received_short : (xs : List c.CType) (vs : List Given) (i : ℕ) (σ : State) → length vs ≤ i
      → received ρ at i (map view (drop i xs)) (drop i vs) σ ≡ Val tt σ
  received_short xs vs i σ l =
      ap (λ ws. received ρ at i (map view (drop i xs)) ws σ) (drop_all i vs l) ∙ no_argument i (map view (drop i xs)) σ

  pub received_end : (xs : List c.CType) (vs : List Given) (i : ℕ) (σ : State) → min (length xs) (length vs) ≤ i
      → received ρ at i (map view (drop i xs)) (drop i vs) σ ≡ Val tt σ
  received_end xs vs i σ h =
      elim (cases_lt i (length xs)) [
        | inl l ↦ received_short xs vs i σ (omega arith)
        | inr l ↦ received_all xs vs i σ l
      ]
