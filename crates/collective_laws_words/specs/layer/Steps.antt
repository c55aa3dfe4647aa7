-- The steps of a thread: its actions with their replies, and those that a call of the library takes.
use Rattle.std.specs.Prelude.{ℕ, ◌≡◌, ◌≤◌, false, List, [], ◌∷◌, ◌++◌}
use Rattle.block_layout.specs.declared.kind.Shape.{Shape}
use Rattle.upc_values.specs.declared.scalar.Scalar.{Scalar}
use Rattle.upc_values.specs.declared.action.Action.{Action}
use Rattle.upc_values.specs.declared.action.Action.TheVariants as act
use Rattle.upc_values.specs.declared.action.Reply.{Reply}
use Rattle.upc_values.specs.declared.action.Reply.TheVariants.{Value}
use Rattle.upc_values.specs.declared.record.Item.{Item}
use Rattle.upc_values.specs.declared.record.Item.TheVariants.{Did, Stall}
use Rattle.upc_values.specs.Expansion.{Expansion, Gives, Fails, Reads, Asks, Loads, Stores}
use Rattle.upc_values.specs.Expansions.{collective}

-- An action with its reply.
pub record Step : Type 0 where
  pub action : Action
  pub reply : Reply

-- The steps of some items: Stalls are none.
abbrev pub steps_in : List Item → List Step
steps_in [] = []
steps_in (Did a r ∷ items) = record { action = a; reply = r } ∷ steps_in items
steps_in (Stall ∷ items) = steps_in items

-- Actions with their replies, in order.
abbrev pub steps_by : List Action → List Reply → List Step
steps_by (a ∷ as_) (r ∷ rs) = record { action = a; reply = r } ∷ steps_by as_ rs
steps_by as_ rs = []

-- The steps are those of a call from one moment on, as far as they go: after its value come any others, after a run
-- error none.
abbrev pub Walks : {A : Type 0} → Expansion A → List Step → Type 0
Walks x [] = Unit {0}
Walks (Gives v) (s ∷ did) = Unit {0}
Walks (Fails c) (s ∷ did) = ⊥
Walks (Reads l k after) (s ∷ did) =
    (s.action ≡ act.Read l false) × (v : Scalar) × (s.reply ≡ Value v) × Walks (after v) did
Walks (Asks a after) (s ∷ did) = (s.action ≡ a) × Walks (after s.reply) did
Walks (Loads p k after) (s ∷ did) = (v : Scalar) × Walks (after v) (s ∷ did)
Walks (Stores p k v after) (s ∷ did) = Walks after (s ∷ did)

-- From each collective call from 5 to 12 on, the steps of the thread are those of the call (UPC 7.3).
abbrev pub GoesTogether : (threads : ℕ) → List Shape → (me : ℕ) → List Step → Type 0
GoesTogether threads shapes me did =
    (before rest : List Step) (s : Step) (c : ℕ) (args : List Scalar) → did ≡ before ++ s ∷ rest
    → s.action ≡ act.Meet c args → 5 ≤ c → c ≤ 12 → Walks (collective threads shapes me c args) (s ∷ rest)

-- The steps are all of those of a call, from one moment on to its value.
abbrev pub Performs : {A : Type 0} → Expansion A → List Step → A → Type 0
Performs (Gives v) did w = (did ≡ []) × (v ≡ w)
Performs (Fails c) did w = ⊥
Performs (Reads l k after) [] w = ⊥
Performs (Reads l k after) (s ∷ did) w =
    (s.action ≡ act.Read l false) × (v : Scalar) × (s.reply ≡ Value v) × Performs (after v) did w
Performs (Asks a after) [] w = ⊥
Performs (Asks a after) (s ∷ did) w = (s.action ≡ a) × Performs (after s.reply) did w
Performs (Loads p k after) did w = (v : Scalar) × Performs (after v) did w
Performs (Stores p k v after) did w = Performs after did w
