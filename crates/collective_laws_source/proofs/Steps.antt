-- Steps of a thread: those of a call of the library, and those that go together.
use Rattle.std.proofs.Common.{◌≡◌, ℕ, ◌<◌, ◌≤◌, List, [], ◌∷◌, ◌++◌, map, refl, sym, ◌∙◌, ap, subst, arith}
use Rattle.std.proofs.Common.{append_assoc, append-nil}
use Rattle.std.proofs.lemmas.List.{map-append}
use Rattle.block_layout.specs.declared.kind.Kind.{Kind}
use Rattle.block_layout.specs.declared.kind.Shape.{Shape}
use Rattle.block_layout.specs.declared.place.LocalPtr.{LocalPtr}
use Rattle.upc_values.specs.declared.scalar.Scalar.{Scalar}
use Rattle.upc_values.specs.declared.action.Action.{Action}
use Rattle.upc_values.specs.declared.action.Action.TheVariants as act
use Rattle.upc_values.specs.declared.action.Reply.{Reply}
use Rattle.upc_values.specs.Expansion.{Expansion, Gives, Fails, Reads, Asks, Loads, Stores, bind}
use Rattle.upc_values.specs.Expansions.{collective}
use Rattle.thread_steps.specs.States.{State}
use Rattle.collective_laws_words.specs.layer.Steps.{Step, steps_by, Walks, Performs, GoesTogether}
use Rattle.collective_laws_source.proofs.Quiet.{BeginsNone}

-- The action of a step.
abbrev pub action_of : Step → Action
action_of s = s.action

-- The reply of a step.
abbrev pub reply_of : Step → Reply
reply_of s = s.reply

-- ---- the steps of a call

pub no_walk : {A : Type 0} (x : Expansion A) → Walks x []
no_walk (Gives v) = tt
no_walk (Fails code) = tt
no_walk (Reads l k after) = tt
no_walk (Asks a after) = tt
no_walk (Loads p k after) = tt
no_walk (Stores p k v after) = tt

gives_walk : {A : Type 0} (v : A) (did : List Step) → Walks (Gives v) did
gives_walk v [] = tt
gives_walk v (s ∷ did) = tt

pub loads_walk : {A : Type 0} (p : LocalPtr) (k : Kind) (after : Scalar → Expansion A) (v : Scalar) (did : List Step)
    → Walks (after v) did → Walks (Loads p k after) did
loads_walk p k after v [] h = tt
loads_walk p k after v (s ∷ did) h = (v, h)

pub stores_walk : {A : Type 0} (p : LocalPtr) (k : Kind) (v : Scalar) (after : Expansion A) (did : List Step)
    → Walks after did → Walks (Stores p k v after) did
stores_walk p k v after [] h = tt
stores_walk p k v after (s ∷ did) h = h

-- After all steps of a call to its value come any others.
pub performed_walk : {A : Type 0} (x : Expansion A) (did : List Step) (w : A) (more : List Step) → Performs x did w
    → Walks x (did ++ more)
performed_walk (Gives v) did w more h = gives_walk v (did ++ more)
performed_walk (Fails code) did w more h = absurd h
performed_walk (Reads l k after) [] w more h = absurd h
performed_walk (Reads l k after) (s ∷ did) w more h = (h.0, h.1, h.2, performed_walk (after h.1) did w more h.3)
performed_walk (Asks a after) [] w more h = absurd h
performed_walk (Asks a after) (s ∷ did) w more h = (h.0, performed_walk (after s.reply) did w more h.1)
performed_walk (Loads p k after) did w more h =
    loads_walk p k after h.0 (did ++ more) (performed_walk (after h.0) did w more h.1)
performed_walk (Stores p k v after) did w more h =
    stores_walk p k v after (did ++ more) (performed_walk after did w more h)

-- The steps of a call that then gives a value are those of the call.
pub front_walk : {A B : Type 0} (x : Expansion A) (w : B) (did : List Step) → Walks (bind x (λ u. Gives w)) did
    → Walks x did
front_walk (Gives v) w did h = gives_walk v did
front_walk (Fails code) w [] h = tt
front_walk (Fails code) w (s ∷ did) h = h
front_walk (Reads l k after) w [] h = tt
front_walk (Reads l k after) w (s ∷ did) h = (h.0, h.1, h.2, front_walk (after h.1) w did h.3)
front_walk (Asks a after) w [] h = tt
front_walk (Asks a after) w (s ∷ did) h = (h.0, front_walk (after s.reply) w did h.1)
front_walk (Loads p k after) w [] h = tt
front_walk (Loads p k after) w (s ∷ did) h = (h.0, front_walk (after h.0) w (s ∷ did) h.1)
front_walk (Stores p k v after) w [] h = tt
front_walk (Stores p k v after) w (s ∷ did) h = front_walk after w (s ∷ did) h

-- ---- steps that go together

module _ (threads : ℕ) (shapes : List Shape) (me : ℕ) where
  -- Where the step begins a collective call from 5 to 12, it and what comes after it are steps of the call.
  abbrev pub Begins : Step → List Step → Type 0
  Begins s did =
      (c : ℕ) (args : List Scalar) → s.action ≡ act.Meet c args → 5 ≤ c → c ≤ 12
      → Walks (collective threads shapes me c args) (s ∷ did)

  -- From each step that begins a collective call from 5 to 12 on, the steps are those of the call.
  abbrev pub Together : List Step → Type 0
  Together [] = Unit {0}
  Together (s ∷ did) = Begins s did × Together did

  -- No collective call is left open: whatever goes together may come after these steps.
  pub record IsClosed (did : List Step) : Type 0 where
    pub before : (more : List Step) → Together more → Together (did ++ more)

  pub none_closed : IsClosed []
  none_closed = record { before = λ more h. h }

  pub closed_together : (did : List Step) → IsClosed did → Together did
  closed_together did h = subst Together (append-nil did) (h.before [] tt)

  pub closed_then : (did others : List Step) → IsClosed did → IsClosed others → IsClosed (did ++ others)
  closed_then did others h g = record {
    before = λ more t. subst Together (sym (append_assoc did others more))
        (h.before (others ++ more) (g.before more t));
  }

  too_low : (c : ℕ) → c < 5 → 5 ≤ c → ⊥
  too_low c lt le = omega arith

  quiet_begins : (s : Step) (did : List Step) → BeginsNone s.action → Begins s did
  quiet_begins s did q = λ c args e low high. absurd (too_low c (subst BeginsNone e q) low)

  pub quiet_together : (s : Step) (did : List Step) → BeginsNone s.action → Together did → Together (s ∷ did)
  quiet_together s did q h = (quiet_begins s did q, h)

  pub quiet_closed : (s : Step) (did : List Step) → BeginsNone s.action → IsClosed did → IsClosed (s ∷ did)
  quiet_closed s did q h = record { before = λ more t. (quiet_begins s (did ++ more) q, h.before more t) }

  -- The step begins no call but this one.
  pub begins_so : (s : Step) (did : List Step) (c : ℕ) (args : List Scalar) → s.action ≡ act.Meet c args
      → Walks (collective threads shapes me c args) (s ∷ did) → Begins s did
  begins_so s did c args e w = λ d others f low high.
      subst (λ n. Walks (collective threads shapes me n others) (s ∷ did)) (number d others f)
      (subst (λ vs. Walks (collective threads shapes me c vs) (s ∷ did)) (same d others f) w)
    where
      number : (d : ℕ) (others : List Scalar) → s.action ≡ act.Meet d others → c ≡ d
      number d others f = cc

      same : (d : ℕ) (others : List Scalar) → s.action ≡ act.Meet d others → args ≡ others
      same d others f = cc

  later_together : (before rest : List Step) → Together (before ++ rest) → Together rest
  later_together [] rest h = h
  later_together (s ∷ before) rest h = later_together before rest h.1

  pub goes_together : (did : List Step) → Together did → GoesTogether threads shapes me did
  goes_together did h = λ before rest s c args e m low high.
      (later_together before (s ∷ rest) (subst Together e h)).0 c args m low high

-- ---- the steps between two states

-- From the first state to the second these steps were taken.
abbrev pub Did : State → State → List Step → Type 0
Did σ υ did = (υ.actions ≡ σ.actions ++ map action_of did) × (σ.replies ≡ map reply_of did ++ υ.replies)

pub none_did : (σ : State) → Did σ σ []
none_did σ = (sym (append-nil σ.actions), refl)

pub first_did : (σ ω : State) (a : Action) (r : Reply) (rest : List Reply) (did : List Step) → σ.replies ≡ r ∷ rest
    → Did (record σ { actions = σ.actions ++ a ∷ []; replies = rest }) ω did
    → Did σ ω (record { action = a; reply = r } ∷ did)
first_did σ ω a r rest did e h =
    (h.0 ∙ append_assoc σ.actions (a ∷ []) (map action_of did), e ∙ ap (λ l. r ∷ l) h.1)

pub then_did : (σ υ ω : State) (did more : List Step) → Did σ υ did → Did υ ω more → Did σ ω (did ++ more)
then_did σ υ ω did more h g = (
  g.0 ∙ ap (λ l. l ++ map action_of more) h.0 ∙ append_assoc σ.actions (map action_of did) (map action_of more)
      ∙ ap (λ l. σ.actions ++ l) (sym (map-append action_of did more)),
  h.1 ∙ ap (λ l. map reply_of did ++ l) g.1
      ∙ sym (append_assoc (map reply_of did) (map reply_of more) ω.replies)
      ∙ ap (λ l. l ++ ω.replies) (sym (map-append reply_of did more)),
)

steps_by_lists : (did : List Step) (rest : List Reply)
    → steps_by (map action_of did) (map reply_of did ++ rest) ≡ did
steps_by_lists [] rest = refl
steps_by_lists (s ∷ did) rest = ap (λ l. s ∷ l) (steps_by_lists did rest)

pub steps_are : (actions : List Action) (replies : List Reply) (did : List Step) (rest : List Reply)
    → actions ≡ map action_of did → replies ≡ map reply_of did ++ rest → steps_by actions replies ≡ did
steps_are actions replies did rest e f =
    ap (λ l. steps_by l replies) e ∙ ap (λ l. steps_by (map action_of did) l) f ∙ steps_by_lists did rest
