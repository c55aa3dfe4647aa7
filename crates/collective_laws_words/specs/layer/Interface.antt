-- What the threads did in one collective call, and what the cells held before and after it.
use Rattle.std.specs.Prelude.{ℕ, ◌≡◌, ◌<◌, ◌⊎◌, unsigned_abs, true, false, List, [], ◌∷◌, Some, None}
use Rattle.std.specs.List.{list_any}
use Rattle.block_layout.specs.declared.place.SharedPtr.{SharedPtr}
use Rattle.block_layout.specs.declared.place.Loc.{Loc}
use Rattle.block_layout.specs.declared.kind.Shape.{Shape}
use Rattle.block_layout.specs.Places.{in_range}
use Rattle.block_layout.specs.Pointers.{location}
use Rattle.upc_values.specs.declared.scalar.Scalar.{Scalar}
use Rattle.upc_values.specs.declared.action.Action.TheVariants as act
use Rattle.upc_values.specs.declared.action.Reply.TheVariants.{Value}
use Rattle.upc_values.specs.Lists.{Each, Has}
use Rattle.upc_values.specs.Shapes.{kind_at}
use Rattle.upc_values.specs.Views.{shape_at}
use Rattle.upc_values.specs.Calls.{Call, Copies, Permutes, Reduces, Reduces_prefixes}
use Rattle.upc_values.specs.Expansions.{tests, work}
use Rattle.upc_values.specs.Collective.{Holding, HoldsCollective}
use Rattle.upc_values.specs.Together.{IsInto, IsFrom}
use Rattle.collective_laws_words.specs.layer.Steps.{Step, Performs}

-- Some step is a relaxed write of this value to the location.
abbrev pub Wrote : Loc → Scalar → List Step → Type 0
Wrote l v [] = ⊥
Wrote l v (s ∷ did) = (s.action ≡ act.Write false l v) ⊎ Wrote l v did

-- Some step is a relaxed read of the location that gave this value.
abbrev pub ReadSo : Loc → Scalar → List Step → Type 0
ReadSo l v [] = ⊥
ReadSo l v (s ∷ did) = ((s.action ≡ act.Read l false) × (s.reply ≡ Value v)) ⊎ ReadSo l v did

-- The pointers of a collective call from 5 to 12.
abbrev pub pointers_of : Call → List SharedPtr
pointers_of (Copies w dst src n f) = dst ∷ src ∷ []
pointers_of (Permutes dst src perm n f) = dst ∷ src ∷ perm ∷ []
pointers_of (Reduces dst src op n blk k f) = dst ∷ src ∷ []
pointers_of (Reduces_prefixes dst src op n blk k f) = dst ∷ src ∷ []
pointers_of call = []

-- The pointer names a thread of the run, and has an offset in range.
pub record IsPlaced (threads : ℕ) (p : SharedPtr) : Type 0 where
  pub thread : p.thread < threads
  pub offset : in_range p.offset ≡ true

-- No test of the call's arguments holds on this thread.
abbrev pub PassesTests : (threads : ℕ) → List Shape → (me : ℕ) → Call → Type 0
PassesTests threads shapes me call = list_any (λ x. x.0) (tests threads shapes me call) ≡ false

-- All threads have done a collective call's work, thread t by the steps `dids t`: what was read is what the cells held
-- before, where some thread wrote a location it holds after what some thread wrote there, and where no cell begins
-- nothing is held.
pub record AreDone (threads : ℕ) (shapes : List Shape) (call : Call) (before after : Holding) : Type 0 where
  pub some : 0 < threads
  pub formed : Each (IsPlaced threads) (pointers_of call)
  pub passed : (t : ℕ) → t < threads → PassesTests threads shapes t call
  pub dids : ℕ → List Step
  pub performs : (t : ℕ) → t < threads → Performs (work threads shapes t call) (dids t) tt
  pub reads : (t : ℕ) (l : Loc) (v : Scalar) → t < threads → ReadSo l v (dids t) → before l ≡ Some v
  pub writes :
      (t : ℕ) (l : Loc) (v : Scalar) → t < threads → Wrote l v (dids t)
      → (u : ℕ) × (w : Scalar) × (u < threads) × Wrote l w (dids u) × (after l ≡ Some w)
  pub empty :
      (p q : SharedPtr) → Has (pointers_of call) p → q.object ≡ p.object
      → kind_at (shape_at shapes q) (unsigned_abs q.offset) ≡ None
      → (before (location q) ≡ None) × (after (location q) ≡ None)

-- After a collective call whose work all threads have done the destination holds the call's value.
abbrev pub ValuesHold : Type 0
ValuesHold =
    (threads : ℕ) (shapes : List Shape) (call : Call) (before after : Holding)
    → AreDone threads shapes call before after → HoldsCollective threads call before after

-- The step is a relaxed write to the destination, or a relaxed read of the source or of the permutation.
abbrev pub IsOfCall : (threads : ℕ) → Call → Step → Type 0
IsOfCall threads call s =
    ((l : Loc) × (v : Scalar) × (s.action ≡ act.Write false l v) × IsInto threads call l)
    ⊎ ((l : Loc) × (s.action ≡ act.Read l false) × IsFrom threads call l)

-- Each step of a thread's work in a collective call is of that call.
abbrev pub WorkStays : Type 0
WorkStays =
    (threads : ℕ) (shapes : List Shape) (call : Call) (me : ℕ) (did : List Step) → 0 < threads → me < threads
    → Each (IsPlaced threads) (pointers_of call) → PassesTests threads shapes me call
    → Performs (work threads shapes me call) did tt → Each (IsOfCall threads call) did
