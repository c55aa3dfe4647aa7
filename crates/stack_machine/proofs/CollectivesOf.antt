-- Collective calls ask for actions alone.
use Rattle.std.proofs.Common.{◌≡◌, refl, ℕ, ℤ, ◌*◌, Bool, true, false, cond, not, ◌&&◌, ◌||◌, ◌==◌, List, [], ◌∷◌, ◌++◌, Option, Some, None}
use Rattle.std.specs.List.{list_any}
use Rattle.std.specs.Prelude.{Result, Ok, Err}
use Rattle.block_layout.specs.declared.kind.Kind.{Kind}
use Rattle.block_layout.specs.declared.kind.Kind.TheVariants as kind
use Rattle.block_layout.specs.declared.kind.Shape.{Shape}
use Rattle.block_layout.specs.Shapes.{kind_size}
use Rattle.block_layout.specs.declared.run_error.TheConstants.{POINTER_RANGE, OUT_OF_OBJECT, CELL_TYPE, LIBRARY_ARGS}
use Rattle.block_layout.specs.declared.place.LocalPtr.{LocalPtr}
use Rattle.block_layout.specs.declared.place.SharedPtr.{SharedPtr}
use Rattle.upc_values.specs.declared.scalar.Scalar.{Scalar}
use Rattle.upc_values.specs.layer.Parts.{unless_refused}
use Rattle.upc_values.specs.layer.Parts as parts
use Rattle.upc_values.specs.declared.scalar.Mark.TheVariants.{Absent}
use Rattle.upc_values.specs.declared.action.Action.{Action}
use Rattle.upc_values.specs.declared.action.Action.TheVariants as act
use Rattle.upc_values.specs.declared.action.Reply.{Reply}
use Rattle.upc_values.specs.declared.action.Reply.TheVariants as reply
use Rattle.upc_values.specs.Calls as calls
use Rattle.upc_values.specs.Reductions.{Reduction, reduction, step, element_kind}
use Rattle.upc_values.specs.Expansion.{Expansion, Gives, Fails, Reads, Asks, Loads, Stores, bind, each_in_turn, refused_by}
use Rattle.upc_values.specs.Expansion.{nothing, does, barrier, gathered}
use Rattle.upc_values.specs.Expansions as said
use Rattle.upc_values.specs.Expansions.{Part}
use Rattle.upc_values.specs.History.{each_thread}
use Rattle.upc_values.specs.Views.{location_behind, byte_at, leaves_range, is_cell}
use Rattle.upc_library.specs.layer.Wishes.{IsWish, RefusesSo, kind_read}
use Rattle.upc_values.specs.declared.refused.Refused.{Refused}
use Rattle.upc_values.specs.declared.refused.Refused.TheVariants as refused
use Rattle.collectives.specs.layer.Wishes as together
use Rattle.collectives.specs.layer.Arguments.{copies_or_reduces}
use Rattle.thread_steps.specs.Library.{is_call}
use Rattle.collectives.specs.declared.wish.CollWish.TheVariants as wish
use Rattle.upc_library.specs.declared.copying.CopyWish.TheVariants.{Act, LoadPrivate, StorePrivate, Finished}
use Rattle.collectives.specs.layer.Left.{CopiesLeft, NumbersLeft, TotalLeft, PrefixesLeft, cell_copied, parts_copied}
use Rattle.collectives.specs.layer.Left.{copies_rest, copies_put, numbers_rest, permuted, total_rest, prefixes_rest}
use Rattle.collectives.specs.layer.Left.{prefixes_put, joined}
use Rattle.collectives.specs.layer.Walks.{work_rest, exit_by, from_work, from_entry, stage_rest, rest}
use Rattle.collectives.specs.declared.work.Work.{Work}
use Rattle.collectives.specs.declared.work.Work.TheVariants as work
use Rattle.collectives.specs.declared.stage.Stage.{Stage}
use Rattle.collectives.specs.declared.stage.Stage.TheVariants as stage
use Rattle.collectives.specs.declared.collective.Collective.{Collective}
use Rattle.stack_machine.specs.code.Calls.{ActsOnly, WritesHeld}

-- ---- parts of calls

acts_bind : {A B : Type 0} (x : Expansion A) (go : A → Expansion B) → ActsOnly x → ((a : A) → ActsOnly (go a))
    → ActsOnly (bind x go)
acts_bind (Gives v) go h k = k v
acts_bind (Fails code) go h k = tt
acts_bind (Reads l kind after) go h k = λ v. acts_bind (after v) go (h v) k
acts_bind (Asks a after) go h k = λ r. acts_bind (after r) go (h r) k
acts_bind (Loads p kind after) go h k = absurd h
acts_bind (Stores p kind v after) go h k = absurd h

acts_each : {X : Type 0} (f : X → Expansion (Unit {0})) (xs : List X) → ((x : X) → ActsOnly (f x))
    → ActsOnly (each_in_turn f xs)
acts_each f [] h = tt
acts_each f (x ∷ xs) h = acts_bind (f x) (λ u. each_in_turn f xs) (h x) (λ u. acts_each f xs h)

acts_gathered : {X Y : Type 0} (f : X → Expansion Y) (xs : List X) → ((x : X) → ActsOnly (f x))
    → ActsOnly (gathered f xs)
acts_gathered f [] h = tt
acts_gathered f (x ∷ xs) h =
    acts_bind (f x) (λ y. bind (gathered f xs) (λ ys. Gives (y ∷ ys))) (h x)
    (λ y. acts_bind (gathered f xs) (λ ys. Gives (y ∷ ys)) (acts_gathered f xs h) (λ ys. tt))

acts_cond : {A : Type 0} (b : Bool) (x y : Expansion A) → ActsOnly x → ActsOnly y → ActsOnly (cond b x y)
acts_cond true x y h k = h
acts_cond false x y h k = k

acts_refused : {A : Type 0} (tests : List (Bool × ℕ)) (go : Expansion A) → ActsOnly go
    → ActsOnly (refused_by tests go)
acts_refused [] go h = h
acts_refused (t ∷ tests) go h = acts_cond t.0 (Fails t.1) (refused_by tests go) tt (acts_refused tests go h)

unless_acts : (r : Reply) → ActsOnly (unless_refused r)
unless_acts (reply.Refused code) = tt
unless_acts reply.Done = tt
unless_acts (reply.Value v) = tt
unless_acts (reply.Flag b) = tt

does_acts : (a : Action) → ActsOnly (does a)
does_acts a = λ r. unless_acts r

barrier_acts : ActsOnly barrier
barrier_acts =
    acts_bind (does (act.Notify Absent)) (λ u. does (act.Wait Absent)) (does_acts (act.Notify Absent))
    (λ u. does_acts (act.Wait Absent))

-- ---- the work of a call

module _ (threads : ℕ) (shapes : List Shape) (me : ℕ) where
  copied_acts : (n : ℕ) (x : Part) → ActsOnly (said.copied threads shapes me n x)
  copied_acts n x = acts_each (cell_copied x) (said.cells threads shapes me n x.into) (λ c v r. unless_acts r)

  move_acts : (n : ℕ) (xs : List Part) → ActsOnly (said.move threads shapes me n xs)
  move_acts n xs =
      acts_refused
      ((list_any (λ x. leaves_range n x.into || leaves_range n x.from) xs, POINTER_RANGE)
      ∷ (
        list_any (λ x. parts.outside threads shapes me n x.into || parts.outside threads shapes me n x.from) xs,
        OUT_OF_OBJECT,
      )
      ∷ (list_any (said.differ threads shapes me n) xs, CELL_TYPE)
      ∷ [])
      (each_in_turn (said.copied threads shapes me n) xs)
      (acts_each (said.copied threads shapes me n) xs (copied_acts n))

  some_acts : (n : ℕ) (x : Expansion (Unit {0})) → ActsOnly x → ActsOnly (said.some_bytes threads shapes me n x)
  some_acts n x h = acts_cond _ nothing x tt h

  outcome_acts : (r : Result ℤ ℕ) → ActsOnly (said.outcome threads shapes me r)
  outcome_acts (Ok v) = tt
  outcome_acts (Err c) = tt

  put_acts : (p : SharedPtr) (v : ℤ) → ActsOnly (said.number_put threads shapes me p v)
  put_acts p v = λ r. unless_acts r

  total_acts : (op : Reduction) (k : Kind) (a : ℤ) (dst : SharedPtr) (ps : List SharedPtr)
      → ActsOnly (said.total threads shapes me op k a dst ps)
  total_acts op k a dst [] = put_acts dst a
  total_acts op k a dst (p ∷ ps) = λ v.
      let r = step op k a (parts.number_of threads shapes me v) in
      acts_bind (said.outcome threads shapes me r) (λ b. said.total threads shapes me op k b dst ps) (outcome_acts r)
      (λ b. total_acts op k b dst ps)

  totals_acts : (op : Reduction) (k : Kind) (a : ℤ) (xs : List Part)
      → ActsOnly (said.totals threads shapes me op k a xs)
  totals_acts op k a [] = tt
  totals_acts op k a (x ∷ xs) = λ v.
      let r = step op k a (parts.number_of threads shapes me v) in
      acts_bind (said.outcome threads shapes me r)
      (λ b. bind (said.number_put threads shapes me x.into b) (λ u. said.totals threads shapes me op k b xs))
      (outcome_acts r)
      (λ b. acts_bind (said.number_put threads shapes me x.into b) (λ u. said.totals threads shapes me op k b xs)
      (put_acts x.into b) (λ u. totals_acts op k b xs))

  reduce_acts : (o : Option Reduction) (k : Kind) (dst : SharedPtr) (ps : List SharedPtr)
      → ActsOnly (said.reduce threads shapes me o k dst ps)
  reduce_acts (Some op) k dst (p ∷ ps) = λ v. total_acts op k (parts.number_of threads shapes me v) dst ps
  reduce_acts (Some op) k dst [] = tt
  reduce_acts None k dst [] = tt
  reduce_acts None k dst (p ∷ ps) = tt

  prefixes_acts : (o : Option Reduction) (k : Kind) (xs : List Part)
      → ActsOnly (said.reduce_prefixes threads shapes me o k xs)
  prefixes_acts (Some op) k (x ∷ xs) = λ v.
      acts_bind (said.number_put threads shapes me x.into (parts.number_of threads shapes me v))
      (λ u. said.totals threads shapes me op k (parts.number_of threads shapes me v) xs)
      (put_acts x.into (parts.number_of threads shapes me v))
      (λ u. totals_acts op k (parts.number_of threads shapes me v) xs)
  prefixes_acts (Some op) k [] = tt
  prefixes_acts None k [] = tt
  prefixes_acts None k (x ∷ xs) = tt

  permuted_acts : (dst src : SharedPtr) (n : ℕ) (vs : List ℤ) → ActsOnly (permuted threads shapes me dst src n vs)
  permuted_acts dst src n vs =
      let xs = said.chosen threads shapes me dst src n vs ∷ [] in
      acts_refused ((not (each_thread threads (λ t. parts.is_at threads shapes me t vs)), LIBRARY_ARGS) ∷ [])
      (said.some_bytes threads shapes me n (said.move threads shapes me n xs))
      (some_acts n (said.move threads shapes me n xs) (move_acts n xs))

  permute_acts : (dst src perm : SharedPtr) (n : ℕ) → ActsOnly (said.permute threads shapes me dst src perm n)
  permute_acts dst src perm n =
      let go : List ℤ → Expansion (Unit {0}) = permuted threads shapes me dst src n in
      let ps = parts.permutation threads shapes me perm in
      let own = byte_at dst n threads (me * n) in
      let some = not (n == 0) in
      acts_refused
      ((list_any (leaves_range 4) ps || (some && leaves_range n own), POINTER_RANGE)
      ∷ (list_any (parts.outside threads shapes me 4) ps || (some && parts.outside threads shapes me n own), OUT_OF_OBJECT)
      ∷ (list_any (λ p. not (is_cell shapes kind.Int p)) ps || (some && said.cut threads shapes me n own), CELL_TYPE)
      ∷ [])
      (bind (gathered (said.number_at threads shapes me kind.Int) ps) go)
      (acts_bind (gathered (said.number_at threads shapes me kind.Int) ps) go
      (acts_gathered (said.number_at threads shapes me kind.Int) ps (λ p v. tt)) (λ vs. permuted_acts dst src n vs))

  cells_acts : (k : Kind) (ps : List SharedPtr) (go : Expansion (Unit {0})) → ActsOnly go
      → ActsOnly (said.are_cells threads shapes me k ps go)
  cells_acts k ps go h =
      acts_refused
      ((list_any (leaves_range (kind_size k)) ps, POINTER_RANGE)
      ∷ (list_any (parts.outside threads shapes me (kind_size k)) ps, OUT_OF_OBJECT)
      ∷ (list_any (λ p. not (is_cell shapes k p)) ps, CELL_TYPE)
      ∷ [])
      go h

  work_acts : (c : calls.Call) → ActsOnly (said.work threads shapes me c)
  work_acts (calls.Copies w dst src n f) =
      some_acts n (said.move threads shapes me n (said.parts threads shapes me w dst src n))
      (move_acts n (said.parts threads shapes me w dst src n))
  work_acts (calls.Permutes dst src perm n f) = permute_acts dst src perm n
  work_acts (calls.Reduces dst src op n blk k f) =
      let from = said.operands threads shapes me src blk k n in
      let go = said.reduce threads shapes me (reduction op) (element_kind k) dst from in
      acts_cond (dst.thread == me) (said.are_cells threads shapes me (element_kind k) (dst ∷ from) go) nothing
      (cells_acts (element_kind k) (dst ∷ from) go (reduce_acts (reduction op) (element_kind k) dst from)) tt
  work_acts (calls.Reduces_prefixes dst src op n blk k f) =
      let into = said.operands threads shapes me dst blk k n in
      let from = said.operands threads shapes me src blk k n in
      let xs = said.paired threads shapes me into from in
      let go = said.reduce_prefixes threads shapes me (reduction op) (element_kind k) xs in
      acts_cond (dst.thread == me) (said.are_cells threads shapes me (element_kind k) (into ++ from) go) nothing
      (cells_acts (element_kind k) (into ++ from) go (prefixes_acts (reduction op) (element_kind k) xs)) tt
  work_acts (calls.Allocates n b s) = tt
  work_acts calls.Makes_lock = tt
  work_acts (calls.Frees p) = tt
  work_acts (calls.Frees_lock l) = tt
  work_acts calls.Other = tt

-- ---- what is left

module _ (threads : ℕ) (shapes : List Shape) (me : ℕ) where
  copies_acts : (l : CopiesLeft) → ActsOnly (copies_rest shapes l)
  copies_acts l =
      acts_bind (each_in_turn (cell_copied l.part) (l.cell ∷ l.cells)) (λ u. parts_copied shapes l.bytes l.parts)
      (acts_each (cell_copied l.part) (l.cell ∷ l.cells) (λ c v r. unless_acts r))
      (λ u. acts_each (said.copied 0 shapes 0 l.bytes) l.parts (copied_acts 0 shapes 0 l.bytes))

  copies_put_acts : (l : CopiesLeft) (v : Scalar) → ActsOnly (copies_put shapes l v)
  copies_put_acts l v =
      let put = does (act.Write false (location_behind l.part.into l.cell.0) v) in
      let cells = each_in_turn (cell_copied l.part) l.cells in
      acts_bind (bind put (λ u. cells)) (λ u. parts_copied shapes l.bytes l.parts)
      (acts_bind put (λ u. cells) (λ r. unless_acts r)
      (λ u. acts_each (cell_copied l.part) l.cells (λ c v r. unless_acts r)))
      (λ u. acts_each (said.copied 0 shapes 0 l.bytes) l.parts (copied_acts 0 shapes 0 l.bytes))

  numbers_acts : (l : NumbersLeft) → ActsOnly (numbers_rest threads shapes me l)
  numbers_acts l =
      acts_bind (gathered (said.number_at 0 [] 0 kind.Int) (l.element ∷ l.elements))
      (λ vs. permuted threads shapes me l.dst l.src l.bytes (l.came ++ vs))
      (acts_gathered (said.number_at 0 [] 0 kind.Int) (l.element ∷ l.elements) (λ p v. tt))
      (λ vs. permuted_acts threads shapes me l.dst l.src l.bytes (l.came ++ vs))

  total_left_acts : (l : TotalLeft) → ActsOnly (total_rest l)
  total_left_acts l = λ v.
      let r = joined l.op l.kind l.so_far (parts.number_of 0 [] 0 v) in
      acts_bind (said.outcome 0 [] 0 r) (λ b. said.total 0 [] 0 l.op l.kind b l.dst l.elements) (outcome_acts 0 [] 0 r)
      (λ b. total_acts 0 [] 0 l.op l.kind b l.dst l.elements)

  prefixes_put_acts : (l : PrefixesLeft) (b : ℤ) → ActsOnly (prefixes_put l b)
  prefixes_put_acts l b =
      acts_bind (said.number_put 0 [] 0 l.part.into b) (λ u. said.totals 0 [] 0 l.op l.kind b l.parts)
      (put_acts 0 [] 0 l.part.into b) (λ u. totals_acts 0 [] 0 l.op l.kind b l.parts)

  prefixes_left_acts : (l : PrefixesLeft) → ActsOnly (prefixes_rest l)
  prefixes_left_acts l = λ v.
      let r = joined l.op l.kind l.so_far (parts.number_of 0 [] 0 v) in
      acts_bind (said.outcome 0 [] 0 r) (λ b. prefixes_put l b) (outcome_acts 0 [] 0 r) (λ b. prefixes_put_acts l b)

  left_acts : (w : Work) → ActsOnly (work_rest threads shapes me w)
  left_acts (work.Copies l) = copies_acts l
  left_acts (work.CellRead l v) = copies_put_acts l v
  left_acts (work.Numbers l) = numbers_acts l
  left_acts (work.Total l) = total_left_acts l
  left_acts (work.Put loc v) = λ r. unless_acts r
  left_acts (work.Prefixes l) = prefixes_left_acts l
  left_acts (work.ElementRead l b) = prefixes_put_acts l b

  exit_acts : (bits : ℕ) → ActsOnly (exit_by bits)
  exit_acts bits = acts_cond _ nothing barrier tt barrier_acts

  from_work_acts : (c : calls.Call) → ActsOnly (from_work threads shapes me c)
  from_work_acts c =
      acts_bind (said.work threads shapes me c) (λ w. said.exit (said.flags_of threads shapes me c))
      (work_acts threads shapes me c) (λ u. acts_cond _ nothing barrier tt barrier_acts)

  from_entry_acts : (c : calls.Call) → ActsOnly (from_entry threads shapes me c)
  from_entry_acts c =
      acts_bind (said.entry (said.flags_of threads shapes me c)) (λ v. from_work threads shapes me c)
      (acts_cond _ nothing barrier tt barrier_acts) (λ v. from_work_acts c)

  stage_acts : (s : Stage) → ActsOnly (stage_rest threads shapes me s)
  stage_acts (stage.Meets n args c) =
      acts_bind (does (act.Meet n args)) (λ u. from_entry threads shapes me c) (λ r. unless_acts r)
      (λ u. from_entry_acts c)
  stage_acts (stage.Notifies c) =
      acts_bind barrier (λ v. from_work threads shapes me c) barrier_acts (λ v. from_work_acts c)
  stage_acts (stage.Waits c) =
      acts_bind (does (act.Wait Absent)) (λ v. from_work threads shapes me c) (λ r. unless_acts r)
      (λ v. from_work_acts c)
  stage_acts (stage.Works bits w) =
      acts_bind (work_rest threads shapes me w) (λ u. exit_by bits) (left_acts w) (λ u. exit_acts bits)
  stage_acts stage.Leaves = barrier_acts
  stage_acts stage.Left = λ r. unless_acts r
  stage_acts stage.Over = tt

-- Whatever the shapes of the program, a collective call asks for actions alone.
pub collective_acts : (shapes : List Shape) (c : Collective) → ActsOnly (rest shapes c)
collective_acts shapes c = stage_acts c.seat.threads shapes c.seat.number c.stage

-- ---- what asks for actions alone

module _ (threads : ℕ) (shapes : List Shape) where
  pub acts_held : {A : Type 0} (x : Expansion A) → ActsOnly x → WritesHeld threads shapes x
  acts_held (Gives v) h = tt
  acts_held (Fails code) h = tt
  acts_held (Reads l k go) h = λ v s. acts_held (go v) (h v)
  acts_held (Asks a go) h = λ r. acts_held (go r) (h r)
  acts_held (Loads p k go) h = absurd h
  acts_held (Stores p k v go) h = absurd h

pub loads_not : (x : Expansion (Unit {0})) (p : LocalPtr) (k : Kind) → IsWish x (LoadPrivate p k) → ActsOnly x → ⊥
loads_not (Loads q j go) p k e h = h
loads_not (Reads l j go) p k e h = absurd e
loads_not (Asks c go) p k e h = absurd e
loads_not (Gives w) p k e h = absurd e
loads_not (Fails c) p k e h = absurd e
loads_not (Stores q j w go) p k e h = absurd e

pub stores_not : (x : Expansion (Unit {0})) (p : LocalPtr) (k : Kind) (v : Scalar) → IsWish x (StorePrivate p k v)
    → ActsOnly x → ⊥
stores_not (Stores q j w go) p k v e h = h
stores_not (Loads q j go) p k v e h = absurd e
stores_not (Reads l j go) p k v e h = absurd e
stores_not (Asks c go) p k v e h = absurd e
stores_not (Gives w) p k v e h = absurd e
stores_not (Fails c) p k v e h = absurd e

-- ---- a wish of a collective call as one of a memory call

pub wish_acts : (x : Expansion (Unit {0})) (a : Action) → together.IsWish x (wish.Act a) → IsWish x (Act a)
wish_acts (Reads l k go) a e = e
wish_acts (Asks c go) a e = e
wish_acts (Gives w) a e = absurd e
wish_acts (Fails c) a e = absurd e
wish_acts (Loads q j go) a e = absurd e
wish_acts (Stores q j w go) a e = absurd e

pub wish_ends : (x : Expansion (Unit {0})) → together.IsWish x wish.Finished → IsWish x Finished
wish_ends (Gives w) e = tt
wish_ends (Reads l k go) e = absurd e
wish_ends (Asks c go) e = absurd e
wish_ends (Fails c) e = absurd e
wish_ends (Loads q j go) e = absurd e
wish_ends (Stores q j w go) e = absurd e

pub kind_as : (x : Expansion (Unit {0})) → together.kind_read x ≡ kind_read x
kind_as (Gives w) = refl
kind_as (Reads l k go) = refl
kind_as (Asks c go) = refl
kind_as (Fails c) = refl
kind_as (Loads q j go) = refl
kind_as (Stores q j w go) = refl

pub refuses_as : (e : Refused) (x : Expansion (Unit {0})) → together.RefusesSo e x → RefusesSo e x
refuses_as (refused.Error code) x h = h
refuses_as refused.Memory x h = tt

-- ---- the arguments

pub known_call : (c : calls.Call) → copies_or_reduces c ≡ true → is_call c ≡ true
known_call (calls.Copies w dst src n f) h = refl
known_call (calls.Permutes dst src perm n f) h = refl
known_call (calls.Reduces dst src op n b k f) h = refl
known_call (calls.Reduces_prefixes dst src op n b k f) h = refl
known_call (calls.Allocates n b s) h = refl
known_call calls.Makes_lock h = refl
known_call (calls.Frees p) h = refl
known_call (calls.Frees_lock l) h = refl
known_call calls.Other h = h
