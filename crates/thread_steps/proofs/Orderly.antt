-- The calls of the library notify and wait in turn, and leave no notify open; and none of them beats.
use Rattle.std.proofs.Common.{◌≡◌, ℕ, ◌==◌, ℤ, pos, Bool, true, false, not, ◌&&◌, ◌||◌, cond, List, [], ◌∷◌, ◌++◌}
use Rattle.std.proofs.Common.{Option, Some, None, refl, sym, subst}
use Rattle.std.specs.Prelude.{Result, Ok, Err, unsigned_abs, ◌%◌, ◌/◌, ◌*◌, if◌then◌else◌}
use Rattle.block_layout.specs.declared.place.SharedPtr.{SharedPtr}
use Rattle.block_layout.specs.declared.kind.Kind.{Kind}
use Rattle.block_layout.specs.declared.kind.Kind.TheVariants as kind
use Rattle.block_layout.specs.declared.kind.Shape.{Shape}
use Rattle.block_layout.specs.Pointers.{is_null, location, null}
use Rattle.upc_values.specs.declared.scalar.Scalar.{Scalar}
use Rattle.upc_values.specs.layer.Parts.{unless_refused}
use Rattle.upc_values.specs.layer.Parts as named
use Rattle.upc_values.specs.declared.scalar.Scalar.TheVariants as scalar
use Rattle.upc_values.specs.declared.scalar.Value.{Value}
use Rattle.upc_values.specs.declared.scalar.Value.TheVariants as value
use Rattle.upc_values.specs.declared.scalar.Mark.TheVariants.{Absent}
use Rattle.upc_values.specs.declared.action.Action.{Action}
use Rattle.upc_values.specs.declared.action.Action.TheVariants as act
use Rattle.upc_values.specs.declared.action.Reply.{Reply}
use Rattle.upc_values.specs.declared.action.Reply.TheVariants as reply
use Rattle.upc_values.specs.declared.library.LibraryCall.{LibraryCall}
use Rattle.upc_values.specs.declared.library.LibraryCall.TheVariants as c
use Rattle.upc_values.specs.Calls.{Call, Allocates, Makes_lock, Frees, Frees_lock, Copies, Permutes, Reduces}
use Rattle.upc_values.specs.Calls.{Reduces_prefixes, Other, call_of}
use Rattle.upc_values.specs.Reductions.{Reduction, reduction, step, element_kind}
use Rattle.upc_values.specs.Expansion.{Expansion, Gives, Fails, Reads, Asks, Loads, Stores, bind, nothing}
use Rattle.upc_values.specs.Expansion.{does, barrier, each_in_turn, gathered, refused_by}
use Rattle.upc_values.specs.Copying as m
use Rattle.upc_values.specs.Copying.{Area, Nowhere, In_shared, In_private}
use Rattle.block_layout.specs.Cells.{same_cells}
use Rattle.upc_values.specs.Views.{location_behind, leaves_range, is_cell, byte_at}
use Rattle.upc_values.specs.History.{each_thread}
use Rattle.upc_values.specs.Shapes.{is_integer}
use Rattle.upc_values.specs.Scalars.{zero}
use Rattle.upc_values.specs.Formed.{is_whole}
use Rattle.integers.specs.Integers.{converted}
use Rattle.block_layout.specs.Pieces.{piece_of}
use Rattle.std.specs.Prelude.{nat_le, slice_get, is_some}
use Rattle.std.specs.List.{list_any}
use Rattle.block_layout.specs.Shapes.{kind_size}
use Rattle.block_layout.specs.declared.run_error.TheConstants.{NULL_ACCESS, OUT_OF_OBJECT, PRIVATE_RANGE}
use Rattle.block_layout.specs.declared.run_error.TheConstants.{POINTER_RANGE, CELL_TYPE, LIBRARY_ARGS}
use Rattle.upc_values.specs.Expansions as x
use Rattle.upc_values.specs.Expansions.{Part}
use Rattle.upc_values.specs.LibraryCalls as l

-- How an action changes whether a notify is open.
abbrev pub Turns : Bool → Action → Bool → Type 0
Turns b (act.Notify mark) now = (b ≡ false) × (now ≡ true)
Turns b (act.Wait mark) now = (b ≡ true) × (now ≡ false)
Turns b act.Beat now = ⊥
Turns b a now = b ≡ now

-- A library call that goes on so, where a notify is open or not; where it has given its value, one is as the flag says.
abbrev pub IsOrderly : {A : Type 0} → (flag now : Bool) → Expansion A → Type 0
IsOrderly flag b (Gives v) = b ≡ flag
IsOrderly flag b (Fails code) = Unit {0}
IsOrderly flag b (Reads l kind after) = (v : Scalar) → IsOrderly flag b (after v)
IsOrderly flag b (Asks a after) = (now : Bool) × Turns b a now × ((r : Reply) → IsOrderly flag now (after r))
IsOrderly flag b (Loads p kind after) = (v : Scalar) → IsOrderly flag b (after v)
IsOrderly flag b (Stores p kind v after) = IsOrderly flag b after

-- A library call leaves an open notify open, and none open where none was.
pub record Orderly (flag : Bool) (A : Type 0) (e : Expansion A) : Type 0 where
  pub by : IsOrderly flag flag e

bind_orderly : {A B : Type 0} (flag b : Bool) (e : Expansion A) (f : A → Expansion B) → IsOrderly flag b e
    → ((v : A) → IsOrderly flag flag (f v)) → IsOrderly flag b (bind e f)
bind_orderly flag b (Gives v) f h g = subst (λ t. IsOrderly flag t (f v)) (sym h) (g v)
bind_orderly flag b (Fails code) f h g = tt
bind_orderly flag b (Reads l k after) f h g = λ v. bind_orderly flag b (after v) f (h v) g
bind_orderly flag b (Asks a after) f h g = (h.0, h.1, λ r. bind_orderly flag h.0 (after r) f (h.2 r) g)
bind_orderly flag b (Loads p k after) f h g = λ v. bind_orderly flag b (after v) f (h v) g
bind_orderly flag b (Stores p k v after) f h g = bind_orderly flag b after f h g

cond_orderly : {A : Type 0} {flag : Bool} (t : Bool) (e f : Expansion A) → Orderly flag A e → Orderly flag A f
    → Orderly flag A (cond t e f)
cond_orderly true e f he hf = he
cond_orderly false e f he hf = hf

fails_orderly : {A : Type 0} {flag : Bool} (t : Bool) (code : ℕ) (f : Expansion A) → Orderly flag A f
    → Orderly flag A (cond t (Fails code) f)
fails_orderly t code f hf = cond_orderly t (Fails code) f (record { by = tt }) hf

refused_by_orderly : {A : Type 0} {flag : Bool} (tests : List (Bool × ℕ)) (e : Expansion A) → Orderly flag A e
    → Orderly flag A (refused_by tests e)
refused_by_orderly [] e h = h
refused_by_orderly (t ∷ ts) e h = fails_orderly t.0 t.1 (refused_by ts e) (refused_by_orderly ts e h)

then_orderly : {A B : Type 0} {flag : Bool} (e : Expansion A) (f : A → Expansion B) → Orderly flag A e
    → ((v : A) → Orderly flag B (f v)) → Orderly flag B (bind e f)
then_orderly {flag = flag} e f h g = record { by = bind_orderly flag flag e f h.by (λ v. (g v).by) }

unless_orderly : (flag : Bool) (r : Reply) → IsOrderly flag flag (unless_refused r)
unless_orderly flag reply.Done = refl
unless_orderly flag (reply.Value v) = refl
unless_orderly flag (reply.Flag v) = refl
unless_orderly flag (reply.Refused code) = tt

does_orderly : {flag : Bool} (a : Action) → Turns flag a flag → Orderly flag (Unit {0}) (does a)
does_orderly {flag = flag} a h = record { by = (flag, h, λ r. unless_orderly flag r) }

nothing_orderly : {flag : Bool} → Orderly flag (Unit {0}) nothing
nothing_orderly = record { by = refl }

notified_orderly : (r : Reply) → IsOrderly false true (bind (unless_refused r) (λ u. does (act.Wait Absent)))
notified_orderly reply.Done = (false, (refl, refl), λ r. unless_orderly false r)
notified_orderly (reply.Value v) = (false, (refl, refl), λ r. unless_orderly false r)
notified_orderly (reply.Flag v) = (false, (refl, refl), λ r. unless_orderly false r)
notified_orderly (reply.Refused code) = tt

barrier_orderly : Orderly false (Unit {0}) barrier
barrier_orderly = record { by = (true, (refl, refl), λ r. notified_orderly r) }

each_orderly : {X : Type 0} {flag : Bool} (f : X → Expansion (Unit {0})) (xs : List X)
    → ((v : X) → Orderly flag (Unit {0}) (f v)) → Orderly flag (Unit {0}) (each_in_turn f xs)
each_orderly f [] h = nothing_orderly
each_orderly f (v ∷ vs) h = then_orderly (f v) (λ u. each_in_turn f vs) (h v) (λ u. each_orderly f vs h)

gathered_orderly : {X Y : Type 0} {flag : Bool} (f : X → Expansion Y) (xs : List X)
    → ((v : X) → Orderly flag Y (f v)) → Orderly flag (List Y) (gathered f xs)
gathered_orderly f [] h = record { by = refl }
gathered_orderly f (v ∷ vs) h =
    then_orderly (f v) (λ y. bind (gathered f vs) (λ ys. Gives (y ∷ ys))) (h v) (λ y.
    then_orderly (gathered f vs) (λ ys. Gives (y ∷ ys)) (gathered_orderly f vs h) (λ ys. record { by = refl }))

-- ---- memory calls

module _ (flag : Bool) (threads : ℕ) (shapes : List Shape) (private : Option Shape) where
  written_orderly : (dst : Area) (cell : ℕ × Kind) (v : Scalar)
      → Orderly flag (Unit {0}) (m.written threads shapes private dst cell v)
  written_orderly Nowhere cell v = nothing_orderly
  written_orderly (In_shared p) cell v = does_orderly (act.Write false (location_behind p cell.0) v) refl
  written_orderly (In_private object offset) cell v = record { by = refl }

  copied_orderly : (dst src : Area) (cell : ℕ × Kind)
      → Orderly flag (Unit {0}) (m.copied threads shapes private dst src cell)
  copied_orderly dst Nowhere cell = nothing_orderly
  copied_orderly dst (In_shared p) cell = record { by = λ v. (written_orderly dst cell v).by }
  copied_orderly dst (In_private object offset) cell = record { by = λ v. (written_orderly dst cell v).by }

  pub copy_orderly : (dst src : Area) (n : ℕ) → Orderly flag (Unit {0}) (m.copy threads shapes private dst src n)
  copy_orderly dst src n =
      let f = m.copied threads shapes private dst src in
      let cells = m.cells threads shapes private n dst in
      cond_orderly (n == 0) nothing _ nothing_orderly
      (refused_by_orderly
      ((m.is_nowhere dst || m.is_nowhere src, NULL_ACCESS)
      ∷ (m.leaves_shared threads shapes private n dst || m.leaves_shared threads shapes private n src, OUT_OF_OBJECT)
      ∷ (m.leaves_private threads shapes private n dst || m.leaves_private threads shapes private n src, PRIVATE_RANGE)
      ∷ (
        m.is_cut threads shapes private n dst || (m.is_cut threads shapes private n src || not
            (same_cells cells (m.cells threads shapes private n src))),
        CELL_TYPE,
      )
      ∷ [])
      (each_in_turn f cells) (each_orderly f cells (λ v. copied_orderly dst src v)))

  pub set_orderly : (dst : Area) (k n : ℕ) → Orderly flag (Unit {0}) (m.set threads shapes private dst k n)
  set_orderly dst k n =
      let f : ℕ × Kind → Expansion (Unit {0}) = λ v. m.written threads shapes private dst v (m.filled k v.1) in
      let cells = m.cells threads shapes private n dst in
      cond_orderly (n == 0) nothing _ nothing_orderly
      (refused_by_orderly
      ((m.is_nowhere dst, NULL_ACCESS)
      ∷ (m.leaves_shared threads shapes private n dst, OUT_OF_OBJECT)
      ∷ (m.leaves_private threads shapes private n dst, PRIVATE_RANGE)
      ∷ (m.is_cut threads shapes private n dst || list_any (λ v. not (is_integer v.1)) cells, CELL_TYPE)
      ∷ [])
      (each_in_turn f cells) (each_orderly f cells (λ v. written_orderly dst v (m.filled k v.1))))

-- ---- collective calls 5 to 12

module _ (threads : ℕ) (shapes : List Shape) (me : ℕ) where
  put_orderly : (p : SharedPtr) (v : ℤ) → Orderly false (Unit {0}) (x.number_put threads shapes me p v)
  put_orderly p v = does_orderly (act.Write false (location p) (scalar.Int v)) refl

  number_orderly : (k : Kind) (p : SharedPtr) → Orderly false ℤ (x.number_at threads shapes me k p)
  number_orderly k p = record { by = λ v. refl }

  cell_orderly : (part : Part) (cell : ℕ × Kind)
      → Orderly false (Unit {0})
      (Reads (location_behind part.from cell.0) cell.1
      (λ v. does (act.Write false (location_behind part.into cell.0) v)))
  cell_orderly part cell = record {
    by = λ v. (does_orderly (act.Write false (location_behind part.into cell.0) v)
        refl).by;
  }

  part_orderly : (n : ℕ) (part : Part) → Orderly false (Unit {0}) (x.copied threads shapes me n part)
  part_orderly n part = each_orderly _ (x.cells threads shapes me n part.into) (cell_orderly part)

  move_orderly : (n : ℕ) (parts : List Part) → Orderly false (Unit {0}) (x.move threads shapes me n parts)
  move_orderly n parts =
      refused_by_orderly
      ((list_any (λ part. leaves_range n part.into || leaves_range n part.from) parts, POINTER_RANGE)
      ∷ (
        list_any (λ part. named.outside threads shapes me n part.into || named.outside threads shapes me n part.from)
            parts,
        OUT_OF_OBJECT,
      )
      ∷ (list_any (x.differ threads shapes me n) parts, CELL_TYPE)
      ∷ [])
      (each_in_turn (x.copied threads shapes me n) parts)
      (each_orderly (x.copied threads shapes me n) parts (part_orderly n))

  some_orderly : (n : ℕ) (e : Expansion (Unit {0})) → Orderly false (Unit {0}) e
      → Orderly false (Unit {0}) (x.some_bytes threads shapes me n e)
  some_orderly n e h = cond_orderly (n == 0) nothing e nothing_orderly h

  cells_orderly : (k : Kind) (ps : List SharedPtr) (e : Expansion (Unit {0})) → Orderly false (Unit {0}) e
      → Orderly false (Unit {0}) (x.are_cells threads shapes me k ps e)
  cells_orderly k ps e h =
      refused_by_orderly
      ((list_any (leaves_range (kind_size k)) ps, POINTER_RANGE)
      ∷ (list_any (named.outside threads shapes me (kind_size k)) ps, OUT_OF_OBJECT)
      ∷ (list_any (λ p. not (is_cell shapes k p)) ps, CELL_TYPE)
      ∷ [])
      e h

  permuted_orderly : (dst src : SharedPtr) (n : ℕ) (vs : List ℤ)
      → Orderly false (Unit {0})
      (x.some_bytes threads shapes me n (x.move threads shapes me n (x.chosen threads shapes me dst src n vs ∷ [])))
  permuted_orderly dst src n vs = some_orderly n (x.move threads shapes me n
      (x.chosen threads shapes me dst src n vs ∷ [])) (move_orderly n (x.chosen threads shapes me dst src n vs ∷ []))

  permute_orderly : (dst src perm : SharedPtr) (n : ℕ)
      → Orderly false (Unit {0}) (x.permute threads shapes me dst src perm n)
  permute_orderly dst src perm n =
      let read = x.number_at threads shapes me kind.Int in
      let ps = named.permutation threads shapes me perm in
      let own = byte_at dst n threads (me * n) in
      let some = not (n == 0) in
      let go : List ℤ → Expansion (Unit {0}) = λ vs. x.some_bytes threads shapes me n
      (x.move threads shapes me n (x.chosen threads shapes me dst src n vs ∷ [])) in
      let chosen : List ℤ → Expansion (Unit {0}) = λ vs. refused_by
      ((not (each_thread threads (λ t. named.is_at threads shapes me t vs)), LIBRARY_ARGS) ∷ []) (go vs) in
      refused_by_orderly
      ((list_any (leaves_range 4) ps || (some && leaves_range n own), POINTER_RANGE)
      ∷ (
        list_any (named.outside threads shapes me 4) ps ||
            (some && named.outside threads shapes me n own),
        OUT_OF_OBJECT,
      )
      ∷ (list_any (λ p. not (is_cell shapes kind.Int p)) ps || (some && x.cut threads shapes me n own), CELL_TYPE)
      ∷ [])
      (bind (gathered read ps) chosen)
      (then_orderly (gathered read ps) chosen (gathered_orderly read ps (number_orderly kind.Int)) (λ vs.
      refused_by_orderly ((not (each_thread threads (λ t. named.is_at threads shapes me t vs)), LIBRARY_ARGS) ∷ [])
      (go vs) (permuted_orderly dst src n vs)))

  outcome_orderly : (r : Result ℤ ℕ) → Orderly false ℤ (x.outcome threads shapes me r)
  outcome_orderly (Ok v) = record { by = refl }
  outcome_orderly (Err code) = record { by = tt }

  total_orderly : (op : Reduction) (k : Kind) (a : ℤ) (dst : SharedPtr) (ps : List SharedPtr)
      → Orderly false (Unit {0}) (x.total threads shapes me op k a dst ps)
  total_orderly op k a dst [] = put_orderly dst a
  total_orderly op k a dst (p ∷ ps) =
      then_orderly (x.number_at threads shapes me k p)
      (λ v. bind (x.outcome threads shapes me (step op k a v)) (λ b. x.total threads shapes me op k b dst ps))
      (number_orderly k p) (λ v.
      then_orderly (x.outcome threads shapes me (step op k a v)) (λ b. x.total threads shapes me op k b dst ps)
      (outcome_orderly (step op k a v)) (λ b. total_orderly op k b dst ps))

  reduce_orderly : (op : Option Reduction) (k : Kind) (dst : SharedPtr) (ps : List SharedPtr)
      → Orderly false (Unit {0}) (x.reduce threads shapes me op k dst ps)
  reduce_orderly (Some op) k dst (p ∷ ps) =
      then_orderly (x.number_at threads shapes me k p) (λ v. x.total threads shapes me op k v dst ps)
      (number_orderly k p) (λ v. total_orderly op k v dst ps)
  reduce_orderly (Some op) k dst [] = nothing_orderly
  reduce_orderly None k dst ps = nothing_orderly

  totals_orderly : (op : Reduction) (k : Kind) (a : ℤ) (parts : List Part)
      → Orderly false (Unit {0}) (x.totals threads shapes me op k a parts)
  totals_orderly op k a [] = nothing_orderly
  totals_orderly op k a (p ∷ ps) =
      then_orderly (x.number_at threads shapes me k p.from)
      (λ v. bind (x.outcome threads shapes me (step op k a v))
      (λ b. bind (x.number_put threads shapes me p.into b) (λ u. x.totals threads shapes me op k b ps)))
      (number_orderly k p.from) (λ v.
      then_orderly (x.outcome threads shapes me (step op k a v))
      (λ b. bind (x.number_put threads shapes me p.into b) (λ u. x.totals threads shapes me op k b ps))
      (outcome_orderly (step op k a v)) (λ b.
      then_orderly (x.number_put threads shapes me p.into b) (λ u. x.totals threads shapes me op k b ps)
      (put_orderly p.into b) (λ u. totals_orderly op k b ps)))

  prefixes_orderly : (op : Option Reduction) (k : Kind) (parts : List Part)
      → Orderly false (Unit {0}) (x.reduce_prefixes threads shapes me op k parts)
  prefixes_orderly (Some op) k (p ∷ ps) =
      then_orderly (x.number_at threads shapes me k p.from)
      (λ v. bind (x.number_put threads shapes me p.into v) (λ u. x.totals threads shapes me op k v ps))
      (number_orderly k p.from) (λ v.
      then_orderly (x.number_put threads shapes me p.into v) (λ u. x.totals threads shapes me op k v ps)
      (put_orderly p.into v) (λ u. totals_orderly op k v ps))
  prefixes_orderly (Some op) k [] = nothing_orderly
  prefixes_orderly None k ps = nothing_orderly

  work_orderly : (call : Call) → Orderly false (Unit {0}) (x.work threads shapes me call)
  work_orderly (Copies w dst src n f) = some_orderly n _ (move_orderly n (x.parts threads shapes me w dst src n))
  work_orderly (Permutes dst src perm n f) = permute_orderly dst src perm n
  work_orderly (Reduces dst src op n blk k f) =
      let from = x.operands threads shapes me src blk k n in
      let e = x.reduce threads shapes me (reduction op) (element_kind k) dst from in
      cond_orderly (dst.thread == me) (x.are_cells threads shapes me (element_kind k) (dst ∷ from) e) nothing
      (cells_orderly (element_kind k) (dst ∷ from) e (reduce_orderly (reduction op) (element_kind k) dst from))
      nothing_orderly
  work_orderly (Reduces_prefixes dst src op n blk k f) =
      let into = x.operands threads shapes me dst blk k n in
      let from = x.operands threads shapes me src blk k n in
      let parts = x.paired threads shapes me into from in
      let e = x.reduce_prefixes threads shapes me (reduction op) (element_kind k) parts in
      cond_orderly (dst.thread == me) (x.are_cells threads shapes me (element_kind k) (into ++ from) e) nothing
      (cells_orderly (element_kind k) (into ++ from) e (prefixes_orderly (reduction op) (element_kind k) parts))
      nothing_orderly
  work_orderly (Allocates n b s) = nothing_orderly
  work_orderly Makes_lock = nothing_orderly
  work_orderly (Frees p) = nothing_orderly
  work_orderly (Frees_lock i) = nothing_orderly
  work_orderly Other = nothing_orderly

  pub collective_orderly : (number : ℕ) (args : List Scalar)
      → Orderly false (Unit {0}) (x.collective threads shapes me number args)
  collective_orderly number args =
      let call = call_of number args in
      let f = x.flags_of threads shapes me call in
      refused_by_orderly (x.tests threads shapes me call) _
      (then_orderly (does (act.Meet number args)) (λ u. bind (x.entry f)
      (λ v. bind (x.work threads shapes me call) (λ w. x.exit f))) (does_orderly (act.Meet number args) refl)
      (λ u.
      then_orderly (x.entry f) (λ v. bind (x.work threads shapes me call) (λ w. x.exit f))
      (cond_orderly (unsigned_abs f % 8 == 1) nothing barrier nothing_orderly barrier_orderly) (λ v.
      then_orderly (x.work threads shapes me call) (λ w. x.exit f) (work_orderly call) (λ w.
      cond_orderly (unsigned_abs f / 8 == 1) nothing barrier nothing_orderly barrier_orderly))))

-- ---- all calls

given_orderly : (flag : Bool) (r : Reply) → IsOrderly flag flag (l.given_by r)
given_orderly flag reply.Done = refl
given_orderly flag (reply.Value v) = refl
given_orderly flag (reply.Flag v) = refl
given_orderly flag (reply.Refused code) = tt

asks_orderly : {flag : Bool} (a : Action) → Turns flag a flag → Orderly flag Scalar (l.asks a)
asks_orderly {flag = flag} a h = record { by = (flag, h, given_orderly flag) }

gives_orderly : {flag : Bool} (v : Scalar) → Orderly flag Scalar (Gives v)
gives_orderly v = record { by = refl }

valued_orderly : {flag : Bool} (e : Expansion (Unit {0})) → Orderly flag (Unit {0}) e → Orderly flag Scalar (l.gives_zero e)
valued_orderly e h = then_orderly e (λ u. Gives zero) h (λ u. gives_orderly zero)

locked_orderly : {flag : Bool} (i : ℕ) (a : Action) → Turns flag a flag → Orderly flag Scalar (l.with_lock i (l.asks a))
locked_orderly i a h = fails_orderly (i == 0) NULL_ACCESS (l.asks a) (asks_orderly a h)

either_orderly : {flag : Bool} (t : Bool) (e f : Expansion Scalar) → Orderly flag Scalar e → Orderly flag Scalar f
    → Orderly flag Scalar (if t then e else f)
either_orderly true e f he hf = he
either_orderly false e f he hf = hf

module _ (flag : Bool) (threads : ℕ) (shapes : List Shape) (me : ℕ) (private : ℕ → Option Shape) where
  elements_orderly : (shape n b : ℕ) (e : Expansion Scalar) → Orderly flag Scalar e
      → Orderly flag Scalar (l.in_elements threads shapes me private shape n b e)
  elements_orderly shape n b e h =
      refused_by_orderly ((not (n * b == 0) && not (is_whole (slice_get shapes shape) b), CELL_TYPE) ∷ []) e h

  allocation_orderly : (home : Option ℕ) (shape n b : ℕ)
      → Orderly flag Scalar (l.allocation threads shapes me private home shape n b)
  allocation_orderly home shape n b =
      let e = l.asks (act.Alloc n b home shape) in
      either_orderly (n * b == 0) (Gives (scalar.Shared null)) (l.in_elements threads shapes me private shape n b e)
      (gives_orderly (scalar.Shared null)) (elements_orderly shape n b e (asks_orderly (act.Alloc n b home shape) refl))

  together_orderly : (number : ℕ) (args : List Value)
      → Orderly false Scalar (l.together threads shapes me private number args)
  together_orderly number args =
      valued_orderly (x.collective threads shapes me number (l.scalars args))
      (collective_orderly threads shapes me number (l.scalars args))

  closed_orderly : (number : ℕ) (args : List Value) → flag ≡ false
      → Orderly flag Scalar (l.together threads shapes me private number args)
  closed_orderly number args e =
      subst (λ t. Orderly t Scalar (l.together threads shapes me private number args)) (sym e)
      (together_orderly number args)

  pub library_orderly : (call : LibraryCall) (shape : ℕ) (args : List Value)
      → (is_some (l.meet_number call) ≡ true → flag ≡ false)
      → Orderly flag Scalar (l.library_call threads shapes me private call shape args)
  library_orderly c.ThreadOf shape (value.Scalar (scalar.Shared p) ∷ []) h = gives_orderly _
  library_orderly c.PhaseOf shape (value.Scalar (scalar.Shared p) ∷ []) h = gives_orderly _
  library_orderly c.AddressField shape (value.Scalar (scalar.Shared p) ∷ []) h = gives_orderly _
  library_orderly c.AffinitySize shape (value.Scalar (scalar.Int n) ∷ value.Scalar (scalar.Int b) ∷ value.Scalar
      (scalar.Int t) ∷ []) h =
      refused_by_orderly ((
        nat_le threads (unsigned_abs t) ||
            (x.is_large (unsigned_abs n) || x.is_large (unsigned_abs b)),
        LIBRARY_ARGS,
      ) ∷ []) _
      (gives_orderly (l.as_size (pos (piece_of (l.laid_out (unsigned_abs n) (unsigned_abs b))
      (unsigned_abs t) threads))))
  library_orderly c.GlobalAlloc shape (value.Scalar (scalar.Int n) ∷ value.Scalar (scalar.Int b) ∷ []) h =
      allocation_orderly None shape (unsigned_abs n) (unsigned_abs b)
  library_orderly c.AllAlloc shape (value.Scalar (scalar.Int n) ∷ value.Scalar (scalar.Int b) ∷ []) h =
      elements_orderly shape (unsigned_abs n) (unsigned_abs b) _
      (asks_orderly (act.Meet 1 (scalar.Int (pos (unsigned_abs n)) ∷ scalar.Int (pos (unsigned_abs b)) ∷
      scalar.Int (pos shape) ∷ [])) refl)
  library_orderly c.Alloc shape (value.Scalar (scalar.Int b) ∷ []) h = allocation_orderly (Some me) shape 1
      (unsigned_abs b)
  library_orderly c.Free shape (value.Scalar (scalar.Shared p) ∷ []) h =
      either_orderly (is_null p) (Gives zero) (l.asks (act.Free p)) (gives_orderly zero)
      (asks_orderly (act.Free p) refl)
  library_orderly c.AllFree shape (value.Scalar (scalar.Shared p) ∷ []) h = asks_orderly
      (act.Meet 3 (scalar.Shared p ∷ [])) refl
  library_orderly c.GlobalLockAlloc shape [] h = asks_orderly act.LockMake refl
  library_orderly c.AllLockAlloc shape [] h = asks_orderly (act.Meet 2 []) refl
  library_orderly c.Lock shape (value.Scalar (scalar.Lock i) ∷ []) h = locked_orderly i (act.Lock i) refl
  library_orderly c.LockAttempt shape (value.Scalar (scalar.Lock i) ∷ []) h = locked_orderly i (act.Attempt i) refl
  library_orderly c.Unlock shape (value.Scalar (scalar.Lock i) ∷ []) h = locked_orderly i (act.Unlock i) refl
  library_orderly c.LockFree shape (value.Scalar (scalar.Lock i) ∷ []) h =
      either_orderly (i == 0) (Gives zero) (l.asks (act.LockFree i)) (gives_orderly zero)
      (asks_orderly (act.LockFree i) refl)
  library_orderly c.AllLockFree shape (value.Scalar (scalar.Lock i) ∷ []) h = asks_orderly
      (act.Meet 4 (scalar.Lock i ∷ [])) refl
  library_orderly c.Memcpy shape (dst ∷ src ∷ value.Scalar (scalar.Int n) ∷ []) h =
      valued_orderly _ (copy_orderly flag threads shapes None (l.area_of dst) (l.area_of src) (unsigned_abs n))
  library_orderly c.Memget shape (dst ∷ src ∷ value.Scalar (scalar.Int n) ∷ []) h =
      valued_orderly _ (copy_orderly flag threads shapes (l.private_shape threads shapes me private (l.area_of dst))
      (l.area_of dst) (l.area_of src) (unsigned_abs n))
  library_orderly c.Memput shape (dst ∷ src ∷ value.Scalar (scalar.Int n) ∷ []) h =
      valued_orderly _ (copy_orderly flag threads shapes (l.private_shape threads shapes me private (l.area_of src))
      (l.area_of dst) (l.area_of src) (unsigned_abs n))
  library_orderly c.Memset shape (dst ∷ value.Scalar (scalar.Int k) ∷ value.Scalar (scalar.Int n) ∷ []) h =
      valued_orderly _ (set_orderly flag threads shapes None (l.area_of dst) (unsigned_abs (converted kind.UChar k))
      (unsigned_abs n))
  library_orderly c.Broadcast shape args h = closed_orderly 5 args (h refl)
  library_orderly c.Scatter shape args h = closed_orderly 6 args (h refl)
  library_orderly c.Gather shape args h = closed_orderly 7 args (h refl)
  library_orderly c.GatherAll shape args h = closed_orderly 8 args (h refl)
  library_orderly c.Exchange shape args h = closed_orderly 9 args (h refl)
  library_orderly c.Permute shape args h = closed_orderly 10 args (h refl)
  library_orderly (c.Reduce k) shape args h = closed_orderly 11 (l.with_element k args) (h refl)
  library_orderly (c.PrefixReduce k) shape args h = closed_orderly 12 (l.with_element k args) (h refl)
  library_orderly call shape args h = gives_orderly zero
