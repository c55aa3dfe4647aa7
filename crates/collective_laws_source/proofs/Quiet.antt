-- Which calls of the library begin no collective call from 5 to 12, and what of one from 5 to 12 begins no other.
use Rattle.std.proofs.Common.{ℕ, ◌<◌, ◌==◌, ℤ, pos, Bool, true, false, not, ◌&&◌, ◌||◌, cond, List, [], ◌∷◌, ◌++◌}
use Rattle.std.proofs.Common.{Option, Some, None, arith}
use Rattle.std.specs.Prelude.{Result, Ok, Err, unsigned_abs, ◌%◌, ◌/◌, ◌*◌, if◌then◌else◌}
use Rattle.block_layout.specs.declared.place.SharedPtr.{SharedPtr}
use Rattle.block_layout.specs.declared.kind.Kind.{Kind}
use Rattle.block_layout.specs.declared.kind.Kind.TheVariants as kind
use Rattle.block_layout.specs.declared.kind.Shape.{Shape}
use Rattle.block_layout.specs.Pointers.{is_null, location, null}
use Rattle.upc_values.specs.declared.scalar.Scalar.{Scalar}
use Rattle.upc_values.specs.layer.Parts.{unless_refused}
use Rattle.upc_values.specs.layer.Parts as named
use Rattle.upc_values.specs.declared.scalar.Scalar.TheVariants as scalar
use Rattle.upc_values.specs.declared.scalar.Value.{Value}
use Rattle.upc_values.specs.declared.scalar.Value.TheVariants as value
use Rattle.upc_values.specs.declared.scalar.Mark.TheVariants.{Absent}
use Rattle.upc_values.specs.declared.action.Action.{Action}
use Rattle.upc_values.specs.declared.action.Action.TheVariants as act
use Rattle.upc_values.specs.declared.action.Reply.{Reply}
use Rattle.upc_values.specs.declared.action.Reply.TheVariants as reply
use Rattle.upc_values.specs.declared.library.LibraryCall.{LibraryCall}
use Rattle.upc_values.specs.declared.library.LibraryCall.TheVariants as c
use Rattle.upc_values.specs.Calls.{Call, Allocates, Makes_lock, Frees, Frees_lock, Copies, Permutes, Reduces}
use Rattle.upc_values.specs.Calls.{Reduces_prefixes, Other}
use Rattle.upc_values.specs.Reductions.{Reduction, reduction, step, element_kind}
use Rattle.upc_values.specs.Expansion.{Expansion, Gives, Fails, Reads, Asks, Loads, Stores, bind, nothing}
use Rattle.upc_values.specs.Expansion.{does, barrier, each_in_turn, gathered, refused_by}
use Rattle.upc_values.specs.Copying as m
use Rattle.upc_values.specs.Copying.{Area, Nowhere, In_shared, In_private}
use Rattle.block_layout.specs.Cells.{same_cells}
use Rattle.upc_values.specs.Views.{location_behind, leaves_range, is_cell, byte_at}
use Rattle.upc_values.specs.History.{each_thread}
use Rattle.upc_values.specs.Shapes.{is_integer}
use Rattle.upc_values.specs.Scalars.{zero}
use Rattle.upc_values.specs.Formed.{is_whole}
use Rattle.integers.specs.Integers.{converted}
use Rattle.block_layout.specs.Pieces.{piece_of}
use Rattle.std.specs.Prelude.{nat_le, slice_get}
use Rattle.std.specs.List.{list_any}
use Rattle.block_layout.specs.Shapes.{kind_size}
use Rattle.block_layout.specs.declared.run_error.TheConstants.{NULL_ACCESS, OUT_OF_OBJECT, PRIVATE_RANGE}
use Rattle.block_layout.specs.declared.run_error.TheConstants.{POINTER_RANGE, CELL_TYPE, LIBRARY_ARGS}
use Rattle.upc_values.specs.Expansions as x
use Rattle.upc_values.specs.Expansions.{Part}
use Rattle.upc_values.specs.LibraryCalls as l

-- The action begins no collective call from 5 to 12.
abbrev pub BeginsNone : Action → Type 0
BeginsNone (act.Meet c args) = c < 5
BeginsNone a = Unit {0}

-- A call of the library, from one moment on, begins no collective call from 5 to 12.
abbrev pub IsQuiet : {A : Type 0} → Expansion A → Type 0
IsQuiet (Gives v) = Unit {0}
IsQuiet (Fails code) = Unit {0}
IsQuiet (Reads l kind after) = (v : Scalar) → IsQuiet (after v)
IsQuiet (Asks a after) = BeginsNone a × ((r : Reply) → IsQuiet (after r))
IsQuiet (Loads p kind after) = (v : Scalar) → IsQuiet (after v)
IsQuiet (Stores p kind v after) = IsQuiet after

-- A call of the library begins no collective call from 5 to 12.
pub record Quiet (A : Type 0) (e : Expansion A) : Type 0 where
  pub by : IsQuiet e

bind_quiet : {A B : Type 0} (e : Expansion A) (f : A → Expansion B) → IsQuiet e → ((v : A) → IsQuiet (f v))
    → IsQuiet (bind e f)
bind_quiet (Gives v) f h g = g v
bind_quiet (Fails code) f h g = tt
bind_quiet (Reads l k after) f h g = λ v. bind_quiet (after v) f (h v) g
bind_quiet (Asks a after) f h g = (h.0, λ r. bind_quiet (after r) f (h.1 r) g)
bind_quiet (Loads p k after) f h g = λ v. bind_quiet (after v) f (h v) g
bind_quiet (Stores p k v after) f h g = bind_quiet after f h g

cond_quiet : {A : Type 0} (t : Bool) (e f : Expansion A) → Quiet A e → Quiet A f → Quiet A (cond t e f)
cond_quiet true e f he hf = he
cond_quiet false e f he hf = hf

fails_quiet : {A : Type 0} (t : Bool) (code : ℕ) (f : Expansion A) → Quiet A f → Quiet A (cond t (Fails code) f)
fails_quiet t code f hf = cond_quiet t (Fails code) f (record { by = tt }) hf

refused_by_quiet : {A : Type 0} (tests : List (Bool × ℕ)) (e : Expansion A) → Quiet A e → Quiet A (refused_by tests e)
refused_by_quiet [] e h = h
refused_by_quiet (t ∷ ts) e h = fails_quiet t.0 t.1 (refused_by ts e) (refused_by_quiet ts e h)

pub then_quiet : {A B : Type 0} (e : Expansion A) (f : A → Expansion B) → Quiet A e → ((v : A) → Quiet B (f v))
    → Quiet B (bind e f)
then_quiet e f h g = record { by = bind_quiet e f h.by (λ v. (g v).by) }

pub unless_quiet : (r : Reply) → Quiet (Unit {0}) (unless_refused r)
unless_quiet reply.Done = record { by = tt }
unless_quiet (reply.Value v) = record { by = tt }
unless_quiet (reply.Flag v) = record { by = tt }
unless_quiet (reply.Refused code) = record { by = tt }

does_quiet : (a : Action) → BeginsNone a → Quiet (Unit {0}) (does a)
does_quiet a h = record { by = (h, λ r. (unless_quiet r).by) }

nothing_quiet : Quiet (Unit {0}) nothing
nothing_quiet = record { by = tt }

barrier_quiet : Quiet (Unit {0}) barrier
barrier_quiet =
    then_quiet (does (act.Notify Absent)) (λ u. does (act.Wait Absent)) (does_quiet (act.Notify Absent) tt)
    (λ u. does_quiet (act.Wait Absent) tt)

each_quiet : {X : Type 0} (f : X → Expansion (Unit {0})) (xs : List X) → ((v : X) → Quiet (Unit {0}) (f v))
    → Quiet (Unit {0}) (each_in_turn f xs)
each_quiet f [] h = nothing_quiet
each_quiet f (v ∷ vs) h = then_quiet (f v) (λ u. each_in_turn f vs) (h v) (λ u. each_quiet f vs h)

gathered_quiet : {X Y : Type 0} (f : X → Expansion Y) (xs : List X) → ((v : X) → Quiet Y (f v))
    → Quiet (List Y) (gathered f xs)
gathered_quiet f [] h = record { by = tt }
gathered_quiet f (v ∷ vs) h =
    then_quiet (f v) (λ y. bind (gathered f vs) (λ ys. Gives (y ∷ ys))) (h v) (λ y.
    then_quiet (gathered f vs) (λ ys. Gives (y ∷ ys)) (gathered_quiet f vs h) (λ ys. record { by = tt }))

-- ---- memory calls

module _ (threads : ℕ) (shapes : List Shape) (private : Option Shape) where
  written_quiet : (dst : Area) (cell : ℕ × Kind) (v : Scalar)
      → Quiet (Unit {0}) (m.written threads shapes private dst cell v)
  written_quiet Nowhere cell v = nothing_quiet
  written_quiet (In_shared p) cell v = does_quiet (act.Write false (location_behind p cell.0) v) tt
  written_quiet (In_private object offset) cell v = record { by = tt }

  copied_quiet : (dst src : Area) (cell : ℕ × Kind)
      → Quiet (Unit {0}) (m.copied threads shapes private dst src cell)
  copied_quiet dst Nowhere cell = nothing_quiet
  copied_quiet dst (In_shared p) cell = record { by = λ v. (written_quiet dst cell v).by }
  copied_quiet dst (In_private object offset) cell = record { by = λ v. (written_quiet dst cell v).by }

  pub copy_quiet : (dst src : Area) (n : ℕ) → Quiet (Unit {0}) (m.copy threads shapes private dst src n)
  copy_quiet dst src n =
      let f = m.copied threads shapes private dst src in
      let cells = m.cells threads shapes private n dst in
      cond_quiet (n == 0) nothing _ nothing_quiet
      (refused_by_quiet
      ((m.is_nowhere dst || m.is_nowhere src, NULL_ACCESS)
      ∷ (m.leaves_shared threads shapes private n dst || m.leaves_shared threads shapes private n src, OUT_OF_OBJECT)
      ∷ (m.leaves_private threads shapes private n dst || m.leaves_private threads shapes private n src, PRIVATE_RANGE)
      ∷ (
        m.is_cut threads shapes private n dst || (m.is_cut threads shapes private n src || not
            (same_cells cells (m.cells threads shapes private n src))),
        CELL_TYPE,
      )
      ∷ [])
      (each_in_turn f cells) (each_quiet f cells (λ v. copied_quiet dst src v)))

  pub set_quiet : (dst : Area) (k n : ℕ) → Quiet (Unit {0}) (m.set threads shapes private dst k n)
  set_quiet dst k n =
      let f : ℕ × Kind → Expansion (Unit {0}) = λ v. m.written threads shapes private dst v (m.filled k v.1) in
      let cells = m.cells threads shapes private n dst in
      cond_quiet (n == 0) nothing _ nothing_quiet
      (refused_by_quiet
      ((m.is_nowhere dst, NULL_ACCESS)
      ∷ (m.leaves_shared threads shapes private n dst, OUT_OF_OBJECT)
      ∷ (m.leaves_private threads shapes private n dst, PRIVATE_RANGE)
      ∷ (m.is_cut threads shapes private n dst || list_any (λ v. not (is_integer v.1)) cells, CELL_TYPE)
      ∷ [])
      (each_in_turn f cells) (each_quiet f cells (λ v. written_quiet dst v (m.filled k v.1))))

-- ---- collective calls 5 to 12

module _ (threads : ℕ) (shapes : List Shape) (me : ℕ) where
  put_quiet : (p : SharedPtr) (v : ℤ) → Quiet (Unit {0}) (x.number_put threads shapes me p v)
  put_quiet p v = does_quiet (act.Write false (location p) (scalar.Int v)) tt

  number_quiet : (k : Kind) (p : SharedPtr) → Quiet ℤ (x.number_at threads shapes me k p)
  number_quiet k p = record { by = λ v. tt }

  cell_quiet : (part : Part) (cell : ℕ × Kind)
      → Quiet (Unit {0})
      (Reads (location_behind part.from cell.0) cell.1
      (λ v. does (act.Write false (location_behind part.into cell.0) v)))
  cell_quiet part cell = record {
    by = λ v. (does_quiet (act.Write false (location_behind part.into cell.0) v)
        tt).by;
  }

  part_quiet : (n : ℕ) (part : Part) → Quiet (Unit {0}) (x.copied threads shapes me n part)
  part_quiet n part = each_quiet _ (x.cells threads shapes me n part.into) (cell_quiet part)

  move_quiet : (n : ℕ) (parts : List Part) → Quiet (Unit {0}) (x.move threads shapes me n parts)
  move_quiet n parts =
      refused_by_quiet
      ((list_any (λ part. leaves_range n part.into || leaves_range n part.from) parts, POINTER_RANGE)
      ∷ (
        list_any (λ part. named.outside threads shapes me n part.into || named.outside threads shapes me n part.from)
            parts,
        OUT_OF_OBJECT,
      )
      ∷ (list_any (x.differ threads shapes me n) parts, CELL_TYPE)
      ∷ [])
      (each_in_turn (x.copied threads shapes me n) parts)
      (each_quiet (x.copied threads shapes me n) parts (part_quiet n))

  some_quiet : (n : ℕ) (e : Expansion (Unit {0})) → Quiet (Unit {0}) e
      → Quiet (Unit {0}) (x.some_bytes threads shapes me n e)
  some_quiet n e h = cond_quiet (n == 0) nothing e nothing_quiet h

  cells_quiet : (k : Kind) (ps : List SharedPtr) (e : Expansion (Unit {0})) → Quiet (Unit {0}) e
      → Quiet (Unit {0}) (x.are_cells threads shapes me k ps e)
  cells_quiet k ps e h =
      refused_by_quiet
      ((list_any (leaves_range (kind_size k)) ps, POINTER_RANGE)
      ∷ (list_any (named.outside threads shapes me (kind_size k)) ps, OUT_OF_OBJECT)
      ∷ (list_any (λ p. not (is_cell shapes k p)) ps, CELL_TYPE)
      ∷ [])
      e h

  permuted_quiet : (dst src : SharedPtr) (n : ℕ) (vs : List ℤ)
      → Quiet (Unit {0})
      (x.some_bytes threads shapes me n (x.move threads shapes me n (x.chosen threads shapes me dst src n vs ∷ [])))
  permuted_quiet dst src n vs = some_quiet n (x.move threads shapes me n
      (x.chosen threads shapes me dst src n vs ∷ [])) (move_quiet n (x.chosen threads shapes me dst src n vs ∷ []))

  permute_quiet : (dst src perm : SharedPtr) (n : ℕ)
      → Quiet (Unit {0}) (x.permute threads shapes me dst src perm n)
  permute_quiet dst src perm n =
      let read = x.number_at threads shapes me kind.Int in
      let ps = named.permutation threads shapes me perm in
      let own = byte_at dst n threads (me * n) in
      let some = not (n == 0) in
      let go : List ℤ → Expansion (Unit {0}) = λ vs. x.some_bytes threads shapes me n
      (x.move threads shapes me n (x.chosen threads shapes me dst src n vs ∷ [])) in
      let chosen : List ℤ → Expansion (Unit {0}) = λ vs. refused_by
      ((not (each_thread threads (λ t. named.is_at threads shapes me t vs)), LIBRARY_ARGS) ∷ []) (go vs) in
      refused_by_quiet
      ((list_any (leaves_range 4) ps || (some && leaves_range n own), POINTER_RANGE)
      ∷ (list_any (named.outside threads shapes me 4) ps || (some && named.outside threads shapes me n own), OUT_OF_OBJECT)
      ∷ (list_any (λ p. not (is_cell shapes kind.Int p)) ps || (some && x.cut threads shapes me n own), CELL_TYPE)
      ∷ [])
      (bind (gathered read ps) chosen)
      (then_quiet (gathered read ps) chosen (gathered_quiet read ps (number_quiet kind.Int)) (λ vs.
      refused_by_quiet ((not (each_thread threads (λ t. named.is_at threads shapes me t vs)), LIBRARY_ARGS) ∷ [])
      (go vs) (permuted_quiet dst src n vs)))

  outcome_quiet : (r : Result ℤ ℕ) → Quiet ℤ (x.outcome threads shapes me r)
  outcome_quiet (Ok v) = record { by = tt }
  outcome_quiet (Err code) = record { by = tt }

  total_quiet : (op : Reduction) (k : Kind) (a : ℤ) (dst : SharedPtr) (ps : List SharedPtr)
      → Quiet (Unit {0}) (x.total threads shapes me op k a dst ps)
  total_quiet op k a dst [] = put_quiet dst a
  total_quiet op k a dst (p ∷ ps) =
      then_quiet (x.number_at threads shapes me k p)
      (λ v. bind (x.outcome threads shapes me (step op k a v)) (λ b. x.total threads shapes me op k b dst ps))
      (number_quiet k p) (λ v.
      then_quiet (x.outcome threads shapes me (step op k a v)) (λ b. x.total threads shapes me op k b dst ps)
      (outcome_quiet (step op k a v)) (λ b. total_quiet op k b dst ps))

  reduce_quiet : (op : Option Reduction) (k : Kind) (dst : SharedPtr) (ps : List SharedPtr)
      → Quiet (Unit {0}) (x.reduce threads shapes me op k dst ps)
  reduce_quiet (Some op) k dst (p ∷ ps) =
      then_quiet (x.number_at threads shapes me k p) (λ v. x.total threads shapes me op k v dst ps)
      (number_quiet k p) (λ v. total_quiet op k v dst ps)
  reduce_quiet (Some op) k dst [] = nothing_quiet
  reduce_quiet None k dst ps = nothing_quiet

  totals_quiet : (op : Reduction) (k : Kind) (a : ℤ) (parts : List Part)
      → Quiet (Unit {0}) (x.totals threads shapes me op k a parts)
  totals_quiet op k a [] = nothing_quiet
  totals_quiet op k a (p ∷ ps) =
      then_quiet (x.number_at threads shapes me k p.from)
      (λ v. bind (x.outcome threads shapes me (step op k a v))
      (λ b. bind (x.number_put threads shapes me p.into b) (λ u. x.totals threads shapes me op k b ps)))
      (number_quiet k p.from) (λ v.
      then_quiet (x.outcome threads shapes me (step op k a v))
      (λ b. bind (x.number_put threads shapes me p.into b) (λ u. x.totals threads shapes me op k b ps))
      (outcome_quiet (step op k a v)) (λ b.
      then_quiet (x.number_put threads shapes me p.into b) (λ u. x.totals threads shapes me op k b ps)
      (put_quiet p.into b) (λ u. totals_quiet op k b ps)))

  prefixes_quiet : (op : Option Reduction) (k : Kind) (parts : List Part)
      → Quiet (Unit {0}) (x.reduce_prefixes threads shapes me op k parts)
  prefixes_quiet (Some op) k (p ∷ ps) =
      then_quiet (x.number_at threads shapes me k p.from)
      (λ v. bind (x.number_put threads shapes me p.into v) (λ u. x.totals threads shapes me op k v ps))
      (number_quiet k p.from) (λ v.
      then_quiet (x.number_put threads shapes me p.into v) (λ u. x.totals threads shapes me op k v ps)
      (put_quiet p.into v) (λ u. totals_quiet op k v ps))
  prefixes_quiet (Some op) k [] = nothing_quiet
  prefixes_quiet None k ps = nothing_quiet

  work_quiet : (call : Call) → Quiet (Unit {0}) (x.work threads shapes me call)
  work_quiet (Copies w dst src n f) = some_quiet n _ (move_quiet n (x.parts threads shapes me w dst src n))
  work_quiet (Permutes dst src perm n f) = permute_quiet dst src perm n
  work_quiet (Reduces dst src op n blk k f) =
      let from = x.operands threads shapes me src blk k n in
      let e = x.reduce threads shapes me (reduction op) (element_kind k) dst from in
      cond_quiet (dst.thread == me) (x.are_cells threads shapes me (element_kind k) (dst ∷ from) e) nothing
      (cells_quiet (element_kind k) (dst ∷ from) e (reduce_quiet (reduction op) (element_kind k) dst from))
      nothing_quiet
  work_quiet (Reduces_prefixes dst src op n blk k f) =
      let into = x.operands threads shapes me dst blk k n in
      let from = x.operands threads shapes me src blk k n in
      let parts = x.paired threads shapes me into from in
      let e = x.reduce_prefixes threads shapes me (reduction op) (element_kind k) parts in
      cond_quiet (dst.thread == me) (x.are_cells threads shapes me (element_kind k) (into ++ from) e) nothing
      (cells_quiet (element_kind k) (into ++ from) e (prefixes_quiet (reduction op) (element_kind k) parts))
      nothing_quiet
  work_quiet (Allocates n b s) = nothing_quiet
  work_quiet Makes_lock = nothing_quiet
  work_quiet (Frees p) = nothing_quiet
  work_quiet (Frees_lock i) = nothing_quiet
  work_quiet Other = nothing_quiet

  -- What a collective call does after its Meet.
  pub met_quiet : (call : Call)
      → Quiet (Unit {0})
      (bind (x.entry (x.flags_of threads shapes me call))
      (λ v. bind (x.work threads shapes me call) (λ w. x.exit (x.flags_of threads shapes me call))))
  met_quiet call =
      let f = x.flags_of threads shapes me call in
      then_quiet (x.entry f) (λ v. bind (x.work threads shapes me call) (λ w. x.exit f))
      (cond_quiet (unsigned_abs f % 8 == 1) nothing barrier nothing_quiet barrier_quiet) (λ v.
      then_quiet (x.work threads shapes me call) (λ w. x.exit f) (work_quiet call) (λ w.
      cond_quiet (unsigned_abs f / 8 == 1) nothing barrier nothing_quiet barrier_quiet))

-- ---- all calls

given_quiet : (r : Reply) → IsQuiet (l.given_by r)
given_quiet reply.Done = tt
given_quiet (reply.Value v) = tt
given_quiet (reply.Flag v) = tt
given_quiet (reply.Refused code) = tt

asks_quiet : (a : Action) → BeginsNone a → Quiet Scalar (l.asks a)
asks_quiet a h = record { by = (h, given_quiet) }

pub gives_quiet : {A : Type 0} (v : A) → Quiet A (Gives v)
gives_quiet v = record { by = tt }

valued_quiet : (e : Expansion (Unit {0})) → Quiet (Unit {0}) e → Quiet Scalar (l.gives_zero e)
valued_quiet e h = then_quiet e (λ u. Gives zero) h (λ u. gives_quiet zero)

locked_quiet : (i : ℕ) (a : Action) → BeginsNone a → Quiet Scalar (l.with_lock i (l.asks a))
locked_quiet i a h = fails_quiet (i == 0) NULL_ACCESS (l.asks a) (asks_quiet a h)

either_quiet : (t : Bool) (e f : Expansion Scalar) → Quiet Scalar e → Quiet Scalar f
    → Quiet Scalar (if t then e else f)
either_quiet true e f he hf = he
either_quiet false e f he hf = hf

module _ (threads : ℕ) (shapes : List Shape) (me : ℕ) (private : ℕ → Option Shape) where
  affinity_quiet : (n b t : ℕ) → Quiet Scalar (l.affinity_size threads shapes me private n b t)
  affinity_quiet n b t =
      fails_quiet (nat_le threads t || (x.is_large n || x.is_large b)) LIBRARY_ARGS
      (Gives (l.as_size (pos (piece_of (l.laid_out n b) t threads)))) (gives_quiet _)

  elements_quiet : (shape n b : ℕ) (e : Expansion Scalar) → Quiet Scalar e
      → Quiet Scalar (l.in_elements threads shapes me private shape n b e)
  elements_quiet shape n b e h =
      refused_by_quiet ((not (n * b == 0) && not (is_whole (slice_get shapes shape) b), CELL_TYPE) ∷ []) e h

  allocation_quiet : (home : Option ℕ) (shape n b : ℕ)
      → Quiet Scalar (l.allocation threads shapes me private home shape n b)
  allocation_quiet home shape n b =
      let e = l.asks (act.Alloc n b home shape) in
      either_quiet (n * b == 0) (Gives (scalar.Shared null)) (l.in_elements threads shapes me private shape n b e)
      (gives_quiet (scalar.Shared null)) (elements_quiet shape n b e (asks_quiet (act.Alloc n b home shape) tt))

  -- What each quiet call and each of the collective calls 5 to 12 is, each call of the library is.
  module _ (R : Expansion Scalar → Type 0) (quiet : (e : Expansion Scalar) → Quiet Scalar e → R e)
      (met : (number : ℕ) (args : List Value) → R (l.together threads shapes me private number args)) where
    pub of_library : (call : LibraryCall) (shape : ℕ) (args : List Value)
        → R (l.library_call threads shapes me private call shape args)
    of_library c.ThreadOf shape (value.Scalar (scalar.Shared p) ∷ []) = quiet _ (gives_quiet _)
    of_library c.PhaseOf shape (value.Scalar (scalar.Shared p) ∷ []) = quiet _ (gives_quiet _)
    of_library c.AddressField shape (value.Scalar (scalar.Shared p) ∷ []) = quiet _ (gives_quiet _)
    of_library c.AffinitySize shape (value.Scalar (scalar.Int n) ∷ value.Scalar (scalar.Int b) ∷ value.Scalar
        (scalar.Int t) ∷ []) =
        quiet _ (affinity_quiet (unsigned_abs n) (unsigned_abs b) (unsigned_abs t))
    of_library c.GlobalAlloc shape (value.Scalar (scalar.Int n) ∷ value.Scalar (scalar.Int b) ∷ []) =
        quiet _ (allocation_quiet None shape (unsigned_abs n) (unsigned_abs b))
    of_library c.AllAlloc shape (value.Scalar (scalar.Int n) ∷ value.Scalar (scalar.Int b) ∷ []) =
        quiet _ (elements_quiet shape (unsigned_abs n) (unsigned_abs b) _
        (asks_quiet (act.Meet 1 (scalar.Int (pos (unsigned_abs n)) ∷ scalar.Int (pos (unsigned_abs b)) ∷
        scalar.Int (pos shape) ∷ [])) (omega arith)))
    of_library c.Alloc shape (value.Scalar (scalar.Int b) ∷ []) =
        quiet _ (allocation_quiet (Some me) shape 1 (unsigned_abs b))
    of_library c.Free shape (value.Scalar (scalar.Shared p) ∷ []) =
        quiet _ (either_quiet (is_null p) (Gives zero) (l.asks (act.Free p)) (gives_quiet zero)
        (asks_quiet (act.Free p) tt))
    of_library c.AllFree shape (value.Scalar (scalar.Shared p) ∷ []) =
        quiet _ (asks_quiet (act.Meet 3 (scalar.Shared p ∷ [])) (omega arith))
    of_library c.GlobalLockAlloc shape [] = quiet _ (asks_quiet act.LockMake tt)
    of_library c.AllLockAlloc shape [] = quiet _ (asks_quiet (act.Meet 2 []) (omega arith))
    of_library c.Lock shape (value.Scalar (scalar.Lock i) ∷ []) = quiet _ (locked_quiet i (act.Lock i) tt)
    of_library c.LockAttempt shape (value.Scalar (scalar.Lock i) ∷ []) = quiet _ (locked_quiet i (act.Attempt i) tt)
    of_library c.Unlock shape (value.Scalar (scalar.Lock i) ∷ []) = quiet _ (locked_quiet i (act.Unlock i) tt)
    of_library c.LockFree shape (value.Scalar (scalar.Lock i) ∷ []) =
        quiet _ (either_quiet (i == 0) (Gives zero) (l.asks (act.LockFree i)) (gives_quiet zero)
        (asks_quiet (act.LockFree i) tt))
    of_library c.AllLockFree shape (value.Scalar (scalar.Lock i) ∷ []) =
        quiet _ (asks_quiet (act.Meet 4 (scalar.Lock i ∷ [])) (omega arith))
    of_library c.Memcpy shape (dst ∷ src ∷ value.Scalar (scalar.Int n) ∷ []) =
        quiet _ (valued_quiet _ (copy_quiet threads shapes None (l.area_of dst) (l.area_of src) (unsigned_abs n)))
    of_library c.Memget shape (dst ∷ src ∷ value.Scalar (scalar.Int n) ∷ []) =
        quiet _ (valued_quiet _ (copy_quiet threads shapes (l.private_shape threads shapes me private (l.area_of dst))
        (l.area_of dst) (l.area_of src) (unsigned_abs n)))
    of_library c.Memput shape (dst ∷ src ∷ value.Scalar (scalar.Int n) ∷ []) =
        quiet _ (valued_quiet _ (copy_quiet threads shapes (l.private_shape threads shapes me private (l.area_of src))
        (l.area_of dst) (l.area_of src) (unsigned_abs n)))
    of_library c.Memset shape (dst ∷ value.Scalar (scalar.Int k) ∷ value.Scalar (scalar.Int n) ∷ []) =
        quiet _ (valued_quiet _ (set_quiet threads shapes None (l.area_of dst)
        (unsigned_abs (converted kind.UChar k)) (unsigned_abs n)))
    of_library c.Broadcast shape args = met 5 args
    of_library c.Scatter shape args = met 6 args
    of_library c.Gather shape args = met 7 args
    of_library c.GatherAll shape args = met 8 args
    of_library c.Exchange shape args = met 9 args
    of_library c.Permute shape args = met 10 args
    of_library (c.Reduce k) shape args = met 11 (l.with_element k args)
    of_library (c.PrefixReduce k) shape args = met 12 (l.with_element k args)
    of_library call shape args = quiet _ (gives_quiet zero)
