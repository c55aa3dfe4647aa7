-- The calls of the library read scalars of private cells, and write to them what fits.
use Rattle.std.proofs.Common.{◌≡◌, ℕ, zero, suc, ◌+◌, ◌==◌, ◌∷◌, Bool, true, false, not, ◌&&◌, ◌||◌, cond}
use Rattle.std.proofs.Common.{List, [], ◌++◌, Option, Some, None, refl, subst}
use Rattle.std.proofs.Math.IntN.{ℤ, pos}
use Rattle.std.specs.Prelude.{Result, Ok, Err, unsigned_abs, ◌%◌, ◌/◌, ◌*◌, if◌then◌else◌, nat_le, slice_get}
use Rattle.std.specs.List.{list_any, filter_map, cons_option, range_with_len}
use Rattle.block_layout.specs.declared.place.SharedPtr.{SharedPtr}
use Rattle.block_layout.specs.declared.kind.Kind.{Kind}
use Rattle.block_layout.specs.declared.kind.Kind.TheVariants as kind
use Rattle.block_layout.specs.declared.kind.Shape.{Shape}
use Rattle.block_layout.specs.declared.run_error.TheConstants.{NULL_ACCESS, OUT_OF_OBJECT, PRIVATE_RANGE}
use Rattle.block_layout.specs.declared.run_error.TheConstants.{POINTER_RANGE, CELL_TYPE, LIBRARY_ARGS}
use Rattle.block_layout.specs.Cells.{is_private, same_cells}
use Rattle.block_layout.specs.Lists.{under}
use Rattle.block_layout.specs.Pieces.{piece_of}
use Rattle.block_layout.specs.Pointers.{is_null, location, null}
use Rattle.block_layout.specs.Shapes.{kind_size}
use Rattle.integers.specs.Integers.{converted}
use Rattle.upc_values.specs.declared.scalar.Scalar.{Scalar}
use Rattle.upc_values.specs.declared.scalar.Scalar.TheVariants as scalar
use Rattle.upc_values.specs.declared.scalar.Value.{Value}
use Rattle.upc_values.specs.declared.scalar.Value.TheVariants as value
use Rattle.upc_values.specs.declared.scalar.Mark.TheVariants.{Absent}
use Rattle.upc_values.specs.declared.action.Action.{Action}
use Rattle.upc_values.specs.declared.action.Action.TheVariants as act
use Rattle.upc_values.specs.declared.action.Reply.{Reply}
use Rattle.upc_values.specs.declared.action.Reply.TheVariants as reply
use Rattle.upc_values.specs.declared.library.LibraryCall.{LibraryCall}
use Rattle.upc_values.specs.declared.library.LibraryCall.TheVariants as c
use Rattle.upc_values.specs.Lists.{Each}
use Rattle.upc_values.specs.Calls.{Call, Allocates, Makes_lock, Frees, Frees_lock, Copies, Permutes, Reduces}
use Rattle.upc_values.specs.Calls.{Reduces_prefixes, Other, call_of}
use Rattle.upc_values.specs.Reductions.{Reduction, reduction, step, element_kind}
use Rattle.upc_values.specs.Expansion.{Expansion, Gives, Fails, Reads, Asks, Loads, Stores, bind, nothing}
use Rattle.upc_values.specs.layer.Parts as named
use Rattle.upc_values.specs.Expansion.{does, barrier, each_in_turn, gathered, refused_by}
use Rattle.upc_values.specs.Copying as m
use Rattle.upc_values.specs.Copying.{Area, Nowhere, In_shared, In_private}
use Rattle.upc_values.specs.Views.{location_behind, leaves_range, is_cell, byte_at, shape_at}
use Rattle.upc_values.specs.History.{each_thread}
use Rattle.upc_values.specs.Shapes.{is_integer, fits_kind, kind_at}
use Rattle.upc_values.specs.Scalars as sc
use Rattle.upc_values.specs.Formed.{is_whole}
use Rattle.upc_values.specs.Expansions as x
use Rattle.upc_values.specs.Expansions.{Part}
use Rattle.upc_values.specs.LibraryCalls as l
use Rattle.typing_rules.specs.declared.library.LibraryParameter.TheVariants as parameter
use Rattle.typing_rules.specs.Library.{call_parameters}
use Rattle.typed_tree.specs.Programs.{start_of}
use Rattle.meaning_laws.specs.layer.Uses.{IsArgument, AreArguments}
use Rattle.meaning_laws.specs.layer.Copies.{TakesCells}
use Rattle.meaning_laws.specs.code.Laws.{CopiesFit}
use Rattle.meaning_laws.proofs.Operations.{read_brings, load_private_brings}
use Rattle.meaning_laws.proofs.Scalars.{IsSharable, program_sharable, scalar_there}

-- A call of the library is so.
pub record Takes (A : Type 0) (e : Expansion A) : Type 0 where
  pub by : TakesCells e

bind_takes : {A B : Type 0} (e : Expansion A) (f : A → Expansion B) → TakesCells e → ((v : A) → TakesCells (f v))
    → TakesCells (bind e f)
bind_takes (Gives v) f h g = g v
bind_takes (Fails code) f h g = tt
bind_takes (Reads l k after) f h g = λ v i. bind_takes (after v) f (h v i) g
bind_takes (Asks a after) f h g = λ r. bind_takes (after r) f (h r) g
bind_takes (Loads p k after) f h g = λ v i. let s = h v i in (s.0, s.1, bind_takes (after s.0) f s.2 g)
bind_takes (Stores p k v after) f h g = (h.0, bind_takes after f h.1 g)

cond_takes : {A : Type 0} (t : Bool) (e f : Expansion A) → Takes A e → Takes A f → Takes A (cond t e f)
cond_takes true e f he hf = he
cond_takes false e f he hf = hf

fails_takes : {A : Type 0} (t : Bool) (code : ℕ) (f : Expansion A) → Takes A f → Takes A (cond t (Fails code) f)
fails_takes t code f hf = cond_takes t (Fails code) f (record { by = tt }) hf

refused_by_takes : {A : Type 0} (tests : List (Bool × ℕ)) (e : Expansion A) → Takes A e → Takes A (refused_by tests e)
refused_by_takes [] e h = h
refused_by_takes (t ∷ ts) e h = fails_takes t.0 t.1 (refused_by ts e) (refused_by_takes ts e h)

then_takes : {A B : Type 0} (e : Expansion A) (f : A → Expansion B) → Takes A e → ((v : A) → Takes B (f v))
    → Takes B (bind e f)
then_takes e f h g = record { by = bind_takes e f h.by (λ v. (g v).by) }

unless_takes : (r : Reply) → TakesCells (named.unless_refused r)
unless_takes reply.Done = tt
unless_takes (reply.Value v) = tt
unless_takes (reply.Flag v) = tt
unless_takes (reply.Refused code) = tt

does_takes : (a : Action) → Takes (Unit {0}) (does a)
does_takes a = record { by = unless_takes }

nothing_takes : Takes (Unit {0}) nothing
nothing_takes = record { by = tt }

barrier_takes : Takes (Unit {0}) barrier
barrier_takes =
    then_takes (does (act.Notify Absent)) (λ u. does (act.Wait Absent)) (does_takes (act.Notify Absent)) (λ u.
    does_takes (act.Wait Absent))

all_take : {X : Type 0} (P : X → Type 0) (f : X → Expansion (Unit {0})) (xs : List X) → Each P xs
    → ((v : X) → P v → Takes (Unit {0}) (f v)) → Takes (Unit {0}) (each_in_turn f xs)
all_take P f [] e h = nothing_takes
all_take P f (v ∷ vs) e h = then_takes (f v) (λ u. each_in_turn f vs) (h v e.0) (λ u. all_take P f vs e.1 h)

each_takes : {X : Type 0} (f : X → Expansion (Unit {0})) (xs : List X) → ((v : X) → Takes (Unit {0}) (f v))
    → Takes (Unit {0}) (each_in_turn f xs)
each_takes f [] h = nothing_takes
each_takes f (v ∷ vs) h = then_takes (f v) (λ u. each_in_turn f vs) (h v) (λ u. each_takes f vs h)

gathered_takes : {X Y : Type 0} (f : X → Expansion Y) (xs : List X) → ((v : X) → Takes Y (f v))
    → Takes (List Y) (gathered f xs)
gathered_takes f [] h = record { by = tt }
gathered_takes f (v ∷ vs) h =
    then_takes (f v) (λ y. bind (gathered f vs) (λ ys. Gives (y ∷ ys))) (h v) (λ y.
    then_takes (gathered f vs) (λ ys. Gives (y ∷ ys)) (gathered_takes f vs h) (λ ys. record { by = tt }))

-- ---- cells of shared objects

-- The cell is no pointer to a private object.
abbrev IsOpen : ℕ × Kind → Type 0
IsOpen c = is_private c.1 ≡ false

under_open : (n : ℕ) (cells : List (ℕ × Kind)) (k : Kind) → Each IsOpen cells → under n cells ≡ Some k
    → is_private k ≡ false
under_open n [] k h e = absurd cc
under_open n (c ∷ cells) k h e = by (c.0 == n) e (under_open n cells k h.1)
  where
    by : (b : Bool) → cond b (Some c.1) (under n cells) ≡ Some k
        → (under n cells ≡ Some k → is_private k ≡ false) → is_private k ≡ false
    by true q later = let same : c.1 ≡ k = cc in subst (λ (i : Kind). is_private i ≡ false) same h.0
    by false q later = later q

module _ (shapes : List Shape) (sharable : Each IsSharable shapes) where
  at_open : (xs : List Shape) (i n : ℕ) (k : Kind) → Each IsSharable xs → kind_at (slice_get xs i) n ≡ Some k
      → is_private k ≡ false
  at_open [] i n k h e = absurd cc
  at_open (s ∷ xs) zero n k h e = under_open (n % s.size) s.cells k h.0 e
  at_open (s ∷ xs) (suc i) n k h e = at_open xs i n k h.1 e

  placed_open : (i : ℕ) (o : Option Kind) (rest : List (ℕ × Kind)) → ((k : Kind) → o ≡ Some k → is_private k ≡ false)
      → Each IsOpen rest → Each IsOpen (cons_option (named.placed_kind i o) rest)
  placed_open i (Some k) rest h g = (h k refl, g)
  placed_open i None rest h g = g

  -- The cells in some bytes of a shared object.
  cells_open : (p : SharedPtr) (first : ℕ) (places : List ℕ)
      → Each IsOpen (filter_map (λ i. named.placed_kind i (kind_at (shape_at shapes p) (first + i))) places)
  cells_open p first [] = tt
  cells_open p first (i ∷ places) =
      placed_open i (kind_at (shape_at shapes p) (first + i)) _
      (λ k e. at_open shapes p.object.shape (first + i) k sharable e) (cells_open p first places)

  none_open : (first : ℕ) (places : List ℕ)
      → Each IsOpen (filter_map (λ i. named.placed_kind i (kind_at None (first + i))) places)
  none_open first [] = tt
  none_open first (i ∷ places) = none_open first places

  -- ---- memory calls

  -- The area is in no private object.
  abbrev IsSharedArea : Area → Type 0
  IsSharedArea (In_private object offset) = ⊥
  IsSharedArea a = Unit {0}

  module _ (threads : ℕ) (private : Option Shape) where
    written_takes : (dst : Area) (cell : ℕ × Kind) (v : Scalar) → fits_kind v cell.1 ≡ true
        → Takes (Unit {0}) (m.written threads shapes private dst cell v)
    written_takes Nowhere cell v h = nothing_takes
    written_takes (In_shared p) cell v h = does_takes (act.Write false (location_behind p cell.0) v)
    written_takes (In_private object offset) cell v h = record { by = (h, tt) }

    shared_written_takes : (dst : Area) (cell : ℕ × Kind) (v : Scalar) → IsSharedArea dst
        → Takes (Unit {0}) (m.written threads shapes private dst cell v)
    shared_written_takes Nowhere cell v h = nothing_takes
    shared_written_takes (In_shared p) cell v h = does_takes (act.Write false (location_behind p cell.0) v)
    shared_written_takes (In_private object offset) cell v h = absurd h

    -- A cell of a shared object is copied.
    from_shared_takes : (dst src : Area) (cell : ℕ × Kind) → IsSharedArea src
        → Takes (Unit {0}) (m.copied threads shapes private dst src cell)
    from_shared_takes dst Nowhere cell h = nothing_takes
    from_shared_takes dst (In_shared p) cell h = record { by = λ v i. (written_takes dst cell v i).by }
    from_shared_takes dst (In_private object offset) cell h = absurd h

    -- A cell is copied into a shared object.
    into_shared_takes : (dst src : Area) (cell : ℕ × Kind) → IsSharedArea dst → IsOpen cell
        → Takes (Unit {0}) (m.copied threads shapes private dst src cell)
    into_shared_takes dst Nowhere cell h o = nothing_takes
    into_shared_takes dst (In_shared p) cell h o = record { by = λ v i. (written_takes dst cell v i).by }
    into_shared_takes dst (In_private object offset) cell h o =
        record {
          by = λ v i.
              let s = scalar_there cell.1 v o i in
              (s.0, s.1, (shared_written_takes dst cell s.0 h).by);
        }

    area_open : (n : ℕ) (dst : Area) → IsSharedArea dst → Each IsOpen (m.cells threads shapes private n dst)
    area_open n Nowhere h = none_open 0 (range_with_len 0 n)
    area_open n (In_shared p) h = cells_open p (unsigned_abs p.offset) (range_with_len 0 n)
    area_open n (In_private object offset) h = absurd h

    -- A copy whose cells are taken, after its tests.
    copy_by : (dst src : Area) (n : ℕ)
        → Takes (Unit {0}) (each_in_turn (m.copied threads shapes private dst src)
        (m.cells threads shapes private n dst))
        → Takes (Unit {0}) (m.copy threads shapes private dst src n)
    copy_by dst src n h =
        let f = m.copied threads shapes private dst src in
        let cells = m.cells threads shapes private n dst in
        cond_takes (n == 0) nothing _ nothing_takes
        (refused_by_takes
        ((m.is_nowhere dst || m.is_nowhere src, NULL_ACCESS)
        ∷ (m.leaves_shared threads shapes private n dst || m.leaves_shared threads shapes private n src, OUT_OF_OBJECT)
        ∷ (
          m.leaves_private threads shapes private n dst || m.leaves_private threads shapes private n src,
          PRIVATE_RANGE,
        )
        ∷ (
          m.is_cut threads shapes private n dst || (m.is_cut threads shapes private n src || not
              (same_cells cells (m.cells threads shapes private n src))),
          CELL_TYPE,
        )
        ∷ [])
        (each_in_turn f cells) h)

    copy_from_shared : (dst src : Area) (n : ℕ) → IsSharedArea src
        → Takes (Unit {0}) (m.copy threads shapes private dst src n)
    copy_from_shared dst src n h =
        copy_by dst src n
        (each_takes (m.copied threads shapes private dst src) (m.cells threads shapes private n dst) (λ cell.
        from_shared_takes dst src cell h))

    copy_into_shared : (dst src : Area) (n : ℕ) → IsSharedArea dst
        → Takes (Unit {0}) (m.copy threads shapes private dst src n)
    copy_into_shared dst src n h =
        copy_by dst src n
        (all_take IsOpen (m.copied threads shapes private dst src) (m.cells threads shapes private n dst)
        (area_open n dst h) (λ cell o. into_shared_takes dst src cell h o))

    set_takes : (dst : Area) (k n : ℕ) → IsSharedArea dst → Takes (Unit {0}) (m.set threads shapes private dst k n)
    set_takes dst k n h =
        let f : ℕ × Kind → Expansion (Unit {0}) = λ v. m.written threads shapes private dst v (m.filled k v.1) in
        let cells = m.cells threads shapes private n dst in
        cond_takes (n == 0) nothing _ nothing_takes
        (refused_by_takes
        ((m.is_nowhere dst, NULL_ACCESS)
        ∷ (m.leaves_shared threads shapes private n dst, OUT_OF_OBJECT)
        ∷ (m.leaves_private threads shapes private n dst, PRIVATE_RANGE)
        ∷ (m.is_cut threads shapes private n dst || list_any (λ v. not (is_integer v.1)) cells, CELL_TYPE)
        ∷ [])
        (each_in_turn f cells) (each_takes f cells (λ v. shared_written_takes dst v (m.filled k v.1) h)))

  shared_area_is : (p : SharedPtr) → IsSharedArea (named.shared_area p)
  shared_area_is p = by (is_null p)
    where
      by : (b : Bool) → IsSharedArea (cond b Nowhere (In_shared p))
      by true = tt
      by false = tt

-- ---- collective calls 5 to 12

module _ (threads : ℕ) (shapes : List Shape) (me : ℕ) where
  put_takes : (p : SharedPtr) (v : ℤ) → Takes (Unit {0}) (x.number_put threads shapes me p v)
  put_takes p v = does_takes (act.Write false (location p) (scalar.Int v))

  number_takes : (k : Kind) (p : SharedPtr) → Takes ℤ (x.number_at threads shapes me k p)
  number_takes k p = record { by = λ v i. tt }

  cell_takes : (part : Part) (cell : ℕ × Kind)
      → Takes (Unit {0})
      (Reads (location_behind part.from cell.0) cell.1
      (λ v. does (act.Write false (location_behind part.into cell.0) v)))
  cell_takes part cell = record { by = λ v i. (does_takes (act.Write false (location_behind part.into cell.0) v)).by }

  part_takes : (n : ℕ) (part : Part) → Takes (Unit {0}) (x.copied threads shapes me n part)
  part_takes n part = each_takes _ (x.cells threads shapes me n part.into) (cell_takes part)

  move_takes : (n : ℕ) (parts : List Part) → Takes (Unit {0}) (x.move threads shapes me n parts)
  move_takes n parts =
      refused_by_takes
      ((list_any (λ part. leaves_range n part.into || leaves_range n part.from) parts, POINTER_RANGE)
      ∷ (
        list_any (λ part. named.outside threads shapes me n part.into || named.outside threads shapes me n part.from)
            parts,
        OUT_OF_OBJECT,
      )
      ∷ (list_any (x.differ threads shapes me n) parts, CELL_TYPE)
      ∷ [])
      (each_in_turn (x.copied threads shapes me n) parts)
      (each_takes (x.copied threads shapes me n) parts (part_takes n))

  some_takes : (n : ℕ) (e : Expansion (Unit {0})) → Takes (Unit {0}) e
      → Takes (Unit {0}) (x.some_bytes threads shapes me n e)
  some_takes n e h = cond_takes (n == 0) nothing e nothing_takes h

  cells_takes : (k : Kind) (ps : List SharedPtr) (e : Expansion (Unit {0})) → Takes (Unit {0}) e
      → Takes (Unit {0}) (x.are_cells threads shapes me k ps e)
  cells_takes k ps e h =
      refused_by_takes
      ((list_any (leaves_range (kind_size k)) ps, POINTER_RANGE)
      ∷ (list_any (named.outside threads shapes me (kind_size k)) ps, OUT_OF_OBJECT)
      ∷ (list_any (λ p. not (is_cell shapes k p)) ps, CELL_TYPE)
      ∷ [])
      e h

  permuted_takes : (dst src : SharedPtr) (n : ℕ) (vs : List ℤ)
      → Takes (Unit {0})
      (x.some_bytes threads shapes me n (x.move threads shapes me n (x.chosen threads shapes me dst src n vs ∷ [])))
  permuted_takes dst src n vs = some_takes n (x.move threads shapes me n
      (x.chosen threads shapes me dst src n vs ∷ [])) (move_takes n (x.chosen threads shapes me dst src n vs ∷ []))

  permute_takes : (dst src perm : SharedPtr) (n : ℕ)
      → Takes (Unit {0}) (x.permute threads shapes me dst src perm n)
  permute_takes dst src perm n =
      let read = x.number_at threads shapes me kind.Int in
      let ps = named.permutation threads shapes me perm in
      let own = byte_at dst n threads (me * n) in
      let some = not (n == 0) in
      let go : List ℤ → Expansion (Unit {0}) = λ vs. x.some_bytes threads shapes me n
      (x.move threads shapes me n (x.chosen threads shapes me dst src n vs ∷ [])) in
      let chosen : List ℤ → Expansion (Unit {0}) = λ vs. refused_by
      ((not (each_thread threads (λ t. named.is_at threads shapes me t vs)), LIBRARY_ARGS) ∷ []) (go vs) in
      refused_by_takes
      ((list_any (leaves_range 4) ps || (some && leaves_range n own), POINTER_RANGE)
      ∷ (list_any (named.outside threads shapes me 4) ps || (some && named.outside threads shapes me n own), OUT_OF_OBJECT)
      ∷ (list_any (λ p. not (is_cell shapes kind.Int p)) ps || (some && x.cut threads shapes me n own), CELL_TYPE)
      ∷ [])
      (bind (gathered read ps) chosen)
      (then_takes (gathered read ps) chosen (gathered_takes read ps (number_takes kind.Int)) (λ vs.
      refused_by_takes ((not (each_thread threads (λ t. named.is_at threads shapes me t vs)), LIBRARY_ARGS) ∷ [])
      (go vs) (permuted_takes dst src n vs)))

  outcome_takes : (r : Result ℤ ℕ) → Takes ℤ (x.outcome threads shapes me r)
  outcome_takes (Ok v) = record { by = tt }
  outcome_takes (Err code) = record { by = tt }

  total_takes : (op : Reduction) (k : Kind) (a : ℤ) (dst : SharedPtr) (ps : List SharedPtr)
      → Takes (Unit {0}) (x.total threads shapes me op k a dst ps)
  total_takes op k a dst [] = put_takes dst a
  total_takes op k a dst (p ∷ ps) =
      then_takes (x.number_at threads shapes me k p)
      (λ v. bind (x.outcome threads shapes me (step op k a v)) (λ b. x.total threads shapes me op k b dst ps))
      (number_takes k p) (λ v.
      then_takes (x.outcome threads shapes me (step op k a v)) (λ b. x.total threads shapes me op k b dst ps)
      (outcome_takes (step op k a v)) (λ b. total_takes op k b dst ps))

  reduce_takes : (op : Option Reduction) (k : Kind) (dst : SharedPtr) (ps : List SharedPtr)
      → Takes (Unit {0}) (x.reduce threads shapes me op k dst ps)
  reduce_takes (Some op) k dst (p ∷ ps) =
      then_takes (x.number_at threads shapes me k p) (λ v. x.total threads shapes me op k v dst ps)
      (number_takes k p) (λ v. total_takes op k v dst ps)
  reduce_takes (Some op) k dst [] = nothing_takes
  reduce_takes None k dst ps = nothing_takes

  totals_takes : (op : Reduction) (k : Kind) (a : ℤ) (parts : List Part)
      → Takes (Unit {0}) (x.totals threads shapes me op k a parts)
  totals_takes op k a [] = nothing_takes
  totals_takes op k a (p ∷ ps) =
      then_takes (x.number_at threads shapes me k p.from)
      (λ v. bind (x.outcome threads shapes me (step op k a v))
      (λ b. bind (x.number_put threads shapes me p.into b) (λ u. x.totals threads shapes me op k b ps)))
      (number_takes k p.from) (λ v.
      then_takes (x.outcome threads shapes me (step op k a v))
      (λ b. bind (x.number_put threads shapes me p.into b) (λ u. x.totals threads shapes me op k b ps))
      (outcome_takes (step op k a v)) (λ b.
      then_takes (x.number_put threads shapes me p.into b) (λ u. x.totals threads shapes me op k b ps)
      (put_takes p.into b) (λ u. totals_takes op k b ps)))

  prefixes_takes : (op : Option Reduction) (k : Kind) (parts : List Part)
      → Takes (Unit {0}) (x.reduce_prefixes threads shapes me op k parts)
  prefixes_takes (Some op) k (p ∷ ps) =
      then_takes (x.number_at threads shapes me k p.from)
      (λ v. bind (x.number_put threads shapes me p.into v) (λ u. x.totals threads shapes me op k v ps))
      (number_takes k p.from) (λ v.
      then_takes (x.number_put threads shapes me p.into v) (λ u. x.totals threads shapes me op k v ps)
      (put_takes p.into v) (λ u. totals_takes op k v ps))
  prefixes_takes (Some op) k [] = nothing_takes
  prefixes_takes None k ps = nothing_takes

  work_takes : (call : Call) → Takes (Unit {0}) (x.work threads shapes me call)
  work_takes (Copies w dst src n f) = some_takes n _ (move_takes n (x.parts threads shapes me w dst src n))
  work_takes (Permutes dst src perm n f) = permute_takes dst src perm n
  work_takes (Reduces dst src op n blk k f) =
      let from = x.operands threads shapes me src blk k n in
      let e = x.reduce threads shapes me (reduction op) (element_kind k) dst from in
      cond_takes (dst.thread == me) (x.are_cells threads shapes me (element_kind k) (dst ∷ from) e) nothing
      (cells_takes (element_kind k) (dst ∷ from) e (reduce_takes (reduction op) (element_kind k) dst from))
      nothing_takes
  work_takes (Reduces_prefixes dst src op n blk k f) =
      let into = x.operands threads shapes me dst blk k n in
      let from = x.operands threads shapes me src blk k n in
      let parts = x.paired threads shapes me into from in
      let e = x.reduce_prefixes threads shapes me (reduction op) (element_kind k) parts in
      cond_takes (dst.thread == me) (x.are_cells threads shapes me (element_kind k) (into ++ from) e) nothing
      (cells_takes (element_kind k) (into ++ from) e (prefixes_takes (reduction op) (element_kind k) parts))
      nothing_takes
  work_takes (Allocates n b s) = nothing_takes
  work_takes Makes_lock = nothing_takes
  work_takes (Frees p) = nothing_takes
  work_takes (Frees_lock i) = nothing_takes
  work_takes Other = nothing_takes

  pub collective_takes : (number : ℕ) (args : List Scalar)
      → Takes (Unit {0}) (x.collective threads shapes me number args)
  collective_takes number args =
      let call = call_of number args in
      let f = x.flags_of threads shapes me call in
      refused_by_takes (x.tests threads shapes me call) _
      (then_takes (does (act.Meet number args)) (λ u. bind (x.entry f)
      (λ v. bind (x.work threads shapes me call) (λ w. x.exit f))) (does_takes (act.Meet number args))
      (λ u.
      then_takes (x.entry f) (λ v. bind (x.work threads shapes me call) (λ w. x.exit f))
      (cond_takes (unsigned_abs f % 8 == 1) nothing barrier nothing_takes barrier_takes) (λ v.
      then_takes (x.work threads shapes me call) (λ w. x.exit f) (work_takes call) (λ w.
      cond_takes (unsigned_abs f / 8 == 1) nothing barrier nothing_takes barrier_takes))))

-- ---- all calls

given_takes : (r : Reply) → TakesCells (l.given_by r)
given_takes reply.Done = tt
given_takes (reply.Value v) = tt
given_takes (reply.Flag v) = tt
given_takes (reply.Refused code) = tt

asks_takes : (a : Action) → Takes Scalar (l.asks a)
asks_takes a = record { by = given_takes }

gives_takes : (v : Scalar) → Takes Scalar (Gives v)
gives_takes v = record { by = tt }

valued_takes : (e : Expansion (Unit {0})) → Takes (Unit {0}) e → Takes Scalar (l.gives_zero e)
valued_takes e h = then_takes e (λ u. Gives sc.zero) h (λ u. gives_takes sc.zero)

locked_takes : (i : ℕ) (a : Action) → Takes Scalar (l.with_lock i (l.asks a))
locked_takes i a = fails_takes (i == 0) NULL_ACCESS (l.asks a) (asks_takes a)

either_takes : (t : Bool) (e f : Expansion Scalar) → Takes Scalar e → Takes Scalar f
    → Takes Scalar (if t then e else f)
either_takes true e f he hf = he
either_takes false e f he hf = hf

module _ (threads : ℕ) (shapes : List Shape) (sharable : Each IsSharable shapes) (me : ℕ)
    (private : ℕ → Option Shape) where
  elements_takes : (shape n b : ℕ) (e : Expansion Scalar) → Takes Scalar e
      → Takes Scalar (l.in_elements threads shapes me private shape n b e)
  elements_takes shape n b e h =
      refused_by_takes ((not (n * b == 0) && not (is_whole (slice_get shapes shape) b), CELL_TYPE) ∷ []) e h

  allocation_takes : (home : Option ℕ) (shape n b : ℕ)
      → Takes Scalar (l.allocation threads shapes me private home shape n b)
  allocation_takes home shape n b =
      let e = l.asks (act.Alloc n b home shape) in
      either_takes (n * b == 0) (Gives (scalar.Shared null)) (l.in_elements threads shapes me private shape n b e)
      (gives_takes (scalar.Shared null)) (elements_takes shape n b e (asks_takes (act.Alloc n b home shape)))

  together_takes : (number : ℕ) (args : List Value)
      → Takes Scalar (l.together threads shapes me private number args)
  together_takes number args =
      valued_takes (x.collective threads shapes me number (l.scalars args))
      (collective_takes threads shapes me number (l.scalars args))

  area_is : (v : Value) → IsArgument parameter.SharedPointer v → IsSharedArea shapes sharable (l.area_of v)
  area_is (value.Scalar (scalar.Shared p)) h = shared_area_is shapes sharable p
  area_is (value.Scalar (scalar.Int i)) h = tt
  area_is (value.Scalar (scalar.Lock i)) h = tt
  area_is (value.Local p) h = absurd h

  library_takes : (call : LibraryCall) (shape : ℕ) (args : List Value) → AreArguments (call_parameters call) args
      → Takes Scalar (l.library_call threads shapes me private call shape args)
  library_takes c.ThreadOf shape (value.Scalar (scalar.Shared p) ∷ []) h = gives_takes _
  library_takes c.PhaseOf shape (value.Scalar (scalar.Shared p) ∷ []) h = gives_takes _
  library_takes c.AddressField shape (value.Scalar (scalar.Shared p) ∷ []) h = gives_takes _
  library_takes c.AffinitySize shape (value.Scalar (scalar.Int n) ∷ value.Scalar (scalar.Int b) ∷ value.Scalar
      (scalar.Int t) ∷ []) h =
      refused_by_takes ((
        nat_le threads (unsigned_abs t) ||
            (x.is_large (unsigned_abs n) || x.is_large (unsigned_abs b)),
        LIBRARY_ARGS,
      ) ∷ []) _
      (gives_takes (l.as_size (pos (piece_of (l.laid_out (unsigned_abs n) (unsigned_abs b))
      (unsigned_abs t) threads))))
  library_takes c.GlobalAlloc shape (value.Scalar (scalar.Int n) ∷ value.Scalar (scalar.Int b) ∷ []) h =
      allocation_takes None shape (unsigned_abs n) (unsigned_abs b)
  library_takes c.AllAlloc shape (value.Scalar (scalar.Int n) ∷ value.Scalar (scalar.Int b) ∷ []) h =
      elements_takes shape (unsigned_abs n) (unsigned_abs b) _
      (asks_takes (act.Meet 1 (scalar.Int (pos (unsigned_abs n)) ∷ scalar.Int (pos (unsigned_abs b)) ∷
      scalar.Int (pos shape) ∷ [])))
  library_takes c.Alloc shape (value.Scalar (scalar.Int b) ∷ []) h = allocation_takes (Some me) shape 1
      (unsigned_abs b)
  library_takes c.Free shape (value.Scalar (scalar.Shared p) ∷ []) h =
      either_takes (is_null p) (Gives sc.zero) (l.asks (act.Free p)) (gives_takes sc.zero)
      (asks_takes (act.Free p))
  library_takes c.AllFree shape (value.Scalar (scalar.Shared p) ∷ []) h = asks_takes (act.Meet 3 (scalar.Shared p ∷ []))
  library_takes c.GlobalLockAlloc shape [] h = asks_takes act.LockMake
  library_takes c.AllLockAlloc shape [] h = asks_takes (act.Meet 2 [])
  library_takes c.Lock shape (value.Scalar (scalar.Lock i) ∷ []) h = locked_takes i (act.Lock i)
  library_takes c.LockAttempt shape (value.Scalar (scalar.Lock i) ∷ []) h = locked_takes i (act.Attempt i)
  library_takes c.Unlock shape (value.Scalar (scalar.Lock i) ∷ []) h = locked_takes i (act.Unlock i)
  library_takes c.LockFree shape (value.Scalar (scalar.Lock i) ∷ []) h =
      either_takes (i == 0) (Gives sc.zero) (l.asks (act.LockFree i)) (gives_takes sc.zero)
      (asks_takes (act.LockFree i))
  library_takes c.AllLockFree shape (value.Scalar (scalar.Lock i) ∷ []) h = asks_takes (act.Meet 4 (scalar.Lock i ∷ []))
  library_takes c.Memcpy shape (dst ∷ src ∷ value.Scalar (scalar.Int n) ∷ []) h =
      valued_takes _ (copy_from_shared shapes sharable threads None (l.area_of dst) (l.area_of src) (unsigned_abs n)
      (area_is src h.1.0))
  library_takes c.Memget shape (dst ∷ src ∷ value.Scalar (scalar.Int n) ∷ []) h =
      valued_takes _ (copy_from_shared shapes sharable threads
      (l.private_shape threads shapes me private (l.area_of dst)) (l.area_of dst) (l.area_of src) (unsigned_abs n)
      (area_is src h.1.0))
  library_takes c.Memput shape (dst ∷ src ∷ value.Scalar (scalar.Int n) ∷ []) h =
      valued_takes _ (copy_into_shared shapes sharable threads
      (l.private_shape threads shapes me private (l.area_of src)) (l.area_of dst) (l.area_of src) (unsigned_abs n)
      (area_is dst h.0))
  library_takes c.Memset shape (dst ∷ value.Scalar (scalar.Int k) ∷ value.Scalar (scalar.Int n) ∷ []) h =
      valued_takes _ (set_takes shapes sharable threads None (l.area_of dst)
      (unsigned_abs (converted kind.UChar k)) (unsigned_abs n) (area_is dst h.0))
  library_takes c.Broadcast shape args h = together_takes 5 args
  library_takes c.Scatter shape args h = together_takes 6 args
  library_takes c.Gather shape args h = together_takes 7 args
  library_takes c.GatherAll shape args h = together_takes 8 args
  library_takes c.Exchange shape args h = together_takes 9 args
  library_takes c.Permute shape args h = together_takes 10 args
  library_takes (c.Reduce k) shape args h = together_takes 11 (l.with_element k args)
  library_takes (c.PrefixReduce k) shape args h = together_takes 12 (l.with_element k args)
  library_takes call shape args h = gives_takes sc.zero

pub copies_fit : CopiesFit
copies_fit = record {
  read = λ τ kind strict l. read_brings τ kind strict l;
  loaded = λ τ kind at q. load_private_brings τ kind false at q;
  taken = λ program thread budget private call shape args h.
      (library_takes program.threads (start_of program).shapes (program_sharable program) thread private call shape args
      h).by;
}
