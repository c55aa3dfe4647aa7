-- The collective calls 5 to 12 as what each thread does (UPC 7.3): tests, one Meet, a barrier, the work, a barrier.
use Rattle.std.specs.Prelude.{ℕ, ◌+◌, ◌*◌, ◌/◌, ◌%◌, ◌==◌, nat_lt, ℤ, pos, int_le, int_lt, unsigned_abs, Bool, true}
use Rattle.std.specs.Prelude.{false, not, ◌&&◌, ◌||◌, cond, List, [], ◌∷◌, ◌++◌, map, Option, Some, is_none, Result}
use Rattle.std.specs.Prelude.{Ok, Err}
use Rattle.std.specs.List.{list_any, range_with_len, position_or_len}
use Rattle.std.specs.Ordering.{int_eq}
use Rattle.block_layout.specs.declared.place.SharedPtr.{SharedPtr}
use Rattle.block_layout.specs.declared.kind.Kind.{Kind}
use Rattle.block_layout.specs.declared.kind.Kind.TheVariants as kind
use Rattle.block_layout.specs.declared.kind.Shape.{Shape}
use Rattle.block_layout.specs.declared.run_error.TheConstants.{NULL_ACCESS, OUT_OF_OBJECT, POINTER_RANGE, CELL_TYPE}
use Rattle.block_layout.specs.declared.run_error.TheConstants.{LIBRARY_ARGS}
use Rattle.block_layout.specs.Pointers.{is_null, location}
use Rattle.block_layout.specs.Shapes.{kind_size}
use Rattle.upc_values.specs.declared.scalar.Scalar.{Scalar}
use Rattle.upc_values.specs.declared.scalar.Scalar.TheVariants.{Int}
use Rattle.upc_values.specs.declared.action.Action.TheVariants as act
use Rattle.upc_values.specs.Calls.{Way, Broadcast, Scatter, Gather, Gather_all, Exchange, Call, Copies, Permutes}
use Rattle.upc_values.specs.Calls.{Reduces, Reduces_prefixes, call_of}
use Rattle.upc_values.specs.History.{each_thread}
use Rattle.upc_values.specs.Reductions.{Reduction, reduction, step, element_kind}
use Rattle.upc_values.specs.Expansion.{Expansion, Gives, Fails, Reads, nothing, bind, does, barrier, each_in_turn}
use Rattle.upc_values.specs.Expansion.{gathered, refused_by}
use Rattle.upc_values.specs.Views.{destination, source, byte_at, from_phase_0, with_block, element, location_behind}
use Rattle.block_layout.specs.Cells.{same_cells}
use Rattle.upc_values.specs.Views.{leaves_range, leaves_piece, cuts_cell, cells_within, shape_at, is_cell}

-- A group of flags: none, or NOSYNC 1, MYSYNC 2 or ALLSYNC 4; those of the exit are 8 times as much (UPC 7.3).
abbrev pub is_sync : ℕ → Bool
is_sync f = (f == 0) || ((f == 1) || ((f == 2) || (f == 4)))

-- The flags of a call are at most one of each group, and no other bits (UPC 7.3).
abbrev pub are_flags : ℤ → Bool
are_flags f = int_le (pos 0) f && (int_lt f (pos 64) && (is_sync (unsigned_abs f % 8) && is_sync (unsigned_abs f / 8)))

-- The barrier at the entry of a call, unless its flags say NOSYNC (UPC 7.3).
abbrev pub entry : ℤ → Expansion (Unit {0})
entry f = cond (unsigned_abs f % 8 == 1) nothing barrier

-- The barrier at the exit of a call, unless its flags say NOSYNC (UPC 7.3).
abbrev pub exit : ℤ → Expansion (Unit {0})
exit f = cond (unsigned_abs f / 8 == 1) nothing barrier

-- The size is more than 16,777,216, which is the most that a call takes.
abbrev pub is_large : ℕ → Bool
is_large n = nat_lt 16777216 n

-- The destination of a copying call begins on thread 0, but for a gather (UPC 7.3).
abbrev pub is_destination : Way → SharedPtr → Bool
is_destination Gather p = true
is_destination w p = p.thread == 0

-- The source of a copying call begins on thread 0, but for a broadcast and a scatter (UPC 7.3).
abbrev pub is_source : Way → SharedPtr → Bool
is_source Broadcast p = true
is_source Scatter p = true
is_source w p = p.thread == 0

-- The arguments are such as calls 5 to 9 take: flags, a size in range, and pointers to where their arrays begin
-- (UPC 7.3).
abbrev pub are_copy_args : Way → SharedPtr → SharedPtr → ℕ → ℤ → Bool
are_copy_args w dst src n f = are_flags f && (not (is_large n) && (is_destination w dst && is_source w src))

-- The arguments are such as call 10 takes: flags, a size in range, and pointers to thread 0 (UPC 7.3).
abbrev pub are_permute_args : SharedPtr → SharedPtr → SharedPtr → ℕ → ℤ → Bool
are_permute_args dst src perm n f =
    are_flags f && (not (is_large n) && ((dst.thread == 0) && ((src.thread == 0) && (perm.thread == 0))))

-- With a block, the phase of a reduction's operand is below it.
abbrev pub is_phase : SharedPtr → ℕ → Bool
is_phase p blk = (blk == 0) || nat_lt p.phase blk

-- The arguments are such as calls 11 and 12 take: flags, a known operator, at least one element, and sizes in range
-- (UPC 7.3).
abbrev pub are_reduction_args : SharedPtr → ℤ → ℕ → ℕ → ℤ → Bool
are_reduction_args src op n blk f =
    are_flags f
    && (not (is_none (reduction op))
    && (not (n == 0) && (not (is_large n) && (not (is_large blk) && is_phase src blk))))

-- In a prefix reduction the destination begins at the same element as the source.
abbrev pub is_aligned : SharedPtr → SharedPtr → ℕ → Bool
is_aligned dst src blk = (dst.thread == src.thread) && ((blk == 0) || (dst.phase == src.phase))

-- Where a part of n bytes is copied to, and where from.
pub record Part : Type 0 where
  pub into : SharedPtr
  pub from : SharedPtr

-- The part that is copied from one pointer to another.
abbrev pub part : SharedPtr → SharedPtr → Part
part into from = record { into = into; from = from }

-- Thread `me` of so many, with the program's shapes.
module _ (threads : ℕ) (shapes : List Shape) (me : ℕ) where
  -- The numbers of all threads.
  abbrev pub all_threads : List ℕ
  all_threads = range_with_len 0 threads

  -- The pointer to byte x of the destination of a copying call.
  abbrev pub into : Way → SharedPtr → ℕ → ℕ → SharedPtr
  into w dst n x = byte_at dst (destination w threads n).block threads x

  -- The pointer to byte x of the source of a copying call.
  abbrev pub from : Way → SharedPtr → ℕ → ℕ → SharedPtr
  from w src n x = byte_at src (source w threads n).block threads x

  -- The part of a copying call that goes from this byte of the source to this byte of the destination.
  abbrev pub goes : Way → SharedPtr → SharedPtr → ℕ → ℕ → ℕ → Part
  goes w dst src n y x = part (into w dst n x) (from w src n y)

  -- The parts of n bytes that the thread copies in a copying call (UPC 7.3).
  abbrev pub parts : Way → SharedPtr → SharedPtr → ℕ → List Part
  -- the source to the thread's block
  parts Broadcast dst src n = goes Broadcast dst src n 0 (me * n) ∷ []
  -- the thread's part of the source to its block
  parts Scatter dst src n = goes Scatter dst src n (me * n) (me * n) ∷ []
  -- each block to its part, by the thread of the destination
  parts Gather dst src n = cond (dst.thread == me) (map (λ i. goes Gather dst src n (i * n) (i * n)) all_threads) []
  -- each block to its part of the thread's block
  parts Gather_all dst src n =
      map (λ i. goes Gather_all dst src n (i * n) (me * (n * threads) + i * n)) all_threads
  -- the thread's part of each block to that block's part of the thread's
  parts Exchange dst src n =
      map (λ j. goes Exchange dst src n (j * (n * threads) + me * n) (me * (n * threads) + j * n)) all_threads

  -- A cell is cut at either end of n bytes from a pointer on.
  abbrev pub cut : ℕ → SharedPtr → Bool
  cut n p = cuts_cell (shape_at shapes p) (unsigned_abs p.offset) n

  -- The cells in n bytes from a pointer on.
  abbrev pub cells : ℕ → SharedPtr → List (ℕ × Kind)
  cells n p = cells_within (shape_at shapes p) (unsigned_abs p.offset) n

  -- A part cuts cells, or its two sides differ in the place or the kind of a cell.
  abbrev pub differ : ℕ → Part → Bool
  differ n x = cut n x.into || (cut n x.from || not (same_cells (cells n x.into) (cells n x.from)))

  -- The cells of a part are read and written one by one, ascending.
  abbrev pub copied : ℕ → Part → Expansion (Unit {0})
  copied n x =
      each_in_turn
      (λ c. Reads (location_behind x.from c.0) c.1 (λ v. does (act.Write false (location_behind x.into c.0) v)))
      (cells n x.into)

  -- The work of calls 5 to 9: all ranges are tested, then the parts are copied.
  abbrev pub move : ℕ → List Part → Expansion (Unit {0})
  move n xs =
      refused_by
      ((list_any (λ x. leaves_range n x.into || leaves_range n x.from) xs, POINTER_RANGE)
      ∷ (list_any (λ x. leaves_piece threads n x.into || leaves_piece threads n x.from) xs, OUT_OF_OBJECT)
      ∷ (list_any (differ n) xs, CELL_TYPE)
      ∷ [])
      (each_in_turn (copied n) xs)

  -- Work that is done where there is at least one byte.
  abbrev pub some_bytes : ℕ → Expansion (Unit {0}) → Expansion (Unit {0})
  some_bytes n work = cond (n == 0) nothing work

  -- The read of an element of a view as an integer; what is none counts as 0.
  abbrev pub number_at : Kind → SharedPtr → Expansion ℤ
  number_at k p = Reads (location p) k (λ v. Gives (elim v [ Int i ↦ i | _ ↦ pos 0 ]))

  -- The write of an integer to an element of a view.
  abbrev pub number_put : SharedPtr → ℤ → Expansion (Unit {0})
  number_put p v = does (act.Write false (location p) (Int v))

  -- What is done with the elements of a view, after the test that each is a cell of this kind.
  abbrev pub are_cells : Kind → List SharedPtr → Expansion (Unit {0}) → Expansion (Unit {0})
  are_cells k ps go =
      refused_by
      ((list_any (leaves_range (kind_size k)) ps, POINTER_RANGE)
      ∷ (list_any (leaves_piece threads (kind_size k)) ps, OUT_OF_OBJECT)
      ∷ (list_any (λ p. not (is_cell shapes k p)) ps, CELL_TYPE)
      ∷ [])
      go

  -- The part by which block i of the source goes to the thread's block, where element i of the permutation is the
  -- thread's number.
  abbrev pub chosen : SharedPtr → SharedPtr → ℕ → List ℤ → Part
  chosen dst src n vs =
      part (byte_at dst n threads (me * n)) (byte_at src n threads (position_or_len (λ v. int_eq v (pos me)) vs * n))

  -- What upc_all_permute does on a thread: it tests the elements of the permutation, one int for each thread, and the
  -- thread's block, reads the permutation and tests that the number of each thread is in it, and copies (UPC 7.3).
  abbrev pub permute : SharedPtr → SharedPtr → SharedPtr → ℕ → Expansion (Unit {0})
  permute dst src perm n =
      let ps = map (λ i. element (from_phase_0 perm) 1 4 threads i) all_threads in
      let own = byte_at dst n threads (me * n) in
      let some = not (n == 0) in
      let go : List ℤ → Expansion (Unit {0}) = λ vs. some_bytes n (move n (chosen dst src n vs ∷ [])) in
      refused_by
      ((list_any (leaves_range 4) ps || (some && leaves_range n own), POINTER_RANGE)
      ∷ (list_any (leaves_piece threads 4) ps || (some && leaves_piece threads n own), OUT_OF_OBJECT)
      ∷ (list_any (λ p. not (is_cell shapes kind.Int p)) ps || (some && cut n own), CELL_TYPE)
      ∷ [])
      (bind (gathered (number_at kind.Int) ps) (λ vs.
      refused_by ((not (each_thread threads (λ t. list_any (λ v. int_eq v (pos t)) vs)), LIBRARY_ARGS) ∷ []) (go vs)))

  -- The pointers to the first n elements of the view of a reduction's operand.
  abbrev pub operands : SharedPtr → ℕ → ℕ → ℕ → List SharedPtr
  operands p blk k n = map (element (with_block p blk) blk (kind_size (element_kind k)) threads) (range_with_len 0 n)

  -- The value of a step of a reduction, or its run error.
  abbrev pub outcome : Result ℤ ℕ → Expansion ℤ
  outcome (Ok v) = Gives v
  outcome (Err c) = Fails c

  -- What upc_all_reduce does from a value on: the elements left are read, ascending, and joined to the value so far,
  -- which is written once (UPC 7.3).
  abbrev pub total : Reduction → Kind → ℤ → SharedPtr → List SharedPtr → Expansion (Unit {0})
  total op k a dst [] = number_put dst a
  total op k a dst (p ∷ ps) =
      bind (number_at k p) (λ v. bind (outcome (step op k a v)) (λ b. total op k b dst ps))

  -- What upc_all_reduce does with its elements, of which the first is the value to begin with (UPC 7.3).
  abbrev pub reduce : Option Reduction → Kind → SharedPtr → List SharedPtr → Expansion (Unit {0})
  reduce (Some op) k dst (p ∷ ps) = bind (number_at k p) (λ v. total op k v dst ps)
  reduce op k dst ps = nothing

  -- What upc_all_prefix_reduce does from a value on: each element left is read and joined to the value so far, which is
  -- written to its place, ascending (UPC 7.3).
  abbrev pub totals : Reduction → Kind → ℤ → List Part → Expansion (Unit {0})
  totals op k a [] = nothing
  totals op k a (x ∷ xs) =
      bind (number_at k x.from) (λ v.
      bind (outcome (step op k a v)) (λ b. bind (number_put x.into b) (λ u. totals op k b xs)))

  -- What upc_all_prefix_reduce does with its elements, of which the first is written as it is (UPC 7.3).
  abbrev pub reduce_prefixes : Option Reduction → Kind → List Part → Expansion (Unit {0})
  reduce_prefixes (Some op) k (x ∷ xs) =
      bind (number_at k x.from) (λ v. bind (number_put x.into v) (λ u. totals op k v xs))
  reduce_prefixes op k xs = nothing

  -- The parts of a destination and a source, element by element.
  abbrev pub paired : List SharedPtr → List SharedPtr → List Part
  paired (p ∷ ps) (q ∷ qs) = part p q ∷ paired ps qs
  paired ps qs = []

  -- What a collective call does on this thread between its barriers (UPC 7.3).
  abbrev pub work : Call → Expansion (Unit {0})
  work (Copies w dst src n f) = some_bytes n (move n (parts w dst src n))
  work (Permutes dst src perm n f) = permute dst src perm n
  work (Reduces dst src op n blk k f) =
      let from = operands src blk k n in
      let reduction = reduce (reduction op) (element_kind k) dst from in
      cond (dst.thread == me) (are_cells (element_kind k) (dst ∷ from) reduction) nothing
  work (Reduces_prefixes dst src op n blk k f) =
      let into = operands dst blk k n in
      let from = operands src blk k n in
      let reduction = reduce_prefixes (reduction op) (element_kind k) (paired into from) in
      cond (dst.thread == me) (are_cells (element_kind k) (into ++ from) reduction) nothing
  work call = nothing

  -- The tests of a collective call's arguments, in order, each with its run error.
  abbrev pub tests : Call → List (Bool × ℕ)
  tests (Copies w dst src n f) =
      (is_null dst || is_null src, NULL_ACCESS) ∷ (not (are_copy_args w dst src n f), LIBRARY_ARGS) ∷ []
  tests (Permutes dst src perm n f) =
      (is_null dst || (is_null src || is_null perm), NULL_ACCESS)
      ∷ (not (are_permute_args dst src perm n f), LIBRARY_ARGS) ∷ []
  tests (Reduces dst src op n blk k f) =
      (is_null dst || is_null src, NULL_ACCESS) ∷ (not (are_reduction_args src op n blk f), LIBRARY_ARGS) ∷ []
  tests (Reduces_prefixes dst src op n blk k f) =
      (is_null dst || is_null src, NULL_ACCESS)
      ∷ (not (are_reduction_args src op n blk f && (is_phase dst blk && is_aligned dst src blk)), LIBRARY_ARGS) ∷ []
  tests call = []

  -- The flags of a collective call.
  abbrev pub flags_of : Call → ℤ
  flags_of (Copies w dst src n f) = f
  flags_of (Permutes dst src perm n f) = f
  flags_of (Reduces dst src op n blk k f) = f
  flags_of (Reduces_prefixes dst src op n blk k f) = f
  flags_of call = pos 0

  -- What the thread does in collective call c, from 5 to 12, with these arguments (UPC 7.3).
  abbrev pub collective : ℕ → List Scalar → Expansion (Unit {0})
  collective c args =
      let call = call_of c args in
      let f = flags_of call in
      refused_by (tests call)
      (bind (does (act.Meet c args)) (λ u. bind (entry f) (λ v. bind (work call) (λ w. exit f))))
