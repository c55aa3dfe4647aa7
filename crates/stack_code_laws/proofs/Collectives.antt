-- The collective calls of UPC 7.3 ask well where their arguments are of their parameters' types, and known.
use Rattle.std.proofs.Common.{◌≡◌, ℕ, zero, suc, ◌+◌, ◌*◌, ◌/◌, ◌%◌, ◌==◌, nat_lt, ℤ, pos, Bool, true, false}
use Rattle.std.proofs.Common.{not, ◌&&◌, ◌||◌, cond, List, [], ◌∷◌, ◌++◌, map, Option, Some, None, refl, sym, ap, subst}
use Rattle.std.proofs.Common.{◌∙◌, arith, lt-ltb}
use Rattle.std.specs.Prelude.{unsigned_abs, Result, Ok, Err}
use Rattle.std.specs.List.{list_any, range_with_len}
use Rattle.std.proofs.lemmas.Bool.{and_parts, and_from, false≢true}
use Rattle.block_layout.specs.declared.kind.Kind.{Kind}
use Rattle.block_layout.specs.declared.place.Loc.{Loc}
use Rattle.block_layout.specs.declared.kind.Kind.TheVariants as kind
use Rattle.block_layout.specs.declared.place.SharedPtr.{SharedPtr}
use Rattle.block_layout.specs.declared.run_error.TheConstants.{OUT_OF_OBJECT, POINTER_RANGE, CELL_TYPE, LIBRARY_ARGS}
use Rattle.block_layout.specs.Floor.{floor_div}
use Rattle.block_layout.specs.Places.{in_range, thread_at}
use Rattle.block_layout.specs.Pointers.{is_null, same_object, location}
use Rattle.block_layout.specs.Shapes.{kind_size}
use Rattle.block_layout.proofs.Numbers.{floor_mod-below}
use Rattle.integers.specs.Integers.{in_kind, promoted}
use Rattle.upc_values.specs.declared.scalar.Scalar.{Scalar}
use Rattle.upc_values.specs.layer.Parts.{copies, is_kind, back_to}
use Rattle.upc_values.specs.layer.Parts as parts
use Rattle.upc_values.specs.declared.scalar.Scalar.TheVariants as scalar
use Rattle.upc_values.specs.declared.scalar.Mark.TheVariants.{Absent}
use Rattle.upc_values.specs.declared.action.Action.{Action}
use Rattle.upc_values.specs.declared.action.Action.TheVariants as act
use Rattle.upc_values.specs.declared.action.Reply.{Reply}
use Rattle.upc_values.specs.Lists.{Each}
use Rattle.upc_values.specs.Shapes.{kind_at, is_integer, fits_kind}
use Rattle.upc_values.specs.Openings.{Opening}
use Rattle.upc_values.specs.History.{each_thread}
use Rattle.upc_values.specs.Calls.{Call, Allocates, Makes_lock, Frees, Frees_lock, Copies, Permutes, Reduces}
use Rattle.upc_values.specs.Calls.{Reduces_prefixes, Other, Way, Broadcast, Scatter, Gather, Gather_all, Exchange}
use Rattle.upc_values.specs.Calls.{is_size, is_int, way_of, call_of}
use Rattle.upc_values.specs.Expansion.{Expansion, Gives, nothing, bind, does, barrier, each_in_turn, gathered}
use Rattle.upc_values.specs.Expansion.{refused_by}
use Rattle.upc_values.specs.Reductions.{Reduction, reduction, step, reduced, element_kind}
use Rattle.upc_values.specs.Views.{from_phase_0, with_block, element, byte_at, leaves_range, leaves_piece}
use Rattle.block_layout.specs.Cells.{same_cells}
use Rattle.upc_values.specs.Views.{shape_at, is_cell, destination, source}
use Rattle.upc_values.specs.Copying.{In_shared}
use Rattle.upc_values.specs.Expansions as x
use Rattle.upc_values.specs.Expansions.{Part}
use Rattle.upc_values.proofs.Membership.{each-append, each-front, each-back}
use Rattle.thread_steps.specs.Library.{is_call}
use Rattle.stack_code_laws.specs.code.Names.{objects_given}
use Rattle.stack_code_laws.proofs.Given.{IsGround, names, knows, is_known, may_call, IsCellThere, IsWellFormed}
use Rattle.stack_code_laws.proofs.KnownValues.{pointer_names}
use Rattle.stack_code_laws.proofs.Numbers.{kind_number}
use Rattle.block_layout.proofs.Found.{kind_is}
use Rattle.private_store.proofs.Places.{some_bytes}
use Rattle.stack_code_laws.proofs.SharedCells.{cell_behind, not_false}
use Rattle.stack_code_laws.proofs.Doings.{Nothing}
use Rattle.stack_code_laws.proofs.Primitives as p
use Rattle.stack_code_laws.proofs.MemoryCalls as m
use Rattle.thread_steps.proofs.Conversions.{converted_in}
use Rattle.stack_code_laws.proofs.MemoryCalls.{neither, cells_same}

-- ---- lists

none_of : {X : Type 0} (t : X → Bool) (xs : List X) → list_any t xs ≡ false → Each (λ y. t y ≡ false) xs
none_of t [] h = tt
none_of t (y ∷ xs) h = let q = neither (t y) (list_any t xs) h in (q.0, none_of t xs q.1)

each_of : {X Y : Type 0} (P : Y → Type 0) (f : X → Y) (xs : List X) → ((y : X) → P (f y)) → Each P (map f xs)
each_of P f [] h = tt
each_of P f (y ∷ xs) h = (h y, each_of P f xs h)

either_each : {X : Type 0} (P : X → Type 0) (b : Bool) (xs : List X) → Each P xs → Each P (cond b xs [])
either_each P true xs h = h
either_each P false xs h = tt

-- ---- numbers of a kind

-- A number of a kind.
abbrev IsOf : Kind → ℤ → Type 0
IsOf k n = in_kind k n ≡ true

integer_element : (n : ℕ) → is_integer (element_kind n) ≡ true
integer_element zero = refl
integer_element (suc zero) = refl
integer_element (suc (suc zero)) = refl
integer_element (suc (suc (suc zero))) = refl
integer_element (suc (suc (suc (suc zero)))) = refl
integer_element (suc (suc (suc (suc (suc zero))))) = refl
integer_element (suc (suc (suc (suc (suc (suc zero)))))) = refl
integer_element (suc (suc (suc (suc (suc (suc (suc zero))))))) = refl
integer_element (suc (suc (suc (suc (suc (suc (suc (suc n)))))))) = refl

zero_of : (k : Kind) → IsOf k (pos 0)
zero_of kind.Char = refl
zero_of kind.UChar = refl
zero_of kind.Short = refl
zero_of kind.UShort = refl
zero_of kind.Int = refl
zero_of kind.UInt = refl
zero_of kind.Long = refl
zero_of kind.ULong = refl
zero_of (kind.Shared n b) = refl
zero_of kind.Lock = refl
zero_of (kind.Private n) = refl

is_kind_some : (k : Kind) (j : Option Kind) → is_kind k j ≡ true → j ≡ Some k
is_kind_some k (Some j) h = ap Some (sym (kind_is k j h))
is_kind_some k None h = absurd (false≢true h)

-- ---- calls

-- What is a call is one where its test holds.
pub tested : (b : Bool) (call : Call) → is_call (cond b call Other) ≡ true → b ≡ true
tested true call h = refl
tested false call h = absurd (false≢true h)

module _ (o : Opening) (past : List Reply) where
  abbrev pub AreKnownScalars : List Scalar → Type 0
  AreKnownScalars args = Each (λ w. is_known o past w ≡ true) args

  may_if : (b : Bool) (call : Call) → is_call (cond b call Other) ≡ true → (b ≡ true → may_call o past call ≡ true)
      → may_call o past (cond b call Other) ≡ true
  may_if true call h f = f refl
  may_if false call h f = absurd (false≢true h)

  may_copy : (b : Bool) (w : Option Way) (dst src : SharedPtr) (n : ℕ) (f : ℤ)
      → is_call (cond b (copies dst src n f w) Other) ≡ true → knows o past dst ≡ true → knows o past src ≡ true
      → may_call o past (cond b (copies dst src n f w) Other) ≡ true
  may_copy true (Some w) dst src n f h hd hs = and_from (knows o past dst) (knows o past src) hd hs
  may_copy true None dst src n f h hd hs = absurd (false≢true h)
  may_copy false w dst src n f h hd hs = absurd (false≢true h)

  may_reduce : (a b d : Bool) (first second : Call)
      → is_call (cond a (cond b first (cond d second Other)) Other) ≡ true → may_call o past first ≡ true
      → may_call o past second ≡ true → may_call o past (cond a (cond b first (cond d second Other)) Other) ≡ true
  may_reduce true true d first second h f s = f
  may_reduce true false true first second h f s = s
  may_reduce true false false first second h f s = absurd (false≢true h)
  may_reduce false b d first second h f s = absurd (false≢true h)

  -- A call that known arguments form may be asked for; what upc_all_alloc makes is another matter.
  may_form : (c : ℕ) (args : List Scalar) → (c == 1) ≡ false → AreKnownScalars args → is_call (call_of c args) ≡ true
      → may_call o past (call_of c args) ≡ true
  may_form c (scalar.Int n ∷ scalar.Int b ∷ scalar.Int s ∷ []) e k h =
      let sizes = is_size n && (is_size b && is_size s) in
      let first = (and_parts (c == 1) sizes (tested (c == 1 && sizes) _ h)).0 in
      absurd (false≢true (sym e ∙ first))
  may_form c [] e k h = may_if (c == 2) Makes_lock h (λ q. refl)
  may_form c (scalar.Shared p ∷ []) e k h = may_if (c == 3) (Frees p) h (λ q. k.0)
  may_form c (scalar.Lock l ∷ []) e k h = may_if (c == 4) (Frees_lock l) h (λ q. k.0)
  may_form c (scalar.Shared dst ∷ scalar.Shared src ∷ scalar.Int n ∷ scalar.Int f ∷ []) e k h =
      may_copy (is_size n && is_int f) (way_of c) dst src (unsigned_abs n) f h k.0 k.1.0
  may_form c (scalar.Shared dst ∷ scalar.Shared src ∷ scalar.Shared perm ∷ scalar.Int n ∷ scalar.Int f ∷ []) e k h =
      may_if (c == 10 && (is_size n && is_int f)) (Permutes dst src perm (unsigned_abs n) f) h (λ q.
      and_from (knows o past dst) (knows o past src && knows o past perm) k.0
      (and_from (knows o past src) (knows o past perm) k.1.0 k.1.1.0))
  may_form c
      (scalar.Shared dst ∷ scalar.Shared src ∷ scalar.Int op ∷ scalar.Int n ∷ scalar.Int b ∷ scalar.Int j
      ∷ scalar.Int f ∷ []) e k h =
      let both = and_from (knows o past dst) (knows o past src) k.0 k.1.0 in
      may_reduce
      (is_int op && (is_size n && (is_size b && (is_size j && (nat_lt (unsigned_abs j) 8 && is_int f)))))
      (c == 11) (c == 12) (Reduces dst src op (unsigned_abs n) (unsigned_abs b) (unsigned_abs j) f)
      (Reduces_prefixes dst src op (unsigned_abs n) (unsigned_abs b) (unsigned_abs j) f) h both both
  may_form c args e k h = absurd (false≢true h)

module _ (o : Opening) (past : List Reply) (v : IsGround o) (R : Kind → Loc → Type 0) (me budget : ℕ) where
  abbrev Goes : {A : Type 0} → (A → Type 0) → Expansion A → Type 0
  Goes V e = p.GoesWell o past v R me budget V e

  -- ---- actions

  does_goes : (a : Action) → IsWellFormed o past R None a → Goes Nothing (does a)
  does_goes a formed = (formed, λ r e. m.unrefused o past v R me budget r)

  barrier_goes : Goes Nothing barrier
  barrier_goes =
      m.bind_goes o past v R me budget Nothing Nothing (does (act.Notify Absent)) (λ u. does (act.Wait Absent))
      (does_goes (act.Notify Absent) tt) (λ u h. does_goes (act.Wait Absent) tt)

  after : (e : Expansion (Unit {0})) (f : Unit {0} → Expansion (Unit {0})) → Goes Nothing e
      → ((u : Unit {0}) → Goes Nothing (f u)) → Goes Nothing (bind e f)
  after e f h g = m.bind_goes o past v R me budget Nothing Nothing e f h (λ u k. g u)

  unless : (b : Bool) (e : Expansion (Unit {0})) → Goes Nothing e → Goes Nothing (cond b nothing e)
  unless b e h = m.cond_goes o past v R me budget Nothing b nothing e tt (λ q. h)

  only_if : (b : Bool) (e : Expansion (Unit {0})) → Goes Nothing e → Goes Nothing (cond b e nothing)
  only_if b e h = m.cond_goes o past v R me budget Nothing b e nothing h (λ q. tt)

  -- ---- pointers

  -- The object of a pointer is one of those given, and its thread one of the run's.
  abbrev IsNear : SharedPtr → Type 0
  IsNear q =
      (list_any (same_object q.object) (objects_given o.declared past) ≡ true) × (nat_lt q.thread o.threads ≡ true)

  known_near : (q : SharedPtr) → knows o past q ≡ true → is_null q ≡ false → IsNear q
  known_near q h e =
      let all = pointer_names o past q h e in
      let first =
      and_parts (list_any (same_object q.object) (objects_given o.declared past))
      (nat_lt q.thread o.threads && in_range q.offset) all
      in
      (first.0, (and_parts (nat_lt q.thread o.threads) (in_range q.offset) first.1).0)

  named : (q : SharedPtr) → IsNear q → in_range q.offset ≡ true → names o past q.object q.thread q.offset ≡ true
  named q h e =
      and_from (list_any (same_object q.object) (objects_given o.declared past))
      (nat_lt q.thread o.threads && in_range q.offset) h.0
      (and_from (nat_lt q.thread o.threads) (in_range q.offset) h.1 e)

  element_near : (q : SharedPtr) (block size i : ℕ) → IsNear q → IsNear (element q block size o.threads i)
  element_near q zero size i h = h
  element_near q (suc b) size i h =
      let e = pos (q.thread * suc b + q.phase + i) in (
        h.0,
        lt-ltb (thread_at e (suc b) o.threads) o.threads
            (floor_mod-below (floor_div e (suc b)) o.threads v.least),
      )

  blocked_near : (q : SharedPtr) (block : ℕ) → IsNear q → IsNear (with_block q block)
  blocked_near q zero h = h
  blocked_near q (suc b) h = h

  byte_near : (q : SharedPtr) (block i : ℕ) → IsNear q → IsNear (byte_at q block o.threads i)
  byte_near q block i h = element_near (from_phase_0 q) block 1 i h

  -- What does not leave its range lies in it.
  begins_in : (n : ℕ) (q : SharedPtr) → leaves_range n q ≡ false → in_range q.offset ≡ true
  begins_in n q h = (and_parts (in_range q.offset) _ (not_false _ h)).0

  -- ---- cells

  -- A pointer leads to a cell of a kind.
  abbrev IsCell : Kind → SharedPtr → Type 0
  IsCell k q = IsCellThere o past (location q) k

  cell_there : (k : Kind) (q : SharedPtr) → IsNear q → leaves_range (kind_size k) q ≡ false
      → leaves_piece o.threads (kind_size k) q ≡ false → is_cell o.shapes k q ≡ true → IsCell k q
  cell_there k q h range room there =
      let byte = unsigned_abs q.offset in
      let same : byte + 0 ≡ byte = omega arith in
      let found = is_kind_some k (kind_at (shape_at o.shapes q) byte) there in
      subst
      (λ n. IsCellThere o past (record { object = q.object.number; thread = q.thread; offset = n }) k) same
      (cell_behind o past v q (kind_size k) 0 k (named q h (begins_in (kind_size k) q range)) room (some_bytes k)
      (subst (λ n. kind_at (shape_at o.shapes q) n ≡ Some k) (sym same) found))

  cells_there : (k : Kind) (qs : List SharedPtr) → Each IsNear qs → Each (λ q. leaves_range (kind_size k) q ≡ false) qs
      → Each (λ q. leaves_piece o.threads (kind_size k) q ≡ false) qs
      → Each (λ q. not (is_cell o.shapes k q) ≡ false) qs → Each (IsCell k) qs
  cells_there k [] h range room there = tt
  cells_there k (q ∷ qs) h range room there = (
    cell_there k q h.0 range.0 room.0 (not_false (is_cell o.shapes k q) there.0),
    cells_there k qs h.1 range.1 room.1 there.1,
  )

  are_cells_goes : (k : Kind) (qs : List SharedPtr) (e : Expansion (Unit {0})) → Each IsNear qs
      → (Each (IsCell k) qs → Goes Nothing e) → Goes Nothing (x.are_cells o.threads o.shapes me k qs e)
  are_cells_goes k qs e h f =
      let tests : List (Bool × ℕ) =
      (list_any (leaves_range (kind_size k)) qs, POINTER_RANGE)
      ∷ (list_any (leaves_piece o.threads (kind_size k)) qs, OUT_OF_OBJECT)
      ∷ (list_any (λ q. not (is_cell o.shapes k q)) qs, CELL_TYPE)
      ∷ [] in
      m.refused_goes o past v R me budget Nothing tests e (λ t.
      f
      (cells_there k qs h (none_of (leaves_range (kind_size k)) qs t.0)
      (none_of (leaves_piece o.threads (kind_size k)) qs t.1.0)
      (none_of (λ q. not (is_cell o.shapes k q)) qs t.1.1.0)))

  -- ---- reads and writes of numbers

  number_is : (k : Kind) (w : Scalar) → fits_kind w k ≡ true → IsOf k (parts.number_of o.threads o.shapes me w)
  number_is k (scalar.Int n) h = (and_parts (is_integer k) (in_kind k n) h).1
  number_is k (scalar.Shared q) h = zero_of k
  number_is k (scalar.Lock l) h = zero_of k

  read_goes : (k : Kind) (q : SharedPtr) → IsCell k q → Goes (IsOf k) (x.number_at o.threads o.shapes me k q)
  read_goes k q h = (h, λ w c. number_is k w c.fits)

  put_goes : (k : Kind) (q : SharedPtr) (n : ℤ) → is_integer k ≡ true → IsCell k q → IsOf k n
      → Goes Nothing (x.number_put o.threads o.shapes me q n)
  put_goes k q n i h e =
      does_goes (act.Write false (location q) (scalar.Int n))
      (k, h, and_from (is_integer k) (in_kind k n) i e, kind_number k n e)

  back_goes : (k : Kind) (r : Result ℤ ℕ) → Goes (IsOf k) (x.outcome o.threads o.shapes me (back_to k r))
  back_goes k (Ok n) = converted_in k n
  back_goes k (Err code) = tt

  -- ---- reductions

  module _ (op : Reduction) (k : Kind) (i : is_integer k ≡ true) where
    total_goes : (n : ℤ) (dst : SharedPtr) (qs : List SharedPtr) → IsOf k n → IsCell k dst → Each (IsCell k) qs
        → Goes Nothing (x.total o.threads o.shapes me op k n dst qs)
    total_goes n dst [] e h g = put_goes k dst n i h e
    total_goes n dst (q ∷ qs) e h g =
        m.bind_goes o past v R me budget (IsOf k) Nothing (x.number_at o.threads o.shapes me k q) _
        (read_goes k q g.0) (λ y c.
        m.bind_goes o past v R me budget (IsOf k) Nothing (x.outcome o.threads o.shapes me (step op k n y)) _
        (back_goes k (reduced op (promoted k) n y)) (λ z d. total_goes z dst qs d h g.1))

    abbrev AreCells : Part → Type 0
    AreCells y = IsCell k y.into × IsCell k y.from

    totals_goes : (n : ℤ) (parts : List Part) → Each AreCells parts
        → Goes Nothing (x.totals o.threads o.shapes me op k n parts)
    totals_goes n [] g = tt
    totals_goes n (y ∷ parts) g =
        let put : ℤ → Expansion (Unit {0}) =
        λ b. bind (x.number_put o.threads o.shapes me y.into b) (λ u. x.totals o.threads o.shapes me op k b parts) in
        m.bind_goes o past v R me budget (IsOf k) Nothing (x.number_at o.threads o.shapes me k y.from)
        (λ z. bind (x.outcome o.threads o.shapes me (step op k n z)) put) (read_goes k y.from g.0.1) (λ z c.
        m.bind_goes o past v R me budget (IsOf k) Nothing (x.outcome o.threads o.shapes me (step op k n z)) put
        (back_goes k (reduced op (promoted k) n z)) (λ b d.
        after (x.number_put o.threads o.shapes me y.into b) _ (put_goes k y.into b i g.0.0 d) (λ u.
        totals_goes b parts g.1)))

  module _ (k : Kind) (i : is_integer k ≡ true) where
    reduce_goes : (op : Option Reduction) (dst : SharedPtr) (qs : List SharedPtr) → IsCell k dst
        → Each (IsCell k) qs → Goes Nothing (x.reduce o.threads o.shapes me op k dst qs)
    reduce_goes (Some op) dst (q ∷ qs) h g =
        m.bind_goes o past v R me budget (IsOf k) Nothing (x.number_at o.threads o.shapes me k q) _
        (read_goes k q g.0) (λ y c. total_goes op k i y dst qs c h g.1)
    reduce_goes (Some op) dst [] h g = tt
    reduce_goes None dst qs h g = tt

    prefixes_goes : (op : Option Reduction) (parts : List Part) → Each (λ y. IsCell k y.into × IsCell k y.from) parts
        → Goes Nothing (x.reduce_prefixes o.threads o.shapes me op k parts)
    prefixes_goes (Some op) (y ∷ parts) g =
        let more : ℤ → Unit {0} → Expansion (Unit {0}) = λ z u. x.totals o.threads o.shapes me op k z parts in
        m.bind_goes o past v R me budget (IsOf k) Nothing (x.number_at o.threads o.shapes me k y.from)
        (λ z. bind (x.number_put o.threads o.shapes me y.into z) (more z)) (read_goes k y.from g.0.1) (λ z c.
        after (x.number_put o.threads o.shapes me y.into z) (more z) (put_goes k y.into z i g.0.0 c) (λ u.
        totals_goes op k i z parts g.1))
    prefixes_goes (Some op) [] g = tt
    prefixes_goes None parts g = tt

  paired_cells : (k : Kind) (ps qs : List SharedPtr) → Each (IsCell k) ps → Each (IsCell k) qs
      → Each (λ y. IsCell k y.into × IsCell k y.from) (x.paired o.threads o.shapes me ps qs)
  paired_cells k [] qs h g = tt
  paired_cells k (q ∷ ps) [] h g = tt
  paired_cells k (q ∷ ps) (r ∷ qs) h g = ((h.0, g.0), paired_cells k ps qs h.1 g.1)

  operands_near : (q : SharedPtr) (block kind n : ℕ) → IsNear q
      → Each IsNear (x.operands o.threads o.shapes me q block kind n)
  operands_near q block kind n h =
      each_of IsNear (parts.operand o.threads o.shapes me q block kind) (range_with_len 0 n) (λ j.
      element_near (with_block q block) block (kind_size (element_kind kind)) j (blocked_near q block h))

  -- ---- copies

  abbrev IsNearPart : Part → Type 0
  IsNearPart y = IsNear y.into × IsNear y.from

  part_goes : (n : ℕ) (y : Part) → IsNearPart y → (leaves_range n y.into || leaves_range n y.from) ≡ false
      → (leaves_piece o.threads n y.into || leaves_piece o.threads n y.from) ≡ false
      → x.differ o.threads o.shapes me n y ≡ false → Goes Nothing (x.copied o.threads o.shapes me n y)
  part_goes n y h range room differ =
      let into = x.cells o.threads o.shapes me n y.into in
      let from = x.cells o.threads o.shapes me n y.from in
      let cut = x.cut o.threads o.shapes me n in
      let r = neither (leaves_range n y.into) (leaves_range n y.from) range in
      let s = neither (leaves_piece o.threads n y.into) (leaves_piece o.threads n y.from) room in
      let d = neither (cut y.into) (cut y.from || not (same_cells into from)) differ in
      let e = neither (cut y.from) (not (same_cells into from)) d.1 in
      let same = cells_same into from (not_false (same_cells into from) e.1) in
      m.copy_cells_goes o past v R me budget None n (In_shared y.into) (In_shared y.from)
      (named y.into h.0 (begins_in n y.into r.0)) (named y.from h.1 (begins_in n y.from r.1)) s.0 s.1 same

  parts_go : (n : ℕ) (parts : List Part) → Each IsNearPart parts
      → Each (λ y. (leaves_range n y.into || leaves_range n y.from) ≡ false) parts
      → Each (λ y. (leaves_piece o.threads n y.into || leaves_piece o.threads n y.from) ≡ false) parts
      → Each (λ y. x.differ o.threads o.shapes me n y ≡ false) parts
      → Each (λ y. Goes Nothing (x.copied o.threads o.shapes me n y)) parts
  parts_go n [] h range room differ = tt
  parts_go n (y ∷ parts) h range room differ =
      (part_goes n y h.0 range.0 room.0 differ.0, parts_go n parts h.1 range.1 room.1 differ.1)

  move_goes : (n : ℕ) (parts : List Part) → Each IsNearPart parts
      → Goes Nothing (x.move o.threads o.shapes me n parts)
  move_goes n parts h =
      let tests : List (Bool × ℕ) =
      (list_any (λ y. leaves_range n y.into || leaves_range n y.from) parts, POINTER_RANGE)
      ∷ (list_any (λ y. leaves_piece o.threads n y.into || leaves_piece o.threads n y.from) parts, OUT_OF_OBJECT)
      ∷ (list_any (x.differ o.threads o.shapes me n) parts, CELL_TYPE)
      ∷ [] in
      let go = each_in_turn (x.copied o.threads o.shapes me n) parts in
      m.refused_goes o past v R me budget Nothing tests go (λ t.
      m.each_goes o past v R me budget (x.copied o.threads o.shapes me n) parts
      (parts_go n parts h (none_of (λ y. leaves_range n y.into || leaves_range n y.from) parts t.0)
      (none_of (λ y. leaves_piece o.threads n y.into || leaves_piece o.threads n y.from) parts t.1.0)
      (none_of (x.differ o.threads o.shapes me n) parts t.1.1.0)))

  module _ (dst src : SharedPtr) (n : ℕ) (hd : IsNear dst) (hs : IsNear src) where
    goes_near : (w : Way) (i j : ℕ) → IsNearPart (x.goes o.threads o.shapes me w dst src n i j)
    goes_near w i j =
        (byte_near dst (destination w o.threads n).block j hd, byte_near src (source w o.threads n).block i hs)

    parts_near : (w : Way) → Each IsNearPart (x.parts o.threads o.shapes me w dst src n)
    parts_near Broadcast = (goes_near Broadcast 0 (me * n), tt)
    parts_near Scatter = (goes_near Scatter (me * n) (me * n), tt)
    parts_near Gather =
        either_each IsNearPart (dst.thread == me) _
        (each_of IsNearPart _ (x.all_threads o.threads o.shapes me) (λ i. goes_near Gather (i * n) (i * n)))
    parts_near Gather_all =
        each_of IsNearPart _ (x.all_threads o.threads o.shapes me) (λ i.
        goes_near Gather_all (i * n) (me * (n * o.threads) + i * n))
    parts_near Exchange =
        each_of IsNearPart _ (x.all_threads o.threads o.shapes me) (λ j.
        goes_near Exchange (j * (n * o.threads) + me * n) (me * (n * o.threads) + j * n))

  -- ---- permutations

  abbrev AnyOf : List ℤ → Type 0
  AnyOf ns = Unit {0}

  gathered_goes : (qs : List SharedPtr) → Each (IsCell kind.Int) qs
      → Goes AnyOf (gathered (x.number_at o.threads o.shapes me kind.Int) qs)
  gathered_goes [] h = tt
  gathered_goes (q ∷ qs) h =
      let read : SharedPtr → Expansion ℤ = x.number_at o.threads o.shapes me kind.Int in
      let others : Expansion (List ℤ) = gathered read qs in
      m.bind_goes o past v R me budget {A = ℤ} {B = List ℤ} (IsOf kind.Int) AnyOf (read q)
      (λ y. bind others (λ ys. Gives (y ∷ ys))) (read_goes kind.Int q h.0) (λ y c.
      m.bind_goes o past v R me budget {A = List ℤ} {B = List ℤ} AnyOf AnyOf others (λ ys. Gives (y ∷ ys))
      (gathered_goes qs h.1) (λ ys d. tt))

  permute_goes : (dst src perm : SharedPtr) (n : ℕ) → IsNear dst → IsNear src → IsNear perm
      → Goes Nothing (x.permute o.threads o.shapes me dst src perm n)
  permute_goes dst src perm n hd hs hp =
      let qs = parts.permutation o.threads o.shapes me perm in
      let own = byte_at dst n o.threads (me * n) in
      let some = not (n == 0) in
      let near =
      each_of IsNear (λ i. element (from_phase_0 perm) 1 4 o.threads i) (x.all_threads o.threads o.shapes me) (λ i.
      element_near (from_phase_0 perm) 1 4 i hp) in
      let tests : List (Bool × ℕ) =
      (list_any (leaves_range 4) qs || (some && leaves_range n own), POINTER_RANGE)
      ∷ (list_any (leaves_piece o.threads 4) qs || (some && leaves_piece o.threads n own), OUT_OF_OBJECT)
      ∷ (list_any (λ q. not (is_cell o.shapes kind.Int q)) qs || (some && x.cut o.threads o.shapes me n own), CELL_TYPE)
      ∷ [] in
      let copy : List ℤ → Expansion (Unit {0}) =
      λ ns. cond (n == 0) nothing (x.move o.threads o.shapes me n (x.chosen o.threads o.shapes me dst src n ns ∷ [])) in
      let is_permutation : List ℤ → Bool = λ ns. each_thread o.threads (λ t. parts.is_at o.threads o.shapes me t ns) in
      let chosen : List ℤ → Expansion (Unit {0}) =
      λ ns. refused_by ((not (is_permutation ns), LIBRARY_ARGS) ∷ []) (copy ns) in
      let all : Expansion (List ℤ) = gathered (x.number_at o.threads o.shapes me kind.Int) qs in
      m.refused_goes o past v R me budget Nothing tests (bind all chosen) (λ t.
      let range = neither (list_any (leaves_range 4) qs) (some && leaves_range n own) t.0 in
      let room = neither (list_any (leaves_piece o.threads 4) qs) (some && leaves_piece o.threads n own) t.1.0 in
      let cells =
      neither (list_any (λ q. not (is_cell o.shapes kind.Int q)) qs) (some && x.cut o.threads o.shapes me n own) t.1.1.0
      in
      m.bind_goes o past v R me budget {A = List ℤ} {B = Unit {0}} AnyOf Nothing all chosen
      (gathered_goes qs
      (cells_there kind.Int qs near (none_of (leaves_range 4) qs range.0)
      (none_of (leaves_piece o.threads 4) qs room.0)
      (none_of (λ q. not (is_cell o.shapes kind.Int q)) qs cells.0))) (λ ns c.
      m.refused_goes o past v R me budget Nothing ((not (is_permutation ns), LIBRARY_ARGS) ∷ []) (copy ns) (λ z.
      unless (n == 0) (x.move o.threads o.shapes me n (x.chosen o.threads o.shapes me dst src n ns ∷ []))
      (move_goes n (x.chosen o.threads o.shapes me dst src n ns ∷ [])
      ((byte_near dst n (me * n) hd, byte_near src n _ hs), tt)))))

  -- ---- the whole

  both_near : (dst src : SharedPtr) → (knows o past dst && knows o past src) ≡ true
      → (is_null dst || is_null src) ≡ false → IsNear dst × IsNear src
  both_near dst src h e =
      let k = and_parts (knows o past dst) (knows o past src) h in
      let z = neither (is_null dst) (is_null src) e in
      (known_near dst k.0 z.0, known_near src k.1 z.1)

  work_goes : (call : Call) → may_call o past call ≡ true
      → Each (λ t. t.0 ≡ false) (x.tests o.threads o.shapes me call)
      → Goes Nothing (x.work o.threads o.shapes me call)
  work_goes (Copies w dst src n f) h t =
      let near = both_near dst src h t.0 in
      unless (n == 0) _
      (move_goes n (x.parts o.threads o.shapes me w dst src n) (parts_near dst src n near.0 near.1 w))
  work_goes (Permutes dst src perm n f) h t =
      let k = and_parts (knows o past dst) (knows o past src && knows o past perm) h in
      let z = neither (is_null dst) (is_null src || is_null perm) t.0 in
      let near = both_near src perm k.1 z.1 in
      permute_goes dst src perm n (known_near dst k.0 z.0) near.0 near.1
  work_goes (Reduces dst src op n block kind f) h t =
      let near = both_near dst src h t.0 in
      let from = x.operands o.threads o.shapes me src block kind n in
      only_if (dst.thread == me) _
      (are_cells_goes (element_kind kind) (dst ∷ from) _ (near.0, operands_near src block kind n near.1) (λ c.
      reduce_goes (element_kind kind) (integer_element kind) (reduction op) dst from c.0 c.1))
  work_goes (Reduces_prefixes dst src op n block kind f) h t =
      let near = both_near dst src h t.0 in
      let into = x.operands o.threads o.shapes me dst block kind n in
      let from = x.operands o.threads o.shapes me src block kind n in
      let k = element_kind kind in
      let there = operands_near dst block kind n near.0 in
      let here = operands_near src block kind n near.1 in
      only_if (dst.thread == me) _
      (are_cells_goes k (into ++ from) _ (each-append IsNear into from there here) (λ c.
      prefixes_goes k (integer_element kind) (reduction op) (x.paired o.threads o.shapes me into from)
      (paired_cells k into from (each-front (IsCell k) into from c) (each-back (IsCell k) into from c))))
  work_goes (Allocates n b s) h t = tt
  work_goes Makes_lock h t = tt
  work_goes (Frees q) h t = tt
  work_goes (Frees_lock l) h t = tt
  work_goes Other h t = tt

  -- A collective call with known arguments of its parameters' types.
  pub collective_goes : (c : ℕ) (args : List Scalar) → (c == 1) ≡ false → AreKnownScalars o past args
      → is_call (call_of c args) ≡ true → Goes Nothing (x.collective o.threads o.shapes me c args)
  collective_goes c args e k h =
      let call = call_of c args in
      let f = x.flags_of o.threads o.shapes me call in
      let may = may_form o past c args e k h in
      m.refused_goes o past v R me budget Nothing (x.tests o.threads o.shapes me call) _ (λ t.
      after (does (act.Meet c args)) _ (does_goes (act.Meet c args) (may, k)) (λ u.
      after (x.entry f) _ (unless (unsigned_abs f % 8 == 1) barrier barrier_goes) (λ w.
      after (x.work o.threads o.shapes me call) _ (work_goes call may t) (λ z.
      unless (unsigned_abs f / 8 == 1) barrier barrier_goes))))
