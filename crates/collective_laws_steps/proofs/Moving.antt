-- Parts of bytes that threads copy cell by cell: each byte of the destination then holds what its byte of the source
-- held.
use Rattle.std.proofs.Common.{◌≡◌, ℕ, ◌+◌, ◌<◌, false, not, ◌||◌, List, [], ◌∷◌, ◌⊎◌, inl, inr, Option, Some, None}
use Rattle.std.proofs.Common.{refl, sym, ap, ◌∙◌, subst, arith, slice_get}
use Rattle.std.specs.Prelude.{unsigned_abs}
use Rattle.std.specs.List.{list_any, range_with_len}
use Rattle.std.proofs.lemmas.Bool.{or_parts, not-false}
use Rattle.block_layout.specs.declared.place.Loc.{Loc}
use Rattle.block_layout.specs.declared.place.ObjectRef.{ObjectRef}
use Rattle.block_layout.specs.declared.place.SharedPtr.{SharedPtr}
use Rattle.block_layout.specs.declared.kind.Kind.{Kind}
use Rattle.block_layout.specs.declared.kind.Shape.{Shape}
use Rattle.block_layout.specs.declared.run_error.TheConstants.{OUT_OF_OBJECT, POINTER_RANGE, CELL_TYPE}
use Rattle.block_layout.specs.Cells.{same_cells}
use Rattle.block_layout.specs.Pointers.{location}
use Rattle.block_layout.proofs.Same.{same_exact}
use Rattle.upc_values.specs.declared.scalar.Scalar.{Scalar}
use Rattle.upc_values.specs.layer.Parts.{outside, placed_kind}
use Rattle.upc_values.specs.declared.action.Action.TheVariants as act
use Rattle.upc_values.specs.Lists.{Has}
use Rattle.upc_values.specs.Shapes.{kind_at}
use Rattle.upc_values.specs.Expansion.{Reads, does, each_in_turn}
use Rattle.upc_values.specs.Expansions.{Part, move, copied, cells, cut, differ}
use Rattle.upc_values.specs.Views.{location_behind, cells_within, shape_at, leaves_range}
use Rattle.upc_values.specs.Collective.{Holding}
use Rattle.collective_laws_words.specs.layer.Steps.{Step, Performs}
use Rattle.collective_laws_words.specs.layer.Interface.{Wrote, ReadSo}
use Rattle.collective_laws_steps.proofs.Lists.{none_of, range_below, range_has, pick_from, pick_has}
use Rattle.collective_laws_steps.proofs.Rows.{IsFromZero, IsBehind, piece_from_zero, behind_from_zero, behind_offset}
use Rattle.collective_laws_steps.proofs.Rows.{behind_location}
use Rattle.collective_laws_steps.proofs.Performing.{does_one, passes_three, turn_of, writer, IsOf}

some-same : {X : Type 0} {x y : X} → Some x ≡ Some y → x ≡ y
some-same h = cc

-- ---- the cells of a range

-- The byte at which a listed cell begins lies in the range.
pub cell_below : (s : Option Shape) (x n : ℕ) (c : ℕ × Kind) → Has (cells_within s x n) c → c.0 < n
cell_below s x n c h =
    let p = pick_from (λ i. placed_kind i (kind_at s (x + i))) (range_with_len 0 n) c h in
    let same : p.from ≡ c.0 = placed_first p.from (kind_at s (x + p.from)) c p.is in
    let below = (range_below 0 n p.from p.has).1 in
    omega (arith, same)
  where
    placed_first : (i : ℕ) (k : Option Kind) (d : ℕ × Kind) → placed_kind i k ≡ Some d → i ≡ d.0
    placed_first i (Some k) d e = cc
    placed_first i None d e = absurd cc

-- Of a listed cell the kind is that at its byte.
cell_kind : (s : Option Shape) (x n r : ℕ) (k : Kind) → Has (cells_within s x n) (r, k) → kind_at s (x + r) ≡ Some k
cell_kind s x n r k h =
    let p = pick_from (λ i. placed_kind i (kind_at s (x + i))) (range_with_len 0 n) (r, k) h in
    placed p.from (kind_at s (x + p.from)) refl p.is
  where
    placed : (i : ℕ) (o : Option Kind) → kind_at s (x + i) ≡ o → placed_kind i o ≡ Some (r, k)
        → kind_at s (x + r) ≡ Some k
    placed i (Some j) e q =
        let pair = some-same q in
        let first = ap (λ (c : ℕ × Kind). c.0) pair in
        let second = ap (λ (c : ℕ × Kind). c.1) pair in
        ap (λ m. kind_at s (x + m)) (sym first) ∙ e ∙ ap Some second
    placed i None e q = absurd cc

-- A cell that begins at a byte of the range is listed.
cell_listed : (s : Option Shape) (x n r : ℕ) (k : Kind) → r < n → kind_at s (x + r) ≡ Some k
    → Has (cells_within s x n) (r, k)
cell_listed s x n r k lt e =
    pick_has (λ i. placed_kind i (kind_at s (x + i))) (range_with_len 0 n) r (r, k)
    (range_has 0 n r (omega arith) (omega arith))
    (ap (placed_kind r) e)

-- Where two ranges have the same cells, a byte at which none begins is one in both.
none_too : (s t : Option Shape) (x y n r : ℕ) → cells_within s x n ≡ cells_within t y n → r < n
    → kind_at s (x + r) ≡ None → kind_at t (y + r) ≡ None
none_too s t x y n r same lt e = by (kind_at t (y + r)) refl
  where
    by : (o : Option Kind) → kind_at t (y + r) ≡ o → kind_at t (y + r) ≡ None
    by None q = q
    by (Some k) q =
        let found = cell_kind s x n r k
        (subst (λ (l : List (ℕ × Kind)). Has l (r, k)) (sym same) (cell_listed t y n r k lt q)) in
        absurd (let clash : None ≡ Some k = sym e ∙ found in cc)

-- ---- the copy of one cell

-- Read here and written there, by these steps.
pub record CopiesOne (from into : Loc) (did : List Step) : Type 0 where
  pub value : Scalar
  pub read : ReadSo from value did
  pub wrote : Wrote into value did
  pub only : (l : Loc) (v : Scalar) → Wrote l v did → (l ≡ into) × (v ≡ value)

pub copies_one : (from into : Loc) (k : Kind) (did : List Step)
    → Performs (Reads from k (λ v. does (act.Write false into v))) did tt → CopiesOne from into did
copies_one from into k [] h = absurd h
copies_one from into k (s ∷ did) h =
    let one = does_one (act.Write false into h.1) did tt h.3 in
    record {
      value = h.1;
      read = inl (h.0, h.2);
      wrote = inr (subst (Wrote into h.1) (sym one.is) (inl one.action));
      only = λ l v w. only_one s one.step l v h.1 h.0 one.action (subst (λ d. Wrote l v (s ∷ d)) one.is w);
    }
  where
    only_one : (a b : Step) (l : Loc) (v w : Scalar) → a.action ≡ act.Read from false
        → b.action ≡ act.Write false into w → Wrote l v (a ∷ b ∷ []) → (l ≡ into) × (v ≡ w)
    only_one a b l v w e q (inl x) = absurd (let clash : act.Read from false ≡ act.Write false l v = sym e ∙ x in cc)
    only_one a b l v w e q (inr (inl x)) =
        let same : act.Write false l v ≡ act.Write false into w = sym x ∙ q in
        ((let z : l ≡ into = cc in z), (let z : v ≡ w = cc in z))
    only_one a b l v w e q (inr (inr x)) = absurd x

held_on : (o : Option Scalar) (v w : Scalar) → o ≡ Some w → v ≡ w → o ≡ Some v
held_on o v w e q = e ∙ ap Some (sym q)

-- ---- what the threads copy

module _ (threads : ℕ) (shapes : List Shape) (n bytes : ℕ) (into from : ℕ → SharedPtr) (parts : ℕ → List Part) where
  -- A part has n of the bytes, from one on, one after the other on both sides.
  pub record IsPart (x : Part) : Type 0 where
    pub first : ℕ
    pub fits : (r : ℕ) → r < n → first + r < bytes
    pub into_goes : (r : ℕ) → r < n → IsBehind x.into (into (first + r)) r
    pub from_goes : (r : ℕ) → r < n → IsBehind x.from (from (first + r)) r

  -- The byte is in a part of a thread.
  pub record IsCovered (x : ℕ) : Type 0 where
    pub thread : ℕ
    pub below : thread < threads
    pub part : Part
    pub has : Has (parts thread) part
    pub is : IsPart part
    pub rest : ℕ
    pub less : rest < n
    pub sum : x ≡ is.first + rest

  -- The parts of all threads make up all bytes, each of which has a location of its own.
  pub record AreLaid : Type 0 where
    pub each : (t : ℕ) → t < threads → (x : Part) → Has (parts t) x → IsPart x
    pub covered : (x : ℕ) → x < bytes → IsCovered x
    pub one :
        (x y : ℕ) → IsFromZero (into x).offset → IsFromZero (into y).offset
        → location (into x) ≡ location (into y) → x ≡ y

  -- What the tests of a part say.
  pub record PartPasses (x : Part) : Type 0 where
    pub into_zero : IsFromZero x.into.offset
    pub from_zero : IsFromZero x.from.offset
    pub same : cells threads shapes 0 n x.into ≡ cells threads shapes 0 n x.from

  part_passes : (t : ℕ) (xs : List Part) (x : Part) → Has xs x
      → list_any (λ y. outside threads shapes t n y.into || outside threads shapes t n y.from) xs ≡ false
      → list_any (differ threads shapes t n) xs ≡ false → PartPasses x
  part_passes t xs x m h k =
      let o = or_parts (outside threads shapes t n x.into) (outside threads shapes t n x.from)
      (none_of (λ y. outside threads shapes t n y.into || outside threads shapes t n y.from) xs x h m) in
      let equal = same_cells (cells threads shapes t n x.into) (cells threads shapes t n x.from) in
      let d = or_parts (cut threads shapes t n x.into) (cut threads shapes t n x.from || not equal)
      (none_of (differ threads shapes t n) xs x k m) in
      let e = or_parts (cut threads shapes t n x.from) (not equal) d.1 in
      record {
        into_zero = piece_from_zero threads n x.into o.0;
        from_zero = piece_from_zero threads n x.from o.1;
        same = same_exact (cells threads shapes t n x.into) (cells threads shapes t n x.from) (not-false equal e.1);
      }

  -- The parts pass, and are copied one by one.
  pub record Moves (t : ℕ) (did : List Step) : Type 0 where
    pub passes : (x : Part) → Has (parts t) x → PartPasses x
    pub goes : Performs (each_in_turn (copied threads shapes t n) (parts t)) did tt

  pub moves : (t : ℕ) (did : List Step) → Performs (move threads shapes t n (parts t)) did tt → Moves t did
  moves t did h =
      let q = passes_three
      (list_any (λ y. leaves_range n y.into || leaves_range n y.from) (parts t))
      (list_any (λ y. outside threads shapes t n y.into || outside threads shapes t n y.from) (parts t))
      (list_any (differ threads shapes t n) (parts t)) POINTER_RANGE OUT_OF_OBJECT CELL_TYPE
      (each_in_turn (copied threads shapes t n) (parts t)) did tt h in
      record { passes = λ x m. part_passes t (parts t) x m q.second q.third; goes = q.goes }

  -- What a thread does: it moves its parts by some of its steps, which are all that write.
  pub record CopiesParts (t : ℕ) (did : List Step) : Type 0 where
    pub own : List Step
    pub within : IsOf own did
    pub all : (l : Loc) (v : Scalar) → Wrote l v did → Wrote l v own
    pub does : Moves t own

  pub thread_copies : (t : ℕ) (own did : List Step) → Performs (move threads shapes t n (parts t)) own tt → IsOf own did
      → ((l : Loc) (v : Scalar) → Wrote l v did → Wrote l v own) → CopiesParts t did
  thread_copies t own did h within all = record { own = own; within = within; all = all; does = moves t own h }

  module _ (before after : Holding) (dids : ℕ → List Step) where
    -- What all threads do, and what is held before and after it.
    pub record AllCopy : Type 0 where
      pub laid : AreLaid
      pub copies : (t : ℕ) → t < threads → CopiesParts t (dids t)
      pub reads : (t : ℕ) (l : Loc) (v : Scalar) → t < threads → ReadSo l v (dids t) → before l ≡ Some v
      pub writes :
          (t : ℕ) (l : Loc) (v : Scalar) → t < threads → Wrote l v (dids t)
          → (u : ℕ) × (w : Scalar) × (u < threads) × Wrote l w (dids u) × (after l ≡ Some w)
      pub into_empty :
          (x : ℕ) → kind_at (shape_at shapes (into x)) (unsigned_abs (into x).offset) ≡ None
          → after (location (into x)) ≡ None
      pub from_empty :
          (x : ℕ) → kind_at (shape_at shapes (from x)) (unsigned_abs (from x).offset) ≡ None
          → before (location (from x)) ≡ None

    -- A write that is right: a byte's location, and what its source held.
    pub record IsRight (l : Loc) (v : Scalar) : Type 0 where
      pub byte : ℕ
      pub below : byte < bytes
      pub zero : IsFromZero (into byte).offset
      pub at : l ≡ location (into byte)
      pub held : before (location (from byte)) ≡ Some v

    right : AllCopy → (t : ℕ) (l : Loc) (v : Scalar) → t < threads → Wrote l v (dids t) → IsRight l v
    right a t l v lt h =
        let own = a.copies t lt in
        let w = writer (copied threads shapes t n) l v (parts t) own.own own.does.goes (own.all l v h) in
        let x = w.member in
        let is = a.laid.each t lt x w.has in
        let ok = own.does.passes x w.has in
        let c = writer
        (λ (c : ℕ × Kind). Reads (location_behind x.from c.0) c.1
        (λ v. does (act.Write false (location_behind x.into c.0) v)))
        l v (cells threads shapes t n x.into) w.turn.part w.turn.performs w.wrote in
        let r = c.member.0 in
        let copy = copies_one (location_behind x.from r) (location_behind x.into r) c.member.1 c.turn.part
        c.turn.performs in
        let only = copy.only l v c.wrote in
        let less = cell_below (shape_at shapes x.into) (unsigned_abs x.into.offset) n c.member c.has in
        let goes = is.into_goes r less in
        let comes = is.from_goes r less in
        let read = own.within.read (location_behind x.from r) copy.value
        (w.turn.within.read (location_behind x.from r) copy.value
        (c.turn.within.read (location_behind x.from r) copy.value copy.read)) in
        record {
          byte = is.first + r;
          below = is.fits r less;
          zero = behind_from_zero x.into (into (is.first + r)) r goes ok.into_zero;
          at = only.0 ∙ sym (behind_location x.into (into (is.first + r)) r goes ok.into_zero);
          held =
              held_on (before (location (from (is.first + r)))) v copy.value
              (ap before (behind_location x.from (from (is.first + r)) r comes ok.from_zero)
              ∙ a.reads t (location_behind x.from r) copy.value lt read)
              only.1;
        }

    -- A byte whose cell is written, or at which no cell begins on either side.
    abbrev IsDone : ℕ → Type 0
    IsDone x =
        ((t : ℕ) × (v : Scalar) × (t < threads) × Wrote (location (into x)) v (dids t))
        ⊎ ((after (location (into x)) ≡ None) × (before (location (from x)) ≡ None))

    listed_done : AllCopy → (t : ℕ) → t < threads → (x : Part) → Has (parts t) x → (is : IsPart x) → PartPasses x
        → (r : ℕ) → r < n → (o : Option Kind)
        → kind_at (shape_at shapes x.into) (unsigned_abs x.into.offset + r) ≡ o → IsDone (is.first + r)
    listed_done a t lt x m is ok r less (Some k) e =
        let own = a.copies t lt in
        let turn = turn_of (copied threads shapes t n) (parts t) x own.own own.does.goes m in
        let has = cell_listed (shape_at shapes x.into) (unsigned_abs x.into.offset) n r k less e in
        let cell = turn_of
        (λ (c : ℕ × Kind). Reads (location_behind x.from c.0) c.1
        (λ v. does (act.Write false (location_behind x.into c.0) v)))
        (cells threads shapes t n x.into) (r, k) turn.part turn.performs has in
        let copy = copies_one (location_behind x.from r) (location_behind x.into r) k cell.part cell.performs in
        let at = behind_location x.into (into (is.first + r)) r (is.into_goes r less) ok.into_zero in
        inl (
          t,
          copy.value,
          lt,
          subst (λ (l : Loc). Wrote l copy.value (dids t)) (sym at)
              (own.within.wrote (location_behind x.into r) copy.value
              (turn.within.wrote (location_behind x.into r) copy.value
              (cell.within.wrote (location_behind x.into r) copy.value copy.wrote))),
        )
    listed_done a t lt x m is ok r less None e =
        let goes = is.into_goes r less in
        let comes = is.from_goes r less in
        let none = none_too (shape_at shapes x.into) (shape_at shapes x.from) (unsigned_abs x.into.offset)
        (unsigned_abs x.from.offset) n r ok.same less e in
        inr (
          a.into_empty (is.first + r) (moved_kind x.into (into (is.first + r)) r goes ok.into_zero e),
          a.from_empty (is.first + r) (moved_kind x.from (from (is.first + r)) r comes ok.from_zero none),
        )
      where
        moved_kind : (p q : SharedPtr) (i : ℕ) → IsBehind p q i → IsFromZero p.offset
            → kind_at (shape_at shapes p) (unsigned_abs p.offset + i) ≡ None
            → kind_at (shape_at shapes q) (unsigned_abs q.offset) ≡ None
        moved_kind p q i h z k =
            ap (λ (o : ObjectRef). kind_at (slice_get shapes o.shape) (unsigned_abs q.offset)) h.object
            ∙ ap (kind_at (shape_at shapes p)) (behind_offset p q i h z) ∙ k

    done : AllCopy → (x : ℕ) → x < bytes → IsDone x
    done a x lt =
        let c = a.laid.covered x lt in
        let ok = (a.copies c.thread c.below).does.passes c.part c.has in
        subst IsDone (sym c.sum)
        (listed_done a c.thread c.below c.part c.has c.is ok c.rest c.less
        (kind_at (shape_at shapes c.part.into) (unsigned_abs c.part.into.offset + c.rest)) refl)

    covered_zero : AllCopy → (x : ℕ) → x < bytes → IsFromZero (into x).offset
    covered_zero a x lt =
        let c = a.laid.covered x lt in
        let ok = (a.copies c.thread c.below).does.passes c.part c.has in
        subst (λ y. IsFromZero (into y).offset) (sym c.sum)
        (behind_from_zero c.part.into (into (c.is.first + c.rest)) c.rest (c.is.into_goes c.rest c.less) ok.into_zero)

    -- Each byte of the destination holds what its byte of the source held.
    pub values_move : AllCopy → (x : ℕ) → x < bytes → after (location (into x)) ≡ before (location (from x))
    values_move a x lt = elim (done a x lt) [
      | inl h ↦
          let w = a.writes h.0 (location (into x)) h.1 h.2 h.3 in
          let ok = right a w.0 (location (into x)) w.1 w.2 w.3 in
          let same = a.laid.one x ok.byte (covered_zero a x lt) ok.zero ok.at in
          w.4 ∙ sym ok.held ∙ ap (λ y. before (location (from y))) (sym same)
      | inr h ↦ h.0 ∙ sym h.1
    ]
