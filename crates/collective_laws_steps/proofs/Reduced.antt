-- The reductions leave their values.
use Rattle.std.proofs.Common.{◌≡◌, ℕ, zero, suc, ◌+◌, ◌<◌, ◌==◌, Bool, true, false, not, ◌&&◌, ◌||◌, cond, List, []}
use Rattle.std.proofs.Common.{◌∷◌, ◌++◌, map, take, Option, Some, None, is_none, ◌⊎◌, inl, inr, refl, sym, ap, ◌∙◌}
use Rattle.std.proofs.Common.{subst, arith}
use Rattle.std.specs.Prelude.{ℤ, Ok}
use Rattle.std.specs.List.{list_any, range_with_len}
use Rattle.std.proofs.lemmas.Bool.{and_parts, or_parts, not-false, not-true, eqb-false, eq-eqb, false≢true}
use Rattle.std.proofs.lemmas.List.FromFn.{take-map-range_with_len}
use Rattle.block_layout.specs.declared.place.Loc.{Loc}
use Rattle.block_layout.specs.declared.place.SharedPtr.{SharedPtr}
use Rattle.block_layout.specs.declared.kind.Kind.{Kind}
use Rattle.block_layout.specs.declared.kind.Kind.TheVariants as kind
use Rattle.block_layout.specs.declared.kind.Shape.{Shape}
use Rattle.block_layout.specs.declared.run_error.TheConstants.{OUT_OF_OBJECT, POINTER_RANGE, CELL_TYPE}
use Rattle.block_layout.specs.Pointers.{is_null, location}
use Rattle.block_layout.specs.Shapes.{kind_size}
use Rattle.upc_values.specs.declared.scalar.Scalar.{Scalar}
use Rattle.upc_values.specs.layer.Parts.{outside, operand}
use Rattle.upc_values.specs.declared.scalar.Scalar.TheVariants.{Int}
use Rattle.upc_values.specs.Calls.{Reduces, Reduces_prefixes}
use Rattle.upc_values.specs.Expansion.{Expansion, nothing}
use Rattle.upc_values.specs.Expansions.{Part, are_flags, are_reduction_args, is_large, is_phase, is_aligned, are_cells}
use Rattle.upc_values.specs.Expansions.{operands, paired, part, reduce, reduce_prefixes}
use Rattle.upc_values.specs.Reductions.{Reduction, reduction, element_kind}
use Rattle.upc_values.specs.Views.{with_block, leaves_range, is_cell}
use Rattle.upc_values.specs.Collective.{Holding, HoldsFold, HoldsCollective, folded_by, number_in, numbers}
use Rattle.upc_values.specs.Collective.{operand_at}
use Rattle.upc_values.proofs.Membership.{has-left}
use Rattle.collective_laws_words.specs.layer.Steps.{Step, Performs}
use Rattle.collective_laws_words.specs.layer.Interface.{AreDone, Wrote}
use Rattle.collective_laws_steps.proofs.Lists.{none_of, map_has, map_twice, range_has}
use Rattle.collective_laws_steps.proofs.Rows.{IsFromZero, piece_from_zero, one_element}
use Rattle.collective_laws_steps.proofs.Performing.{passes_three}
use Rattle.collective_laws_steps.proofs.Numbers.{Reads, held_number}
use Rattle.collective_laws_steps.proofs.Folds.{reduce_writes, prefixes_write, paired_maps}

some_size : (k : Kind) → 0 < kind_size k
some_size kind.Char = omega arith
some_size kind.UChar = omega arith
some_size kind.Short = omega arith
some_size kind.UShort = omega arith
some_size kind.Int = omega arith
some_size kind.UInt = omega arith
some_size kind.Long = omega arith
some_size kind.ULong = omega arith
some_size (kind.Shared n b) = omega arith
some_size kind.Lock = omega arith
some_size (kind.Private n) = omega arith

-- What one thread alone does: the others do nothing.
pub at_home : (b : Bool) (e : Expansion (Unit {0})) (did : List Step) → Performs (cond b e nothing) did tt
    → Performs e did tt ⊎ (did ≡ [])
at_home true e did h = inl h
at_home false e did h = inr h.0

pub home_performs : (b : Bool) (e : Expansion (Unit {0})) (did : List Step) → b ≡ true
    → Performs (cond b e nothing) did tt → Performs e did tt
home_performs true e did q h = h
home_performs false e did q h = absurd (false≢true q)

-- Arguments of a reduction: there is an operator, and at least one element.
pub record AreTaken (op : ℤ) (n : ℕ) : Type 0 where
  pub operator : is_none (reduction op) ≡ false
  pub some : 0 < n

taken : (src : SharedPtr) (op : ℤ) (n blk : ℕ) (f : ℤ) → are_reduction_args src op n blk f ≡ true → AreTaken op n
taken src op n blk f h =
    let sizes = not (is_large n) && (not (is_large blk) && is_phase src blk) in
    let a = and_parts (are_flags f) (not (is_none (reduction op)) && (not (n == 0) && sizes)) h in
    let b = and_parts (not (is_none (reduction op))) (not (n == 0) && sizes) a.1 in
    let c = and_parts (not (n == 0)) sizes b.1 in
    record {
      operator = not-true (is_none (reduction op)) b.0;
      some = let none = eqb-false n 0 (not-true (n == 0) c.0) in omega (arith, none);
    }

second_passes : (a b : Bool) → (a || (not b || false)) ≡ false → b ≡ true
second_passes a b h = not-false b (or_parts (not b) false (or_parts a (not b || false) h).1).0

-- ---- what a reduction writes

module _ (threads : ℕ) (shapes : List Shape) (me k : ℕ) (before : Holding) where
  -- The steps write once, here, what the operator gives on the numbers.
  record Folds (ro : Option Reduction) (dst : SharedPtr) (vs : List ℤ) (did : List Step) : Type 0 where
    value : ℤ
    is : folded_by ro k vs ≡ Some (Ok value)
    wrote : Wrote (location dst) (Int value) did
    only : (l : Loc) (v : Scalar) → Wrote l v did → v ≡ Int value

  abbrev held : SharedPtr → ℤ
  held p = held_number threads shapes me (element_kind k) before p

  folds : (ro : Option Reduction) (dst p : SharedPtr) (ps : List SharedPtr) (did : List Step) → is_none ro ≡ false
      → Reads threads shapes me (element_kind k) before did
      → Performs (reduce threads shapes me ro (element_kind k) dst (p ∷ ps)) did tt
      → Folds ro dst (map held (p ∷ ps)) did
  folds None dst p ps did e r h = absurd (false≢true (sym e))
  folds (Some op) dst p ps did e r h =
      let w = reduce_writes threads shapes me before op (element_kind k) dst p ps did r h in
      record { value = w.value; is = ap Some w.is; wrote = w.one.wrote; only = λ l v x. (w.one.only l v x).1 }

  -- The steps write at each element what the operator gives on the numbers up to it.
  record Fronts (ro : Option Reduction) (into from : ℕ → SharedPtr) (n : ℕ) (did : List Step) : Type 0 where
    wrote : (i : ℕ) → i < n → (v : Scalar) × Wrote (location (into i)) v did
    only :
        (l : Loc) (v : Scalar) → Wrote l v did
        → (j : ℕ) × (value : ℤ) × (j < n) × (l ≡ location (into j))
        × (folded_by ro k (map (λ i. held (from i)) (range_with_len 0 (j + 1))) ≡ Some (Ok value)) × (v ≡ Int value)

  fronts : (ro : Option Reduction) (into from : ℕ → SharedPtr) (m : ℕ) (did : List Step) → is_none ro ≡ false
      → Reads threads shapes me (element_kind k) before did
      → Performs
      (reduce_prefixes threads shapes me ro (element_kind k)
      (map (λ i. part (into i) (from i)) (range_with_len 0 (suc m)))) did tt
      → Fronts ro into from (suc m) did
  fronts None into from m did e r h = absurd (false≢true (sym e))
  fronts (Some op) into from m did e r h =
      let w = prefixes_write threads shapes me before op (element_kind k) into from m did r h in
      record {
        wrote = λ i lt. w.wrote i (omega arith) (omega arith);
        only = λ l v x.
            let o = w.only l v x in
            let below = o.below in
            (o.index, o.front.value, omega arith, o.front.at, ap Some o.front.is, o.front.value_is);
      }

-- ---- reduce

module _ (threads : ℕ) (shapes : List Shape) (dst src : SharedPtr) (op : ℤ) (blk k : ℕ) (f : ℤ)
    (before after : Holding) where
  abbrev elements : ℕ → ℕ → List SharedPtr
  elements me n = operands threads shapes me src blk k n

  abbrev folding : ℕ → ℕ → Expansion (Unit {0})
  folding me n = reduce threads shapes me (reduction op) (element_kind k) dst (elements me n)

  same_numbers : (me n : ℕ)
      → map (held threads shapes me k before) (elements me n) ≡ numbers threads src blk k n before
  same_numbers me n =
      map_twice (operand threads shapes me src blk k) (held threads shapes me k before) (range_with_len 0 n)

  folds_at : (me m : ℕ) (did : List Step) → is_none (reduction op) ≡ false
      → Reads threads shapes me (element_kind k) before did
      → Performs (are_cells threads shapes me (element_kind k) (dst ∷ elements me (suc m)) (folding me (suc m))) did tt
      → Folds threads shapes me k before (reduction op) dst (numbers threads src blk k (suc m) before) did
  folds_at me m did e r h =
      let ps = dst ∷ elements me (suc m) in
      let size = kind_size (element_kind k) in
      let q = passes_three (list_any (leaves_range size) ps) (list_any (outside threads shapes me size) ps)
      (list_any (λ p. not (is_cell shapes (element_kind k) p)) ps) POINTER_RANGE OUT_OF_OBJECT CELL_TYPE
      (folding me (suc m)) did tt h in
      subst (λ vs. Folds threads shapes me k before (reduction op) dst vs did) (same_numbers me (suc m))
      (folds threads shapes me k before (reduction op) dst (operand threads shapes me src blk k 0)
      (map (operand threads shapes me src blk k) (range_with_len (0 + 1) m)) did e r q.goes)

  module _ (n : ℕ) (a : AreDone threads shapes (Reduces dst src op n blk k f) before after) where
    home_below : dst.thread < threads
    home_below = a.formed.0.thread

    are_taken : AreTaken op n
    are_taken =
        taken src op n blk f
        (second_passes (is_null dst || is_null src) (are_reduction_args src op n blk f)
        (a.passed dst.thread home_below))

  held_fold : (m : ℕ) (a : AreDone threads shapes (Reduces dst src op (suc m) blk k f) before after)
      → HoldsFold op k (numbers threads src blk k (suc m) before) (after (location dst))
  held_fold m a =
      let lt = home_below (suc m) a in
      let home = dst.thread in
      let operator = (are_taken (suc m) a).operator in
      let work = λ (me : ℕ). are_cells threads shapes me (element_kind k) (dst ∷ elements me (suc m))
      (folding me (suc m)) in
      let own = folds_at home m (a.dids home) operator (λ l v x. a.reads home l v lt x)
      (home_performs (home == home) (work home) (a.dids home) (eq-eqb home home refl) (a.performs home lt)) in
      let w = a.writes home (location dst) (Int own.value) lt own.wrote in
      elim (at_home (home == w.0) (work w.0) (a.dids w.0) (a.performs w.0 w.2)) [
        | inl g ↦
            let other = folds_at w.0 m (a.dids w.0) operator (λ l v x. a.reads w.0 l v w.2 x) g in
            record { value = other.value; is = other.is; held = w.4 ∙ ap Some (other.only (location dst) w.1 w.3) }
        | inr e ↦ absurd (subst (Wrote (location dst) w.1) e w.3)
      ]

pub reduce_holds : (threads : ℕ) (shapes : List Shape) (dst src : SharedPtr) (op : ℤ) (n blk k : ℕ) (f : ℤ)
    → (before after : Holding) → AreDone threads shapes (Reduces dst src op n blk k f) before after
    → HoldsFold op k (numbers threads src blk k n before) (after (location dst))
reduce_holds threads shapes dst src op zero blk k f before after a =
    let t = are_taken threads shapes dst src op blk k f before after 0 a in
    let some = t.some in absurd (omega arith)
reduce_holds threads shapes dst src op (suc m) blk k f before after a =
    held_fold threads shapes dst src op blk k f before after m a

-- ---- prefix reduce

module _ (threads : ℕ) (shapes : List Shape) (dst src : SharedPtr) (op : ℤ) (n blk k : ℕ) (f : ℤ)
    (before after : Holding) (a : AreDone threads shapes (Reduces_prefixes dst src op n blk k f) before after) where
  prefix_home : dst.thread < threads
  prefix_home = a.formed.0.thread

  prefix_taken : AreTaken op n
  prefix_taken =
      let args = are_reduction_args src op n blk f in
      taken src op n blk f
      (and_parts args (is_phase dst blk && is_aligned dst src blk)
      (second_passes (is_null dst || is_null src) (args && (is_phase dst blk && is_aligned dst src blk))
      (a.passed dst.thread prefix_home))).0

-- What a thread that does a prefix reduction writes, and that the elements of its destination begin at 0 or after it.
record Prefixes (threads : ℕ) (shapes : List Shape) (me k : ℕ) (before : Holding) (op : ℤ) (into from : ℕ → SharedPtr)
    (n : ℕ) (did : List Step) : Type 0 where
  fronts : Fronts threads shapes me k before (reduction op) into from n did
  zero : (i : ℕ) → i < n → IsFromZero (into i).offset

module _ (threads : ℕ) (shapes : List Shape) (dst src : SharedPtr) (op : ℤ) (blk k : ℕ) (before : Holding) (me m : ℕ)
    (did : List Step) where
  abbrev into_at : ℕ → SharedPtr
  into_at i = operand threads shapes me dst blk k i

  abbrev from_at : ℕ → SharedPtr
  from_at i = operand threads shapes me src blk k i

  abbrev prefix_work : Expansion (Unit {0})
  prefix_work =
      let into = operands threads shapes me dst blk k (suc m) in
      let from = operands threads shapes me src blk k (suc m) in
      are_cells threads shapes me (element_kind k) (into ++ from)
      (reduce_prefixes threads shapes me (reduction op) (element_kind k) (paired threads shapes me into from))

  prefixes : is_none (reduction op) ≡ false → Reads threads shapes me (element_kind k) before did
      → Performs prefix_work did tt → Prefixes threads shapes me k before op into_at from_at (suc m) did
  prefixes e r h =
      let into = operands threads shapes me dst blk k (suc m) in
      let from = operands threads shapes me src blk k (suc m) in
      let ps = into ++ from in
      let size = kind_size (element_kind k) in
      let go = λ (xs : List Part). reduce_prefixes threads shapes me (reduction op) (element_kind k) xs in
      let q = passes_three (list_any (leaves_range size) ps) (list_any (outside threads shapes me size) ps)
      (list_any (λ p. not (is_cell shapes (element_kind k) p)) ps) POINTER_RANGE OUT_OF_OBJECT CELL_TYPE
      (go (paired threads shapes me into from)) did tt h in
      record {
        fronts =
            fronts threads shapes me k before (reduction op) into_at from_at m did e r
            (subst (λ xs. Performs (go xs) did tt) (paired_maps threads shapes me into_at from_at
            (range_with_len 0 (suc m))) q.goes);
        zero = λ i lt.
            piece_from_zero threads size (into_at i)
            (none_of (outside threads shapes me size) ps (into_at i) q.second
            (has-left into from (into_at i)
            (map_has (operand threads shapes me dst blk k) (range_with_len 0 (suc m)) i
            (range_has 0 (suc m) i (omega arith) (omega arith)))));
      }

module _ (threads : ℕ) (shapes : List Shape) (dst src : SharedPtr) (op : ℤ) (blk k : ℕ) (f : ℤ)
    (before after : Holding) where
  held_front : (m : ℕ) (a : AreDone threads shapes (Reduces_prefixes dst src op (suc m) blk k f) before after) (i : ℕ)
      → i < suc m
      → HoldsFold op k (take (i + 1) (numbers threads src blk k (suc m) before))
      (after (operand_at threads dst blk k i))
  held_front m a i below =
      let lt = prefix_home threads shapes dst src op (suc m) blk k f before after a in
      let home = dst.thread in
      let operator = (prefix_taken threads shapes dst src op (suc m) blk k f before after a).operator in
      let work = λ (me : ℕ). prefix_work threads shapes dst src op blk k before me m (a.dids me) in
      let own = prefixes threads shapes dst src op blk k before home m (a.dids home) operator
      (λ l v x. a.reads home l v lt x)
      (home_performs (home == home) (work home) (a.dids home) (eq-eqb home home refl) (a.performs home lt)) in
      let wrote = own.fronts.wrote i below in
      let w = a.writes home (operand_at threads dst blk k i) wrote.0 lt wrote.1 in
      elim (at_home (home == w.0) (work w.0) (a.dids w.0) (a.performs w.0 w.2)) [
        | inl g ↦
            let other = prefixes threads shapes dst src op blk k before w.0 m (a.dids w.0) operator
            (λ l v x. a.reads w.0 l v w.2 x) g in
            let o = other.fronts.only (operand_at threads dst blk k i) w.1 w.3 in
            let same : i ≡ o.0 =
            one_element (with_block dst blk) blk (kind_size (element_kind k)) threads i o.0 (some_size (element_kind k))
            a.some (own.zero i below) (other.zero o.0 o.2) o.3 in
            record {
              value = o.1;
              is =
                  ap (folded_by (reduction op) k)
                  (take-map-range_with_len (λ j. number_in (before (operand_at threads src blk k j))) 0 (suc m) (i + 1)
                  (omega arith)
                  ∙ ap (λ j. map (λ x. number_in (before (operand_at threads src blk k x)))
                  (range_with_len 0 (j + 1))) same)
                  ∙ o.4;
              held = w.4 ∙ ap Some o.5;
            }
        | inr e ↦ absurd (subst (Wrote (operand_at threads dst blk k i) w.1) e w.3)
      ]

pub prefixes_hold : (threads : ℕ) (shapes : List Shape) (dst src : SharedPtr) (op : ℤ) (n blk k : ℕ) (f : ℤ)
    → (before after : Holding) → AreDone threads shapes (Reduces_prefixes dst src op n blk k f) before after
    → HoldsCollective threads (Reduces_prefixes dst src op n blk k f) before after
prefixes_hold threads shapes dst src op zero blk k f before after a i lt = absurd (omega arith)
prefixes_hold threads shapes dst src op (suc m) blk k f before after a i lt =
    held_front threads shapes dst src op blk k f before after m a i lt
