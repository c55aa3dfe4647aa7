-- The steps of a reduction and of a prefix reduction: what they write is folded from what was held before.
use Rattle.std.proofs.Common.{◌≡◌, ℕ, zero, suc, ◌+◌, ◌<◌, ◌≤◌, false, List, [], ◌∷◌, ◌++◌, map, length, Some, inl, inr}
use Rattle.std.proofs.Common.{refl, sym, ap, ◌∙◌, subst, arith}
use Rattle.std.specs.Prelude.{ℤ, Result, Ok, Err}
use Rattle.std.specs.List.{range_with_len}
use Rattle.std.proofs.lemmas.Bool.{cases_eq}
use Rattle.std.proofs.lemmas.List.FromFn.{length-map-range_with_len, map-range_with_len_more}
use Rattle.block_layout.specs.declared.place.Loc.{Loc}
use Rattle.block_layout.specs.declared.place.SharedPtr.{SharedPtr}
use Rattle.block_layout.specs.declared.kind.Kind.{Kind}
use Rattle.block_layout.specs.declared.kind.Shape.{Shape}
use Rattle.block_layout.specs.Pointers.{location}
use Rattle.upc_values.specs.declared.scalar.Scalar.{Scalar}
use Rattle.upc_values.specs.declared.scalar.Scalar.TheVariants.{Int}
use Rattle.upc_values.specs.declared.action.Action.TheVariants as act
use Rattle.upc_values.specs.Expansion.{bind}
use Rattle.upc_values.specs.Expansions.{Part, part, number_put, outcome, total, totals, reduce, reduce_prefixes, paired}
use Rattle.upc_values.specs.Reductions.{Reduction, step, step_from, folded, folded_from}
use Rattle.upc_values.specs.Collective.{Holding}
use Rattle.collective_laws_words.specs.layer.Steps.{Step, Performs}
use Rattle.collective_laws_words.specs.layer.Interface.{Wrote}
use Rattle.collective_laws_steps.proofs.Performing.{DoesOne, does_one, split, is_front, is_back, wrote_cases}
use Rattle.collective_laws_steps.proofs.Numbers.{Reads, reads_within, held_number, reads_first}

-- ---- folds

folded_from_push : (op : Reduction) (k : Kind) (a : Result ℤ ℕ) (vs : List ℤ) (v : ℤ)
    → folded_from op k a (vs ++ v ∷ []) ≡ step_from op k (folded_from op k a vs) v
folded_from_push op k a [] v = refl
folded_from_push op k a (w ∷ vs) v = folded_from_push op k (step_from op k a w) vs v

folded_push : (op : Reduction) (k : Kind) (vs : List ℤ) (v : ℤ) → 0 < length vs
    → folded op k (vs ++ v ∷ []) ≡ step_from op k (folded op k vs) v
folded_push op k [] v h = absurd (omega arith)
folded_push op k (w ∷ vs) v h = folded_from_push op k (Ok w) vs v

-- The fold of the first numbers of a row.
abbrev pub front_fold : Reduction → Kind → (ℕ → ℤ) → ℕ → Result ℤ ℕ
front_fold op k f i = folded op k (map f (range_with_len 0 i))

front_more : (op : Reduction) (k : Kind) (f : ℕ → ℤ) (i : ℕ) → 0 < i
    → front_fold op k f (i + 1) ≡ step_from op k (front_fold op k f i) (f i)
front_more op k f i h =
    ap (folded op k) (map-range_with_len_more f 0 i i (omega arith))
    ∙ folded_push op k (map f (range_with_len 0 i)) (f i)
    (let n = length-map-range_with_len f 0 i in omega (arith, n))

-- ---- one write

-- The steps write this number here and nothing else.
pub record WritesOne (l : Loc) (value : ℤ) (did : List Step) : Type 0 where
  pub wrote : Wrote l (Int value) did
  pub only : (m : Loc) (v : Scalar) → Wrote m v did → (m ≡ l) × (v ≡ Int value)

writes_one : (l : Loc) (value : ℤ) (did : List Step) → DoesOne (act.Write false l (Int value)) did
    → WritesOne l value did
writes_one l value did d = record {
  wrote = subst (Wrote l (Int value)) (sym d.is) (inl d.action);
  only = λ m v w. one m v (subst (Wrote m v) d.is w);
}
  where
    one : (m : Loc) (v : Scalar) → Wrote m v (d.step ∷ []) → (m ≡ l) × (v ≡ Int value)
    one m v (inl e) =
        let same : act.Write false m v ≡ act.Write false l (Int value) = sym e ∙ d.action in
        ((let z : m ≡ l = cc in z), (let z : v ≡ Int value = cc in z))
    one m v (inr h) = absurd h

module _ (threads : ℕ) (shapes : List Shape) (me : ℕ) (before : Holding) (op : Reduction) (k : Kind) where
  abbrev held : SharedPtr → ℤ
  held p = held_number threads shapes me k before p

  -- ---- a reduction

  -- The steps write once, here, the fold of these numbers from a value on.
  pub record WritesFold (dst : SharedPtr) (start : Result ℤ ℕ) (vs : List ℤ) (did : List Step) : Type 0 where
    pub value : ℤ
    pub is : folded_from op k start vs ≡ Ok value
    pub one : WritesOne (location dst) value did

  fold_outcome : (dst : SharedPtr) (ps : List SharedPtr) (vs : List ℤ) (o : Result ℤ ℕ) (did : List Step)
      → Performs (bind (outcome threads shapes me o) (λ b. total threads shapes me op k b dst ps)) did tt
      → ((b : ℤ) → Performs (total threads shapes me op k b dst ps) did tt → WritesFold dst (Ok b) vs did)
      → WritesFold dst o vs did
  fold_outcome dst ps vs (Ok b) did h go = go b h
  fold_outcome dst ps vs (Err c) did h go = absurd h

  pub total_writes : (dst : SharedPtr) (ps : List SharedPtr) (a : ℤ) (did : List Step)
      → Reads threads shapes me k before did → Performs (total threads shapes me op k a dst ps) did tt
      → WritesFold dst (Ok a) (map held ps) did
  total_writes dst [] a did r h = record {
    value = a;
    is = refl;
    one = writes_one (location dst) a did (does_one (act.Write false (location dst) (Int a)) did tt h);
  }
  total_writes dst (p ∷ ps) a did r h =
      let first = reads_first threads shapes me k before p
      (λ v. bind (outcome threads shapes me (step op k a v)) (λ b. total threads shapes me op k b dst ps)) did tt r h in
      let t = fold_outcome dst ps (map held ps) (step op k a (held p)) first.rest first.goes
      (λ b g.
      total_writes dst ps b first.rest (reads_within threads shapes me k before first.rest did first.back r) g) in
      record {
        value = t.value;
        is = t.is;
        one = record {
          wrote = first.back.wrote (location dst) (Int t.value) t.one.wrote;
          only = λ l v w. t.one.only l v (first.all l v w);
        };
      }

  pub reduce_writes : (dst p : SharedPtr) (ps : List SharedPtr) (did : List Step)
      → Reads threads shapes me k before did → Performs (reduce threads shapes me (Some op) k dst (p ∷ ps)) did tt
      → WritesFold dst (Ok (held p)) (map held ps) did
  reduce_writes dst p ps did r h =
      let first = reads_first threads shapes me k before p (λ v. total threads shapes me op k v dst ps) did tt r h in
      let t = total_writes dst ps (held p) first.rest
      (reads_within threads shapes me k before first.rest did first.back r) first.goes in
      record {
        value = t.value;
        is = t.is;
        one = record {
          wrote = first.back.wrote (location dst) (Int t.value) t.one.wrote;
          only = λ l v w. t.one.only l v (first.all l v w);
        };
      }

  -- ---- a prefix reduction

  module _ (into from : ℕ → SharedPtr) where
    abbrev number : ℕ → ℤ
    number i = held (from i)

    abbrev parts_from : ℕ → ℕ → List Part
    parts_from s m = map (λ i. part (into i) (from i)) (range_with_len s m)

    -- At element i stands the fold of the numbers up to it.
    pub record IsFront (l : Loc) (v : Scalar) (i : ℕ) : Type 0 where
      pub value : ℤ
      pub at : l ≡ location (into i)
      pub is : front_fold op k number (i + 1) ≡ Ok value
      pub value_is : v ≡ Int value

    -- A write to element i of those from s on, m of them.
    pub record WritesFront (s m : ℕ) (l : Loc) (v : Scalar) : Type 0 where
      pub index : ℕ
      pub least : s ≤ index
      pub below : index < s + m
      pub front : IsFront l v index

    -- The steps write the folds up to each element from s on, m of them, and nothing else.
    pub record WritesFronts (s m : ℕ) (did : List Step) : Type 0 where
      pub wrote :
          (i : ℕ) → s ≤ i → i < s + m
          → (v : Scalar) × Wrote (location (into i)) v did
      pub only : (l : Loc) (v : Scalar) → Wrote l v did → WritesFront s m l v

    abbrev Goes : ℕ → ℕ → ℤ → List Step → Type 0
    Goes s m b did = Performs (totals threads shapes me op k b (parts_from s m)) did tt

    -- The write of element s, and then the rest.
    put_on : (s m : ℕ) (b : ℤ) (did : List Step) → front_fold op k number (s + 1) ≡ Ok b
        → Reads threads shapes me k before did
        → ((rest : List Step) → Reads threads shapes me k before rest → Goes (s + 1) m b rest
        → WritesFronts (s + 1) m rest)
        → Performs (bind (number_put threads shapes me (into s) b)
        (λ u. totals threads shapes me op k b (parts_from (s + 1) m))) did tt
        → WritesFronts s (suc m) did
    put_on s m b did e r go h =
        let q = split (λ u. totals threads shapes me op k b (parts_from (s + 1) m))
        (number_put threads shapes me (into s) b) did tt h in
        let one = writes_one (location (into s)) b q.first
        (does_one (act.Write false (location (into s)) (Int b)) q.first q.value q.begins) in
        let back = is_back did q.first q.rest q.is in
        let rest = go q.rest (reads_within threads shapes me k before q.rest did back r) q.goes in
        record {
          wrote = λ i least below. elim (cases_eq i s) [
            | inl x ↦ (
              Int b,
              subst (λ j. Wrote (location (into j)) (Int b) did) (sym x)
                  ((is_front did q.first q.rest q.is).wrote (location (into s)) (Int b) one.wrote),
            )
            | inr x ↦
                let w = rest.wrote i (omega arith) (omega arith) in
                (w.0, back.wrote (location (into i)) w.0 w.1)
          ];
          only = λ l v w. elim (wrote_cases l v q.first q.rest (subst (Wrote l v) q.is w)) [
            | inl x ↦
                let o = one.only l v x in
                record {
                  index = s;
                  least = omega arith;
                  below = omega arith;
                  front = record { value = b; at = o.0; is = e; value_is = o.1 };
                }
            | inr x ↦
                let o = rest.only l v x in
                let least = o.least in
                let below = o.below in
                record { index = o.index; least = omega arith; below = omega arith; front = o.front }
          ];
        }

    front_outcome : (s m : ℕ) (o : Result ℤ ℕ) (did : List Step) → front_fold op k number (s + 1) ≡ o
        → Reads threads shapes me k before did
        → ((b : ℤ) → front_fold op k number (s + 1) ≡ Ok b → (rest : List Step)
        → Reads threads shapes me k before rest → Goes (s + 1) m b rest → WritesFronts (s + 1) m rest)
        → Performs
        (bind (outcome threads shapes me o) (λ b.
        bind (number_put threads shapes me (into s) b)
        (λ u. totals threads shapes me op k b (parts_from (s + 1) m)))) did tt
        → WritesFronts s (suc m) did
    front_outcome s m (Ok b) did e r go h = put_on s m b did e r (go b e) h
    front_outcome s m (Err c) did e r go h = absurd h

    pub totals_write : (m s : ℕ) (a : ℤ) (did : List Step) → 0 < s → front_fold op k number s ≡ Ok a
        → Reads threads shapes me k before did → Goes s m a did → WritesFronts s m did
    totals_write zero s a did some e r h = record {
      wrote = λ i least below. absurd (omega arith);
      only = λ l v w. absurd (subst (Wrote l v) h.0 w);
    }
    totals_write (suc m) s a did some e r h =
        let first = reads_first threads shapes me k before (from s)
        (λ v. bind (outcome threads shapes me (step op k a v)) (λ b.
        bind (number_put threads shapes me (into s) b) (λ u. totals threads shapes me op k b (parts_from (s + 1) m))))
        did tt r h in
        let next = front_more op k number s some ∙ ap (λ o. step_from op k o (number s)) e in
        let t = front_outcome s m (step op k a (number s)) first.rest next
        (reads_within threads shapes me k before first.rest did first.back r)
        (λ b f rest x g. totals_write m (s + 1) b rest (omega arith) f x g) first.goes in
        record {
          wrote = λ i least below.
              let w = t.wrote i least below in (w.0, first.back.wrote (location (into i)) w.0 w.1);
          only = λ l v w. t.only l v (first.all l v w);
        }

    pub prefixes_write : (m : ℕ) (did : List Step) → Reads threads shapes me k before did
        → Performs (reduce_prefixes threads shapes me (Some op) k (parts_from 0 (suc m))) did tt
        → WritesFronts 0 (suc m) did
    prefixes_write m did r h =
        let first = reads_first threads shapes me k before (from 0)
        (λ v. bind (number_put threads shapes me (into 0) v)
        (λ u. totals threads shapes me op k v (parts_from (0 + 1) m)))
        did tt r h in
        let t = put_on 0 m (number 0) first.rest refl
        (reads_within threads shapes me k before first.rest did first.back r)
        (λ rest x g. totals_write m (0 + 1) (number 0) rest (omega arith) refl x g) first.goes in
        record {
          wrote = λ i least below.
              let w = t.wrote i least below in (w.0, first.back.wrote (location (into i)) w.0 w.1);
          only = λ l v w. t.only l v (first.all l v w);
        }

-- Elements paired one by one.
pub paired_maps : (threads : ℕ) (shapes : List Shape) (me : ℕ) (into from : ℕ → SharedPtr) (xs : List ℕ)
    → paired threads shapes me (map into xs) (map from xs) ≡ map (λ i. part (into i) (from i)) xs
paired_maps threads shapes me into from [] = refl
paired_maps threads shapes me into from (x ∷ xs) =
    ap (λ ps. part (into x) (from x) ∷ ps) (paired_maps threads shapes me into from xs)
