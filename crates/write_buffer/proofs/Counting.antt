-- The counts of pending writes, as writes come and leave.
use Rattle.std.proofs.Common.{◌≡◌, ◌≢◌, ℕ, ◌+◌, ◌-◌, ◌<◌, ◌≤◌, ◌==◌, Bool, true, false, cond, List, [], ◌∷◌, ◌++◌, length, get_or, set, replicate, drop, slice_get, Some, All, refl, sym, ap, ◌∙◌, eqb-true, eq-eqb, inl, inr, arith}
use Rattle.std.proofs.lemmas.Bool.{cond_both, cond-true, cases_eq}
use Rattle.std.proofs.lemmas.List.{get_or-set_same, get_or-set_other, length-set, length-replicate}
use Rattle.circular_buffer.specs.Buffer.{keep_last}
use Rattle.block_layout.specs.declared.place.Loc.{Loc}
use Rattle.upc_values.specs.Scalars.{same_loc}
use Rattle.upc_values.proofs.Sameness.{same_loc-true}
use Rattle.write_buffer.specs.declared.pending.Pending.{Pending}
use Rattle.write_buffer.specs.code.Counts.{place_of, counted, IsCounted}

one-or-none : (b : Bool) → cond {A = ℕ} b 1 0 ≤ 1
one-or-none true = omega arith
one-or-none false = omega arith

pub counted-push : (k : ℕ) (ps : List Pending) (p : Pending) → counted k (ps ++ p ∷ []) ≡ counted k ps + cond {A = ℕ} (place_of p.loc == k) 1 0
counted-push k [] p = omega arith
counted-push k (x ∷ ps) p = let h = counted-push k ps p in omega arith

pub counted-few : (k : ℕ) (ps : List Pending) → counted k ps ≤ length ps
counted-few k [] = omega arith
counted-few k (p ∷ ps) = let h = counted-few k ps in let g = one-or-none (place_of p.loc == k) in omega arith

here : (k : ℕ) → cond {A = ℕ} (k == k) 1 0 ≡ 1
here k = cond-true (k == k) 1 0 (eq-eqb k k refl)

elsewhere : (j k : ℕ) → (j ≢ k) → cond {A = ℕ} (j == k) 1 0 ≡ 0
elsewhere j k ne = cond_both {A = ℕ} (j == k) 1 0 (λ z. z ≡ 0) (λ e. absurd (ne (eqb-true j k e))) (λ e. refl)

-- where nothing is counted, no pending write has the location
counted-other : (l : Loc) (p : Pending) (ps : List Pending) → counted (place_of l) (p ∷ ps) ≡ 0 → same_loc p.loc l ≡ false
counted-other l p ps h =
    let P : Bool → Type 0 = λ b. same_loc p.loc l ≡ b → b ≡ false in
    let go : (b : Bool) → P b = λ b. elim b as P [
      | true ↦ λ e.
          let q : place_of p.loc ≡ place_of l = ap place_of (same_loc-true p.loc l e) in
          let one : cond {A = ℕ} (place_of p.loc == place_of l) 1 0 ≡ 1 = cond-true (place_of p.loc == place_of l) 1 0 (eq-eqb (place_of p.loc) (place_of l) q) in
          absurd (omega arith)
      | false ↦ λ e. refl
    ] in
    go (same_loc p.loc l) refl

pub counted-absent : (l : Loc) (ps : List Pending) → counted (place_of l) ps ≡ 0 → All (λ p. same_loc p.loc l ≡ false) ps
counted-absent l [] h = λ k d lt. absurd (omega arith)
counted-absent l (p ∷ ps) h = λ k d lt.
    let G : ℕ → Type 0 = λ k. k < length (p ∷ ps) → same_loc (get_or (p ∷ ps) k d).loc l ≡ false in
    let go : (k : ℕ) → G k = λ k. elim k as G [
      | ℕ.zero ↦ λ lt. counted-other l p ps h
      | ℕ.suc j ↦ λ lt. counted-absent l ps (omega arith) j d (omega arith)
    ] in
    go k lt

-- one more write
pub is_counted-push : (ps : List Pending) (counts : List ℕ) (p : Pending) (place : ℕ) → place ≡ place_of p.loc → place < 256 → IsCounted ps counts
    → IsCounted (ps ++ p ∷ []) (set counts place (get_or counts place 0 + 1))
is_counted-push ps counts p place is below c = record {
  many = length-set counts place (get_or counts place 0 + 1) ∙ c.many;
  each = λ k.
      let push = counted-push k ps p in
      let old = c.each k in
      let same : cond {A = ℕ} (place_of p.loc == k) 1 0 ≡ cond {A = ℕ} (place == k) 1 0 = ap (λ z. cond {A = ℕ} (z == k) 1 0) (sym is) in
      elim (cases_eq k place) [
        | inl q ↦
            let many = c.many in
            let v = get_or counts place 0 + 1 in
            let one : cond {A = ℕ} (place == k) 1 0 ≡ 1 = ap (λ z. cond {A = ℕ} (place == z) 1 0) q ∙ here place in
            let there : get_or (set counts place v) k 0 ≡ v = ap (λ z. get_or (set counts place v) z 0) q ∙ get_or-set_same counts place v 0 (omega arith) in
            let was : get_or counts place 0 ≡ get_or counts k 0 = ap (λ z. get_or counts z 0) (sym q) in
            omega arith
        | inr ne ↦
            let none : cond {A = ℕ} (place == k) 1 0 ≡ 0 = elsewhere place k (λ e. ne (sym e)) in
            let there : get_or (set counts place (get_or counts place 0 + 1)) k 0 ≡ get_or counts k 0 = get_or-set_other counts place k (get_or counts place 0 + 1) 0 ne in
            omega arith
      ];
}

-- the first leaves
pub is_counted-pop : (ps : List Pending) (counts : List ℕ) (p : Pending) (place : ℕ) → place ≡ place_of p.loc → place < 256 → IsCounted (p ∷ ps) counts
    → IsCounted ps (set counts place (get_or counts place 0 - 1))
is_counted-pop ps counts p place is below c = record {
  many = length-set counts place (get_or counts place 0 - 1) ∙ c.many;
  each = λ k.
      let old = c.each k in
      let same : cond {A = ℕ} (place_of p.loc == k) 1 0 ≡ cond {A = ℕ} (place == k) 1 0 = ap (λ z. cond {A = ℕ} (z == k) 1 0) (sym is) in
      elim (cases_eq k place) [
        | inl q ↦
            let many = c.many in
            let v = get_or counts place 0 - 1 in
            let one : cond {A = ℕ} (place == k) 1 0 ≡ 1 = ap (λ z. cond {A = ℕ} (place == z) 1 0) q ∙ here place in
            let there : get_or (set counts place v) k 0 ≡ v = ap (λ z. get_or (set counts place v) z 0) q ∙ get_or-set_same counts place v 0 (omega arith) in
            let was : get_or counts place 0 ≡ get_or counts k 0 = ap (λ z. get_or counts z 0) (sym q) in
            omega arith
        | inr ne ↦
            let none : cond {A = ℕ} (place == k) 1 0 ≡ 0 = elsewhere place k (λ e. ne (sym e)) in
            let there : get_or (set counts place (get_or counts place 0 - 1)) k 0 ≡ get_or counts k 0 = get_or-set_other counts place k (get_or counts place 0 - 1) 0 ne in
            omega arith
      ];
}

-- what is counted at a place of a write that is there
pub counted-some : (ps : List Pending) (p : Pending) → 1 ≤ counted (place_of p.loc) (p ∷ ps)
counted-some ps p = let h = here (place_of p.loc) in omega arith

zeros : (n k : ℕ) → ◌≡◌ {A = ℕ} (get_or (replicate n 0) k 0) 0
zeros ℕ.zero k = refl
zeros (ℕ.suc n) ℕ.zero = refl
zeros (ℕ.suc n) (ℕ.suc k) = zeros n k

-- nothing is counted
pub is_counted-none : IsCounted [] (replicate 256 0)
is_counted-none = record { many = length-replicate {A = ℕ} 256 0; each = λ k. zeros 256 k }

-- a ring that is not too long keeps all
pub keep-all : (n : ℕ) (ps : List Pending) → length ps ≤ n → keep_last n ps ≡ ps
keep-all n ps h = ap (λ k. drop k ps) (let e : length ps - n ≡ 0 = omega arith in e)

-- what is found at a place
pub some-at : {X : Type 0} (xs : List X) (i : ℕ) (x : X) → Some x ≡ slice_get xs i → (i < length xs) × ((d : X) → get_or xs i d ≡ x)
some-at [] i x h = absurd cc
some-at (y ∷ xs) ℕ.zero x h = (omega arith, λ d. cc)
some-at (y ∷ xs) (ℕ.suc i) x h = let r = some-at xs i x h in let lt = r.0 in (omega arith, λ d. r.1 d)
