-- Values at places.
use Rattle.std.proofs.Common.{◌≡◌, ◌≢◌, ◌==◌, cond, Option, eq-eqb, ℕ, suc, ◌+◌, ◌<◌, ◌≤◌, List, [], ◌∷◌, ◌++◌, length, map, get_or, set, slice_get, Some, None, refl, sym, ap, ◌∙◌, inl, inr, arith}
use Rattle.std.proofs.lemmas.Bool.{cases_eq, ne_eqb}
use Rattle.std.proofs.lemmas.List.{get_or-set_same, get_or-set_other}
use Rattle.shared_heap.specs.code.Page.{value_at, IsPage}

module _ {X : Type 0} where
  get-set : (vs : List X) (k : ℕ) (v : X) → k < length vs → slice_get (set vs k v) k ≡ Some v
  get-set [] k v lt = absurd (omega arith)
  get-set (x ∷ vs) ℕ.zero v lt = refl
  get-set (x ∷ vs) (suc k) v lt = get-set vs k v (omega arith)

  get-other : (vs : List X) (k j : ℕ) (v : X) → (j ≢ k) → slice_get (set vs k v) j ≡ slice_get vs j
  get-other [] k j v ne = refl
  get-other (x ∷ vs) ℕ.zero ℕ.zero v ne = absurd (ne refl)
  get-other (x ∷ vs) ℕ.zero (suc j) v ne = refl
  get-other (x ∷ vs) (suc k) ℕ.zero v ne = refl
  get-other (x ∷ vs) (suc k) (suc j) v ne = get-other vs k j v (λ e. ne (ap suc e))

  get-front : (vs : List X) (v : X) (j : ℕ) → j < length vs → slice_get (vs ++ v ∷ []) j ≡ slice_get vs j
  get-front [] v j lt = absurd (omega arith)
  get-front (x ∷ vs) v ℕ.zero lt = refl
  get-front (x ∷ vs) v (suc j) lt = get-front vs v j (omega arith)

  get-last : (vs : List X) (v : X) → slice_get (vs ++ v ∷ []) (length vs) ≡ Some v
  get-last [] v = refl
  get-last (x ∷ vs) v = get-last vs v

  value-other : (vs : List X) (k p : ℕ) (v : X) → (p ≢ suc k) → value_at (set vs k v) p ≡ value_at vs p
  value-other vs k ℕ.zero v ne = refl
  value-other vs k (suc j) v ne = get-other vs k j v (λ e. ne (ap suc e))

  value-front : (vs : List X) (v : X) (p : ℕ) → p ≤ length vs → value_at (vs ++ v ∷ []) p ≡ value_at vs p
  value-front vs v ℕ.zero le = refl
  value-front vs v (suc j) le = get-front vs v j (omega arith)

  -- what stands at an offset
  pub at-offset : (vs : List X) (ps : List ℕ) (k : ℕ) → get_or (map (value_at vs) ps) k None ≡ value_at vs (get_or ps k 0)
  at-offset vs [] k = refl
  at-offset vs (p ∷ ps) ℕ.zero = refl
  at-offset vs (p ∷ ps) (suc k) = at-offset vs ps k

  -- one offset has another value, and the others have theirs
  by-offset : (vs ws : List X) (ps qs : List ℕ) (at : ℕ) (w : Option X) → value_at ws (get_or qs at 0) ≡ w
      → ((k : ℕ) → (k ≢ at) → value_at ws (get_or qs k 0) ≡ value_at vs (get_or ps k 0))
      → (k : ℕ) → get_or (map (value_at ws) qs) k None ≡ cond (at == k) w (get_or (map (value_at vs) ps) k None)
  by-offset vs ws ps qs at w here there k =
      let old = get_or (map (value_at vs) ps) k None in
      at-offset ws qs k
      ∙ elim (cases_eq at k) [
        | inl e ↦ ap (λ i. value_at ws (get_or qs i 0)) (sym e) ∙ here ∙ sym (ap (λ b. cond b w old) (eq-eqb at k e))
        | inr ne ↦ there k (λ e. ne (sym e)) ∙ sym (at-offset vs ps k) ∙ sym (ap (λ b. cond b w old) (ne_eqb at k ne))
      ]

  -- a value changes where its place is
  pub saved-over : (vs : List X) (ps : List ℕ) (at n : ℕ) (v : X) → IsPage vs ps → get_or ps at 0 ≡ suc n
      → (k : ℕ) → get_or (map (value_at (set vs n v)) ps) k None ≡ cond (at == k) (Some v) (get_or (map (value_at vs) ps) k None)
  saved-over vs ps at n v page is =
      let within = page.within at in
      by-offset vs (set vs n v) ps ps at (Some v) (ap (value_at (set vs n v)) is ∙ get-set vs n v (omega arith))
      (λ k ne. value-other vs n (get_or ps k 0) v (λ e. ne (sym (page.apart at k (omega arith) (is ∙ sym e)))))

  -- a new value at the end
  pub saved-new : (vs : List X) (ps qs : List ℕ) (at : ℕ) (v : X) → IsPage vs ps → ((k : ℕ) → get_or qs k 0 ≡ get_or ps k 0) → at < length qs
      → (k : ℕ) → get_or (map (value_at (vs ++ v ∷ [])) (set qs at (length vs + 1))) k None ≡ cond (at == k) (Some v) (get_or (map (value_at vs) ps) k None)
  saved-new vs ps qs at v page same lt =
      let n = length vs + 1 in
      let next : n ≡ suc (length vs) = omega arith in
      by-offset vs (vs ++ v ∷ []) ps (set qs at n) at (Some v)
      (ap (value_at (vs ++ v ∷ [])) (get_or-set_same qs at n 0 lt ∙ next) ∙ get-last vs v)
      (λ k ne. ap (value_at (vs ++ v ∷ [])) (get_or-set_other qs at k n 0 ne ∙ same k) ∙ value-front vs v (get_or ps k 0) (page.within k))

  -- an offset is forgotten
  pub forgotten : (vs : List X) (ps : List ℕ) (at : ℕ) → at < length ps
      → (k : ℕ) → get_or (map (value_at vs) (set ps at 0)) k None ≡ cond (at == k) None (get_or (map (value_at vs) ps) k None)
  forgotten vs ps at lt =
      by-offset vs vs ps (set ps at 0) at None (ap (value_at vs) (get_or-set_same ps at 0 0 lt)) (λ k ne. ap (value_at vs) (get_or-set_other ps at k 0 0 ne))
