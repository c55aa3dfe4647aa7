-- Every list of picks, from the shorter ones.
use Rattle.std.proofs.Common.{◌≡◌, ◌∙◌, ◌++◌, ◌-◌, ◌+◌, ◌<◌, ◌≤◌, ℕ, zero, suc, List, [], ◌∷◌, map, Vec, Global, refl, sym, ap, arith}
use Rattle.std.specs.List.{flat_map, range_with_len}
use Rattle.std.proofs.lemmas.List.{append_assoc}
use Rattle.outcomes.specs.Schedules.{lists}
use Rattle.outcomes.specs.code.Prefixed.{begun}

-- the lists of picks of a vector of vectors
abbrev pub picks_in : List (Vec ℕ Global) → List (List ℕ)
picks_in vs = map (λ v. v.items) vs

-- those that begin with a pick from `first` on
abbrev pub begun_from : ℕ → List (List ℕ) → ℕ → List (List ℕ)
begun_from threads shorter first = flat_map (λ t. begun t shorter) (range_with_len first (threads - first))

pub lists-next : (threads most : ℕ) → 1 ≤ most → lists threads most ≡ [] ∷ begun_from threads (lists threads (most - 1)) 0
lists-next threads zero h = absurd (omega arith)
lists-next threads (suc most) h =
    let one : suc most - 1 ≡ most = omega arith in
    let all : threads - 0 ≡ threads = omega arith in
    rw (one, all) refl

module _ (threads : ℕ) (shorter : List (List ℕ)) where
  next-begun : (t : ℕ) → t < threads → begun_from threads shorter t ≡ begun t shorter ++ begun_from threads shorter (t + 1)
  next-begun t lt =
      let e : threads - t ≡ suc (threads - (t + 1)) = omega arith in
      rw e refl

  -- one pick more
  pub onward : (done all : List (List ℕ)) (t : ℕ) → t < threads → done ++ begun_from threads shorter t ≡ all
      → done ++ begun t shorter ++ begun_from threads shorter (t + 1) ≡ all
  onward done all t lt h =
      append_assoc done (begun t shorter) (begun_from threads shorter (t + 1)) ∙ ap (λ l. done ++ l) (sym (next-begun t lt)) ∙ h

  pub none-left : (t : ℕ) → threads ≤ t → begun_from threads shorter t ≡ []
  none-left t h =
      let e : threads - t ≡ 0 = omega arith in
      rw e refl
