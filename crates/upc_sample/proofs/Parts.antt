-- Texts of a number of parts, part by part.
use Rattle.std.proofs.Common.{◌≡◌, ◌∙◌, ◌++◌, ◌-◌, ◌+◌, ◌<◌, ℕ, suc, List, refl, sym, ap, arith}
use Rattle.std.specs.List.{flat_map, range_with_len}
use Rattle.std.proofs.lemmas.List.{append_assoc}

-- The texts of the numbers from i on, below n.
abbrev pub parts_from : (ℕ → List ℕ) → ℕ → ℕ → List ℕ
parts_from part n i = flat_map part (range_with_len i (n - i))

module _ (part : ℕ → List ℕ) (n : ℕ) where
  next_part : (i : ℕ) → i < n → parts_from part n i ≡ part i ++ parts_from part n (i + 1)
  next_part i lt =
      let e : n - i ≡ suc (n - (i + 1)) = omega arith in
      rw e refl

  -- One part more.
  pub onward : (done all : List ℕ) (i : ℕ) → i < n → done ++ parts_from part n i ≡ all
      → (done ++ part i) ++ parts_from part n (i + 1) ≡ all
  onward done all i lt h =
      append_assoc done (part i) (parts_from part n (i + 1)) ∙ ap (λ l. done ++ l) (sym (next_part i lt)) ∙ h
