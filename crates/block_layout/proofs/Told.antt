-- Runs whose patterns decide whether their cells are the same.
use Rattle.std.proofs.Common.{◌≡◌, ℕ, zero, suc, ◌+◌, ◌-◌, ◌<◌, ◌==◌, ◌&&◌, inl, inr, Bool, true, false, List, [], ◌∷◌, ◌++◌, length, drop, take, get_or, refl, sym, ap, ◌∙◌, append_assoc, arith}
use Rattle.std.proofs.lemmas.Bool.{eq-eqb}
use Rattle.std.proofs.lemmas.Bool.Decides.{eqb_tells}
use Rattle.block_layout.specs.declared.kind.Kind.{Kind}
use Rattle.block_layout.specs.Cells.{moved, copies, same_cells}
use Rattle.block_layout.specs.Shapes.{same_kind}
use Rattle.block_layout.specs.code.Runs.{Repeated, run_cells, runs_cells, copies_left}
use Rattle.block_layout.specs.code.SameRuns.{IsTold}
use Rattle.block_layout.proofs.Found.{kind_itself}
use Rattle.block_layout.proofs.Same.{same_exact}
use Rattle.block_layout.proofs.Readings.{copies_front}
use Rattle.block_layout.proofs.RunLists.{runs_take}

-- Equal cells in front.
pub same_front : (p xs ys : List (ℕ × Kind)) → same_cells (p ++ xs) (p ++ ys) ≡ same_cells xs ys
same_front [] xs ys = refl
same_front (c ∷ p) xs ys = rw (eq-eqb c.0 c.0 refl, kind_itself c.1) (same_front p xs ys)

-- Cells in front that differ.
pub differ_front : (p q xs ys : List (ℕ × Kind)) → length p ≡ length q → same_cells p q ≡ false → same_cells (p ++ xs) (q ++ ys) ≡ false
differ_front [] [] xs ys l h = absurd cc
differ_front [] (d ∷ q) xs ys l h = absurd (omega arith)
differ_front (c ∷ p) [] xs ys l h = absurd (omega arith)
differ_front (c ∷ p) (d ∷ q) xs ys l h = go (c.0 == d.0) (same_kind c.1 d.1) h (differ_front p q xs ys (omega arith))
  where
    go : (a b : Bool) → (a && (b && same_cells p q)) ≡ false → (same_cells p q ≡ false → same_cells (p ++ xs) (q ++ ys) ≡ false)
        → (a && (b && same_cells (p ++ xs) (q ++ ys))) ≡ false
    go true true h f = f h
    go true false h f = refl
    go false b h f = refl

same_place : (d a b : ℕ) → ((d + a) == (d + b)) ≡ (a == b)
same_place d a b =
    elim (eqb_tells a b) [
      | inl y ↦ eq-eqb (d + a) (d + b) (ap (λ n. d + n) y.1) ∙ sym y.0
      | inr k ↦ elim (eqb_tells (d + a) (d + b)) [
        | inl y ↦ absurd (k.1 (omega (arith, y.1)))
        | inr m ↦ m.0 ∙ sym k.0
      ]
    ]

pub same_moved : (d : ℕ) (p q : List (ℕ × Kind)) → same_cells (moved d p) (moved d q) ≡ same_cells p q
same_moved d [] [] = refl
same_moved d [] (e ∷ q) = refl
same_moved d (c ∷ p) [] = refl
same_moved d (c ∷ p) (e ∷ q) = rw (same_place d c.0 e.0, same_moved d p q) refl

length_moved : (d : ℕ) (p : List (ℕ × Kind)) → length (moved d p) ≡ length p
length_moved d [] = refl
length_moved d (c ∷ p) = ap suc (length_moved d p)

-- Runs whose first copies differ.
pub runs_differ : (r s : Repeated) → 0 < r.count → r.start ≡ s.start → r.stride ≡ s.stride → r.count ≡ s.count → length r.cells ≡ length s.cells → same_cells r.cells s.cells ≡ false
    → (xs ys : List (ℕ × Kind)) → same_cells (run_cells r ++ xs) (run_cells s ++ ys) ≡ false
runs_differ r s some a b n l h xs ys =
    let m : ℕ = r.count - 1 in
    let e : r.count ≡ suc m = omega (arith, some) in
    let f : s.count ≡ suc m = sym n ∙ e in
    let front : run_cells r ≡ copies_left r.cells r.start r.stride m r.cells = ap (λ k. moved r.start (copies k r.stride r.cells)) e ∙ copies_front m r.start r.stride r.cells in
    let back : run_cells s ≡ copies_left s.cells r.start s.stride m s.cells =
    ap (λ k. moved s.start (copies k s.stride s.cells)) f ∙ ap (λ d. moved d (copies (suc m) s.stride s.cells)) (sym a) ∙ copies_front m r.start s.stride s.cells in
    let rest : List (ℕ × Kind) = moved (r.start + r.stride) (copies m r.stride r.cells) in
    let others : List (ℕ × Kind) = moved (r.start + s.stride) (copies m s.stride s.cells) in
    ap (λ p. same_cells (p ++ xs) (run_cells s ++ ys)) front ∙ ap (λ q. same_cells ((moved r.start r.cells ++ rest) ++ xs) (q ++ ys)) back
    ∙ ap (λ p. same_cells p ((moved r.start s.cells ++ others) ++ ys)) (append_assoc (moved r.start r.cells) rest xs)
    ∙ ap (λ q. same_cells (moved r.start r.cells ++ (rest ++ xs)) q) (append_assoc (moved r.start s.cells) others ys)
    ∙ differ_front (moved r.start r.cells) (moved r.start s.cells) (rest ++ xs) (others ++ ys) (length_moved r.start r.cells ∙ l ∙ sym (length_moved r.start s.cells))
    (same_moved r.start r.cells s.cells ∙ h)

-- What the patterns of two runs decide.
pub run_told : (r s : Repeated) (same : Bool) → 0 < r.count → r.start ≡ s.start → r.stride ≡ s.stride → r.count ≡ s.count → length r.cells ≡ length s.cells → same ≡ same_cells r.cells s.cells
    → IsTold same (run_cells r) (run_cells s)
run_told r s true some a b n l h =
    ap (λ d. moved d (copies r.count r.stride r.cells)) a ∙ ap (λ k. moved s.start (copies k r.stride r.cells)) n
    ∙ ap (λ d. moved s.start (copies s.count d r.cells)) b ∙ ap (λ xs. moved s.start (copies s.count s.stride xs)) (same_exact r.cells s.cells (sym h))
run_told r s false some a b n l h = runs_differ r s some a b n l (sym h)

-- The runs up to the next one are equal.
pub told_take : (rs ts : List Repeated) (i : ℕ) (r t : Repeated) → i < length rs → i < length ts → r ≡ get_or rs i r → t ≡ get_or ts i t
    → runs_cells (take i rs) ≡ runs_cells (take i ts) → run_cells r ≡ run_cells t → runs_cells (take (i + 1) rs) ≡ runs_cells (take (i + 1) ts)
told_take rs ts i r t l m is at before e =
    runs_take rs i r l ∙ ap (λ xs. xs ++ run_cells (get_or rs i r)) before
    ∙ ap (λ (x : Repeated). runs_cells (take i ts) ++ run_cells x) (sym is) ∙ ap (λ xs. runs_cells (take i ts) ++ xs) e
    ∙ ap (λ (x : Repeated). runs_cells (take i ts) ++ run_cells x) at ∙ sym (runs_take ts i t m)

pub runs_parts : (rs : List Repeated) (i : ℕ) (d : Repeated) → i < length rs → runs_cells rs ≡ runs_cells (take i rs) ++ (run_cells (get_or rs i d) ++ runs_cells (drop (i + 1) rs))
runs_parts [] i d l = absurd (omega arith)
runs_parts (r ∷ rs) zero d l = refl
runs_parts (r ∷ rs) (suc i) d l =
    let e : suc (i + 1) ≡ suc i + 1 = omega arith in
    ap (λ xs. run_cells r ++ xs) (runs_parts rs i d (omega arith))
    ∙ sym (append_assoc (run_cells r) (runs_cells (take i rs)) (run_cells (get_or rs i d) ++ runs_cells (drop (i + 1) rs)))
    ∙ ap (λ n. (run_cells r ++ runs_cells (take i rs)) ++ (run_cells (get_or rs i d) ++ runs_cells (drop n (r ∷ rs)))) e

-- Runs that differ after equal ones.
pub told_differ : (rs ts : List Repeated) (i : ℕ) (r t : Repeated) → i < length rs → i < length ts → r ≡ get_or rs i r → t ≡ get_or ts i t
    → runs_cells (take i rs) ≡ runs_cells (take i ts) → IsTold false (run_cells r) (run_cells t) → IsTold false (runs_cells rs) (runs_cells ts)
told_differ rs ts i r t l m is at before differ xs ys =
    let p : List (ℕ × Kind) = runs_cells (take i ts) in
    let a : List (ℕ × Kind) = runs_cells (drop (i + 1) rs) in
    let b : List (ℕ × Kind) = runs_cells (drop (i + 1) ts) in
    let first : runs_cells rs ++ xs ≡ p ++ (run_cells r ++ (a ++ xs)) =
    ap (λ zs. zs ++ xs) (runs_parts rs i r l ∙ ap (λ zs. zs ++ (run_cells (get_or rs i r) ++ a)) before ∙ ap (λ (x : Repeated). p ++ (run_cells x ++ a)) (sym is))
    ∙ append_assoc p (run_cells r ++ a) xs ∙ ap (λ zs. p ++ zs) (append_assoc (run_cells r) a xs)
    in
    let second : runs_cells ts ++ ys ≡ p ++ (run_cells t ++ (b ++ ys)) =
    ap (λ zs. zs ++ ys) (runs_parts ts i t m ∙ ap (λ (x : Repeated). p ++ (run_cells x ++ b)) (sym at))
    ∙ append_assoc p (run_cells t ++ b) ys ∙ ap (λ zs. p ++ zs) (append_assoc (run_cells t) b ys)
    in
    ap (λ zs. same_cells zs (runs_cells ts ++ ys)) first ∙ ap (λ zs. same_cells (p ++ (run_cells r ++ (a ++ xs))) zs) second
    ∙ same_front p (run_cells r ++ (a ++ xs)) (run_cells t ++ (b ++ ys)) ∙ differ (a ++ xs) (b ++ ys)

-- Tails after equal runs.
pub told_tails : (rs ts xs ys : List (ℕ × Kind)) → rs ≡ ts → same_cells (rs ++ xs) (ts ++ ys) ≡ same_cells xs ys
told_tails rs ts xs ys e = ap (λ zs. same_cells (zs ++ xs) (ts ++ ys)) e ∙ same_front ts xs ys
