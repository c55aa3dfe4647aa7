-- What is under a byte, where the cells ascend.
use Rattle.std.proofs.Common.{◌≡◌, ◌≢◌, inl, inr, ℕ, suc, ◌+◌, ◌*◌, ◌<◌, ◌≤◌, ◌==◌, nat_le, Bool, true, false, cond, List, [], ◌∷◌, ◌++◌, length, get_or, take, drop, Some, None, refl, sym, ap, ◌∙◌, subst, append_assoc, arith}
use Rattle.std.proofs.lemmas.Bool.{cond-true, cond-false, eq-eqb, ne_eqb, leb-true}
use Rattle.std.proofs.lemmas.Bool.Decides.{leb_tells}
use Rattle.std.proofs.lemmas.List.{append-nil}
use Rattle.block_layout.specs.declared.kind.Kind.{Kind}
use Rattle.block_layout.specs.Cells.{moved, copies, cells_from}
use Rattle.block_layout.specs.Lists.{under}
use Rattle.block_layout.specs.Shapes.{CellsWithin, kind_size}
use Rattle.block_layout.specs.code.Runs.{Repeated, first_of, BeginsBehind, run_cells, runs_cells, IsLastBy}
use Rattle.block_layout.proofs.Found.{under_behind}
use Rattle.block_layout.proofs.Within.{moved_nowhere}
use Rattle.block_layout.proofs.FromPlace.{none_before, next_on, from_within, run_middle}
use Rattle.block_layout.proofs.Told.{runs_parts}

-- It is what is under the byte among the cells from there on.
under_from : (place : ℕ) (xs : List (ℕ × Kind)) → under place xs ≡ under place (cells_from place xs)
under_from place [] = refl
under_from place (c ∷ xs) =
    elim (leb_tells place c.0) [
      | inl y ↦ rw y.0 (ap (λ u. cond (c.0 == place) (Some c.1) u) (under_from place xs))
      | inr k ↦ rw k.0 (cond-false (c.0 == place) (Some c.1) (under place xs) (ne_eqb c.0 place (omega (arith, k.1))) ∙ under_from place xs)
    ]

-- Cells that begin behind a byte.
under_above : (xs : List (ℕ × Kind)) (from size place : ℕ) → CellsWithin xs from size → place < from → under place xs ≡ None
under_above [] from size place h l = refl
under_above (c ∷ xs) from size place h l =
    cond-false (c.0 == place) (Some c.1) (under place xs) (ne_eqb c.0 place (omega (arith, h.0, l)))
    ∙ under_above xs (c.0 + kind_size c.1) size place h.2 (omega (arith, h.0, l))

none_last : (xs ys : List (ℕ × Kind)) (from size place : ℕ) → CellsWithin (xs ++ ys) from size → BeginsBehind place ys → under place ys ≡ None
none_last xs [] from size place h l = refl
none_last xs (c ∷ ys) from size place h l = under_above (c ∷ ys) c.0 size place (next_on xs c ys from size h) (l (omega arith))

under_front : (xs ys : List (ℕ × Kind)) (place : ℕ) → under place ys ≡ None → under place (xs ++ ys) ≡ under place xs
under_front [] ys place e = e
under_front (c ∷ xs) ys place e = ap (λ u. cond (c.0 == place) (Some c.1) u) (under_front xs ys place e)

-- Cells that begin by a byte, between those before and cells that begin behind it.
under_middle : (xs ys zs : List (ℕ × Kind)) (from size place : ℕ) → CellsWithin (xs ++ (ys ++ zs)) from size
    → (0 < length xs → (0 < length ys) × (first_of ys ≤ place)) → BeginsBehind place zs → under place (xs ++ (ys ++ zs)) ≡ under place ys
under_middle xs ys zs from size place h first last =
    under_behind xs (ys ++ zs) place (under_from place xs ∙ ap (under place) (none_before xs ys zs from size place h first))
    ∙ under_front ys zs place (none_last (xs ++ ys) zs from size place (subst (λ ws. CellsWithin ws from size) (sym (append_assoc xs ys zs)) h) last)

-- The copy of a run.
pub under_run : (r : Repeated) (size place i m : ℕ) → CellsWithin (run_cells r) 0 size → 0 < length r.cells → IsLastBy place i r → i + suc m ≡ r.count
    → under place (moved (r.start + i * r.stride) r.cells) ≡ under place (run_cells r)
under_run r size place i m h some by all =
    let start = r.start + i * r.stride in
    let middle = run_middle r size place i m h some by all in
    sym (ap (under place) middle.parts
    ∙ under_middle (moved r.start (copies i r.stride r.cells)) (moved start r.cells) (moved (start + r.stride) (copies m r.stride r.cells)) 0 size place
    (subst (λ ws. CellsWithin ws 0 size) middle.parts h) middle.by middle.behind)

-- The run of a list.
pub under_runs : (rs : List Repeated) (i : ℕ) (d : Repeated) (size place : ℕ) → i < length rs → d ≡ get_or rs i d → CellsWithin (runs_cells rs) 0 size
    → (0 < length (run_cells d)) × (first_of (run_cells d) ≤ place) → BeginsBehind place (runs_cells (drop (i + 1) rs))
    → under place (run_cells d) ≡ under place (runs_cells rs)
under_runs rs i d size place l is h by behind =
    let parts : runs_cells rs ≡ runs_cells (take i rs) ++ (run_cells d ++ runs_cells (drop (i + 1) rs)) =
    runs_parts rs i d l ∙ ap (λ (x : Repeated). runs_cells (take i rs) ++ (run_cells x ++ runs_cells (drop (i + 1) rs))) (sym is) in
    sym (ap (under place) parts
    ∙ under_middle (runs_cells (take i rs)) (run_cells d) (runs_cells (drop (i + 1) rs)) 0 size place
    (subst (λ ws. CellsWithin ws 0 size) parts h) (λ k. by) behind)

pub under_none : (rs : List Repeated) (n size place : ℕ) → n ≡ 0 → CellsWithin (runs_cells rs) 0 size → BeginsBehind place (runs_cells (drop n rs))
    → under place (runs_cells rs) ≡ None
under_none rs n size place e h behind =
    none_last [] (runs_cells rs) 0 size place h (subst (λ (k : ℕ). BeginsBehind place (runs_cells (drop k rs))) e behind)

-- The runs, and the cells after them.
pub under_tail : (rs : List Repeated) (tail : List (ℕ × Kind)) (size place : ℕ) → CellsWithin (runs_cells rs ++ tail) 0 size
    → (0 < length tail) × (first_of tail ≤ place) → under place (moved 0 tail) ≡ under place (runs_cells rs ++ tail)
under_tail rs tail size place h by =
    let nil : runs_cells rs ++ (tail ++ []) ≡ runs_cells rs ++ tail = ap (λ ws. runs_cells rs ++ ws) (append-nil tail) in
    ap (under place) (moved_nowhere tail)
    ∙ sym (under_middle (runs_cells rs) tail [] 0 size place (subst (λ ws. CellsWithin ws 0 size) (sym nil) h) (λ k. by) (λ k. absurd (omega arith)))
    ∙ ap (under place) nil

pub under_before : (rs : List Repeated) (tail : List (ℕ × Kind)) (size place : ℕ) → CellsWithin (runs_cells rs ++ tail) 0 size → BeginsBehind place tail
    → under place (runs_cells rs) ≡ under place (runs_cells rs ++ tail)
under_before rs tail size place h behind = sym (under_front (runs_cells rs) tail place (none_last (runs_cells rs) tail 0 size place h behind))

-- The first of the cells from a byte on does not begin before it.
least_from : (place : ℕ) (xs : List (ℕ × Kind)) → 0 < length (cells_from place xs) → place ≤ first_of (cells_from place xs)
least_from place [] = λ l. absurd (omega arith)
least_from place (c ∷ xs) = by_first (nat_le place c.0) (leb-true place c.0) (least_from place xs)
  where
    by_first : (b : Bool) → (b ≡ true → place ≤ c.0) → (0 < length (cells_from place xs) → place ≤ first_of (cells_from place xs))
        → 0 < length (cond b (c ∷ cells_from place xs) (cells_from place xs)) → place ≤ first_of (cond b (c ∷ cells_from place xs) (cells_from place xs))
    by_first true f g l = f refl
    by_first false f g l = g l

-- The first of the cells from a byte on, at that byte or behind it.
pub under_here : (cells left : List (ℕ × Kind)) (start place : ℕ) (d : ℕ × Kind) → moved start left ≡ cells_from place (moved start cells)
    → 0 < length left → start + (get_or left 0 d).0 ≡ place → under place (moved start cells) ≡ Some (get_or left 0 d).1
under_here cells left start place d e some at =
    under_from place (moved start cells) ∙ sym (ap (under place) e) ∙ here left d some at
  where
    here : (left : List (ℕ × Kind)) (d : ℕ × Kind) → 0 < length left → start + (get_or left 0 d).0 ≡ place → under place (moved start left) ≡ Some (get_or left 0 d).1
    here [] d some at = absurd (omega arith)
    here (c ∷ left) d some at = cond-true ((start + c.0) == place) (Some c.1) (under place (moved start left)) (eq-eqb (start + c.0) place at)

pub under_empty : (cells left : List (ℕ × Kind)) (start place : ℕ) → moved start left ≡ cells_from place (moved start cells)
    → length left ≡ 0 → under place (moved start cells) ≡ None
under_empty cells left start place e none =
    under_from place (moved start cells) ∙ sym (ap (under place) e) ∙ empty left none
  where
    empty : (left : List (ℕ × Kind)) → length left ≡ 0 → under place (moved start left) ≡ None
    empty [] none = refl
    empty (c ∷ left) none = absurd (omega arith)

pub under_further : (cells left : List (ℕ × Kind)) (start size place : ℕ) (d : ℕ × Kind) → CellsWithin (moved start cells) 0 size
    → moved start left ≡ cells_from place (moved start cells) → 0 < length left → start + (get_or left 0 d).0 ≢ place
    → under place (moved start cells) ≡ None
under_further cells left start size place d h e some at =
    under_from place (moved start cells) ∙ sym (ap (under place) e)
    ∙ further left d some at (subst (λ ws. CellsWithin ws 0 size) (sym e) (from_within (moved start cells) 0 size place h))
    (subst (λ ws. 0 < length ws → place ≤ first_of ws) (sym e) (least_from place (moved start cells)))
  where
    further : (left : List (ℕ × Kind)) (d : ℕ × Kind) → 0 < length left → start + (get_or left 0 d).0 ≢ place → CellsWithin (moved start left) 0 size
        → (0 < length (moved start left) → place ≤ first_of (moved start left)) → under place (moved start left) ≡ None
    further [] d some at h l = absurd (omega arith)
    further (c ∷ left) d some at h l =
        under_above (moved start (c ∷ left)) (start + c.0) size place (next_on [] (start + c.0, c.1) (moved start left) 0 size h) (let k = l (omega arith) in omega (arith, k, at))
