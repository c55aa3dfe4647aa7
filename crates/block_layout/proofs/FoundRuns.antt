-- Which cells of a list of runs begin at a byte.
use Rattle.std.proofs.Common.{◌≡◌, ℕ, zero, suc, ◌+◌, ◌<◌, ◌≤◌, ◌==◌, ◌&&◌, ◌||◌, ◌↔◌, Bool, true, false, List, [], ◌∷◌, ◌++◌, length, drop, get_or, refl, sym, ap, ◌∙◌, arith}
use Rattle.std.specs.List.{Contains}
use Rattle.std.proofs.lemmas.List.{drop_all}
use Rattle.std.proofs.lemmas.List.Folds.{list_any-append}
use Rattle.block_layout.specs.declared.kind.Kind.{Kind}
use Rattle.block_layout.specs.code.Runs.{Repeated, run_cells, runs_cells}
use Rattle.block_layout.specs.Shapes.{same_kind, has_cell}
use Rattle.block_layout.proofs.RunLists.{runs_drop}
use Rattle.block_layout.proofs.Found.{has_exact}

pub has_append : (xs ys : List (ℕ × Kind)) (place : ℕ) (k : Kind) → has_cell (xs ++ ys) place k ≡ (has_cell xs place k || has_cell ys place k)
has_append xs ys place k = list_any-append (λ c. c.0 == place && same_kind c.1 k) xs ys

or_right : (a b : Bool) → b ≡ true → (a || b) ≡ true
or_right true b h = refl
or_right false b h = h

pub has_behind : (xs ys : List (ℕ × Kind)) (place : ℕ) (k : Kind) → has_cell ys place k ≡ true → has_cell (xs ++ ys) place k ≡ true
has_behind xs ys place k h = has_append xs ys place k ∙ or_right (has_cell xs place k) (has_cell ys place k) h

pub has_before : (xs ys : List (ℕ × Kind)) (place : ℕ) (k : Kind) → has_cell xs place k ≡ true → has_cell (xs ++ ys) place k ≡ true
has_before xs ys place k h = has_append xs ys place k ∙ ap (λ b. b || has_cell ys place k) h

-- A run of the list has the cell.
pub runs_has_at : (rs : List Repeated) (place i : ℕ) (d : Repeated) (k : Kind) → i < length rs → d ≡ get_or rs i d → has_cell (run_cells d) place k ≡ true → has_cell (runs_cells rs) place k ≡ true
runs_has_at [] place i d k l is h = absurd (omega arith)
runs_has_at (r ∷ rs) place zero d k l is h = has_before (run_cells r) (runs_cells rs) place k (ap (λ (x : Repeated). has_cell (run_cells x) place k) (sym is) ∙ h)
runs_has_at (r ∷ rs) place (suc i) d k l is h = has_behind (run_cells r) (runs_cells rs) place k (runs_has_at rs place i d k (omega arith) is h)

-- A list of runs from one on that has no such cell.
pub runs_has_next : (rs : List Repeated) (place i : ℕ) (d : Repeated) (k : Kind) → i < length rs → d ≡ get_or rs i d → has_cell (run_cells d) place k ≡ false
    → has_cell (runs_cells (drop (i + 1) rs)) place k ≡ has_cell (runs_cells (drop i rs)) place k
runs_has_next rs place i d k l is h =
    sym (ap (λ xs. has_cell xs place k) (runs_drop rs i d l)
    ∙ has_append (run_cells (get_or rs i d)) (runs_cells (drop (i + 1) rs)) place k
    ∙ ap (λ b. b || has_cell (runs_cells (drop (i + 1) rs)) place k) (ap (λ (x : Repeated). has_cell (run_cells x) place k) (sym is) ∙ h))

pub runs_has_end : (rs : List Repeated) (place i : ℕ) (k : Kind) → length rs ≤ i → has_cell (runs_cells (drop i rs)) place k ≡ false
runs_has_end rs place i k l = ap (λ (ts : List Repeated). has_cell (runs_cells ts) place k) (drop_all i rs l)

-- The answer for the whole, by the answers for its parts.
pub exact_of : (cells : List (ℕ × Kind)) (place : ℕ) (k : Kind) (r : Bool) → r ≡ has_cell cells place k → (r ≡ true) ↔ Contains cells (place, k)
exact_of cells place k r e = let both = has_exact cells place k in (λ h. both.0 (sym e ∙ h), λ h. e ∙ both.1 h)

pub told_first : (shown rs : List Repeated) (tail whole : List (ℕ × Kind)) (place : ℕ) (k : Kind) (r : Bool) → shown ≡ rs → runs_cells rs ++ tail ≡ whole
    → r ≡ has_cell (runs_cells shown) place k → r ≡ true → r ≡ has_cell whole place k
told_first shown rs tail whole place k r is all e true_is =
    let there : has_cell (runs_cells rs) place k ≡ true = ap (λ (ts : List Repeated). has_cell (runs_cells ts) place k) (sym is) ∙ sym e ∙ true_is in
    true_is ∙ sym (ap (λ xs. has_cell xs place k) (sym all) ∙ has_before (runs_cells rs) tail place k there)

pub told_behind : (shown rs : List Repeated) (slice tail whole : List (ℕ × Kind)) (place : ℕ) (k : Kind) (first r : Bool) → shown ≡ rs → slice ≡ tail → runs_cells rs ++ tail ≡ whole
    → first ≡ has_cell (runs_cells shown) place k → first ≡ false → r ≡ has_cell slice place k → r ≡ has_cell whole place k
told_behind shown rs slice tail whole place k first r is at all e not_there f =
    let none : has_cell (runs_cells rs) place k ≡ false = ap (λ (ts : List Repeated). has_cell (runs_cells ts) place k) (sym is) ∙ sym e ∙ not_there in
    f ∙ ap (λ xs. has_cell xs place k) at
    ∙ sym (ap (λ xs. has_cell xs place k) (sym all) ∙ has_append (runs_cells rs) tail place k ∙ ap (λ b. b || has_cell tail place k) none)
