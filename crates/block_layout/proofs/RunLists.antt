-- The cells of lists of runs.
use Rattle.std.proofs.Common.{◌≡◌, ℕ, zero, suc, ◌+◌, ◌<◌, ◌≤◌, List, [], ◌∷◌, ◌++◌, length, get_or, take, drop, refl, sym, ap, ◌∙◌, subst, append_assoc, arith}
use Rattle.std.proofs.lemmas.List.{take_more, drop_more, append-nil}
use Rattle.block_layout.specs.declared.kind.Kind.{Kind}
use Rattle.block_layout.specs.Moved.{moved, copies}
use Rattle.block_layout.specs.code.Runs.{Repeated, run_cells, runs_cells, AreNear}
use Rattle.block_layout.specs.Shapes.{CellsWithin}
use Rattle.block_layout.proofs.Within.{one_copy}
use Rattle.block_layout.proofs.Near.{near_left, near_within, near_right, moved_append}

pub runs_append : (rs ts : List Repeated) → runs_cells (rs ++ ts) ≡ runs_cells rs ++ runs_cells ts
runs_append [] ts = refl
runs_append (r ∷ rs) ts = ap (λ xs. run_cells r ++ xs) (runs_append rs ts) ∙ sym (append_assoc (run_cells r) (runs_cells rs) (runs_cells ts))

pub runs_push : (rs : List Repeated) (r : Repeated) → runs_cells (rs ++ r ∷ []) ≡ runs_cells rs ++ run_cells r
runs_push rs r = runs_append rs (r ∷ []) ∙ ap (λ xs. runs_cells rs ++ xs) (append-nil (run_cells r))

-- A list of runs up to the next one, and from one on.
pub runs_take : (rs : List Repeated) (i : ℕ) (d : Repeated) → i < length rs → runs_cells (take (i + 1) rs) ≡ runs_cells (take i rs) ++ run_cells (get_or rs i d)
runs_take rs i d h = ap runs_cells (take_more rs i d h) ∙ runs_push (take i rs) (get_or rs i d)

pub runs_drop : (rs : List Repeated) (i : ℕ) (d : Repeated) → i < length rs → runs_cells (drop i rs) ≡ run_cells (get_or rs i d) ++ runs_cells (drop (i + 1) rs)
runs_drop rs i d h = ap runs_cells (drop_more rs i d h)

-- A run of near ones is near.
pub run_near : (rs : List Repeated) (start i : ℕ) (d : Repeated) → i < length rs → AreNear (moved start (runs_cells rs)) → AreNear (moved start (run_cells (get_or rs i d)))
run_near [] start i d l h = absurd (omega arith)
run_near (r ∷ rs) start zero d l h =
    near_left (moved start (run_cells r)) (moved start (runs_cells rs)) (subst AreNear (moved_append start (run_cells r) (runs_cells rs)) h)
run_near (r ∷ rs) start (suc i) d l h =
    run_near rs start i d (omega arith) (near_right (moved start (run_cells r)) (moved start (runs_cells rs)) (subst AreNear (moved_append start (run_cells r) (runs_cells rs)) h))

-- One run more is moved.
pub moved_more : (rs : List Repeated) (before xs ys : List (ℕ × Kind)) (start i : ℕ) (r d : Repeated) → i < length rs → d ≡ get_or rs i d → run_cells r ≡ moved start (run_cells d)
    → before ≡ xs ++ moved start (runs_cells (take i rs)) → ys ≡ before ++ run_cells r → ys ≡ xs ++ moved start (runs_cells (take (i + 1) rs))
moved_more rs before xs ys start i r d l is cells done pushed =
    let e : runs_cells (take (i + 1) rs) ≡ runs_cells (take i rs) ++ run_cells d = runs_take rs i d l ∙ ap (λ (x : Repeated). runs_cells (take i rs) ++ run_cells x) (sym is) in
    pushed ∙ ap (λ zs. zs ++ run_cells r) done ∙ append_assoc xs (moved start (runs_cells (take i rs))) (run_cells r)
    ∙ ap (λ zs. xs ++ (moved start (runs_cells (take i rs)) ++ zs)) cells
    ∙ ap (λ zs. xs ++ zs) (sym (moved_append start (runs_cells (take i rs)) (run_cells d)))
    ∙ ap (λ zs. xs ++ moved start zs) (sym e)

-- Cells of runs after a tail that is sealed.
pub runs_behind : (ts : List Repeated) (tail xs ys : List (ℕ × Kind)) → runs_cells ts ≡ xs ++ ys → tail ≡ [] → runs_cells ts ++ tail ≡ xs ++ ys
runs_behind ts tail xs ys e none = ap (λ zs. runs_cells ts ++ zs) none ∙ append-nil (runs_cells ts) ∙ e

copies_nothing : (n size : ℕ) → copies n size [] ≡ []
copies_nothing zero size = refl
copies_nothing (suc n) size = append-nil (copies n size []) ∙ copies_nothing n size

-- No copy, or copies of no cell.
pub no_copy : (xs cells : List (ℕ × Kind)) (start count size : ℕ) → count ≡ 0 → xs ≡ xs ++ moved start (copies count size cells)
no_copy xs cells start count size h = sym (ap (λ n. xs ++ moved start (copies n size cells)) h ∙ append-nil xs)

pub no_cell : (xs cells : List (ℕ × Kind)) (start count size : ℕ) → length cells ≡ 0 → xs ≡ xs ++ moved start (copies count size cells)
no_cell xs [] start count size h = sym (ap (λ ys. xs ++ moved start ys) (copies_nothing count size) ∙ append-nil xs)
no_cell xs (c ∷ cells) start count size h = absurd (omega arith)

-- An element whose runs and tail are pushed one after the other.
pub part_behind : (old runs new tail : List (ℕ × Kind)) (start size : ℕ) → new ≡ (old ++ moved start runs) ++ moved start (copies 1 size tail) → new ≡ old ++ moved start (runs ++ tail)
part_behind old runs new tail start size h =
    h ∙ append_assoc old (moved start runs) (moved start (copies 1 size tail))
    ∙ ap (λ ys. old ++ (moved start runs ++ ys)) (one_copy start 1 size tail refl)
    ∙ ap (λ ys. old ++ ys) (sym (moved_append start runs tail))

-- The runs of an element inside its size are near, and the tail lies in it too.
pub runs_near : (rs : List Repeated) (tail : List (ℕ × Kind)) (start size : ℕ) → start + size ≤ 4294967295 → CellsWithin (runs_cells rs ++ tail) 0 size → AreNear (moved start (runs_cells rs))
runs_near rs tail start size l h =
    near_left (moved start (runs_cells rs)) (moved start tail)
    (subst AreNear (moved_append start (runs_cells rs) tail) (near_within (runs_cells rs ++ tail) start 0 size l h))

pub part_pushed : (to sealed rs shown : List Repeated) (none old tail slice part new : List (ℕ × Kind)) (start size : ℕ) → runs_cells sealed ≡ old → none ≡ [] → shown ≡ rs
    → runs_cells to ≡ runs_cells sealed ++ moved start (runs_cells shown) → slice ≡ tail → runs_cells rs ++ tail ≡ part
    → new ≡ (runs_cells to ++ none) ++ moved start (copies 1 size slice) → new ≡ old ++ moved start part
part_pushed to sealed rs shown none old tail slice part new start size before empty is pushed at all e =
    let first : runs_cells to ++ none ≡ old ++ moved start (runs_cells rs) =
    ap (λ ys. runs_cells to ++ ys) empty ∙ append-nil (runs_cells to) ∙ pushed ∙ ap (λ ys. ys ++ moved start (runs_cells shown)) before
    ∙ ap (λ (ts : List Repeated). old ++ moved start (runs_cells ts)) is
    in
    part_behind old (runs_cells rs) new tail start size
    (e ∙ ap (λ ys. ys ++ moved start (copies 1 size slice)) first ∙ ap (λ ys. (old ++ moved start (runs_cells rs)) ++ moved start (copies 1 size ys)) at)
    ∙ ap (λ ys. old ++ moved start ys) all
