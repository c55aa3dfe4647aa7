-- Runs without pointers to private objects.
use Rattle.std.proofs.Common.{◌≡◌, ℕ, zero, suc, ◌+◌, ◌*◌, ◌<◌, inl, inr, Bool, true, false, cond, not, ◌||◌, List, [], ◌∷◌, ◌++◌, length, get_or, take, refl, sym, ap, ◌∙◌, subst, arith}
use Rattle.std.specs.List.{list_any}
use Rattle.std.proofs.lemmas.List.Elements.{filter-append}
use Rattle.std.proofs.lemmas.List.{append-nil}
use Rattle.block_layout.specs.declared.kind.Kind.{Kind}
use Rattle.block_layout.specs.Cells.{moved, copies, is_private, sharable}
use Rattle.block_layout.specs.code.Runs.{Repeated, run_cells, runs_cells, AreNear, IsRun}
use Rattle.block_layout.proofs.RunLists.{runs_take}

pub sharable_append : (xs ys : List (ℕ × Kind)) → sharable (xs ++ ys) ≡ sharable xs ++ sharable ys
sharable_append xs ys = filter-append (λ c. not (is_private c.1)) xs ys

pub sharable_moved : (d : ℕ) (xs : List (ℕ × Kind)) → sharable (moved d xs) ≡ moved d (sharable xs)
sharable_moved d [] = refl
sharable_moved d (c ∷ xs) = by_first (not (is_private c.1)) (sharable_moved d xs)
  where
    by_first : (b : Bool) → sharable (moved d xs) ≡ moved d (sharable xs) → cond b ((d + c.0, c.1) ∷ sharable (moved d xs)) (sharable (moved d xs)) ≡ moved d (cond b (c ∷ sharable xs) (sharable xs))
    by_first true e = ap (λ ys. (d + c.0, c.1) ∷ ys) e
    by_first false e = e

pub sharable_copies : (n stride : ℕ) (xs : List (ℕ × Kind)) → sharable (copies n stride xs) ≡ copies n stride (sharable xs)
sharable_copies zero stride xs = refl
sharable_copies (suc n) stride xs =
    sharable_append (copies n stride xs) (moved (n * stride) xs)
    ∙ ap (λ ys. ys ++ sharable (moved (n * stride) xs)) (sharable_copies n stride xs)
    ∙ ap (λ ys. copies n stride (sharable xs) ++ ys) (sharable_moved (n * stride) xs)

-- A run with those cells of its pattern.
abbrev pub with_cells : Repeated → List (ℕ × Kind) → Repeated
with_cells r cells = record { start = r.start; stride = r.stride; count = r.count; cells = cells }

pub sharable_run : (r : Repeated) (cells : List (ℕ × Kind)) → cells ≡ sharable r.cells → run_cells (with_cells r cells) ≡ sharable (run_cells r)
sharable_run r cells e =
    ap (λ xs. moved r.start (copies r.count r.stride xs)) e ∙ ap (λ xs. moved r.start xs) (sym (sharable_copies r.count r.stride r.cells))
    ∙ sym (sharable_moved r.start (copies r.count r.stride r.cells))

near_sharable : (xs : List (ℕ × Kind)) → AreNear xs → AreNear (sharable xs)
near_sharable [] h = tt
near_sharable (c ∷ xs) h = by_first (not (is_private c.1)) (near_sharable xs h.1)
  where
    by_first : (b : Bool) → AreNear (sharable xs) → AreNear (cond b (c ∷ sharable xs) (sharable xs))
    by_first true e = (h.0, e)
    by_first false e = e

pub sharable_is_run : (r : Repeated) (cells : List (ℕ × Kind)) → IsRun r → cells ≡ sharable r.cells → 0 < length cells → IsRun (with_cells r cells)
sharable_is_run r cells h e l = record {
  some = h.some;
  cell = l;
  near = elim h.near [ inl p ↦ inl p | inr p ↦ inr (subst AreNear (sym (sharable_run r cells e)) (near_sharable (run_cells r) p)) ];
}

-- A pattern without pointers to private objects.
pub all_sharable : (xs : List (ℕ × Kind)) → list_any (λ c. is_private c.1) xs ≡ false → sharable xs ≡ xs
all_sharable [] e = refl
all_sharable (c ∷ xs) e = by_first (is_private c.1) e (all_sharable xs)
  where
    by_first : (b : Bool) → (b || list_any (λ c. is_private c.1) xs) ≡ false → (list_any (λ c. is_private c.1) xs ≡ false → sharable xs ≡ xs) → cond (not b) (c ∷ sharable xs) (sharable xs) ≡ c ∷ xs
    by_first true g f = absurd cc
    by_first false g f = ap (λ ys. c ∷ ys) (f g)

pub without_private : (r : Repeated) → list_any (λ c. is_private c.1) r.cells ≡ false → sharable (run_cells r) ≡ run_cells r
without_private r h = sym (sharable_run r r.cells (sym (all_sharable r.cells h)))

copies_nothing : (n stride : ℕ) → copies n stride [] ≡ []
copies_nothing zero stride = refl
copies_nothing (suc n) stride = ap (λ ys. ys ++ []) (copies_nothing n stride)

pub only_private : (r : Repeated) (cells : List (ℕ × Kind)) → cells ≡ sharable r.cells → length cells ≡ 0 → sharable (run_cells r) ≡ []
only_private r [] e l = sym (sharable_run r [] e) ∙ ap (λ xs. moved r.start xs) (copies_nothing r.count r.stride)
only_private r (c ∷ cells) e l = absurd (omega arith)

pub nothing_pushed : (xs : List (ℕ × Kind)) (r : Repeated) (cells : List (ℕ × Kind)) → cells ≡ sharable r.cells → length cells ≡ 0 → xs ≡ xs ++ sharable (run_cells r)
nothing_pushed xs r cells e l = sym (ap (λ ys. xs ++ ys) (only_private r cells e l) ∙ append-nil xs)

-- One run more.
pub sharable_take : (rs : List Repeated) (i : ℕ) (d : Repeated) → i < length rs → d ≡ get_or rs i d
    → sharable (runs_cells (take (i + 1) rs)) ≡ sharable (runs_cells (take i rs)) ++ sharable (run_cells d)
sharable_take rs i d l is =
    ap sharable (runs_take rs i d l) ∙ sharable_append (runs_cells (take i rs)) (run_cells (get_or rs i d))
    ∙ ap (λ (x : Repeated). sharable (runs_cells (take i rs)) ++ sharable (run_cells x)) (sym is)
