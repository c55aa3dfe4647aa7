-- Runs: their places fit 32 bits, and each copy lies where it should.
use Rattle.std.proofs.Common.{◌≡◌, ℕ, zero, suc, ◌+◌, ◌*◌, ◌<◌, ◌≤◌, inl, inr, List, [], ◌∷◌, ◌++◌, length, get_or, refl, sym, ◌∙◌, subst, arith}
use Rattle.std.proofs.lemmas.Bool.{cases_lt}
use Rattle.std.proofs.lemmas.List.{map-append}
use Rattle.block_layout.specs.declared.kind.Kind.{Kind}
use Rattle.block_layout.specs.Shapes.{CellsWithin, kind_size}
use Rattle.block_layout.specs.Cells.{moved, copies}
use Rattle.block_layout.specs.code.Runs.{Repeated, run_cells, AreNear, IsRun}
use Rattle.block_layout.proofs.Within.{copies_within, moved_twice, moved_nowhere}

pub near_append : (xs ys : List (ℕ × Kind)) → AreNear xs → AreNear ys → AreNear (xs ++ ys)
near_append [] ys h k = k
near_append (c ∷ xs) ys h k = (h.0, near_append xs ys h.1 k)

pub near_left : (xs ys : List (ℕ × Kind)) → AreNear (xs ++ ys) → AreNear xs
near_left [] ys h = tt
near_left (c ∷ xs) ys h = (h.0, near_left xs ys h.1)

pub near_right : (xs ys : List (ℕ × Kind)) → AreNear (xs ++ ys) → AreNear ys
near_right [] ys h = h
near_right (c ∷ xs) ys h = near_right xs ys h.1

pub near_within : (xs : List (ℕ × Kind)) (d from size : ℕ) → d + size ≤ 4294967295 → CellsWithin xs from size → AreNear (moved d xs)
near_within [] d from size l h = tt
near_within (c ∷ xs) d from size l h = (omega (arith, h.1), near_within xs d (c.0 + kind_size c.1) size l h.2)

pub near_items : (xs : List (ℕ × Kind)) (d : ℕ × Kind) → ((i : ℕ) → i < length xs → (get_or xs i d).0 ≤ 4294967295) → AreNear xs
near_items [] d h = tt
near_items (c ∷ xs) d h = (h 0 (omega arith), near_items xs d (λ i l. h (suc i) (omega arith)))

pub moved_append : (d : ℕ) (xs ys : List (ℕ × Kind)) → moved d (xs ++ ys) ≡ moved d xs ++ moved d ys
moved_append d xs ys = map-append (λ (c : ℕ × Kind). let e : ℕ × Kind = (d + c.0, c.1) in e) xs ys

-- A copy of near copies is near.
pub near_copy : (n i d stride : ℕ) (xs : List (ℕ × Kind)) → i < n → AreNear (moved d (copies n stride xs)) → AreNear (moved (d + i * stride) xs)
near_copy zero i d stride xs l h = absurd (omega arith)
near_copy (suc n) i d stride xs l h =
    let two : AreNear (moved d (copies n stride xs) ++ moved d (moved (n * stride) xs)) = subst AreNear (moved_append d (copies n stride xs) (moved (n * stride) xs)) h in
    elim (cases_lt i n) [
      | inl p ↦ near_copy n i d stride xs p (near_left (moved d (copies n stride xs)) (moved d (moved (n * stride) xs)) two)
      | inr p ↦ let e : n ≡ i = omega arith in
          subst (λ m. AreNear (moved (d + m * stride) xs)) e
          (subst AreNear (moved_twice d (n * stride) xs) (near_right (moved d (copies n stride xs)) (moved d (moved (n * stride) xs)) two))
    ]

pub near_first : (d : ℕ) (xs : List (ℕ × Kind)) → 0 < length xs → AreNear (moved d xs) → d ≤ 4294967295
near_first d [] l h = absurd (omega arith)
near_first d (c ∷ xs) l h = omega (arith, h.0)

-- A run that is moved.
abbrev pub moved_run : ℕ → Repeated → Repeated
moved_run by r = record { start = by + r.start; stride = r.stride; count = r.count; cells = r.cells }

pub moved_run_cells : (by : ℕ) (r : Repeated) → run_cells (moved_run by r) ≡ moved by (run_cells r)
moved_run_cells by r = sym (moved_twice by r.start (copies r.count r.stride r.cells))

pub moved_start : (by : ℕ) (r : Repeated) → IsRun r → AreNear (moved by (run_cells r)) → by + r.start ≤ 4294967295
moved_start by r h near =
    let all : AreNear (moved (by + r.start) (copies r.count r.stride r.cells)) = subst AreNear (sym (moved_run_cells by r)) near in
    let first : by + r.start + 0 * r.stride ≤ 4294967295 = near_first (by + r.start + 0 * r.stride) r.cells h.cell (near_copy r.count 0 (by + r.start) r.stride r.cells h.some all) in
    omega (arith, first)

pub moved_is_run : (by : ℕ) (r : Repeated) → IsRun r → AreNear (moved by (run_cells r)) → IsRun (moved_run by r)
moved_is_run by r h near = record { some = h.some; cell = h.cell; near = inr (subst AreNear (sym (moved_run_cells by r)) near) }

-- Elements inside their array.
pub elements_are_run : (start count size : ℕ) (cells : List (ℕ × Kind)) → 0 < count → 0 < length cells → CellsWithin cells 0 size → start + count * size ≤ 4294967295 → IsRun (record { start = start; stride = size; count = count; cells = cells })
elements_are_run start count size cells some cell within near = record {
  some = some;
  cell = cell;
  near = inr (near_within (copies count size cells) start 0 (count * size) near (copies_within count size cells within));
}

pub once_cells : (cells : List (ℕ × Kind)) → moved 0 (copies 1 0 cells) ≡ cells
once_cells cells = moved_nowhere (moved (0 * 0) cells) ∙ moved_nowhere cells

pub once_is_run : (cells : List (ℕ × Kind)) → 0 < length cells → IsRun (record { start = 0; stride = 0; count = 1; cells = cells })
once_is_run cells h = record { some = omega arith; cell = h; near = inl (refl, refl) }
