-- Cells that are moved, copied one after the other, and lie inside their object, ascending and without overlap.
use Rattle.std.proofs.Common.{◌≡◌, ℕ, zero, suc, ◌+◌, ◌*◌, ◌<◌, ◌≤◌, List, [], ◌∷◌, ◌++◌, length, get_or, refl, ap, ◌∙◌, subst, arith}
use Rattle.std.proofs.lemmas.List.{map-append}
use Rattle.block_layout.specs.declared.kind.Kind.{Kind}
use Rattle.block_layout.specs.Shapes.{kind_size, CellsWithin}
use Rattle.block_layout.specs.Cells.{moved, copies}

pub lower : (ys : List (ℕ × Kind)) (from mid size : ℕ) → from ≤ mid → CellsWithin ys mid size → CellsWithin ys from size
lower [] from mid size l h = tt
lower (c ∷ ys) from mid size l h = (omega (arith, h.0), h.1, h.2)

pub wider_within : (ys : List (ℕ × Kind)) (from size more : ℕ) → size ≤ more → CellsWithin ys from size → CellsWithin ys from more
wider_within [] from size more l h = tt
wider_within (c ∷ ys) from size more l h = (h.0, omega (arith, h.1), wider_within ys (c.0 + kind_size c.1) size more l h.2)

pub append_within : (xs ys : List (ℕ × Kind)) (from mid size : ℕ) → from ≤ mid → mid ≤ size → CellsWithin xs from mid → CellsWithin ys mid size → CellsWithin (xs ++ ys) from size
append_within [] ys from mid size l m h k = lower ys from mid size l k
append_within (c ∷ xs) ys from mid size l m h k =
    (h.0, omega (arith, h.1), append_within xs ys (c.0 + kind_size c.1) mid size (omega (arith, h.1)) m h.2 k)

pub moved_within : (xs : List (ℕ × Kind)) (d from size least : ℕ) → least ≤ d + from → CellsWithin xs from size → CellsWithin (moved d xs) least (d + size)
moved_within [] d from size least l h = tt
moved_within (c ∷ xs) d from size least l h =
    (omega (arith, h.0), omega (arith, h.1), moved_within xs d (c.0 + kind_size c.1) size (d + c.0 + kind_size c.1) (omega arith) h.2)

pub copies_within : (n size : ℕ) (cells : List (ℕ × Kind)) → CellsWithin cells 0 size → CellsWithin (copies n size cells) 0 (n * size)
copies_within zero size cells h = tt
copies_within (suc n) size cells h =
    let e : n * size + size ≡ suc n * size = omega arith in
    subst (λ m. CellsWithin (copies n size cells ++ moved (n * size) cells) 0 m) e
    (append_within (copies n size cells) (moved (n * size) cells) 0 (n * size) (n * size + size) (omega arith) (omega arith) (copies_within n size cells h) (moved_within cells (n * size) 0 size (n * size) (omega arith) h))

-- An offset inside an object.
pub offset_within : (xs : List (ℕ × Kind)) (from size i : ℕ) (d : ℕ × Kind) → CellsWithin xs from size → i < length xs → (get_or xs i d).0 ≤ size
offset_within [] from size i d h l = absurd (omega arith)
offset_within (c ∷ xs) from size zero d h l = omega (arith, h.1)
offset_within (c ∷ xs) from size (suc i) d h l = offset_within xs (c.0 + kind_size c.1) size i d h.2 (omega arith)

pub moved_twice : (a b : ℕ) (xs : List (ℕ × Kind)) → moved a (moved b xs) ≡ moved (a + b) xs
moved_twice a b [] = refl
moved_twice a b (c ∷ xs) = let e : a + (b + c.0) ≡ a + b + c.0 = omega arith in rw (e, moved_twice a b xs) refl

-- Cells that are moved by nothing.
pub moved_nowhere : (xs : List (ℕ × Kind)) → moved 0 xs ≡ xs
moved_nowhere [] = refl
moved_nowhere (c ∷ xs) = let e : 0 + c.0 ≡ c.0 = omega arith in rw (e, moved_nowhere xs) refl

-- One more element after the others.
pub copies_step : (start i size : ℕ) (xs : List (ℕ × Kind)) → moved start (copies (i + 1) size xs) ≡ moved start (copies i size xs) ++ moved (start + i * size) xs
copies_step start i size xs =
    let e : i + 1 ≡ suc i = omega arith in
    ap (λ n. moved start (copies n size xs)) e ∙ map-append (λ (c : ℕ × Kind). let d : ℕ × Kind = (start + c.0, c.1) in d) (copies i size xs) (moved (i * size) xs)
    ∙ ap (λ ys. moved start (copies i size xs) ++ ys) (moved_twice start (i * size) xs)

-- An element lies inside its array.
pub last_copy : (i count size : ℕ) → i < count → i * size + size ≤ count * size
last_copy i count size h = grind arith

pub within_right : (xs ys : List (ℕ × Kind)) (from size : ℕ) → CellsWithin (xs ++ ys) from size → CellsWithin ys from size
within_right [] ys from size h = h
within_right (c ∷ xs) ys from size h = lower ys from (c.0 + kind_size c.1) size (omega (arith, h.0)) (within_right xs ys (c.0 + kind_size c.1) size h.2)

pub one_copy : (start count size : ℕ) (xs : List (ℕ × Kind)) → count ≡ 1 → moved start (copies count size xs) ≡ moved start xs
one_copy start count size xs h =
    let e : 0 * size ≡ 0 = omega arith in
    ap (λ n. moved start (copies n size xs)) h ∙ ap (λ m. moved start (moved m xs)) e ∙ ap (λ ys. moved start ys) (moved_nowhere xs)
