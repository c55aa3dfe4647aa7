-- Lists of cells that are compared from a cell on.
use Rattle.std.proofs.Common.{◌≡◌, ℕ, ◌+◌, ◌<◌, ◌≤◌, Bool, true, false, ◌==◌, ◌&&◌, List, [], ◌∷◌, length, drop, get_or, refl, sym, ap, ◌∙◌, arith}
use Rattle.std.proofs.lemmas.Bool.{and_right, and_parts, eqb-true}
use Rattle.std.proofs.lemmas.List.{drop_more, drop_all}
use Rattle.block_layout.specs.declared.kind.Kind.{Kind}
use Rattle.block_layout.specs.Shapes.{same_kind}
use Rattle.block_layout.specs.Cells.{same_cell, same_cells}
use Rattle.block_layout.proofs.Found.{kind_is, pair_is}

-- Cells compared as wholes.
pub cells_cons : (c d : ℕ × Kind) (cs ds : List (ℕ × Kind)) → same_cells (c ∷ cs) (d ∷ ds)
    ≡ (same_cell c d && same_cells cs ds)
cells_cons c d cs ds = go (c.0 == d.0)
  where
    go : (b : Bool) → (b && (same_kind c.1 d.1 && same_cells cs ds)) ≡ ((b && same_kind c.1 d.1) && same_cells cs ds)
    go true = refl
    go false = refl

pub lengths_differ : (a b : List (ℕ × Kind)) → (length a ≡ length b → ⊥) → same_cells a b ≡ false
lengths_differ [] [] h = absurd (h refl)
lengths_differ [] (d ∷ ds) h = refl
lengths_differ (c ∷ cs) [] h = refl
lengths_differ (c ∷ cs) (d ∷ ds) h =
    cells_cons c d cs ds ∙ and_right (same_cell c d) (same_cells cs ds)
    (lengths_differ cs ds (λ e. h (omega (arith, e))))

-- Two lists from a cell on.
pub cells_from : (a b : List (ℕ × Kind)) (i : ℕ) (x y : ℕ × Kind) → i < length a → i < length b →
    same_cells (drop i a) (drop i b)
    ≡ (same_cell (get_or a i x) (get_or b i y) && same_cells (drop (i + 1) a) (drop (i + 1) b))
cells_from a b i x y h k =
    rw (drop_more a i x h, drop_more b i y k)
    (cells_cons (get_or a i x) (get_or b i y) (drop (i + 1) a) (drop (i + 1) b))

and_yes : (a b : Bool) → a ≡ true → b ≡ (a && b)
and_yes true b h = refl
and_yes false b h = absurd cc

pub cells_more : (a b : List (ℕ × Kind)) (i : ℕ) (x y : ℕ × Kind) → i < length a → i < length b →
    same_cell (get_or a i x) (get_or b i y) ≡ true →
    same_cells (drop (i + 1) a) (drop (i + 1) b) ≡ same_cells (drop i a) (drop i b)
cells_more a b i x y h k e =
    and_yes (same_cell (get_or a i x) (get_or b i y)) (same_cells (drop (i + 1) a) (drop (i + 1) b)) e
    ∙ sym (cells_from a b i x y h k)

pub cells_end : (a b : List (ℕ × Kind)) (i : ℕ) → length a ≤ i → length b ≤ i → same_cells (drop i a) (drop i b) ≡ true
cells_end a b i h k = rw (drop_all i a h, drop_all i b k) refl

-- Cells that are the same are equal.
pub same_exact : (a b : List (ℕ × Kind)) → same_cells a b ≡ true → a ≡ b
same_exact [] [] h = refl
same_exact [] (d ∷ ds) h = absurd cc
same_exact (c ∷ cs) [] h = absurd cc
same_exact (c ∷ cs) (d ∷ ds) h =
    let p = and_parts (c.0 == d.0) (same_kind c.1 d.1 && same_cells cs ds) h in
    let q = and_parts (same_kind c.1 d.1) (same_cells cs ds) p.1 in
    let rest = same_exact cs ds q.1 in
    let first : c ≡ d = pair_is c.0 d.0 c.1 d.1 (eqb-true c.0 d.0 p.0) (kind_is c.1 d.1 q.0) in
    ap (λ x. x ∷ cs) first ∙ ap (λ xs. d ∷ xs) rest
