-- The cells of an element, byte by byte.
use Rattle.std.proofs.Common.{◌≡◌, ◌≢◌, ℕ, zero, suc, ◌+◌, ◌%◌, ◌<◌, ◌≤◌, ◌==◌, cond, inl, inr, List, [], ◌∷◌, ◌++◌, add-one, append-nil, Option, Some, None, MatchOption, refl, sym, ap, ◌∙◌, subst, arith}
use Rattle.std.specs.List.{filter_map, cons_option, range_with_len}
use Rattle.block_layout.specs.declared.kind.Kind.{Kind}
use Rattle.block_layout.specs.declared.kind.Shape.{Shape}
use Rattle.block_layout.specs.Lists.{under}
use Rattle.block_layout.specs.Shapes.{CellsWithin, IsShape, kind_size}
use Rattle.block_layout.specs.Cells.{cells_from}
use Rattle.block_layout.proofs.FromPlace.{from_within}
use Rattle.std.proofs.lemmas.Bool.Decides.{leb_tells}
use Rattle.upc_values.specs.Shapes.{kind_at}
use Rattle.upc_values.specs.layer.Parts.{placed_kind}
use Rattle.upc_values.specs.Views.{cells_within}
use Rattle.upc_library.specs.code.Cursors.{IsCursor, coming}
use native.Mathlib.Nat.{mod-add-mod}
use Rattle.upc_library.proofs.Steps.{none_before, passed_over}

-- what is in front of a list stays there
pub cons-front : {X : Type 0} (o : Option X) (xs ys : List X) → cons_option o (xs ++ ys) ≡ cons_option o xs ++ ys
cons-front None xs ys = refl
cons-front (Some x) xs ys = refl

-- one number more
longer : {X : Type 0} (g : ℕ → Option X) (a n m : ℕ) → a + n ≡ m → filter_map g (range_with_len a (suc n)) ≡ filter_map g (range_with_len a n) ++ cons_option (g m) []
longer g a zero m e = ap (λ x. cons_option (g x) []) (let h : a ≡ m = omega arith in h)
longer g a (suc n) m e =
    ap (cons_option (g a)) (longer g (a + 1) n m (omega arith)) ∙ cons-front (g a) (filter_map g (range_with_len (a + 1) n)) (cons_option (g m) [])

-- the cells in one byte more
pub cells_more : (s : Option Shape) (x n : ℕ) (k : Option Kind) → kind_at s (x + n) ≡ k → cells_within s x (n + 1) ≡ cells_within s x n ++ cons_option (placed_kind n k) []
cells_more s x n k e =
    rw add-one (longer (λ i. placed_kind i (kind_at s (x + i))) 0 n n (omega arith)
    ∙ ap (λ o. cells_within s x n ++ cons_option (placed_kind n o) []) e)

pub cells-none : (s : Option Shape) (x n : ℕ) (xs : List (ℕ × Kind)) → kind_at s (x + n) ≡ None → xs ≡ cells_within s x n → xs ≡ cells_within s x (n + 1)
cells-none s x n xs e h = h ∙ sym (cells_more s x n None e ∙ append-nil (cells_within s x n))

pub cells-some : (s : Option Shape) (x n : ℕ) (k : Kind) (xs : List (ℕ × Kind)) → kind_at s (x + n) ≡ Some k → xs ≡ cells_within s x n → xs ++ (n, k) ∷ [] ≡ cells_within s x (n + 1)
cells-some s x n k xs e h = ap (λ z. z ++ (n, k) ∷ []) h ∙ sym (cells_more s x n (Some k) e)

-- Where the next cell begins elsewhere, none begins here.
pub nothing_here : (s : Shape) (place : ℕ) (next : Option (ℕ × Kind)) (left : List (ℕ × Kind)) (c : ℕ × Kind)
    → IsCursor s place next left → next ≡ Some c → c.0 ≢ place → None ≡ under place s.cells
nothing_here s place next left c h e other =
    let w = subst (λ (o : Option (ℕ × Kind)). CellsWithin (coming o left) place s.size) e h.within in
    sym (h.found place (omega arith) ∙ ap (λ (o : Option (ℕ × Kind)). under place (coming o left)) e
    ∙ passed_over c left place other ∙ none_before left _ s.size place w.2 (omega (arith, w.0, other)))

-- The place of the next byte.
pub one_further : (x i n : ℕ) → ((x + i) % n + 1) % n ≡ (x + (i + 1)) % n
one_further x i n = mod-add-mod (x + i) n 1 ∙ ap (λ m. m % n) (let e : x + i + 1 ≡ x + (i + 1) = omega arith in e)

-- No cell without a shape.
no_kind : (xs : List ℕ) → filter_map {X = ℕ} {Y = ℕ × Kind} (λ i. None) xs ≡ []
no_kind [] = refl
no_kind (x ∷ xs) = no_kind xs

pub no_cells : (x n : ℕ) → cells_within None x n ≡ []
no_cells x n = no_kind (range_with_len 0 n)

-- The cells from a byte on have all that begin there or behind it.
under_from : (cells : List (ℕ × Kind)) (place j : ℕ) → place ≤ j → under j cells ≡ under j (cells_from place cells)
under_from [] place j h = refl
under_from (c ∷ cells) place j h =
    elim (leb_tells place c.0) [
      | inl y ↦ rw y.0 (ap (λ (o : Option Kind). cond (c.0 == j) (Some c.1) o) (under_from cells place j h))
      | inr k ↦ rw k.0 (passed_over c cells j (omega (arith, k.1)) ∙ under_from cells place j h)
    ]

within_place : (cells : List (ℕ × Kind)) (from size place : ℕ) → CellsWithin cells from size → CellsWithin (cells_from place cells) place size
within_place [] from size place h = tt
within_place (c ∷ cells) from size place h =
    elim (leb_tells place c.0) [
      | inl y ↦ rw y.0 (y.1, h.1, from_within cells (c.0 + kind_size c.1) size place h.2)
      | inr k ↦ rw k.0 (within_place cells (c.0 + kind_size c.1) size place h.2)
    ]

-- The cells that come, by what the first look gives.
pub coming_is : (all : List (ℕ × Kind)) (next : Option (ℕ × Kind)) (left : List (ℕ × Kind)) → MatchOption next ((all ≡ []) × (left ≡ [])) (λ c. all ≡ c ∷ left)
    → coming next left ≡ all
coming_is all None left h = sym h.0
coming_is all (Some c) left h = sym h

pub from_cursor : (s : Shape) (place : ℕ) (next : Option (ℕ × Kind)) (left : List (ℕ × Kind)) → IsShape s → place < s.size
    → coming next left ≡ cells_from place s.cells → IsCursor s place next left
from_cursor s place next left h l e = record {
  inside = l;
  found = λ j k. under_from s.cells place j k ∙ ap (under j) (sym e);
  within = subst (λ xs. CellsWithin xs place s.size) (sym e) (within_place s.cells 0 s.size place h.1);
}
