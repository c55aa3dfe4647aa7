-- The cells of a range of bytes, found one after another.
use Rattle.std.proofs.Common.{◌≡◌, ◌≢◌, ℕ, zero, suc, ◌+◌, ◌-◌, ◌%◌, ◌<◌, ◌≤◌, leb, inl, inr, Bool, true, List, [], ◌∷◌, ◌++◌, Option, Some, None, refl, sym, ap, ◌∙◌, subst, arith}
use Rattle.std.proofs.Math.Nat.{mod-eq_of_lt, mod-add-mod, add-mod_left}
use Rattle.std.proofs.lemmas.Bool.Decides.{leb_tells}
use Rattle.std.proofs.lemmas.List.Elements.{All-cons, All-nil}
use Rattle.std.specs.List.{All, filter_map, cons_option, range_with_len}
use Rattle.block_layout.specs.Cells.{same_cells}
use Rattle.block_layout.specs.Moved.{moved}
use Rattle.block_layout.specs.Shapes.{CellsWithin, kind_size}
use Rattle.block_layout.specs.Lists.{under}
use Rattle.block_layout.specs.declared.kind.Kind.{Kind}
use Rattle.block_layout.specs.declared.kind.Shape.{Shape}
use Rattle.block_layout.proofs.Within.{moved_twice}
use Rattle.upc_values.specs.Shapes.{kind_at}
use Rattle.upc_values.specs.layer.Parts.{placed_kind}
use Rattle.upc_values.specs.Views.{cells_within}
use Rattle.upc_library.specs.code.Cursors.{IsCursor, coming}
use Rattle.upc_library.specs.code.Ranges.{cells_left, IsGap, IsNext}
use Rattle.upc_library.proofs.Compared.{cells_split}
use Rattle.upc_library.proofs.Steps.{some_size, none_before, passed_over, first_here}

-- Numbers for which nothing is given.
none_given : {Y : Type 0} (f : ℕ → Option Y) (a n : ℕ) → ((j : ℕ) → a ≤ j → j < a + n → f j ≡ None)
    → filter_map f (range_with_len a n) ≡ []
none_given f a zero h = refl
none_given f a (suc n) h =
    ap (λ o. cons_option o (filter_map f (range_with_len (a + 1) n))) (h a (omega arith) (omega arith))
    ∙ none_given f (a + 1) n (λ j l m. h j (omega arith) (omega arith))

moved_cons : (b a : ℕ) (o : Option Kind) (xs : List (ℕ × Kind))
    → moved b (cons_option (placed_kind a o) xs) ≡ cons_option (placed_kind (b + a) o) (moved b xs)
moved_cons b a None xs = refl
moved_cons b a (Some k) xs = refl

-- Cells further on are cells moved on.
further : (g h : ℕ → Option Kind) (b a c n : ℕ) → b + a ≡ c → ((i : ℕ) → g (b + i) ≡ h i)
    → filter_map (λ i. placed_kind i (g i)) (range_with_len c n)
    ≡ moved b (filter_map (λ i. placed_kind i (h i)) (range_with_len a n))
further g h b a c zero e f = refl
further g h b a c (suc n) e f =
    let rest = filter_map (λ i. placed_kind i (g i)) (range_with_len (c + 1) n) in
    ap (λ o. cons_option (placed_kind c o) rest) (ap g (sym e) ∙ f a)
    ∙ ap (λ m. cons_option (placed_kind m (h a)) rest) (sym e)
    ∙ ap (cons_option (placed_kind (b + a) (h a))) (further g h b (a + 1) (c + 1) n (omega arith) f)
    ∙ sym (moved_cons b a (h a) (filter_map (λ i. placed_kind i (h i)) (range_with_len (a + 1) n)))

-- The place of a byte in its element, counted from a place in an element.
same_place : (s : Shape) (x y p i : ℕ) → p ≡ x % s.size → y ≡ x + i → kind_at (Some s) y ≡ kind_at (Some s) (p + i)
same_place s x y p i e f =
    ap (λ m. under m s.cells) (ap (λ m. m % s.size) f ∙ sym (mod-add-mod x s.size i) ∙ ap (λ m. (m + i) % s.size) (sym e))

-- All cells of a range are left where it begins.
pub all_left : (s : Shape) (x n : ℕ) → cells_left s (x % s.size) 0 n ≡ cells_within (Some s) x n
all_left s x n =
    sym (further (λ i. kind_at (Some s) (x + i)) (λ i. kind_at (Some s) (x % s.size + i)) 0 0 0 n refl
    (λ i. same_place s x (x + (0 + i)) (x % s.size) i refl (omega arith)))

-- No cell is left where none begins.
pub none_left : (s : Shape) (place before left : ℕ) → IsGap s place left → cells_left s place before left ≡ []
none_left s place before left h =
    ap (moved before) (none_given (λ i. placed_kind i (kind_at (Some s) (place + i))) 0 left
    (λ j l m. ap (placed_kind j) (h j (omega arith))))

pub gap_less : (s : Shape) (place n m : ℕ) → IsGap s place n → m ≤ n → IsGap s place m
gap_less s place n m h l = λ j k. h j (omega arith)

-- The next cell, and those after it.
pub first_left : (s : Shape) (place before left gap : ℕ) (k : Kind) (p b l : ℕ) → IsNext s place (gap, k) → gap < left
    → p ≡ (place + gap + 1) % s.size → b ≡ before + gap + 1 → l ≡ left - (gap + 1)
    → cells_left s place before left ≡ (before + gap, k) ∷ cells_left s p b l
first_left s place before left gap k p b l h lt e f g =
    let all : gap + suc l ≡ left = omega arith in
    let rest = filter_map (λ i. placed_kind i (kind_at (Some s) (place + i))) (range_with_len (gap + 1) l) in
    let none : cells_within (Some s) place gap ≡ [] =
    none_given (λ i. placed_kind i (kind_at (Some s) (place + i))) 0 gap (λ j m n. ap (placed_kind j) (h.gap j (omega arith))) in
    let behind : rest ≡ moved (gap + 1) (cells_within (Some s) p l) =
    further (λ i. kind_at (Some s) (place + i)) (λ i. kind_at (Some s) (p + i)) (gap + 1) 0 (gap + 1) l (omega arith)
    (λ i. same_place s (place + gap + 1) (place + (gap + 1 + i)) p i e (omega arith)) in
    let sum : before + (gap + 1) ≡ b = omega arith in
    ap (moved before) (cells_split (Some s) place gap l left k all h.kind ∙ ap (λ xs. xs ++ (gap, k) ∷ rest) none
    ∙ ap (λ xs. (gap, k) ∷ xs) behind)
    ∙ ap (λ xs. (before + gap, k) ∷ xs) (moved_twice before (gap + 1) (cells_within (Some s) p l)
    ∙ ap (λ n. moved n (cells_within (Some s) p l)) sum)

-- The cells of a range begin in it.
begins_below : (g : ℕ → Option Kind) (m a n : ℕ) → a + n ≤ m
    → All (λ c. c.0 < m) (filter_map (λ i. placed_kind i (g i)) (range_with_len a n))
begins_below g m a zero l = All-nil (λ c. c.0 < m)
begins_below g m a (suc n) l = by_kind (g a) (begins_below g m (a + 1) n (omega arith))
  where
    by_kind : (o : Option Kind) → All (λ c. c.0 < m) (filter_map (λ i. placed_kind i (g i)) (range_with_len (a + 1) n))
        → All (λ c. c.0 < m) (cons_option (placed_kind a o) (filter_map (λ i. placed_kind i (g i)) (range_with_len (a + 1) n)))
    by_kind None h = h
    by_kind (Some k) h = All-cons (λ c. c.0 < m) (a, k) (filter_map (λ i. placed_kind i (g i)) (range_with_len (a + 1) n)) (omega arith) h

pub cells_below : (s : Option Shape) (x n : ℕ) → All (λ c. c.0 < n) (cells_within s x n)
cells_below s x n = begins_below (λ i. kind_at s (x + i)) n 0 n (omega arith)

-- ---- the next cell, by a cursor

-- It is in the same element.
pub next_here : (s : Shape) (place : ℕ) (c : ℕ × Kind) (left : List (ℕ × Kind)) → IsCursor s place (Some c) left
    → IsNext s place (c.0 - place, c.1)
next_here s place c left h =
    let from : place ≤ c.0 = h.within.0 in
    let end : c.0 + kind_size c.1 ≤ s.size = h.within.1 in
    let some = some_size c.1 in
    record {
      gap = λ j l.
          let inside : place + j < s.size = omega arith in
          let other : c.0 ≢ place + j = omega arith in
          ap (λ m. under m s.cells) (mod-eq_of_lt inside) ∙ h.found (place + j) (omega arith)
          ∙ passed_over c left (place + j) other
          ∙ none_before left (c.0 + kind_size c.1) s.size (place + j) h.within.2 (omega arith);
      kind =
          let there : place + (c.0 - place) ≡ c.0 = omega arith in
          let inside : c.0 < s.size = omega arith in
          ap (λ m. under (m % s.size) s.cells) there ∙ ap (λ m. under m s.cells) (mod-eq_of_lt inside)
          ∙ h.found c.0 from ∙ first_here c left c.0 refl;
    }

-- It is in the next element.
pub next_further : (s : Shape) (place : ℕ) (over : List (ℕ × Kind)) (c : ℕ × Kind) (left : List (ℕ × Kind))
    → IsCursor s place None over → IsCursor s 0 (Some c) left → IsNext s place (s.size - place + c.0, c.1)
next_further s place over c left h first =
    let inside : place < s.size = h.inside in
    let end : c.0 + kind_size c.1 ≤ s.size = first.within.1 in
    let some = some_size c.1 in
    let begun = next_here s 0 c left first in
    record {
      gap = λ j l.
          elim (leb_tells s.size (place + j)) [
            | inl y ↦
                let m : ℕ = place + j - s.size in
                let sum : place + j ≡ s.size + m = omega (arith, y.1) in
                let back : m ≡ 0 + m = omega arith in
                ap (λ n. under (n % s.size) s.cells) sum ∙ ap (λ n. under n s.cells) (add-mod_left s.size m)
                ∙ ap (λ n. under (n % s.size) s.cells) back ∙ begun.gap m (omega (arith, y.1))
            | inr n ↦
                let here : place + j < s.size = omega (arith, n.1) in
                ap (λ m. under m s.cells) (mod-eq_of_lt here) ∙ h.found (place + j) (omega arith)
          ];
      kind =
          let sum : place + (s.size - place + c.0) ≡ s.size + c.0 = omega arith in
          let back : c.0 ≡ 0 + (c.0 - 0) = omega arith in
          ap (λ n. under (n % s.size) s.cells) sum ∙ ap (λ n. under n s.cells) (add-mod_left s.size c.0)
          ∙ ap (λ n. under (n % s.size) s.cells) back ∙ begun.kind;
    }

-- There is none.
pub no_next : (s : Shape) (place : ℕ) (over : List (ℕ × Kind)) → IsCursor s 0 None over → (n : ℕ) → IsGap s place n
no_next s place over h n = λ j l. h.found ((place + j) % s.size) (omega arith)

-- ---- so, as the cursor is given

pub not_before : (s : Shape) (place p : ℕ) (next : Option (ℕ × Kind)) (left : List (ℕ × Kind)) (c : ℕ × Kind)
    → IsCursor s p next left → p ≡ place → next ≡ Some c → place ≤ c.0
not_before s place p next left c h e f =
    let w = subst (λ (o : Option (ℕ × Kind)). CellsWithin (coming o left) p s.size) f h.within in omega (arith, w.0, e)

pub here_is_next : (s : Shape) (place p : ℕ) (next : Option (ℕ × Kind)) (left : List (ℕ × Kind)) (c : ℕ × Kind)
    → IsCursor s p next left → p ≡ place → next ≡ Some c → IsNext s place (c.0 - place, c.1)
here_is_next s place p next left c h e f =
    next_here s place c left
    (subst (λ q. IsCursor s q (Some c) left) e (subst (λ (o : Option (ℕ × Kind)). IsCursor s p o left) f h))

pub further_is_next : (s : Shape) (place p q : ℕ) (next first : Option (ℕ × Kind)) (over left : List (ℕ × Kind))
    (c : ℕ × Kind) → IsCursor s p next over → p ≡ place → next ≡ None → IsCursor s q first left → q ≡ 0 → first ≡ Some c
    → IsNext s place (s.size - place + c.0, c.1)
further_is_next s place p q next first over left c h e f k g l =
    next_further s place over c left
    (subst (λ n. IsCursor s n None over) e (subst (λ (o : Option (ℕ × Kind)). IsCursor s p o over) f h))
    (subst (λ n. IsCursor s n (Some c) left) g (subst (λ (o : Option (ℕ × Kind)). IsCursor s q o left) l k))

pub none_is_next : (s : Shape) (place q : ℕ) (first : Option (ℕ × Kind)) (left : List (ℕ × Kind)) → IsCursor s q first left
    → q ≡ 0 → first ≡ None → (n : ℕ) → IsGap s place n
none_is_next s place q first left h e f =
    no_next s place left
    (subst (λ n. IsCursor s n None left) e (subst (λ (o : Option (ℕ × Kind)). IsCursor s q o left) f h))

-- ---- a range in which no cell begins

pub bare : (s : Shape) (x n p : ℕ) → p ≡ x % s.size → IsGap s p n → true ≡ same_cells (cells_within (Some s) x n) []
bare s x n p e h =
    sym (ap (λ xs. same_cells xs []) (sym (all_left s x n) ∙ none_left s (x % s.size) 0 n (subst (λ q. IsGap s q n) e h)))

pub bare_by : (s : Shape) (x n p : ℕ) (c : ℕ × Kind) → p ≡ x % s.size → IsNext s p c
    → leb n c.0 ≡ same_cells (cells_within (Some s) x n) []
bare_by s x n p c e h =
    elim (leb_tells n c.0) [
      | inl y ↦ y.0 ∙ bare s x n p e (gap_less s p c.0 n h.gap y.1)
      | inr y ↦
          let h' = subst (λ q. IsNext s q c) e h in
          let here : c.0 < n = omega (arith, y.1) in
          y.0 ∙ sym (ap (λ xs. same_cells xs []) (sym (all_left s x n)
          ∙ first_left s (x % s.size) 0 n c.0 c.1 ((x % s.size + c.0 + 1) % s.size) (0 + c.0 + 1) (n - (c.0 + 1)) h' here refl refl refl))
    ]
