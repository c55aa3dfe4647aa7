-- The cells of ranges, compared and tested byte by byte.
use Rattle.std.proofs.Common.{◌≡◌, ◌≢◌, ℕ, zero, suc, ◌+◌, ◌-◌, ◌<◌, ◌≤◌, ◌||◌, inl, inr, Bool, true, false, not, List, [], ◌∷◌, ◌++◌, Option, Some, None, refl, sym, ap, ◌∙◌, arith}
use Rattle.std.specs.List.{All, filter_map, cons_option, list_any, range_with_len}
use Rattle.std.proofs.lemmas.Bool.{false_from_ne_true, false≢true, not-false, or_parts}
use Rattle.std.proofs.lemmas.Bool.Decides.{eqb_tells}
use Rattle.std.proofs.lemmas.List.{append-nil}
use Rattle.std.proofs.lemmas.List.Elements.{All-cons, All-nil}
use Rattle.std.proofs.lemmas.List.Folds.{list_any-append}
use Rattle.block_layout.specs.Cells.{same_cells}
use Rattle.block_layout.specs.Lists.{under}
use Rattle.block_layout.specs.declared.kind.Kind.{Kind}
use Rattle.block_layout.specs.declared.kind.Shape.{Shape}
use Rattle.block_layout.proofs.Same.{same_exact}
use Rattle.block_layout.proofs.Told.{same_front}
use Rattle.upc_values.specs.Shapes.{kind_at, is_integer}
use Rattle.upc_values.specs.layer.Parts.{placed_kind}
use Rattle.upc_values.specs.Views.{cells_within}
use Rattle.upc_library.specs.code.Ranges.{is_no_integer}
use Rattle.upc_library.proofs.Cursors.{cons-front, cells_more, no_cells}
use Rattle.upc_library.proofs.Steps.{passed_over, first_here}

-- The numbers from a on, split at b.
parted : {X : Type 0} (g : ℕ → Option X) (a m r b n : ℕ) → a + m ≡ b → m + suc r ≡ n
    → filter_map g (range_with_len a n) ≡ filter_map g (range_with_len a m) ++ cons_option (g b) (filter_map g (range_with_len (b + 1) r))
parted g a zero r b zero e f = absurd (omega arith)
parted g a zero r b (suc n) e f =
    let same : a ≡ b = omega arith in
    let few : n ≡ r = omega arith in
    ap (λ k. cons_option (g a) (filter_map g (range_with_len (a + 1) k))) few ∙ ap (λ k. cons_option (g k) (filter_map g (range_with_len (k + 1) r))) same
parted g a (suc m) r b zero e f = absurd (omega arith)
parted g a (suc m) r b (suc n) e f =
    ap (cons_option (g a)) (parted g (a + 1) m r b n (omega arith) (omega arith))
    ∙ cons-front (g a) (filter_map g (range_with_len (a + 1) m)) (cons_option (g b) (filter_map g (range_with_len (b + 1) r)))

-- The cells before a byte, the cell there, and those behind it.
pub cells_split : (s : Option Shape) (x i r n : ℕ) (k : Kind) → i + suc r ≡ n → kind_at s (x + i) ≡ Some k
    → cells_within s x n ≡ cells_within s x i ++ (i, k) ∷ filter_map (λ j. placed_kind j (kind_at s (x + j))) (range_with_len (i + 1) r)
cells_split s x i r n k e here =
    parted (λ j. placed_kind j (kind_at s (x + j))) 0 i r i n (omega arith) e
    ∙ ap (λ (o : Option Kind). cells_within s x i ++ cons_option (placed_kind i o) (filter_map (λ j. placed_kind j (kind_at s (x + j))) (range_with_len (i + 1) r))) here

-- The cells from a byte on, by the kind of the one at each byte.
abbrev placed : (ℕ → Option Kind) → ℕ → ℕ → List (ℕ × Kind)
placed g a n = filter_map (λ j. placed_kind j (g j)) (range_with_len a n)

-- None of them begins before it.
none_under : (g : ℕ → Option Kind) (a n i : ℕ) → i < a → under i (placed g a n) ≡ None
none_under g a zero i l = refl
none_under g a (suc n) i l = by_kind (g a) (none_under g (a + 1) n i (omega arith))
  where
    by_kind : (o : Option Kind) → under i (placed g (a + 1) n) ≡ None → under i (cons_option (placed_kind a o) (placed g (a + 1) n)) ≡ None
    by_kind None h = h
    by_kind (Some k) h = let other : a ≢ i = omega arith in passed_over (a, k) (placed g (a + 1) n) i other ∙ h

-- They tell the kind of the one at each byte.
told : (g : ℕ → Option Kind) (a n i : ℕ) → a ≤ i → i < a + n → under i (placed g a n) ≡ g i
told g a zero i l m = absurd (omega arith)
told g a (suc n) i l m =
    elim (eqb_tells a i) [
      | inl y ↦ ap (λ j. under j (placed g a (suc n))) (sym y.1) ∙ first (g a) ∙ ap g y.1
      | inr y ↦ behind (g a) y.1 (told g (a + 1) n i (let other : a ≢ i = y.1 in omega arith) (omega arith))
    ]
  where
    first : (o : Option Kind) → under a (cons_option (placed_kind a o) (placed g (a + 1) n)) ≡ o
    first None = none_under g (a + 1) n a (omega arith)
    first (Some k) = first_here (a, k) (placed g (a + 1) n) a refl

    behind : (o : Option Kind) → a ≢ i → under i (placed g (a + 1) n) ≡ g i → under i (cons_option (placed_kind a o) (placed g (a + 1) n)) ≡ g i
    behind None other h = h
    behind (Some k) other h = passed_over (a, k) (placed g (a + 1) n) i other ∙ h

-- Where the kinds at a byte differ, the cells do.
pub kinds_differ : (s t : Option Shape) (x y i n : ℕ) → i < n → (kind_at s (x + i) ≡ kind_at t (y + i) → ⊥)
    → same_cells (cells_within s x n) (cells_within t y n) ≡ false
kinds_differ s t x y i n l other =
    false_from_ne_true (same_cells (cells_within s x n) (cells_within t y n)) (λ e.
    other (sym (told (λ j. kind_at s (x + j)) 0 n i (omega arith) (omega arith))
    ∙ ap (under i) (same_exact (cells_within s x n) (cells_within t y n) e)
    ∙ told (λ j. kind_at t (y + j)) 0 n i (omega arith) (omega arith)))

pub same_more : (s t : Option Shape) (x y n : ℕ) → kind_at s (x + n) ≡ kind_at t (y + n) → cells_within s x n ≡ cells_within t y n
    → cells_within s x (n + 1) ≡ cells_within t y (n + 1)
same_more s t x y n k e =
    cells_more s x n (kind_at t (y + n)) k ∙ ap (λ zs. zs ++ cons_option (placed_kind n (kind_at t (y + n))) []) e
    ∙ sym (cells_more t y n (kind_at t (y + n)) refl)

pub same_itself : (xs ys : List (ℕ × Kind)) → xs ≡ ys → same_cells xs ys ≡ true
same_itself xs ys e =
    ap (λ zs. same_cells zs ys) e ∙ ap (λ zs. same_cells zs zs) (sym (append-nil ys)) ∙ same_front ys [] []

-- ---- cells that are no integers

abbrev other : ℕ × Kind → Bool
other c = not (is_integer c.1)

pub no_more : (s : Option Shape) (x n : ℕ) → is_no_integer (kind_at s (x + n)) ≡ false
    → list_any (λ c. not (is_integer c.1)) (cells_within s x n) ≡ false
    → list_any (λ c. not (is_integer c.1)) (cells_within s x (n + 1)) ≡ false
no_more s x n h e =
    ap (list_any other) (cells_more s x n (kind_at s (x + n)) refl)
    ∙ list_any-append other (cells_within s x n) (cons_option (placed_kind n (kind_at s (x + n))) [])
    ∙ ap (λ b. b || list_any other (cons_option (placed_kind n (kind_at s (x + n))) [])) e ∙ by_kind (kind_at s (x + n)) h
  where
    by_kind : (o : Option Kind) → is_no_integer o ≡ false → list_any other (cons_option (placed_kind n o) []) ≡ false
    by_kind None k = refl
    by_kind (Some j) k = ap (λ b. b || false) k

pub one_here : (s : Option Shape) (x i n : ℕ) → i < n → is_no_integer (kind_at s (x + i)) ≡ true
    → list_any (λ c. not (is_integer c.1)) (cells_within s x n) ≡ true
one_here s x i n l h = by_kind (kind_at s (x + i)) refl h
  where
    either : (b : Bool) → (b || true) ≡ true
    either true = refl
    either false = refl

    by_kind : (o : Option Kind) → kind_at s (x + i) ≡ o → is_no_integer o ≡ true → list_any (λ c. not (is_integer c.1)) (cells_within s x n) ≡ true
    by_kind None e k = absurd (false≢true k)
    by_kind (Some j) e k =
        let r : ℕ = n - suc i in
        let all : i + suc r ≡ n = omega arith in
        let rest = filter_map (λ m. placed_kind m (kind_at s (x + m))) (range_with_len (i + 1) r) in
        ap (list_any other) (cells_split s x i r n j all e)
        ∙ list_any-append other (cells_within s x i) ((i, j) ∷ rest)
        ∙ ap (λ b. list_any other (cells_within s x i) || (b || list_any other rest)) k
        ∙ either (list_any other (cells_within s x i))

pub all_integers : (xs : List (ℕ × Kind)) → list_any (λ c. not (is_integer c.1)) xs ≡ false → All (λ c. is_integer c.1 ≡ true) xs
all_integers [] e = All-nil (λ (c : ℕ × Kind). is_integer c.1 ≡ true)
all_integers (c ∷ xs) e =
    let p = or_parts (not (is_integer c.1)) (list_any other xs) e in
    All-cons (λ (c : ℕ × Kind). is_integer c.1 ≡ true) c xs (not-false (is_integer c.1) p.0) (all_integers xs p.1)

-- ---- ranges without a shape

pub none_second : (xs : List (ℕ × Kind)) (b : Bool) (o : Option Shape) (x n : ℕ) → o ≡ None → b ≡ same_cells xs []
    → b ≡ same_cells xs (cells_within o x n)
none_second xs b o x n e f =
    f ∙ ap (same_cells xs) (sym (ap (λ (p : Option Shape). cells_within p x n) e ∙ no_cells x n))

swapped : (xs : List (ℕ × Kind)) → same_cells xs [] ≡ same_cells [] xs
swapped [] = refl
swapped (c ∷ xs) = refl

pub none_first : (xs : List (ℕ × Kind)) (b : Bool) (o : Option Shape) (x n : ℕ) → o ≡ None → b ≡ same_cells xs []
    → b ≡ same_cells (cells_within o x n) xs
none_first xs b o x n e f =
    f ∙ swapped xs ∙ ap (λ ys. same_cells ys xs) (sym (ap (λ (p : Option Shape). cells_within p x n) e ∙ no_cells x n))

-- The cells of the second of two areas, where they are those of the first.
pub of_either : (a b : Bool) (xs ys cells : List (ℕ × Kind)) → (a || (b || not (same_cells xs ys))) ≡ false → cells ≡ ys → cells ≡ xs
of_either a b xs ys cells e f =
    f ∙ sym (same_exact xs ys (not-false (same_cells xs ys)
    (or_parts b (not (same_cells xs ys)) (or_parts a (b || not (same_cells xs ys)) e).1).1))
