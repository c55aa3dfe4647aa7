-- Rows of cells of one kind.
use Rattle.std.proofs.Common.{◌≡◌, ◌≢◌, ℕ, ◌+◌, ◌*◌, ◌/◌, ◌%◌, ◌<◌, ◌≤◌, ℤ, pos, negsuc, nat_le, Bool, true, false, cond, ◌==◌, ◌&&◌, List, [], ◌∷◌, ◌++◌, length, get_or, take, map, Some, None, Ok, Err, refl, sym, subst, ap, ◌∙◌, arith, append_assoc}
use Rattle.std.proofs.lemmas.Bool.Decides.{nat_tests}
use Rattle.std.proofs.lemmas.List.{get_or_push, get_or_read, length_push, length-map, map-append, take_at, take_more}
use Rattle.std.proofs.lemmas.List.Elements.{All-append, All-cons, All-nil}
use Rattle.std.proofs.Math.Nat.{mul-mod_left, mul-le-mul_right, mul-div_cancel}
use Rattle.block_layout.specs.declared.kind.Kind.{Kind}
use Rattle.block_layout.specs.declared.kind.Shape.{Shape}
use Rattle.block_layout.specs.declared.run_error.TheConstants.{CELL_TYPE, PRIVATE_RANGE}
use Rattle.block_layout.specs.Shapes.{CellsWithin, IsShape, kind_size, same_kind}
use Rattle.block_layout.proofs.Found.{kind_is, kind_itself}
use Rattle.upc_values.specs.declared.scalar.Value.{Value}
use Rattle.upc_values.specs.Shapes.{blank_value}
use Rattle.private_store.specs.declared.held.Held.{Held}
use Rattle.private_store.specs.Live.{Thing}
use Rattle.private_store.specs.code.Held.{held_value, held_values}
use Rattle.private_store.specs.Cells.{cell_place}
use Rattle.private_store.specs.code.Kept.{IsByte, IsPlace}
use Rattle.private_store.specs.code.Laid.{AreRows, IsKnown, IsRow, is_row_from, row_cells, row_shape}
use Rattle.private_store.specs.declared.row_shapes.Known.{Known}
use Rattle.private_store.proofs.Objects.{outside, no_cell, a_cell}
use Rattle.private_store.proofs.Places.{Cells, Rise, some_bytes, rise_within, byte_here, kind_place, kind_nowhere}
use Rattle.private_store.proofs.Searches.{differs, position_none}

abbrev cell : ℕ → Kind → ℕ × Kind
cell from k = (from, k)

pub row_length : (k : Kind) (from n : ℕ) → length (row_cells k from n) ≡ n
row_length k from ℕ.zero = refl
row_length k from (ℕ.suc n) = ap (λ m. ℕ.suc m) (row_length k (from + kind_size k) n)

pub row_at : (k : Kind) (from n i : ℕ) (d : ℕ × Kind) → i < n → get_or (row_cells k from n) i d ≡ (from + i * kind_size k, k)
row_at k from ℕ.zero i d lt = absurd (omega arith)
row_at k from (ℕ.suc n) ℕ.zero d lt = ap (λ m. cell m k) (let e : from ≡ from + 0 * kind_size k = omega arith in e)
row_at k from (ℕ.suc n) (ℕ.suc i) d lt =
    row_at k (from + kind_size k) n i d (omega arith)
    ∙ ap (λ m. cell m k) (let e : from + kind_size k + i * kind_size k ≡ from + ℕ.suc i * kind_size k = omega arith in e)

row_within : (k : Kind) (from n : ℕ) → CellsWithin (row_cells k from n) from (from + n * kind_size k)
row_within k from ℕ.zero = tt
row_within k from (ℕ.suc n) =
    let e : from + kind_size k + n * kind_size k ≡ from + ℕ.suc n * kind_size k = omega arith in
    (omega arith, omega arith, subst (λ m. CellsWithin (row_cells k (from + kind_size k) n) (from + kind_size k) m) e (row_within k (from + kind_size k) n))

row_rise : (k : Kind) (n : ℕ) → Rise (row_cells k 0 n)
row_rise k n = rise_within (row_cells k 0 n) 0 (0 + n * kind_size k) (row_within k 0 n)

-- one more
row_suc : (k : Kind) (from n : ℕ) → row_cells k from (ℕ.suc n) ≡ row_cells k from n ++ (from + n * kind_size k, k) ∷ []
row_suc k from ℕ.zero = ap (λ m. cell m k ∷ []) (let e : from ≡ from + 0 * kind_size k = omega arith in e)
row_suc k from (ℕ.suc n) =
    ap (λ l. cell from k ∷ l) (row_suc k (from + kind_size k) n)
    ∙ ap (λ m. cell from k ∷ (row_cells k (from + kind_size k) n ++ cell m k ∷ []))
    (let e : from + kind_size k + n * kind_size k ≡ from + ℕ.suc n * kind_size k = omega arith in e)

pub row_more : (k : Kind) (from n : ℕ) → row_cells k from (n + 1) ≡ row_cells k from n ++ (from + n * kind_size k, k) ∷ []
row_more k from n = ap (row_cells k from) (let e : n + 1 ≡ ℕ.suc n = omega arith in e) ∙ row_suc k from n

-- ---- which shapes are rows

same_shapes : (s t : Shape) → s.size ≡ t.size → s.cells ≡ t.cells → s ≡ t
same_shapes s t size cells =
    let made : ℕ → Cells → Shape = λ n l. record { size = n; cells = l } in
    ap (λ n. made n s.cells) size ∙ ap (made t.size) cells

row_is : (s : Shape) (k : Kind) (n : ℕ) → s.size ≡ n * kind_size k → s.cells ≡ row_cells k 0 n → IsRow k s
row_is s k n size cells =
    let some = some_bytes k in
    let many : n ≡ s.size / kind_size k = sym (ap (λ m. m / kind_size k) size ∙ mul-div_cancel n {n = kind_size k} (omega arith)) in
    same_shapes s (row_shape k n) size cells ∙ ap (row_shape k) many

alone : (rest : Cells) (from size : ℕ) → CellsWithin rest from size → from ≡ size → rest ≡ []
alone [] from size h e = refl
alone (c ∷ rest) from size h e = absurd (let s = some_bytes c.1 in omega (arith, h.0, h.1))

pub single_is : (s : Shape) (rest : Cells) (c : ℕ × Kind) → IsShape s → s.cells ≡ c ∷ rest → c.0 ≡ 0 → kind_size c.1 ≡ s.size → IsRow c.1 s
single_is s rest c is_shape cells first size =
    let within : CellsWithin (c ∷ rest) 0 s.size = subst (λ l. CellsWithin l 0 s.size) cells is_shape.1 in
    let none : rest ≡ [] = alone rest (c.0 + kind_size c.1) s.size within.2 (omega arith) in
    row_is s c.1 1 (omega arith) (cells ∙ ap (λ l. c ∷ l) none ∙ ap (λ m. cell m c.1 ∷ []) first)

both_true : (a b : Bool) → (a && b) ≡ true → (a ≡ true) × (b ≡ true)
both_true true b e = (refl, e)
both_true false b e = absurd cc

equal_at : (a b : ℕ) → (a == b) ≡ true → a ≡ b
equal_at a b e = grind (arith, nat_tests)

all_row : (cells : Cells) (k : Kind) (from size : ℕ) → is_row_from k from size cells ≡ true
    → (cells ≡ row_cells k from (length cells)) × (size ≡ from + length cells * kind_size k)
all_row [] k from size e = (refl, (let h = equal_at from size e in omega arith))
all_row (c ∷ cells) k from size e =
    let a = both_true (c.0 == from) (same_kind c.1 k && is_row_from k (from + kind_size k) size cells) e in
    let b = both_true (same_kind c.1 k) (is_row_from k (from + kind_size k) size cells) a.1 in
    let r = all_row cells k (from + kind_size k) size b.1 in
    let here : c ≡ cell from k = ap (λ m. cell m c.1) (equal_at c.0 from a.0) ∙ ap (cell from) (kind_is c.1 k b.0) in
    (ap (λ d. d ∷ cells) here ∙ ap (λ l. cell from k ∷ l) r.0, omega (arith, r.1))

pub row_from : (s : Shape) (k : Kind) → is_row_from k 0 s.size s.cells ≡ true → IsRow k s
row_from s k e =
    let r = all_row s.cells k 0 s.size e in row_is s k (length s.cells) (omega (arith, r.1)) r.0

pub row_count : (s : Shape) (k : Kind) (width : ℕ) → IsRow k s → width ≡ kind_size k → s.size / width ≡ length s.cells
row_count s k width row w =
    ap (λ m. s.size / m) w ∙ sym (ap (λ (t : Shape). length t.cells) row ∙ row_length k 0 (s.size / kind_size k))

-- ---- known shapes

pub known_is : (known : List Known) (place : ℕ) (r : Known) (s : Shape) (k : Kind) → AreRows known → IsRow k s → place < length known
    → r ≡ get_or known place r → r.size ≡ s.size → r.kind ≡ k → IsKnown known place s
known_is known place r s k rows row lt is size kind =
    let at = rows place r lt in
    let here : get_or known place r ≡ r = sym is in
    let mine : IsRow r.kind r.shape × (r.size ≡ r.shape.size) = subst (λ (q : Known). IsRow q.kind q.shape × (q.size ≡ q.shape.size)) here at in
    let same : r.shape ≡ s =
    mine.0 ∙ ap (λ j. row_shape j (r.shape.size / kind_size j)) kind ∙ ap (λ n. row_shape k (n / kind_size k)) (sym mine.1 ∙ size) ∙ sym row in
    record { there = lt; is = λ d. ap (λ (q : Known). q.shape) (sym (get_or_read known place r lt is d)) ∙ same }

pub known_newest : (known : List Known) (r : Known) (s : Shape) → r.shape ≡ s → IsKnown (known ++ r ∷ []) (length known) s
known_newest known r s same =
    record {
      there = (let l = length_push known r in omega arith);
      is = λ d. ap (λ (q : Known). q.shape) (get_or_push known r d (length known) refl) ∙ same;
    }

pub rows_more : (known : List Known) (r : Known) (s : Shape) → AreRows known → IsRow r.kind s → r.size ≡ s.size → r.shape ≡ s → AreRows (known ++ r ∷ [])
rows_more known r s rows row size same =
    let P : Known → Type 0 = λ q. IsRow q.kind q.shape × (q.size ≡ q.shape.size) in
    All-append P known (r ∷ []) rows (All-cons P r [] (subst (IsRow r.kind) (sym same) row, size ∙ ap (λ (t : Shape). t.size) (sym same)) (All-nil P))

pub known_kept : (known : List Known) (r : Known) → take (length known) (known ++ r ∷ []) ≡ known
known_kept known r = take_at known (r ∷ []) (length known) refl

pub ruleset knowing = (known_newest, rows_more, known_kept)

-- ---- what an access reaches

both_false : (a b : Bool) → b ≡ false → (a && b) ≡ false
both_false true b e = e
both_false false b e = refl

below_count : (q n w b : ℕ) → b ≡ q * w → b + w ≤ n * w → 1 ≤ w → q < n
below_count q n w b e within some = grind (arith, mul-le-mul_right {m = n} {n = q} w)

whole : (b w : ℕ) → b % w ≡ 0 → 1 ≤ w → b ≡ b / w * w
whole b w e some = omega arith

lies : (a b : ℕ) → nat_le a b ≡ true → a ≤ b
lies a b e = grind (arith, nat_tests)

module _ (x : Thing) (k : Kind) (n : ℕ) (row : x.shape ≡ row_shape k n) where
  cells_are : x.shape.cells ≡ row_cells k 0 n
  cells_are = ap (λ (s : Shape). s.cells) row

  size_is : x.shape.size ≡ n * kind_size k
  size_is = ap (λ (s : Shape). s.size) row

  row_of_kind : (b q : ℕ) (d : ℕ × Kind) → b ≡ q * kind_size k → q < n → cell_place x.shape.cells b k ≡ Some q
  row_of_kind b q d e lt =
      let at = row_at k 0 n q d lt in
      let cells = row_cells k 0 n in
      let l = row_length k 0 n in
      let first : (get_or cells q d).0 ≡ b = ap (λ (c : ℕ × Kind). c.0) at ∙ omega arith in
      let there = byte_here cells b (row_rise k n) q d (omega arith) first in
      ap (λ cs. cell_place cs b k) cells_are ∙ kind_place cells b k (row_rise k n) q there d
      ∙ ap (λ t. cond t (Some q) None) (ap (λ (c : ℕ × Kind). same_kind c.1 k) at ∙ kind_itself k)

  pub at_row : (offset : ℤ) (width size b : ℕ) → width ≡ kind_size k → size ≡ x.shape.size → IsByte offset width size (Some b)
      → b % width ≡ 0 → IsPlace x offset k (Ok (b / width))
  at_row offset width size b w s byte even =
      let some = some_bytes k in
      let q = b / width in
      let e : b ≡ q * width = whole b width even (omega arith) in
      let lt : q < n = below_count q n width b e (reaches offset byte) (omega arith) in
      let cells = row_cells k 0 n in
      let l = row_length k 0 n in (
        record {
          there = rw (cells_are, l) lt;
          kind_is = λ d. ap (λ cs. (get_or cs q d).1) cells_are ∙ ap (λ (c : ℕ × Kind). c.1) (row_at k 0 n q d lt);
        },
        a_cell x offset k b q (rw (← w, ← s) byte.0) byte.1 (sym (row_of_kind b q (0, k) (rw (← w) e) lt)),
      )
    where
      reaches : (offset : ℤ) → IsByte offset width size (Some b) → b + width ≤ n * width
      reaches (pos o) byte =
          let within : o + width ≤ size = lies (o + width) size byte.0 in
          omega (arith, byte.1, s, size_is, ap (λ m. n * m) w)
      reaches (negsuc o) byte = absurd cc

  pub between_row : (offset : ℤ) (width size b : ℕ) → width ≡ kind_size k → size ≡ x.shape.size → IsByte offset width size (Some b)
      → b % width ≢ 0 → IsPlace x offset k (Err CELL_TYPE)
  between_row offset width size b w s byte odd =
      no_cell x offset k b (rw (← w, ← s) byte.0) byte.1 (sym (kind_nowhere x.shape.cells b k (sym (position_none (λ c. c.0 == b) x.shape.cells none))))
    where
      none : (i : ℕ) (d : ℕ × Kind) → i < length x.shape.cells → ((get_or x.shape.cells i d).0 == b) ≡ false
      none i d lt =
          let l : i < n = subst (λ m. i < m) (ap length cells_are ∙ row_length k 0 n) lt in
          let first : (get_or x.shape.cells i d).0 ≡ i * kind_size k =
          ap (λ cs. (get_or cs i d).0) cells_are ∙ ap (λ (c : ℕ × Kind). c.0) (row_at k 0 n i d l) ∙ omega arith in
          differs (get_or x.shape.cells i d).0 b (λ e. odd (ap (λ m. m % width) (sym e ∙ first ∙ ap (λ m. i * m) (sym w)) ∙ mul-mod_left i width))

  pub row_of_others : (offset : ℤ) (own : Kind) (width size b : ℕ) → same_kind k own ≡ false → width ≡ kind_size own → size ≡ x.shape.size
      → IsByte offset width size (Some b) → IsPlace x offset own (Err CELL_TYPE)
  row_of_others offset own width size b other w s byte =
      no_cell x offset own b (rw (← w, ← s) byte.0) byte.1 (sym (position_none (λ c. c.0 == b && same_kind c.1 own) x.shape.cells none))
    where
      none : (i : ℕ) (d : ℕ × Kind) → i < length x.shape.cells
          → ((get_or x.shape.cells i d).0 == b && same_kind (get_or x.shape.cells i d).1 own) ≡ false
      none i d lt =
          let l : i < n = subst (λ m. i < m) (ap length cells_are ∙ row_length k 0 n) lt in
          let kind : (get_or x.shape.cells i d).1 ≡ k = ap (λ cs. (get_or cs i d).1) cells_are ∙ ap (λ (c : ℕ × Kind). c.1) (row_at k 0 n i d l) in
          both_false ((get_or x.shape.cells i d).0 == b) (same_kind (get_or x.shape.cells i d).1 own) (ap (λ j. same_kind j own) kind ∙ other)

pub outside_row : (x : Thing) (k : Kind) (offset : ℤ) (width size : ℕ) → width ≡ kind_size k → size ≡ x.shape.size
    → IsByte offset width size None → IsPlace x offset k (Err PRIVATE_RANGE)
outside_row x k offset width size w s byte = outside x offset k (rw (← w, ← s) byte)

-- ---- what cells begin with

pub row_more_blank : (held : List Value) (k : Kind) (n : ℕ) (front : List Value) → held ≡ front ++ map (λ (c : ℕ × Kind). blank_value c.1) (row_cells k 0 n)
    → held ++ blank_value k ∷ [] ≡ front ++ map (λ (c : ℕ × Kind). blank_value c.1) (row_cells k 0 (n + 1))
row_more_blank held k n front e =
    let blank : ℕ × Kind → Value = λ c. blank_value c.1 in
    ap (λ l. l ++ blank_value k ∷ []) e ∙ append_assoc front (map blank (row_cells k 0 n)) (blank_value k ∷ [])
    ∙ ap (λ l. front ++ l) (sym (ap (map blank) (row_more k 0 n) ∙ map-append blank (row_cells k 0 n) (cell (0 + n * kind_size k) k ∷ [])))

pub blanks_more : (held : List Value) (cells : Cells) (n : ℕ) (c : ℕ × Kind) (front : List Value) → n < length cells → c ≡ get_or cells n c
    → held ≡ front ++ map (λ (c : ℕ × Kind). blank_value c.1) (take n cells)
    → held ++ blank_value c.1 ∷ [] ≡ front ++ map (λ (c : ℕ × Kind). blank_value c.1) (take (n + 1) cells)
blanks_more held cells n c front lt is e =
    let blank : ℕ × Kind → Value = λ d. blank_value d.1 in
    ap (λ l. l ++ blank c ∷ []) e ∙ append_assoc front (map blank (take n cells)) (blank c ∷ [])
    ∙ ap (λ l. front ++ l) (sym (ap (map blank) (take_more cells n c lt ∙ ap (λ d. take n cells ++ d ∷ []) (sym is)) ∙ map-append blank (take n cells) (c ∷ [])))

pub values_pushed : (held : List Held) (h : Held) (v : Value) → held_value h ≡ v → held_values (held ++ h ∷ []) ≡ held_values held ++ v ∷ []
values_pushed held h v e = map-append held_value held (h ∷ []) ∙ ap (λ u. held_values held ++ u ∷ []) e

pub values_kept : (before : List Held) (values more : List Value) → values ≡ held_values before ++ more → take (length before) values ≡ held_values before
values_kept before values more e = ap (take (length before)) e ∙ take_at (held_values before) more (length before) (length-map before held_value)
