-- The cells from a byte on, where the cells ascend.
use Rattle.std.proofs.Common.{◌≡◌, ℕ, zero, suc, ◌+◌, ◌-◌, ◌*◌, ◌/◌, ◌%◌, min, ◌<◌, ◌≤◌, nat_le, nat_lt, ◌&&◌, ◌||◌, Bool, true, false, cond, inl, inr, List, [], ◌∷◌, ◌++◌, length, get_or, take, drop, refl, sym, ap, ◌∙◌, subst, append_assoc, arith}
use Rattle.std.proofs.lemmas.Bool.{cases_lt, cond-true, cond-false, and_from, and_left, and_right, lt-ltb, le-leb, lt-leb, le-ltb}
use Rattle.std.proofs.lemmas.Bool.Decides.{leb_tells}
use Rattle.std.proofs.lemmas.List.{append-nil}
use Rattle.std.proofs.lemmas.Nat.{div-add-mod'}
use Rattle.std.proofs.lemmas.List.Elements.{filter-append}
use Rattle.block_layout.specs.declared.kind.Kind.{Kind}
use Rattle.block_layout.specs.Cells.{moved, copies, cells_from, has_cut}
use Rattle.block_layout.specs.Shapes.{CellsWithin, kind_size}
use Rattle.block_layout.specs.code.Runs.{Repeated, first_of, BeginsBehind, run_cells, runs_cells, copies_left, AreNear, IsRun, IsLeft, IsLastBy}
use Rattle.block_layout.proofs.Found.{some_bytes, few_bytes}
use Rattle.block_layout.proofs.Near.{near_first, near_copy}
use Rattle.block_layout.proofs.Within.{last_copy, lower, moved_nowhere, within_right}
use Rattle.block_layout.proofs.RunLists.{runs_drop}
use Rattle.block_layout.proofs.Told.{runs_parts}
use Rattle.block_layout.proofs.Joined.{copies_joined}
use Rattle.block_layout.proofs.Readings.{copies_front}

-- Cells that end by a byte, and cells that begin behind it.
pub from_below : (xs : List (ℕ × Kind)) (from end place : ℕ) → CellsWithin xs from end → end ≤ place → cells_from place xs ≡ []
from_below [] from end place h l = refl
from_below (c ∷ xs) from end place h l =
    cond-false (nat_le place c.0) (c ∷ cells_from place xs) (cells_from place xs) (lt-leb place c.0 (omega (arith, h.1, some_bytes c.1)))
    ∙ from_below xs (c.0 + kind_size c.1) end place h.2 l

pub from_above : (xs : List (ℕ × Kind)) (from size place : ℕ) → CellsWithin xs from size → place ≤ from → cells_from place xs ≡ xs
from_above [] from size place h l = refl
from_above (c ∷ xs) from size place h l =
    cond-true (nat_le place c.0) (c ∷ cells_from place xs) (cells_from place xs) (le-leb place c.0 (omega (arith, h.0)))
    ∙ ap (λ ys. c ∷ ys) (from_above xs (c.0 + kind_size c.1) size place h.2 (omega (arith, h.0)))

-- What stands before a cell ends by it.
begins_from : (xs : List (ℕ × Kind)) (c : ℕ × Kind) (ys : List (ℕ × Kind)) (from size : ℕ) → CellsWithin (xs ++ c ∷ ys) from size → from ≤ c.0
begins_from [] c ys from size h = omega (arith, h.0)
begins_from (a ∷ xs) c ys from size h = let e = begins_from xs c ys (a.0 + kind_size a.1) size h.2 in omega (arith, h.0)

pub before_next : (xs : List (ℕ × Kind)) (c : ℕ × Kind) (ys : List (ℕ × Kind)) (from size : ℕ) → CellsWithin (xs ++ c ∷ ys) from size → CellsWithin xs from c.0
before_next [] c ys from size h = tt
before_next (a ∷ xs) c ys from size h =
    (h.0, begins_from xs c ys (a.0 + kind_size a.1) size h.2, before_next xs c ys (a.0 + kind_size a.1) size h.2)

pub next_on : (xs : List (ℕ × Kind)) (c : ℕ × Kind) (ys : List (ℕ × Kind)) (from size : ℕ) → CellsWithin (xs ++ c ∷ ys) from size → CellsWithin (c ∷ ys) c.0 size
next_on [] c ys from size h = (omega arith, h.1, h.2)
next_on (a ∷ xs) c ys from size h = next_on xs c ys (a.0 + kind_size a.1) size h.2

-- Cells that begin by a byte, between those before and cells that begin behind it.
none_first : (xs ys : List (ℕ × Kind)) (from size place : ℕ) → CellsWithin (xs ++ ys) from size
    → (0 < length xs → (0 < length ys) × (first_of ys ≤ place)) → cells_from place xs ≡ []
none_first [] ys from size place h l = refl
none_first (a ∷ xs) [] from size place h l = absurd (let k = (l (omega arith)).0 in omega arith)
none_first (a ∷ xs) (c ∷ ys) from size place h l =
    from_below (a ∷ xs) from c.0 place (before_next (a ∷ xs) c ys from size h) (l (omega arith)).1

all_last : (xs ys : List (ℕ × Kind)) (from size place : ℕ) → CellsWithin (xs ++ ys) from size → BeginsBehind place ys → cells_from place ys ≡ ys
all_last xs [] from size place h l = refl
all_last xs (c ∷ ys) from size place h l =
    from_above (c ∷ ys) c.0 size place (next_on xs c ys from size h) (let k = l (omega arith) in omega arith)

-- None of the first cells begins at a byte by which the next ones begin.
pub none_before : (xs ys zs : List (ℕ × Kind)) (from size place : ℕ) → CellsWithin (xs ++ (ys ++ zs)) from size
    → (0 < length xs → (0 < length ys) × (first_of ys ≤ place)) → cells_from place xs ≡ []
none_before xs ys zs from size place h first =
    none_first xs (ys ++ zs) from size place h (λ k. (some_more ys zs (first k).0, omega (arith, (first k).1, first_more ys zs (first k).0)))
  where
    some_more : (ys zs : List (ℕ × Kind)) → 0 < length ys → 0 < length (ys ++ zs)
    some_more [] zs l = absurd (omega arith)
    some_more (c ∷ ys) zs l = omega arith

    first_more : (ys zs : List (ℕ × Kind)) → 0 < length ys → first_of (ys ++ zs) ≡ first_of ys
    first_more [] zs l = absurd (omega arith)
    first_more (c ∷ ys) zs l = refl

pub from_middle : (xs ys zs : List (ℕ × Kind)) (from size place : ℕ) → CellsWithin (xs ++ (ys ++ zs)) from size
    → (0 < length xs → (0 < length ys) × (first_of ys ≤ place)) → BeginsBehind place zs
    → cells_from place (xs ++ (ys ++ zs)) ≡ cells_from place ys ++ zs
from_middle xs ys zs from size place h first last =
    filter-append (λ c. nat_le place c.0) xs (ys ++ zs)
    ∙ ap (λ ws. ws ++ cells_from place (ys ++ zs)) (none_before xs ys zs from size place h first)
    ∙ filter-append (λ c. nat_le place c.0) ys zs
    ∙ ap (λ ws. cells_from place ys ++ ws)
    (all_last (xs ++ ys) zs from size place (subst (λ ws. CellsWithin ws from size) (sym (append_assoc xs ys zs)) h) last)

-- Where a run begins.
pub run_first : (r : Repeated) → 0 < r.count → 0 < length r.cells → (first_of (run_cells r) ≡ r.start + first_of r.cells) × (0 < length (run_cells r))
run_first r some cell = by_count r.count refl r.cells refl some cell
  where
    by_count : (n : ℕ) → r.count ≡ n → (cells : List (ℕ × Kind)) → r.cells ≡ cells → 0 < n → 0 < length cells
        → (first_of (moved r.start (copies n r.stride cells)) ≡ r.start + first_of cells) × (0 < length (moved r.start (copies n r.stride cells)))
    by_count zero e cells f l k = absurd (omega arith)
    by_count (suc n) e [] f l k = absurd (omega arith)
    by_count (suc n) e (c ∷ cells) f l k =
        let front = copies_front n r.start r.stride (c ∷ cells) in
        rw front (refl, omega arith)

-- Copies of one cell of a pattern do not begin at one byte.
apart : (xs : List (ℕ × Kind)) (b : ℕ × Kind) (ys : List (ℕ × Kind)) (c : ℕ × Kind) (zs : List (ℕ × Kind)) (from size : ℕ)
    → CellsWithin (xs ++ (b ∷ ys ++ c ∷ zs)) from size → b.0 < c.0
apart xs b ys c zs from size h =
    let k = next_on xs b (ys ++ c ∷ zs) from size h in
    let e = begins_from ys c zs (b.0 + kind_size b.1) size k.2 in
    omega (arith, e, some_bytes b.1)

copies_behind : (m start stride place from size : ℕ) (xs cells : List (ℕ × Kind)) → 0 < length cells
    → CellsWithin (xs ++ (moved start cells ++ moved (start + stride) (copies m stride cells))) from size
    → (0 < stride → 0 < m → place < start + stride + first_of cells) → BeginsBehind place (moved (start + stride) (copies m stride cells))
copies_behind zero start stride place from size xs cells some h l k = absurd (omega arith)
copies_behind (suc m) start stride place from size xs [] some h l k = absurd (omega arith)
copies_behind (suc m) start stride place from size xs (c ∷ cells) some h l k =
    let front = copies_front m (start + stride) stride (c ∷ cells) in
    let later = subst (λ ws. CellsWithin (xs ++ (moved start (c ∷ cells) ++ ws)) from size) front h in
    let less : start + c.0 < start + stride + c.0 = apart xs (start + c.0, c.1) (moved start cells) (start + stride + c.0, c.1)
    (moved (start + stride) cells ++ moved (start + stride + stride) (copies m stride (c ∷ cells))) from size later in
    let first : first_of (moved (start + stride) (copies (suc m) stride (c ∷ cells))) ≡ start + stride + c.0 = ap first_of front in
    let near = l (omega (arith, less)) (omega arith) in
    omega (arith, first, near)

-- A copy of a run, the last that begins by a byte, between those before it and those after it.
pub record IsMiddle (r : Repeated) (place i m : ℕ) : Type 0 where
  pub parts : run_cells r
      ≡ moved r.start (copies i r.stride r.cells) ++ (moved (r.start + i * r.stride) r.cells ++ moved (r.start + i * r.stride + r.stride) (copies m r.stride r.cells))
  pub by : 0 < length (moved r.start (copies i r.stride r.cells))
      → (0 < length (moved (r.start + i * r.stride) r.cells)) × (first_of (moved (r.start + i * r.stride) r.cells) ≤ place)
  pub behind : BeginsBehind place (moved (r.start + i * r.stride + r.stride) (copies m r.stride r.cells))

pub run_middle : (r : Repeated) (size place i m : ℕ) → CellsWithin (run_cells r) 0 size → 0 < length r.cells → IsLastBy place i r → i + suc m ≡ r.count → IsMiddle r place i m
run_middle r size place i m h some by all =
    let start = r.start + i * r.stride in
    let xs = moved r.start (copies i r.stride r.cells) in
    let zs = moved (start + r.stride) (copies m r.stride r.cells) in
    let parts : run_cells r ≡ xs ++ (moved start r.cells ++ zs) =
    sym (ap (λ n. moved r.start (copies n r.stride r.cells)) all) ∙ sym (copies_joined r.start i (suc m) r.stride r.cells)
    ∙ ap (λ ws. xs ++ ws) (copies_front m start r.stride r.cells) in
    let further : start + r.stride ≡ r.start + (i + 1) * r.stride = grind arith in
    let first = first_moved start r.cells some in
    record {
      parts = parts;
      by = λ k. (first.1, let e = by.before (positive i r.start r.stride r.cells k) in omega (arith, e, first.0));
      behind = copies_behind m start r.stride place 0 size xs r.cells some (subst (λ ws. CellsWithin ws 0 size) parts h)
          (λ k l. let e = by.behind k (omega (arith, all, l)) in omega (arith, e, further));
    }
  where
    first_moved : (d : ℕ) (cells : List (ℕ × Kind)) → 0 < length cells → (first_of (moved d cells) ≡ d + first_of cells) × (0 < length (moved d cells))
    first_moved d [] l = absurd (omega arith)
    first_moved d (c ∷ cells) l = (refl, omega arith)

    positive : (i start stride : ℕ) (cells : List (ℕ × Kind)) → 0 < length (moved start (copies i stride cells)) → 0 < i
    positive zero start stride cells l = absurd (omega arith)
    positive (suc i) start stride cells l = omega arith

-- The copies of a run from a byte on.
pub run_from : (r : Repeated) (size place i m : ℕ) → CellsWithin (run_cells r) 0 size → 0 < length r.cells → IsLastBy place i r → i + suc m ≡ r.count
    → cells_from place (run_cells r) ≡ cells_from place (moved (r.start + i * r.stride) r.cells) ++ moved (r.start + i * r.stride + r.stride) (copies m r.stride r.cells)
run_from r size place i m h some by all =
    let start = r.start + i * r.stride in
    let middle = run_middle r size place i m h some by all in
    ap (cells_from place) middle.parts
    ∙ from_middle (moved r.start (copies i r.stride r.cells)) (moved start r.cells) (moved (start + r.stride) (copies m r.stride r.cells)) 0 size place
    (subst (λ ws. CellsWithin ws 0 size) middle.parts h) middle.by middle.behind

-- Where the copies of a run begin.
pub copy_fits : (r : Repeated) (i : ℕ) → IsRun r → i < r.count → r.start ≤ 4294967295 → r.start + i * r.stride ≤ 4294967295
copy_fits r i h l fits =
    elim h.near [
      | inl p ↦ let e : i ≡ 0 = omega (arith, p.1) in let z : i * r.stride ≡ 0 * r.stride = ap (λ n. n * r.stride) e in omega (arith, z)
      | inr p ↦ near_first (r.start + i * r.stride) r.cells h.cell (near_copy r.count i r.start r.stride r.cells l p)
    ]

near_from : (place : ℕ) (xs : List (ℕ × Kind)) → AreNear xs → AreNear (cells_from place xs)
near_from place [] h = tt
near_from place (c ∷ xs) h = by_first (nat_le place c.0) (near_from place xs h.1)
  where
    by_first : (b : Bool) → AreNear (cells_from place xs) → AreNear (cond b (c ∷ cells_from place xs) (cells_from place xs))
    by_first true e = (h.0, e)
    by_first false e = e

-- What is left of a run from a byte on.
pub run_left : (r : Repeated) (size place i m : ℕ) (left : List (ℕ × Kind)) → CellsWithin (run_cells r) 0 size → IsRun r → IsLastBy place i r → i + suc m ≡ r.count
    → moved (r.start + i * r.stride) left ≡ cells_from place (moved (r.start + i * r.stride) r.cells)
    → copies_left left (r.start + i * r.stride) r.stride m r.cells ≡ cells_from place (run_cells r)
run_left r size place i m left h run by all e =
    ap (λ ws. ws ++ moved (r.start + i * r.stride + r.stride) (copies m r.stride r.cells)) e ∙ sym (run_from r size place i m h run.cell by all)

pub left_is_left : (r : Repeated) (place i m : ℕ) (left : List (ℕ × Kind)) → IsRun r → i + suc m ≡ r.count
    → copies_left left (r.start + i * r.stride) r.stride m r.cells ≡ cells_from place (run_cells r)
    → IsLeft left (r.start + i * r.stride) r.stride m r.cells
left_is_left r place i m left run all e = record {
  near = elim run.near [
    | inl p ↦ let z : i ≡ 0 = omega (arith, p.1) in let s : i * r.stride ≡ 0 * r.stride = ap (λ n. n * r.stride) z in inl (omega (arith, p.0, s), omega (arith, p.1))
    | inr p ↦ inr (subst AreNear (sym e) (near_from place (run_cells r) p))
  ];
  cell = λ k. run.cell;
}

-- Cells from a byte on, by how many begin before it.
pub ascending : (xs : List (ℕ × Kind)) (start from size i j : ℕ) (d : ℕ × Kind) → CellsWithin (moved start xs) from size → i ≤ j → j < length xs → (get_or xs i d).0 ≤ (get_or xs j d).0
ascending [] start from size i j d h l k = absurd (omega arith)
ascending (c ∷ xs) start from size zero zero d h l k = omega arith
ascending (c ∷ xs) start from size zero (suc j) d h l k = let e = least xs start (start + c.0 + kind_size c.1) size j d h.2 (omega arith) in omega (arith, e)
  where
    least : (xs : List (ℕ × Kind)) (start from size j : ℕ) (d : ℕ × Kind) → CellsWithin (moved start xs) from size → j < length xs → from ≤ start + (get_or xs j d).0
    least [] start from size j d h k = absurd (omega arith)
    least (c ∷ xs) start from size zero d h k = omega (arith, h.0)
    least (c ∷ xs) start from size (suc j) d h k = let e = least xs start (start + c.0 + kind_size c.1) size j d h.2 (omega arith) in omega (arith, h.0, e)
ascending (c ∷ xs) start from size (suc i) zero d h l k = absurd (omega arith)
ascending (c ∷ xs) start from size (suc i) (suc j) d h l k = ascending xs start (start + c.0 + kind_size c.1) size i j d h.2 (omega arith) (omega arith)

pub list_left : (xs : List (ℕ × Kind)) (start place k : ℕ) → k ≤ length xs
    → ((j : ℕ) (d : ℕ × Kind) → j < k → start + (get_or xs j d).0 < place) → ((j : ℕ) (d : ℕ × Kind) → k ≤ j → j < length xs → place ≤ start + (get_or xs j d).0)
    → moved start (drop k xs) ≡ cells_from place (moved start xs)
list_left [] start place zero l before behind = refl
list_left [] start place (suc k) l before behind = absurd (omega arith)
list_left (c ∷ xs) start place zero l before behind =
    sym (cond-true (nat_le place (start + c.0)) _ _ (le-leb place (start + c.0) (behind 0 c (omega arith) (omega arith)))
    ∙ ap (λ ys. (start + c.0, c.1) ∷ ys) (sym (list_left xs start place 0 (omega arith) (λ j d k. absurd (omega arith)) (λ j d k n. behind (suc j) d (omega arith) (omega arith)))))
list_left (c ∷ xs) start place (suc k) l before behind =
    list_left xs start place k (omega arith) (λ j d n. before (suc j) d (omega arith)) (λ j d n m. behind (suc j) d (omega arith) (omega arith))
    ∙ sym (cond-false (nat_le place (start + c.0)) ((start + c.0, c.1) ∷ cells_from place (moved start xs)) (cells_from place (moved start xs)) (lt-leb place (start + c.0) (before 0 c (omega arith))))

-- A cell that ends by a byte is not cut there.
pub cut_from : (xs : List (ℕ × Kind)) (low place : ℕ) → low ≤ place - 16 → has_cut (cells_from low xs) place ≡ has_cut xs place
cut_from [] low place h = refl
cut_from (c ∷ xs) low place h =
    elim (leb_tells low c.0) [
      | inl y ↦ rw y.0 (ap (λ b. (nat_lt c.0 place && nat_lt place (c.0 + kind_size c.1)) || b) (cut_from xs low place h))
      | inr k ↦ rw k.0 (cut_from xs low place h ∙ sym (ap (λ b. b || has_cut xs place) (not_cut c.0 place (kind_size c.1) (omega (arith, k.1, few_bytes c.1)))))
    ]
  where
    not_cut : (begin place size : ℕ) → begin + size ≤ place → (nat_lt begin place && nat_lt place (begin + size)) ≡ false
    not_cut begin place size l = and_right (nat_lt begin place) (nat_lt place (begin + size)) (le-ltb place (begin + size) l)

-- No cell is cut at a byte by which the first begins.
pub none_cut : (xs : List (ℕ × Kind)) (from size place : ℕ) → CellsWithin xs from size → place ≤ from → has_cut xs place ≡ false
none_cut [] from size place h l = refl
none_cut (c ∷ xs) from size place h l =
    ap (λ b. b || has_cut xs place) (and_left (nat_lt c.0 place) (nat_lt place (c.0 + kind_size c.1)) (le-ltb c.0 place (omega (arith, h.0))))
    ∙ none_cut xs (c.0 + kind_size c.1) size place h.2 (omega (arith, h.0))

-- The last copy that begins by a byte.
pub first_copy : (r : Repeated) (place : ℕ) → IsRun r → (0 < r.stride → place < first_of (run_cells r)) → IsLastBy place 0 r
first_copy r place h l =
    let first = (run_first r h.some h.cell).0 in
    record {
      below = h.some;
      before = λ k. absurd (omega arith);
      behind = λ k n. let e = l k in let one : (0 + 1) * r.stride ≡ r.stride = omega arith in omega (arith, e, one, first);
    }

pub last_is : (r : Repeated) (place copy first q : ℕ) → IsRun r → first ≡ first_of (run_cells r) → first ≤ place → 0 < r.stride → q ≡ (place - first) / r.stride
    → copy ≡ min q (r.count - 1) → IsLastBy place copy r
last_is r place copy first q h e by some is least =
    let first_is = (run_first r h.some h.cell).0 in
    let gap = place - first in
    let whole : q * r.stride + gap % r.stride ≡ gap = ap (λ n. n * r.stride + gap % r.stride) is ∙ div-add-mod' gap r.stride in
    let count : 0 < r.count = h.some in
    let up_to : copy * r.stride ≤ q * r.stride =
    elim (cases_lt copy q) [
      | inl l ↦ let m = last_copy copy q r.stride l in omega (arith, m)
      | inr l ↦ let same : copy ≡ q = omega arith in let m : copy * r.stride ≡ q * r.stride = ap (λ n. n * r.stride) same in omega (arith, m)
    ] in
    record {
      below = omega arith;
      before = λ k. omega (arith, up_to, whole, first_is, e);
      behind = λ k l. let same : copy ≡ q = omega arith in
          let next : (copy + 1) * r.stride ≡ q * r.stride + r.stride = ap (λ n. (n + 1) * r.stride) same ∙ (let m : (q + 1) * r.stride ≡ q * r.stride + r.stride = grind arith in m) in
          omega (arith, next, whole, first_is, e);
    }

pub within_left : (xs ys : List (ℕ × Kind)) (from size : ℕ) → CellsWithin (xs ++ ys) from size → CellsWithin xs from size
within_left [] ys from size h = tt
within_left (c ∷ xs) ys from size h = (h.0, h.1, within_left xs ys (c.0 + kind_size c.1) size h.2)

-- A copy lies where the run does, and a run where the cells do.
pub copy_within : (r : Repeated) (size i m : ℕ) → CellsWithin (run_cells r) 0 size → i + suc m ≡ r.count → CellsWithin (moved (r.start + i * r.stride) r.cells) 0 size
copy_within r size i m h all =
    let start = r.start + i * r.stride in
    let xs = moved r.start (copies i r.stride r.cells) in
    let zs = moved (start + r.stride) (copies m r.stride r.cells) in
    let parts : run_cells r ≡ xs ++ (moved start r.cells ++ zs) =
    sym (ap (λ n. moved r.start (copies n r.stride r.cells)) all) ∙ sym (copies_joined r.start i (suc m) r.stride r.cells)
    ∙ ap (λ ws. xs ++ ws) (copies_front m start r.stride r.cells) in
    within_left (moved start r.cells) zs 0 size
    (within_right xs (moved start r.cells ++ zs) 0 size (subst (λ ws. CellsWithin ws 0 size) parts h))

run_parts : (rs : List Repeated) (i : ℕ) (d : Repeated) (tail : List (ℕ × Kind)) → i < length rs → d ≡ get_or rs i d
    → runs_cells rs ++ tail ≡ runs_cells (take i rs) ++ (run_cells d ++ (runs_cells (drop (i + 1) rs) ++ tail))
run_parts rs i d tail l is =
    let a = runs_cells (take i rs) in
    let b = runs_cells (drop (i + 1) rs) in
    ap (λ ws. ws ++ tail) (runs_parts rs i d l ∙ ap (λ (x : Repeated). a ++ (run_cells x ++ b)) (sym is))
    ∙ append_assoc a (run_cells d ++ b) tail ∙ ap (λ ws. a ++ ws) (append_assoc (run_cells d) b tail)

pub run_within : (rs : List Repeated) (i : ℕ) (d : Repeated) (tail : List (ℕ × Kind)) (size : ℕ) → i < length rs → d ≡ get_or rs i d
    → CellsWithin (runs_cells rs ++ tail) 0 size → CellsWithin (run_cells d) 0 size
run_within rs i d tail size l is h =
    within_left (run_cells d) (runs_cells (drop (i + 1) rs) ++ tail) 0 size
    (within_right (runs_cells (take i rs)) (run_cells d ++ (runs_cells (drop (i + 1) rs) ++ tail)) 0 size
    (subst (λ ws. CellsWithin ws 0 size) (run_parts rs i d tail l is) h))

-- The cells from a byte on, by the run in which they begin.
pub from_run : (rs : List Repeated) (i : ℕ) (d : Repeated) (tail : List (ℕ × Kind)) (size place : ℕ) → i < length rs → d ≡ get_or rs i d
    → CellsWithin (runs_cells rs ++ tail) 0 size → 0 < length (run_cells d) → first_of (run_cells d) ≤ place → BeginsBehind place (runs_cells (drop (i + 1) rs) ++ tail)
    → cells_from place (run_cells d) ++ (runs_cells (drop (i + 1) rs) ++ tail) ≡ cells_from place (runs_cells rs ++ tail)
from_run rs i d tail size place l is h some by behind =
    let parts = run_parts rs i d tail l is in
    sym (ap (cells_from place) parts
    ∙ from_middle (runs_cells (take i rs)) (run_cells d) (runs_cells (drop (i + 1) rs) ++ tail) 0 size place
    (subst (λ ws. CellsWithin ws 0 size) parts h) (λ k. (some, by)) behind)

pub from_tail : (rs : List Repeated) (tail left : List (ℕ × Kind)) (size place : ℕ) → CellsWithin (runs_cells rs ++ tail) 0 size → (0 < length tail) × (first_of tail ≤ place)
    → moved 0 left ≡ cells_from place (moved 0 tail) → left ≡ cells_from place (runs_cells rs ++ tail)
from_tail rs tail left size place h by e =
    let nil : runs_cells rs ++ (tail ++ []) ≡ runs_cells rs ++ tail = ap (λ ws. runs_cells rs ++ ws) (append-nil tail) in
    sym (moved_nowhere left) ∙ e ∙ ap (cells_from place) (moved_nowhere tail) ∙ sym (append-nil (cells_from place tail))
    ∙ sym (from_middle (runs_cells rs) tail [] 0 size place (subst (λ ws. CellsWithin ws 0 size) (sym nil) h) (λ k. by) (λ k. absurd (omega arith)))
    ∙ ap (cells_from place) nil

pub tail_within : (rs : List Repeated) (tail : List (ℕ × Kind)) (size : ℕ) → CellsWithin (runs_cells rs ++ tail) 0 size → CellsWithin (moved 0 tail) 0 size
tail_within rs tail size h = subst (λ ws. CellsWithin ws 0 size) (sym (moved_nowhere tail)) (within_right (runs_cells rs) tail 0 size h)

pub behind_more : (rs : List Repeated) (i : ℕ) (d : Repeated) (tail : List (ℕ × Kind)) (place : ℕ) → i < length rs → d ≡ get_or rs i d
    → 0 < length (run_cells d) → place < first_of (run_cells d) → BeginsBehind place (runs_cells (drop i rs) ++ tail)
behind_more rs i d tail place l is some less =
    subst (λ ws. BeginsBehind place (ws ++ tail)) (sym (runs_drop rs i d l))
    (subst (λ (x : Repeated). BeginsBehind place ((run_cells x ++ runs_cells (drop (i + 1) rs)) ++ tail)) is
    (first_stays (run_cells d) (runs_cells (drop (i + 1) rs)) tail place some less))
  where
    first_stays : (xs ys zs : List (ℕ × Kind)) (place : ℕ) → 0 < length xs → place < first_of xs → BeginsBehind place ((xs ++ ys) ++ zs)
    first_stays [] ys zs place l k = absurd (omega arith)
    first_stays (c ∷ xs) ys zs place l k = λ n. k

-- Cells after which others begin behind a byte too.
pub behind_append : (xs ys : List (ℕ × Kind)) (place : ℕ) → BeginsBehind place xs → BeginsBehind place ys → BeginsBehind place (xs ++ ys)
behind_append [] ys place h k = k
behind_append (c ∷ xs) ys place h k = λ l. h (omega arith)

-- Runs from one on begin where it does.
pub run_begins : (rs : List Repeated) (i : ℕ) (d : Repeated) (place : ℕ) → i < length rs → d ≡ get_or rs i d
    → 0 < length (run_cells d) → place < first_of (run_cells d) → BeginsBehind place (runs_cells (drop i rs))
run_begins rs i d place l is some less =
    subst (λ ws. BeginsBehind place ws) (append-nil (runs_cells (drop i rs))) (behind_more rs i d [] place l is some less)

pub from_all : (xs : List (ℕ × Kind)) (size place : ℕ) → CellsWithin xs 0 size → BeginsBehind place xs → xs ≡ cells_from place xs
from_all xs size place h l = sym (all_last [] xs 0 size place h l)

-- Cells from a byte on lie where the cells do.
pub from_within : (xs : List (ℕ × Kind)) (from size low : ℕ) → CellsWithin xs from size → CellsWithin (cells_from low xs) from size
from_within [] from size low h = tt
from_within (c ∷ xs) from size low h = by_first (nat_le low c.0) (from_within xs (c.0 + kind_size c.1) size low h.2)
  where
    by_first : (b : Bool) → CellsWithin (cells_from low xs) (c.0 + kind_size c.1) size → CellsWithin (cond b (c ∷ cells_from low xs) (cells_from low xs)) from size
    by_first true e = (h.0, h.1, e)
    by_first false e = lower (cells_from low xs) from (c.0 + kind_size c.1) size (omega (arith, h.0)) e

-- The first cell, at a byte.
pub cut_ends : (all xs : List (ℕ × Kind)) (c : ℕ × Kind) (size place : ℕ) → all ≡ c ∷ xs → CellsWithin all 0 size → place ≤ c.0 → has_cut all place ≡ false
cut_ends all xs c size place is h l =
    ap (λ zs. has_cut zs place) is ∙ none_cut (c ∷ xs) c.0 size place (next_on [] c xs 0 size (subst (λ zs. CellsWithin zs 0 size) is h)) l

pub cut_here : (all xs : List (ℕ × Kind)) (c : ℕ × Kind) (place : ℕ) → all ≡ c ∷ xs → c.0 < place → place - c.0 < kind_size c.1 → has_cut all place ≡ true
cut_here all xs c place is l k =
    ap (λ zs. has_cut zs place) is
    ∙ ap (λ b. b || has_cut xs place) (and_from (nat_lt c.0 place) (nat_lt place (c.0 + kind_size c.1)) (lt-ltb c.0 place l) (lt-ltb place (c.0 + kind_size c.1) (omega arith)))

pub cut_later : (all xs : List (ℕ × Kind)) (c : ℕ × Kind) (place : ℕ) → all ≡ c ∷ xs → c.0 < place → kind_size c.1 ≤ place - c.0 → has_cut xs place ≡ has_cut all place
cut_later all xs c place is l k =
    sym (ap (λ zs. has_cut zs place) is
    ∙ ap (λ b. b || has_cut xs place) (and_right (nat_lt c.0 place) (nat_lt place (c.0 + kind_size c.1)) (le-ltb place (c.0 + kind_size c.1) (omega arith))))

pub rest_within : (all xs : List (ℕ × Kind)) (c : ℕ × Kind) (size : ℕ) → all ≡ c ∷ xs → CellsWithin all 0 size → CellsWithin xs 0 size
rest_within all xs c size is h = lower xs 0 (c.0 + kind_size c.1) size (omega arith) (subst (λ zs. CellsWithin zs 0 size) is h).2
