-- Which cells begin at a byte.
use Rattle.std.proofs.Common.{◌≡◌, ℕ, zero, suc, ◌+◌, ◌*◌, ◌<◌, ◌≤◌, ◌==◌, ◌&&◌, ◌||◌, ◌↔◌, Bool, true, false, cond, List, [], ◌∷◌, ◌++◌, length, drop, get_or, Some, None, refl, sym, ap, ◌∙◌, subst, arith}
use Rattle.std.specs.List.{list_any, Contains}
use Rattle.std.proofs.lemmas.Bool.{and_parts, false≢true, eqb-true, eq-eqb}
use Rattle.std.proofs.lemmas.List.{drop_more, drop_all}
use Rattle.std.proofs.lemmas.List.Folds.{list_any-append, list_any_at}
use Rattle.block_layout.specs.declared.kind.Kind.{Kind}
use Rattle.block_layout.specs.declared.kind.Kind.TheVariants as kind
use Rattle.block_layout.specs.Lists.{under}
use Rattle.block_layout.specs.Moved.{moved, copies}
use Rattle.block_layout.specs.code.Runs.{Repeated, run_cells, hits}
use Rattle.block_layout.specs.Shapes.{kind_size, same_kind, has_cell, CellsWithin}
use Rattle.block_layout.proofs.Near.{moved_append}

pub kind_is : (k l : Kind) → same_kind k l ≡ true → k ≡ l
kind_is kind.Char kind.Char h = refl
kind_is kind.UChar kind.UChar h = refl
kind_is kind.Short kind.Short h = refl
kind_is kind.UShort kind.UShort h = refl
kind_is kind.Int kind.Int h = refl
kind_is kind.UInt kind.UInt h = refl
kind_is kind.Long kind.Long h = refl
kind_is kind.ULong kind.ULong h = refl
kind_is (kind.Shared n b) (kind.Shared m c) h =
    let p = and_parts (n == m) (b == c) h in
    let e = eqb-true n m p.0 in
    let f = eqb-true b c p.1 in
    cc
kind_is kind.Lock kind.Lock h = refl
kind_is (kind.Private n) (kind.Private m) h = ap kind.Private (eqb-true n m h)
kind_is k l h = absurd cc

pub kind_itself : (k : Kind) → same_kind k k ≡ true
kind_itself kind.Char = refl
kind_itself kind.UChar = refl
kind_itself kind.Short = refl
kind_itself kind.UShort = refl
kind_itself kind.Int = refl
kind_itself kind.UInt = refl
kind_itself kind.Long = refl
kind_itself kind.ULong = refl
kind_itself (kind.Shared n b) = rw (eq-eqb n n refl, eq-eqb b b refl) refl
kind_itself kind.Lock = refl
kind_itself (kind.Private n) = eq-eqb n n refl

pub some_bytes : (k : Kind) → 1 ≤ kind_size k
some_bytes kind.Char = omega arith
some_bytes kind.UChar = omega arith
some_bytes kind.Short = omega arith
some_bytes kind.UShort = omega arith
some_bytes kind.Int = omega arith
some_bytes kind.UInt = omega arith
some_bytes kind.Long = omega arith
some_bytes kind.ULong = omega arith
some_bytes (kind.Shared n b) = omega arith
some_bytes kind.Lock = omega arith
some_bytes (kind.Private n) = omega arith

pub few_bytes : (k : Kind) → kind_size k ≤ 16
few_bytes kind.Char = omega arith
few_bytes kind.UChar = omega arith
few_bytes kind.Short = omega arith
few_bytes kind.UShort = omega arith
few_bytes kind.Int = omega arith
few_bytes kind.UInt = omega arith
few_bytes kind.Long = omega arith
few_bytes kind.ULong = omega arith
few_bytes (kind.Shared n b) = omega arith
few_bytes kind.Lock = omega arith
few_bytes (kind.Private n) = omega arith

-- A cell after others begins after them.
begins_behind : (cells : List (ℕ × Kind)) (from size byte : ℕ) (k : Kind) → CellsWithin cells from size → has_cell cells byte k ≡ true → from ≤ byte
begins_behind [] from size byte k h e = absurd (false≢true e)
begins_behind (c ∷ cells) from size byte k h e =
    by_first (c.0 == byte && same_kind c.1 k) refl e (begins_behind cells (c.0 + kind_size c.1) size byte k h.2)
  where
    by_first : (b : Bool) → (c.0 == byte && same_kind c.1 k) ≡ b → (b || has_cell cells byte k) ≡ true
        → (has_cell cells byte k ≡ true → c.0 + kind_size c.1 ≤ byte) → from ≤ byte
    by_first true q g f =
        let e = eqb-true c.0 byte (and_parts (c.0 == byte) (same_kind c.1 k) q).0 in let l = h.0 in omega arith
    by_first false q g f = let l = h.0 in let m = f g in omega arith

-- A cell at a byte is the first one there, where the cells do not overlap.
pub cell_found : (cells : List (ℕ × Kind)) (from size byte : ℕ) (k : Kind) → CellsWithin cells from size → has_cell cells byte k ≡ true → under byte cells ≡ Some k
cell_found [] from size byte k h e = absurd (false≢true e)
cell_found (c ∷ cells) from size byte k h e =
    by_place (c.0 == byte) refl (same_kind c.1 k) refl e (cell_found cells (c.0 + kind_size c.1) size byte k h.2)
  where
    by_place : (a : Bool) → (c.0 == byte) ≡ a → (b : Bool) → same_kind c.1 k ≡ b
        → ((a && b) || has_cell cells byte k) ≡ true → (has_cell cells byte k ≡ true → under byte cells ≡ Some k)
        → cond a (Some c.1) (under byte cells) ≡ Some k
    by_place true p true q g f = ap Some (kind_is c.1 k q)
    by_place true p false q g f =
        let l = begins_behind cells (c.0 + kind_size c.1) size byte k h.2 g in
        let s = some_bytes c.1 in
        let e = eqb-true c.0 byte p in
        absurd (omega arith)
    by_place false p b q g f = f g

pub pair_is : (n m : ℕ) (k l : Kind) → n ≡ m → k ≡ l → ◌≡◌ {A = ℕ × Kind} (n, k) (m, l)
pair_is n m k l e f = cc

-- The test says whether the list contains the cell.
has_contains : (cells : List (ℕ × Kind)) (byte : ℕ) (k : Kind) → has_cell cells byte k ≡ true → Contains cells (byte, k)
has_contains [] byte k e = absurd (false≢true e)
has_contains (c ∷ cells) byte k e = by_first (c.0 == byte && same_kind c.1 k) refl e (has_contains cells byte k)
  where
    by_first : (b : Bool) → (c.0 == byte && same_kind c.1 k) ≡ b → (b || has_cell cells byte k) ≡ true → (has_cell cells byte k ≡ true → Contains cells (byte, k)) → Contains (c ∷ cells) (byte, k)
    by_first true q g f =
        let p = and_parts (c.0 == byte) (same_kind c.1 k) q in
        let e = eqb-true c.0 byte p.0 in
        let kinds = kind_is c.1 k p.1 in
        (0, omega arith, pair_is c.0 byte c.1 k e kinds)
    by_first false q g f = let r = f g in (suc r.0, omega (arith, r.1), r.2)

contains_has : (cells : List (ℕ × Kind)) (byte : ℕ) (k : Kind) → Contains cells (byte, k) → has_cell cells byte k ≡ true
contains_has cells byte k h =
    let test : Bool = byte == byte && same_kind k k in
    let yes : test ≡ true = rw (eq-eqb byte byte refl, kind_itself k) refl in
    list_any_at (λ c. c.0 == byte && same_kind c.1 k) cells h.0 (byte, k) h.1 (subst (λ (c : ℕ × Kind). (c.0 == byte && same_kind c.1 k) ≡ true) (sym h.2) yes)

pub has_exact : (cells : List (ℕ × Kind)) (byte : ℕ) (k : Kind) → (has_cell cells byte k ≡ true) ↔ Contains cells (byte, k)
has_exact cells byte k = (has_contains cells byte k, contains_has cells byte k)

-- A test of the cells of a run, by its pattern.
no_hit : (k : Kind → Bool) (cells : List (ℕ × Kind)) → list_any (λ c. false && k c.1) cells ≡ false
no_hit k [] = refl
no_hit k (c ∷ cells) = no_hit k cells

any_split : (f g : ℕ × Kind → Bool) (k : Kind → Bool) (cells : List (ℕ × Kind))
    → (list_any (λ c. f c && k c.1) cells || list_any (λ c. g c && k c.1) cells) ≡ list_any (λ c. (f c || g c) && k c.1) cells
any_split f g k [] = refl
any_split f g k (c ∷ cells) =
    go (f c) (g c) (k c.1) (list_any (λ c. f c && k c.1) cells) (list_any (λ c. g c && k c.1) cells) (list_any (λ c. (f c || g c) && k c.1) cells) (any_split f g k cells)
  where
    go : (a b t x y z : Bool) → (x || y) ≡ z → (((a && t) || x) || ((b && t) || y)) ≡ (((a || b) && t) || z)
    go true b true x y z e = refl
    go true true false x y z e = e
    go true false false x y z e = e
    go false true true true y z e = refl
    go false true true false y z e = refl
    go false true false x y z e = e
    go false false t x y z e = e

any_moved : (k : Kind → Bool) (start d place : ℕ) (cells : List (ℕ × Kind)) → list_any (λ c. c.0 == place && k c.1) (moved start (moved d cells)) ≡ list_any (λ c. (start + (d + c.0)) == place && k c.1) cells
any_moved k start d place [] = refl
any_moved k start d place (c ∷ cells) = ap (λ b. ((start + (d + c.0)) == place && k c.1) || b) (any_moved k start d place cells)

pub run_any : (k : Kind → Bool) (start stride n place : ℕ) (cells : List (ℕ × Kind)) → list_any (λ c. c.0 == place && k c.1) (moved start (copies n stride cells)) ≡ list_any (λ c. hits start stride n c.0 place && k c.1) cells
run_any k start stride zero place cells = sym (no_hit k cells)
run_any k start stride (suc n) place cells =
    let test : ℕ × Kind → Bool = λ c. c.0 == place && k c.1 in
    ap (list_any test) (moved_append start (copies n stride cells) (moved (n * stride) cells))
    ∙ list_any-append test (moved start (copies n stride cells)) (moved start (moved (n * stride) cells))
    ∙ ap (λ b. b || list_any test (moved start (moved (n * stride) cells))) (run_any k start stride n place cells)
    ∙ ap (λ b. list_any (λ c. hits start stride n c.0 place && k c.1) cells || b) (any_moved k start (n * stride) place cells)
    ∙ any_split (λ c. hits start stride n c.0 place) (λ c. (start + (n * stride + c.0)) == place) k cells

-- What is under a byte in the second list, where the first has nothing there.
pub under_behind : (xs ys : List (ℕ × Kind)) (byte : ℕ) → under byte xs ≡ None → under byte (xs ++ ys) ≡ under byte ys
under_behind [] ys byte e = refl
under_behind (c ∷ xs) ys byte e = by_first (c.0 == byte) e (under_behind xs ys byte)
  where
    by_first : (b : Bool) → cond b (Some c.1) (under byte xs) ≡ None → (under byte xs ≡ None → under byte (xs ++ ys) ≡ under byte ys)
        → cond b (Some c.1) (under byte (xs ++ ys)) ≡ under byte ys
    by_first true g f = absurd cc
    by_first false g f = f g

-- A test of a pattern from a cell on.
pub any_next : (p : ℕ × Kind → Bool) (xs : List (ℕ × Kind)) (i : ℕ) (d : ℕ × Kind) → i < length xs → p (get_or xs i d) ≡ false → list_any p (drop (i + 1) xs) ≡ list_any p (drop i xs)
any_next p xs i d h e = sym (ap (list_any p) (drop_more xs i d h) ∙ ap (λ b. b || list_any p (drop (i + 1) xs)) e)

pub no_left : (a b : Bool) → a ≡ false → (a && b) ≡ false
no_left a b h = ap (λ x. x && b) h

pub no_right : (a b : Bool) → b ≡ false → (a && b) ≡ false
no_right true b h = h
no_right false b h = refl

pub run_has_at : (r : Repeated) (cells : List (ℕ × Kind)) (place i : ℕ) (d : ℕ × Kind) (k : Kind) → cells ≡ r.cells → i < length cells
    → hits r.start r.stride r.count (get_or cells i d).0 place ≡ true → (get_or cells i d).1 ≡ k → has_cell (run_cells r) place k ≡ true
run_has_at r cells place i d k is h hit kind =
    let test : ℕ × Kind → Bool = λ c. hits r.start r.stride r.count c.0 place && same_kind c.1 k in
    let yes : test (get_or cells i d) ≡ true = rw (hit, kind) (kind_itself k) in
    run_any (λ x. same_kind x k) r.start r.stride r.count place r.cells ∙ ap (list_any test) (sym is) ∙ list_any_at test cells i d h yes

pub run_has_none : (r : Repeated) (cells : List (ℕ × Kind)) (place i : ℕ) (k : Kind) → length cells ≤ i
    → list_any (λ c. hits r.start r.stride r.count c.0 place && same_kind c.1 k) (drop i cells) ≡ list_any (λ c. hits r.start r.stride r.count c.0 place && same_kind c.1 k) r.cells
    → has_cell (run_cells r) place k ≡ false
run_has_none r cells place i k l rest =
    let test : ℕ × Kind → Bool = λ c. hits r.start r.stride r.count c.0 place && same_kind c.1 k in
    run_any (λ x. same_kind x k) r.start r.stride r.count place r.cells ∙ sym rest ∙ ap (list_any test) (drop_all i cells l)
