-- Floor division: what defines it, and quotients of quotients.
use Rattle.std.proofs.Common.{◌≡◌, ℕ, ◌+◌, ◌-◌, ◌*◌, ◌%◌, ◌<◌, ap, subst, arith}
use Rattle.std.proofs.Math.IntN.{ℤ, pos, negsuc, ◌+ℤ◌, ◌*ℤ◌}
use Rattle.std.proofs.lemmas.Int.{ints}
use Rattle.std.proofs.lemmas.Nat.{div-mul-add, mod-mul-add}
use borrow.Author.Differences.{sum_is_lem, product_is}
use Rattle.block_layout.specs.Floor.{floor_div, floor_mod}

-- A sum times a natural number.
pub mul-sum : (a b : ℤ) (k : ℕ) → (a +ℤ b) *ℤ pos k ≡ a *ℤ pos k +ℤ b *ℤ pos k
mul-sum a b k = omega (arith, ints, ap (λ n. n * k) (sum_is_lem a b))

-- A number times one natural number and then another.
pub mul-twice : (a : ℤ) (m n : ℕ) → a *ℤ pos m *ℤ pos n ≡ a *ℤ pos (m * n)
mul-twice a m n =
    omega (arith, ints, ap (λ x. x * n) (product_is a (pos m)).0, ap (λ x. x * n) (product_is a (pos m)).1)

-- What is left is below the divisor.
pub floor_mod-below : (a : ℤ) (d : ℕ) → 0 < d → floor_mod a d < d
floor_mod-below (pos a) d h = omega arith
floor_mod-below (negsuc a) d h = omega arith

-- Quotient times divisor plus what is left gives the number.
pub floor-sum : (a : ℤ) (d : ℕ) → 0 < d → floor_div a d *ℤ pos d +ℤ pos (floor_mod a d) ≡ a
floor-sum (pos a) d h = omega (arith, ints)
floor-sum (negsuc a) d h = omega (arith, ints)

-- A negative multiple of d plus r below d.
below_zero : (n r d : ℕ) → r < d → negsuc n *ℤ pos d +ℤ pos r ≡ negsuc (n * d + (d - 1 - r))
below_zero n r d h = omega (arith, ints)

-- The quotient of a multiple of d plus a smaller number.
pub floor_div-of : (q : ℤ) (r d : ℕ) → r < d → floor_div (q *ℤ pos d +ℤ pos r) d ≡ q
floor_div-of (pos n) r d h = ap pos (div-mul-add n d r h)
floor_div-of (negsuc n) r d h =
    let small : d - 1 - r < d = omega arith in
    rw (below_zero n r d h) (ap negsuc (div-mul-add n d (d - 1 - r) small))

-- What is left of it.
pub floor_mod-of : (q : ℤ) (r d : ℕ) → r < d → floor_mod (q *ℤ pos d +ℤ pos r) d ≡ r
floor_mod-of (pos n) r d h = mod-mul-add n d r h
floor_mod-of (negsuc n) r d h =
    let small : d - 1 - r < d = omega arith in
    let e : (n * d + (d - 1 - r)) % d ≡ d - 1 - r = mod-mul-add n d (d - 1 - r) small in
    rw (below_zero n r d h) (omega arith)

-- Quotient and rest are the only numbers that make up the dividend so.
pub floor_div-unique : (a q : ℤ) (r d : ℕ) → r < d → q *ℤ pos d +ℤ pos r ≡ a → floor_div a d ≡ q
floor_div-unique a q r d h e = subst (λ (z : ℤ). floor_div z d ≡ q) e (floor_div-of q r d h)

pub floor_mod-unique : (a q : ℤ) (r d : ℕ) → r < d → q *ℤ pos d +ℤ pos r ≡ a → floor_mod a d ≡ r
floor_mod-unique a q r d h e = subst (λ (z : ℤ). floor_mod z d ≡ r) e (floor_mod-of q r d h)

-- t blocks of b and less than a block more stay below T blocks, for t below T.
pub row-below : (t r b T : ℕ) → t < T → r < b → t * b + r < b * T
row-below t r b T h k = grind arith

-- A number by its row of T blocks of b, the block's place in the row and the place in the block.
pub by_row : (a : ℤ) (b T : ℕ) → 0 < b → 0 < T → floor_div (floor_div a b) T *ℤ pos (b * T) +ℤ pos (floor_mod (floor_div a b) T * b + floor_mod a b) ≡ a
by_row a b T h k =
    let q : ℤ = floor_div a b in
    let inner : floor_div q T *ℤ pos T +ℤ pos (floor_mod q T) ≡ q = floor-sum q T k in
    let times : (floor_div q T *ℤ pos T +ℤ pos (floor_mod q T)) *ℤ pos b ≡ q *ℤ pos b = ap (λ (z : ℤ). z *ℤ pos b) inner in
    omega (arith, ints, floor-sum a b h, times, mul-sum (floor_div q T *ℤ pos T) (pos (floor_mod q T)) b, mul-twice (floor_div q T) T b)

-- The quotient of a quotient is the quotient by the product.
pub floor_div-twice : (a : ℤ) (b T : ℕ) → 0 < b → 0 < T → floor_div a (b * T) ≡ floor_div (floor_div a b) T
floor_div-twice a b T h k =
    floor_div-unique a (floor_div (floor_div a b) T) (floor_mod (floor_div a b) T * b + floor_mod a b) (b * T)
    (row-below (floor_mod (floor_div a b) T) (floor_mod a b) b T (floor_mod-below (floor_div a b) T k) (floor_mod-below a b h))
    (by_row a b T h k)
