-- Numbers that differ by a multiple of a kind's values are converted alike.
use Rattle.std.proofs.Common.{◌≡◌, ℕ, ◌*◌, ◌%◌, ◌<◌, sym, ap, ◌∙◌, arith}
use Rattle.std.proofs.Math.IntN.{ℤ, pos, ◌+ℤ◌, ◌-ℤ◌, ◌*ℤ◌, *ℤ_comm}
use Rattle.std.proofs.lemmas.Int.{ints}
use Rattle.std.proofs.lemmas.Nat.{pow_pos}
use borrow.Author.Differences.{up, down, sum_is_lem, product_is}
use Rattle.block_layout.specs.Floor.{floor_div, floor_mod}
use Rattle.block_layout.proofs.Numbers.{floor-sum, floor_mod-below, floor_mod-unique, mul-sum}
use Rattle.block_layout.specs.declared.kind.Kind.{Kind}
use Rattle.block_layout.specs.declared.kind.Kind.TheVariants.{Char, UChar, Short, UShort, Int, UInt, Long, ULong, Shared, Lock, Private}
use Rattle.integers.specs.Integers.{width, values, least, converted, IsPromoted}
use Rattle.integers.proofs.Conversions.{converted-congruent}

-- what is left of a number and a multiple of the divisor
rest-shift : (x m : ℤ) (d : ℕ) → 0 < d → floor_mod (x +ℤ m *ℤ pos d) d ≡ floor_mod x d
rest-shift x m d h =
    floor_mod-unique (x +ℤ m *ℤ pos d) (floor_div x d +ℤ m) (floor_mod x d) d (floor_mod-below x d h)
    (omega (arith, ints, mul-sum (floor_div x d) m d, floor-sum x d h))

pub same-class : (kind : Kind) (x y m : ℤ) → x ≡ y +ℤ m *ℤ pos (values kind) → converted kind x ≡ converted kind y
same-class kind x y m e =
    let d = values kind in
    let moved : x -ℤ least kind ≡ (y -ℤ least kind) +ℤ m *ℤ pos d = omega (arith, ints, e) in
    ap (λ n. least kind +ℤ pos n) (ap (λ z. floor_mod z d) moved ∙ rest-shift (y -ℤ least kind) m d (pow_pos (width kind)))

-- a sum of converted numbers is in the class of the sum of the numbers
pub class-sum : (kind : Kind) (a b : ℤ) → converted kind (converted kind a +ℤ converted kind b) ≡ converted kind (a +ℤ b)
class-sum kind a b =
    let p = converted-congruent a kind in
    let q = converted-congruent b kind in
    same-class kind (converted kind a +ℤ converted kind b) (a +ℤ b) (p.0 +ℤ q.0) (omega (arith, ints, p.1, q.1, mul-sum p.0 q.0 (values kind)))

-- products of sums and of products
mul-sum-any : (a b c : ℤ) → (a +ℤ b) *ℤ c ≡ a *ℤ c +ℤ b *ℤ c
mul-sum-any a b c = omega (arith, ints, ap (λ n. n * up c) (sum_is_lem a b), ap (λ n. n * down c) (sum_is_lem a b))

mul-twice-any : (a b c : ℤ) → (a *ℤ b) *ℤ c ≡ a *ℤ (b *ℤ c)
mul-twice-any a b c =
    omega (arith, ints, ap (λ n. n * up c) (product_is a b).0, ap (λ n. n * down c) (product_is a b).0, ap (λ n. n * up c) (product_is a b).1, ap (λ n. n * down c) (product_is a b).1, ap (λ n. up a * n) (product_is b c).0, ap (λ n. down a * n) (product_is b c).0, ap (λ n. up a * n) (product_is b c).1, ap (λ n. down a * n) (product_is b c).1)

-- a factor with a multiple of v more
factor : (a x b c v : ℤ) → x ≡ a +ℤ c *ℤ v → x *ℤ b ≡ a *ℤ b +ℤ (c *ℤ b) *ℤ v
factor a x b c v e =
    ap (λ z. z *ℤ b) e ∙ mul-sum-any a (c *ℤ v) b
    ∙ ap (λ z. a *ℤ b +ℤ z) (mul-twice-any c v b ∙ ap (λ z. c *ℤ z) (*ℤ_comm v b) ∙ sym (mul-twice-any c b v))

-- a product of converted numbers is in the class of the product of the numbers
pub class-product : (kind : Kind) (a b : ℤ) → converted kind (converted kind a *ℤ converted kind b) ≡ converted kind (a *ℤ b)
class-product kind a b =
    let v = pos (values kind) in
    let x = converted kind a in
    let y = converted kind b in
    let p = converted-congruent a kind in
    let q = converted-congruent b kind in
    same-class kind (x *ℤ y) (a *ℤ y) (p.0 *ℤ y) (factor a x y p.0 v p.1)
    ∙ ap (converted kind) (*ℤ_comm a y)
    ∙ same-class kind (y *ℤ a) (b *ℤ a) (q.0 *ℤ a) (factor b y a q.0 v q.1)
    ∙ ap (converted kind) (*ℤ_comm b a)

-- a product modulo 2 to the 64th, which every number of values divides
pub class-rest : (kind : Kind) (n : ℕ) → IsPromoted kind → converted kind (pos (n % 18446744073709551616)) ≡ converted kind (pos n)
class-rest Int n h = omega (arith, ints)
class-rest UInt n h = omega (arith, ints)
class-rest Long n h = omega (arith, ints)
class-rest ULong n h = omega (arith, ints)
class-rest Char n h = absurd h
class-rest UChar n h = absurd h
class-rest Short n h = absurd h
class-rest UShort n h = absurd h
class-rest (Shared m b) n h = absurd h
class-rest Lock n h = absurd h
class-rest (Private m) n h = absurd h
