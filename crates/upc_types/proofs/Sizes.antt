-- Sizes of arrays and of structs.
use Rattle.std.proofs.Common.{◌≡◌, ℕ, ◌*◌, ◌<◌, nat_lt, nat_le, Bool, true, false, ◌&&◌, if◌then◌else◌, Option, Some, None, refl, arith, leb-false, ltb-true}
use Rattle.std.proofs.lemmas.Bool.{lt-leb}
use Rattle.std.proofs.Math.Bool.{and-false, and-true}
use Rattle.upc_types.specs.declared.layout.Layout.{Layout}
use Rattle.upc_types.specs.Layout.{most_bytes, many}

small : (n s : ℕ) → 0 < n → most_bytes < s → most_bytes < n * s
small n s p h = grind arith

abbrev pub array : Layout → ℕ → Layout
array l n = record { size = n * l.size; align = l.align }

abbrev pub if_small : Bool → Layout → Option Layout
if_small b l = if b then Some l else None

none_of : (p : Bool) (l : Layout) (n : ℕ) → nat_lt 0 n ≡ p → nat_le l.size most_bytes ≡ false → None ≡ if_small (p && nat_le (n * l.size) most_bytes) (array l n)
none_of false l n p h = refl
none_of true l n p h = rw (lt-leb (n * l.size) most_bytes (small n l.size (ltb-true 0 n p) (leb-false l.size most_bytes h))) refl

some_of : (b : Bool) (l : Layout) (n : ℕ) → nat_le l.size most_bytes ≡ b → many (if_small b l) n ≡ if_small (nat_lt 0 n && nat_le (n * l.size) most_bytes) (array l n)
some_of true l n h = refl
some_of false l n h = none_of (nat_lt 0 n) l n refl h

-- The layout of an array from that of its element.
pub many_is : (x : Bool) (l : Layout) (n : ℕ) →
    many (if_small (x && nat_le l.size most_bytes) l) n ≡ if_small ((nat_lt 0 n && x) && nat_le (n * l.size) most_bytes) (array l n)
many_is false l n = rw (and-false (nat_lt 0 n)) refl
many_is true l n = rw (and-true (nat_lt 0 n)) (some_of (nat_le l.size most_bytes) l n refl)
