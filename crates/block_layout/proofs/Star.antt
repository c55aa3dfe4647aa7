-- A block too small for one row of n elements gives thread 0 a second block.
use Rattle.std.proofs.Common.{◌≡◌, ℕ, suc, ◌+◌, ◌-◌, ◌*◌, ◌/◌, ◌%◌, ◌<◌, ◌≤◌, refl, arith}
use Rattle.std.proofs.Math.Nat.{mul-div_cancel_left, mod_self, zero-div, zero-mod, mul-le-mul_right}
use Rattle.std.proofs.lemmas.Nat.{div-add-mod'}
use Rattle.block_layout.specs.Places.{OneBlockPerThread}

pub short_row-repeats : (n b T : ℕ) → 0 < b → 0 < T → b * T < n → ¬ (OneBlockPerThread n b T)
short_row-repeats n b T h k more one =
    let second : b * T / b ≡ T = mul-div_cancel_left T h in
    let first : 0 / b ≡ 0 = zero-div b in
    let same : 0 / b % T ≡ b * T / b % T = rw (second, first, mod_self T, zero-mod T) refl in
    omega (arith, one 0 (b * T) (omega arith) more same, second, first)

-- Below the quotient rounded up a row is too short.
pub quotient-above : (n b T : ℕ) → 0 < T → b < (n + T - 1) / T → b * T < n
quotient-above n b T h less =
    let more : suc b * T ≤ (n + T - 1) / T * T = mul-le-mul_right T less in
    omega (arith, div-add-mod' (n + T - 1) T, more)
