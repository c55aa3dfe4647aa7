-- There are more lists where they may be longer.
use Rattle.std.proofs.Common.{◌≡◌, ◌≤◌, ◌<◌, ◌+◌, ◌-◌, ◌*◌, ℕ, zero, suc, refl, subst, sym, arith}
use Rattle.std.proofs.Math.Nat.{mul-le-mul_right}
use Rattle.std.proofs.lemmas.Nat.{mul-le}
use Rattle.upc_outcomes_words.specs.Values.{lists_count}

pub next-count : (threads n : ℕ) → lists_count threads (n + 1) ≡ 1 + threads * lists_count threads n
next-count threads n =
    let e : n + 1 ≡ suc n = omega arith in
    rw e refl

more-one : (threads n : ℕ) → 1 ≤ threads → lists_count threads n ≤ lists_count threads (suc n)
more-one threads n h =
    let times : 1 * lists_count threads n ≤ threads * lists_count threads n = mul-le-mul_right (lists_count threads n) h in
    omega arith

more-by : (threads n d : ℕ) → 1 ≤ threads → lists_count threads n ≤ lists_count threads (d + n)
more-by threads n zero h =
    let e : 0 + n ≡ n = omega arith in
    rw e (omega arith)
more-by threads n (suc d) h =
    let e : suc d + n ≡ suc (d + n) = omega arith in
    let before = more-by threads n d h in
    let one = more-one threads (d + n) h in
    rw e (omega arith)

pub more-lists : (threads n m : ℕ) → 1 ≤ threads → n ≤ m → lists_count threads n ≤ lists_count threads m
more-lists threads n m h le =
    let e : (m - n) + n ≡ m = omega arith in
    let grown = more-by threads n (m - n) h in
    subst (λ k. lists_count threads n ≤ lists_count threads k) e grown

-- what is counted fits
pub small-count : (threads count : ℕ) → threads ≤ 32 → count ≤ 100000 → threads * count ≤ 3200000
small-count threads count h k =
    let most : threads * count ≤ 32 * 100000 = mul-le threads count 32 100000 h k in
    most
