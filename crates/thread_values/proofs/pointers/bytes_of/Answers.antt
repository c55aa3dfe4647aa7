use Rattle.std.proofs.Common.{rules, ◌≡◌, ◌≤◌, ◌^◌, unsigned_abs, FitsSigned, ap, arith, lit<}
use Rattle.std.specs.Int.{w128}
use Rattle.std.proofs.Math.IntN.{ℤ, pos, ◌*ℤ◌}
use Rattle.std.proofs.lemmas.Int.{ints, to_z-of_z, fits_signed_mul, unsigned_abs-mul}
use Rattle.std.proofs.lemmas.Nat.{mul-le}
use Rattle.thread_values.proofs.pointers.bytes_of.Goals as goal

pub returns-clause-value : goal.returns-clause-value
returns-clause-value c =
    let one : FitsSigned w128 c.args.i = c.ranges.i in
    let other : FitsSigned w128 c.from.result = search rules in
    let same : c.from.result ≡ pos c.args.size = search rules in
    let small : unsigned_abs c.from.result ≤ 2 ^ 32 = omega (arith, ints, same, c.ranges.size) in
    let both : FitsSigned w128 (c.args.i *ℤ c.from.result) =
    fits_signed_mul w128 c.args.i c.from.result (2 ^ 93) (2 ^ 32) c.requires small (lit< tt) in
    simp to_z-of_z (ap (λ (z : ℤ). c.args.i *ℤ z) same)

pub returns-clause-bound : goal.returns-clause-bound
returns-clause-bound c =
    let one : FitsSigned w128 c.args.i = c.ranges.i in
    let other : FitsSigned w128 c.from.result = search rules in
    let same : c.from.result ≡ pos c.args.size = search rules in
    let small : unsigned_abs c.from.result ≤ 2 ^ 32 = omega (arith, ints, same, c.ranges.size) in
    let both : FitsSigned w128 (c.args.i *ℤ c.from.result) =
    fits_signed_mul w128 c.args.i c.from.result (2 ^ 93) (2 ^ 32) c.requires small (lit< tt) in
    simp (to_z-of_z, unsigned_abs-mul) (mul-le _ _ (2 ^ 93) (2 ^ 32) c.requires small)
