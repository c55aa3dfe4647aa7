use Rattle.std.proofs.Common.{rules, ◌*◌, ◌≤◌, ◌^◌, arith, unsigned_abs, FitsSigned}
use Rattle.std.specs.Int.{w128}
use Rattle.std.proofs.lemmas.Int.{to_z-of_z}
use Rattle.std.proofs.lemmas.Nat.{mul-le}
use Rattle.shared_pointers.proofs.apart.elements_of_all_rows.Goals as goal

pub returns-clause-bound : goal.returns-clause-bound
returns-clause-bound c =
    let fits : FitsSigned w128 c.elements_of_rows.result = search rules in
    let mine : FitsSigned w128 c.times.result = search rules in
    let most : unsigned_abs c.elements_of_rows.result * c.args.threads ≤ 2 ^ 51 * 32 = mul-le _ _ _ _ c.elements_of_rows.ensures.bound c.requires.some_threads.most in
    simp to_z-of_z (omega (arith, simp to_z-of_z at c.times.ensures.bound, most))
