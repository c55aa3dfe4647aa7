use Rattle.std.proofs.Common.{rules, ◌≡◌, ◌^◌, true, Ok, FitsSigned, unsigned_abs, sym, ap, ◌∙◌, subst}
use Rattle.std.proofs.Math.IntN.{ℤ}
use Rattle.std.specs.Int.{w64, w128}
use Rattle.std.specs.Int.Signed.{shr_z}
use Rattle.std.proofs.lemmas.Int.{to_z-of_z}
use Rattle.block_layout.specs.Floor.{floor_div}
use Rattle.integers.specs.Integers.{InKind}
use Rattle.integers.specs.Operators.{is_count}
use Rattle.integers.proofs.Conversions.{signed-fits, shifted-fits, shifted-is, shifted-in_kind}
use Rattle.integers.proofs.arithmetic.shift_right.Goals as goal

-- What the shift of a signed value gives.
shifted : (c : goal.After-from) → c.from.result ≡ floor_div c.args.a (2 ^ unsigned_abs c.args.b)
shifted c =
    let left : FitsSigned w128 c.args.a = c.ranges.a in
    let right : FitsSigned w128 c.args.b = c.ranges.b in
    let short : FitsSigned w64 c.args.a = signed-fits c.args.a c.args.kind c.requires.left c.in-Int.is in
    let both : FitsSigned w64 (shr_z c.args.a (2 ^ unsigned_abs c.args.b)) = shifted-fits c.args.a (2 ^ unsigned_abs c.args.b) short in
    (simp to_z-of_z at c.from.ensures) ∙ shifted-is c.args.a (2 ^ unsigned_abs c.args.b)

pub returns-in-Int-clause-value : goal.returns-in-Int-clause-value
returns-in-Int-clause-value c =
    let right : FitsSigned w128 c.args.b = c.ranges.b in
    let mine : FitsSigned w128 c.from.result = search rules in
    let counts : true ≡ is_count c.args.kind c.args.b = simp to_z-of_z at c.if-not-is_count.ensures.value in
    rw (sym counts) (ap Ok (to_z-of_z w128 c.from.result mine ∙ shifted c))

pub returns-in-Int-clause-range : goal.returns-in-Int-clause-range
returns-in-Int-clause-range c =
    let mine : FitsSigned w128 c.from.result = search rules in
    subst (λ (z : ℤ). InKind z c.args.kind) (sym (to_z-of_z w128 c.from.result mine ∙ shifted c))
    (shifted-in_kind c.args.a (2 ^ unsigned_abs c.args.b) c.args.kind c.requires.left)
