use Rattle.std.proofs.Common.{IfSome, ap, ◌∙◌, subst, arith}
use Rattle.upc_types.specs.Types.{base_of}
use Rattle.upc_types.specs.Same.{same_base}
use Rattle.upc_types.specs.View.{view_base}
use Rattle.upc_types.specs.code.Depth.{depth, base_depth}
use Rattle.upc_types.specs.code.Stars.{BeginsSo}
use Rattle.upc_types.proofs.Starred.{after_both, after_falls}
use Rattle.upc_types.proofs.target.Target.after_same.Goals as goal

pub returns-clause-same : goal.returns-clause-same
returns-clause-same c =
    let s = c.s.inside in
    let t = c.t.inside in
    let a = c.in-Some.a.value.base in
    let b = c.in-Some-below.b.value.base in
    let h = subst (λ o. IfSome o (λ x. BeginsSo s.stars (view_base s.ctype.value.base) (view_base x.value.base))) c.in-Some.is c.s.invariant in
    let g = subst (λ o. IfSome o (λ x. BeginsSo t.stars (view_base t.ctype.value.base) (view_base x.value.base))) c.in-Some-below.is c.t.invariant in
    (λ i. same_base (view_base (c.deref.ensures i).base) (view_base (c.deref-2.ensures i).base))
    ∙ after_both s.stars t.stars (view_base s.ctype.value.base) (view_base t.ctype.value.base) (view_base a) (view_base b) h g (c.same.ensures.count c.if-same.true) (c.same.ensures.quals c.if-same.true)
    ∙ (λ i. same_base (base_of (c.s.view_is i)) (base_of (c.t.view_is i)))

pub returns-clause-falls : goal.returns-clause-falls
returns-clause-falls c =
    let s = c.s.inside in
    let a = c.in-Some.a.value.base in
    let h = subst (λ o. IfSome o (λ x. BeginsSo s.stars (view_base s.ctype.value.base) (view_base x.value.base))) c.in-Some.is c.s.invariant in
    let f = after_falls s.stars (view_base s.ctype.value.base) (view_base a) h in
    let e = ap (λ x. base_depth (view_base x.base)) c.deref.ensures in
    let v = ap depth c.s.view_is in
    omega (arith, f, e, v)

pub returns-2-clause-falls : goal.returns-2-clause-falls
returns-2-clause-falls c =
    let e = ap (λ x. base_depth (view_base x.base)) c.deref-3.ensures in
    let v = ap depth c.s.view_is in
    omega (arith, e, v)
