use Rattle.std.proofs.Common.{◌≡◌, ◌<◌, ◌≤◌, [], length, get_or, ap, ◌∙◌, below_more, arith}
use Rattle.std.proofs.lemmas.List.{get_or_default}
use Rattle.upc_verify_stalls.specs.declared.points.Point.{Point}
use Rattle.upc_verify_stalls.specs.declared.walk.Watch.{Watch}
use Rattle.upc_verify_stalls.specs.code.Watches.{IsDone}
use Rattle.upc_verify_stalls.proofs.walk.first_unjustified.Goals as goal

abbrev none : Watch
none = record { passed = 0; justified = 0 }

pub returns-then-watches-number : goal.returns-then-watches-number
returns-then-watches-number c =
    let points = c.args.points.now in
    let watches = c.args.watches.now in
    let k = c.loop-thread.thread in
    let lt : k < length points = omega arith in
    let same : c.len.result ≡ length (get_or points k []) =
    c.len.ensures ∙ ap (length {A = Point}) (c.index-points-number.is ∙ get_or_default points k c.index-points-number.result [] lt) in
    let short : (get_or watches k none).justified < c.len.result = c.if-watches-number.true in
    record {
      within = omega arith;
      fails = λ done. let le : length (get_or points k []) ≤ (get_or watches k none).justified = done none in omega arith;
      before = c.loop-thread.invariant;
    }

pub loop-thread-preserved : goal.loop-thread-preserved
loop-thread-preserved c =
    let points = c.args.points.now in
    let watches = c.args.watches.now in
    let k = c.loop-thread.thread in
    let lt : k < length points = omega arith in
    let within : k < length watches = omega arith in
    let same : c.len.result ≡ length (get_or points k []) =
    c.len.ensures ∙ ap (length {A = Point}) (c.index-points-number.is ∙ get_or_default points k c.index-points-number.result [] lt) in
    let le : c.len.result ≤ (get_or watches k none).justified = c.if-watches-number.false in
    below_more (IsDone points watches) k c.loop-thread.invariant
    (λ d. let one = ap (λ (w : Watch). w.justified) (get_or_default watches k d none within) in omega arith)

pub returns : goal.returns
returns c = λ t lt. c.loop-thread.invariant t (omega arith)
