use Rattle.std.proofs.Common.{◌≡◌, true, false, sym, add-one, arith}
use Rattle.std.specs.Prelude.{nat_eq}
use Rattle.std.specs.Cmp.Lexicographic.{pointwise}
use Rattle.upc_macros.specs.Spelling.{spelling}
use Rattle.upc_macros.proofs.DirectiveLemmas.{alike_more, alike_no, not_true, not_false}
use Rattle.upc_macros.proofs.directives.are_alike.Goals as goal

pub returns-then-ne : goal.returns-then-ne
returns-then-ne c =
    let differ : pointwise nat_eq (spelling c.args.source.now c.index-old-i.result) (spelling c.args.source.now c.index-new-i.result) ≡ false =
    rw (← c.spelling.ensures, ← c.spelling-in-loop-i.ensures) (not_true _ c.if-ne.ensures) in
    sym (alike_no c.args.source.now c.args.old.now c.args.new.now c.loop-i.i c.index-old-i.result c.index-new-i.result c.loop-i-test.true (omega (arith, c.if-old-new.false, c.loop-i-test.true)) c.index-old-i.is c.index-new-i.is differ)

pub loop-i-preserved : goal.loop-i-preserved
loop-i-preserved c =
    let same : pointwise nat_eq (spelling c.args.source.now c.index-old-i.result) (spelling c.args.source.now c.index-new-i.result) ≡ true =
    rw (← c.spelling.ensures, ← c.spelling-in-loop-i.ensures) (not_false _ c.if-ne.ensures) in
    rw add-one (alike_more c.args.source.now c.args.old.now c.args.new.now c.loop-i.i c.index-old-i.result c.index-new-i.result c.loop-i-test.true (omega (arith, c.if-old-new.false, c.loop-i-test.true)) c.index-old-i.is c.index-new-i.is same c.loop-i.invariant)
