use Rattle.std.proofs.Common.{◌≡◌, ◌<◌, ◌-◌, get_or, slice_get, true, false, Some, sym, ap, subst, ◌∙◌, arith}
use Rattle.upc_values.specs.Scalars.{same_loc}
use Rattle.write_buffer.specs.code.Counts.{place_of, counted}
use Rattle.write_buffer.proofs.Counting.{counted-absent, some-at}
use Rattle.write_buffer.proofs.Places.{last_place-absent, last_place-found, last_place-passed}
use Rattle.write_buffer.proofs.buffer.WriteBuffer.find.Goals as goal

pub returns-then-self-place_of-eq0-clause-place : goal.returns-then-self-place_of-eq0-clause-place
returns-then-self-place_of-eq0-clause-place c =
    let none : counted (place_of c.args.loc) c.args.self.now ≡ 0 =
    subst (λ ps. counted (place_of c.args.loc) ps ≡ 0) c.self.view_is
    (sym (c.self.invariant.2.each (place_of c.args.loc)) ∙ ap (λ k. get_or c.self.inside.counts k 0) (sym c.place_of.ensures.place)
    ∙ c.if-self-place_of-eq0.true) in
    sym (last_place-absent c.args.loc c.args.self.now (counted-absent c.args.loc c.args.self.now none))

pub loop-at-preserved : goal.loop-at-preserved
loop-at-preserved c =
    let ps = c.args.self.now in
    let at = c.loop-at.at in
    let write = c.in-Some.write.now in
    let some : 0 < at = c.loop-at-test.true in
    let there : Some write ≡ slice_get ps (at - 1) = subst (λ z. Some write ≡ slice_get z (at - 1)) c.self.view_is c.in-Some.ensures in
    let found = some-at ps (at - 1) write there in
    let lt = found.0 in
    let other : same_loc write.loc c.args.loc ≡ false = sym c.eq.ensures ∙ c.if-eq.false in
    c.loop-at.invariant ∙ last_place-passed c.args.loc ps at write some (omega arith) (sym (found.1 write)) other

pub returns-then-eq-clause-place : goal.returns-then-eq-clause-place
returns-then-eq-clause-place c =
    let ps = c.args.self.now in
    let at = c.loop-at.at in
    let write = c.in-Some.write.now in
    let some : 0 < at = c.loop-at-test.true in
    let there : Some write ≡ slice_get ps (at - 1) = subst (λ z. Some write ≡ slice_get z (at - 1)) c.self.view_is c.in-Some.ensures in
    let found = some-at ps (at - 1) write there in
    let lt = found.0 in
    let same : same_loc write.loc c.args.loc ≡ true = sym c.eq.ensures ∙ c.if-eq.true in
    sym (c.loop-at.invariant ∙ last_place-found c.args.loc ps at write some (omega arith) (sym (found.1 write)) same)
