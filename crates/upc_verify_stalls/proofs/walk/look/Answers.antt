use Rattle.std.proofs.Common.{◌≡◌, ◌+◌, true, sym, subst, ◌∙◌, refl}
use Rattle.std.proofs.lemmas.Bool.{false≢true}
use Rattle.upc_values.specs.Strands.{may_wait}
use Rattle.upc_values.proofs.Lists.{each-at}
use Rattle.upc_verify_stalls.specs.declared.points.Point.{Point}
use Rattle.upc_verify_stalls.specs.declared.walk.Watch.{Watch}
use Rattle.upc_verify_stalls.proofs.Watching.{looked-done, looked-not, looked-yes}
use Rattle.upc_verify_stalls.proofs.walk.look.Goals as goal

pub is_justified-requires-clause-waits : goal.is_justified-requires-clause-waits
is_justified-requires-clause-waits c =
    let p = c.index-points-watch.result in
    let w = c.args.watch in
    subst (λ (q : Point). may_wait q.action.now ≡ true) (sym c.index-points-watch.is)
    (each-at (λ (q : Point). may_wait q.action.now ≡ true) c.args.points.now w.justified p c.requires.due.at.points.wait c.if-watch-points.false)

pub returns-then-watch-points : goal.returns-then-watch-points
returns-then-watch-points c =
    looked-done c.args.world.now.0 c.args.thread c.args.points.now c.args.world.now.1 c.args.watch c.if-watch-points.true c.requires.due

pub returns-then-not-is_justified : goal.returns-then-not-is_justified
returns-then-not-is_justified c =
    looked-not c.args.world.now.0 c.args.thread c.args.points.now c.args.world.now.1 c.args.watch c.index-points-watch.result
    c.if-watch-points.false c.index-points-watch.is (λ h. false≢true (sym c.if-not-is_justified.true ∙ c.is_justified.ensures.1 h)) c.requires.due

pub returns : goal.returns
returns c =
    let v = c.args.watch in
    let w : Watch = record { passed = v.passed; justified = v.justified + 1 } in
    let h = c.is_justified.ensures.0 c.if-not-is_justified.false in
    looked-yes c.args.world.now.0 c.args.thread c.args.points.now c.args.world.now.1 v w c.index-points-watch.result
    c.if-watch-points.false c.index-points-watch.is h.0 h.1 refl refl c.requires.due
