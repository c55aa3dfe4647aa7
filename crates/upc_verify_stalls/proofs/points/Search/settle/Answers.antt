use Rattle.std.proofs.Common.{false, refl}
use Rattle.upc_verify_stalls.specs.declared.points.Search.{Search}
use Rattle.upc_verify_stalls.proofs.Pointing.{at-settled, points-push}
use Rattle.upc_verify_stalls.proofs.points.Search.settle.Goals as goal

pub returns-clause-settled : goal.returns-clause-settled
returns-clause-settled c = λ t want items left out next h.
    let s = c.args.self.now in
    let v : Search = record { points = c.push.new.self; place = c.place_from-place.result; number = s.number; stalled = false } in
    at-settled t want items left c.args.entries.now c.args.action.now c.place_from-place.result s v
    (cc) refl refl (points-push s.points.items v.points.items _ c.in_ok-push.ensures.items) c.place_from-place.ensures out next h
