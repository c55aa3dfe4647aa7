use Rattle.std.proofs.Common.{rules, ◌≡◌, ◌∷◌, refl}
use Rattle.order_builder.specs.declared.walk.Walk.{Walk}
use Rattle.order_builder.proofs.Showing.{oldest-shown}
use Rattle.order_builder.proofs.walk.Walk.release.Goals as goal

pub returns-in_ok-push : goal.returns-in_ok-push
returns-in_ok-push c =
    let s = c.args.self.now in
    let k = c.in-Some.oldest in
    let t : Walk =
    record { next = s.next; emitted = c.push.new.self; pending = c.pop_front.new.self; agrees = s.agrees } in
    let is : s.pending.items ≡ k ∷ t.pending.items = search rules in
    oldest-shown s t k t.pending.items is refl c.in_ok-push.ensures refl refl
