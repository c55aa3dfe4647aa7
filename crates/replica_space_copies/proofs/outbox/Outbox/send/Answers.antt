use Rattle.std.proofs.Common.{◌≡◌, ℕ, ◌<◌, List, [], ◌∷◌, ◌++◌, length, drop, ap, ◌∙◌, arith}
use Rattle.std.proofs.lemmas.List.{length-map}
use Rattle.replica_space.specs.declared.message.Message.{Message}
use Rattle.replica_space_copies.proofs.Letters.{one-sent-as}
use Rattle.replica_space_copies.proofs.outbox.Outbox.send.Goals as goal

pub returns-clause-sent : goal.returns-clause-sent
returns-clause-sent c = λ to h.
    let ms = c.self.inside.messages.items in
    let taken = c.self.inside.taken.items in
    let own : c.args.own < length taken = omega (arith, ap length c.self.view_is, length-map taken (λ (n : ℕ). drop n ms), c.requires) in
    let there : to < length taken = omega (arith, ap length c.self.view_is, length-map taken (λ (n : ℕ). drop n ms), h) in
    let items : c.push_reserved.new.self.items ≡ ms ++ c.args.message ∷ [] =
    c.push_reserved.ensures ∙ ap (λ (l : List Message). l ++ c.args.message ∷ []) c.reserve.ensures.items in
    rw (← c.self.view_is)
    (one-sent-as ms c.push_reserved.new.self.items taken c.args.own c.len.result to c.args.message c.self.invariant own there items c.len.ensures)
