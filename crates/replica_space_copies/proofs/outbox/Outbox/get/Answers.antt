use Rattle.std.proofs.Common.{◌≡◌, ℕ, ◌+◌, ◌<◌, length, drop, get_or, slice_get, ap, ◌∙◌, arith}
use Rattle.std.proofs.lemmas.List.{get_or_read, length-map}
use Rattle.replica_space_copies.specs.layer.Copies.{letters}
use Rattle.replica_space_copies.proofs.Letters.{letter-at}
use Rattle.replica_space_copies.proofs.outbox.Outbox.get.Goals as goal

pub returns : goal.returns
returns c =
    let ms = c.self.inside.messages.items in
    let taken = c.self.inside.taken.items in
    let to = c.args.to in
    let within : to < length taken = omega (arith, ap length c.self.view_is, length-map taken (λ (n : ℕ). drop n ms), c.requires) in
    let first : c.index-first.result.now ≡ get_or taken to 0 = get_or_read taken to c.index-first.result.now within c.index-first.ensures 0 in
    let len = c.len.ensures in
    let lt = c.if-number-len.false in
    c.copied.ensures
    ∙ c.get.ensures
    ∙ ap (λ k. slice_get ms (k + c.args.number)) first
    ∙ letter-at ms taken to c.args.number within (omega arith)
    ∙ ap (λ b. slice_get (letters to b) c.args.number) c.self.view_is
