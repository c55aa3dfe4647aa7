use Rattle.std.proofs.Common.{ap, ◌∙◌}
use Rattle.replica_space_copies.specs.layer.Copies.{HeldState, key_of, held_at}
use Rattle.replica_space_copies.proofs.held.Held.reserve.Goals as goal

pub returns-clause-same : goal.returns-clause-same
returns-clause-same c = λ t l.
    c.reserve.ensures.entries.2 (key_of t l) ∙ ap (λ (h : HeldState). held_at h t l) c.self.view_is
