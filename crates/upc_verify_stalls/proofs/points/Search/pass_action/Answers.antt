use Rattle.std.proofs.Common.{◌∷◌, refl}
use Rattle.upc_values.specs.declared.record.Item.TheVariants.{Did}
use Rattle.upc_verify_stalls.proofs.Pointing.{at-counted}
use Rattle.upc_verify_stalls.proofs.points.Search.pass_action.Goals as goal

pub returns-clause-passed : goal.returns-clause-passed
returns-clause-passed c = λ t want items left r out h.
    at-counted t want items left c.args.action.now r c.settle.new.self c.count.new.self
    c.in_ok-settle.ensures.stalled c.in_ok-count.ensures.stalled c.in_ok-count.ensures.number c.in_ok-count.ensures.points
    (c.in_ok-settle.ensures.settled t want items (Did c.args.action.now r ∷ left) out refl h)
