use Rattle.std.proofs.Common.{◌≡◌, sym, ap, ◌∙◌}
use Rattle.upc_values.specs.Openings.{Opening}
use Rattle.upc_verify_stalls.proofs.Threads.{looked-broken}
use Rattle.upc_verify_stalls.proofs.journal.first_broken.Goals as goal

pub returns : goal.returns
returns c =
    let o = c.args.world.now.0 in
    let p = c.walk.new.world.0 in
    let points = c.args.points.now in
    let is : p ≡ o = c.walk.ensures.opening in
    looked-broken o p points c.look_all.new.watches c.walk.new.world.1 c.args.history.now c.first_unjustified.result c.threads.result
    is c.in_ok-walk.ensures.whole c.threads.ensures
    (c.requires.many ∙ ap (λ (z : Opening). z.threads) (sym is) ∙ sym c.threads.ensures)
    c.look_all.ensures c.first_unjustified.ensures
