use Rattle.std.proofs.Common.{◌≡◌, Bool, true, List, ap, ◌∙◌, subst}
use Rattle.std.specs.Prelude.{◌↔◌, IsTrue}
use Rattle.upc_values.specs.Openings.{Opening}
use Rattle.upc_values.specs.Formed.{IsWellFormed, may_ask}
use Rattle.replica_space.specs.declared.event.Event.{Event}
use Rattle.replica_space.specs.Events.{history_in}
use Rattle.replica_space_quiet.proofs.Quiet.{formed-loud}
use Rattle.replica_space_acts.proofs.replicas.Replicas.is_well_formed.Goals as goal

pub returns : goal.returns
returns c =
    let i = c.self.inside in
    let a = c.args.action.now in
    let h = history_in i.events.items in
    let same : may_ask i.world.0 i.world.1 a ≡ may_ask i.world.0 h a =
    ap (λ l. may_ask i.world.0 l a) c.self.invariant.world ∙ formed-loud i.world.0 h a in
    subst (λ (s : Opening × List Event). IsTrue c.is_well_formed.result ↔ IsWellFormed s.0 (history_in s.1) a) c.self.view_is
    (subst (λ (b : Bool). IsTrue c.is_well_formed.result ↔ (b ≡ true)) same c.is_well_formed.ensures)
