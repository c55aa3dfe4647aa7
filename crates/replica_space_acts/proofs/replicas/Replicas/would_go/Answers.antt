use Rattle.std.proofs.Common.{List, is_some, sym, ap, ◌∙◌, subst}
use Rattle.upc_values.specs.Openings.{Opening}
use Rattle.upc_values.specs.History.{reply}
use Rattle.upc_values.specs.Formed.{IsWellFormed}
use Rattle.replica_space.specs.declared.event.Event.{Event}
use Rattle.replica_space.specs.Events.{history_in}
use Rattle.replica_space_acts.proofs.Acting.{asks-world}
use Rattle.replica_space_acts.proofs.Asking.{goes-loud}
use Rattle.replica_space_acts.proofs.replicas.Replicas.would_go.Goals as goal

pub is_legal-requires-clause-formed : goal.is_legal-requires-clause-formed
is_legal-requires-clause-formed c =
    let i = c.self.inside in
    let a = c.args.action.now in
    asks-world i.world i.events.items a c.self.invariant.world
    (subst (λ (s : Opening × List Event). IsWellFormed s.0 (history_in s.1) a) (sym c.self.view_is) c.requires.formed)

pub returns : goal.returns
returns c =
    let i = c.self.inside in
    let t = c.args.thread in
    let a = c.args.action.now in
    let formed : IsWellFormed i.world.0 (history_in i.events.items) a =
    subst (λ (s : Opening × List Event). IsWellFormed s.0 (history_in s.1) a) (sym c.self.view_is) c.requires.formed in
    c.is_legal.ensures ∙ ap (λ l. is_some (reply i.world.0 l t a)) c.self.invariant.world
    ∙ goes-loud i.world.0 (history_in i.events.items) t a formed
    ∙ ap (λ (s : Opening × List Event). is_some (reply s.0 (history_in s.1) t a)) c.self.view_is
