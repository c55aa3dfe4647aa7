use Rattle.std.proofs.Common.{List, ap, ◌∙◌}
use Rattle.upc_values.specs.Openings.{Opening}
use Rattle.memory_history.specs.layer.Turns.{takes_turn}
use Rattle.replica_space.specs.declared.event.Event.{Event}
use Rattle.replica_space.specs.Events.{history_in}
use Rattle.replica_space_acts.proofs.Acting.{turn-loud}
use Rattle.replica_space_acts.proofs.replicas.Replicas.takes_turn.Goals as goal

pub returns : goal.returns
returns c =
    let i = c.self.inside in
    let t = c.args.thread in
    let a = c.args.action.now in
    c.takes_turn.ensures ∙ ap (λ l. takes_turn l t a) c.self.invariant.world ∙ turn-loud (history_in i.events.items) t a
    ∙ ap (λ (s : Opening × List Event). takes_turn (history_in s.1) t a) c.self.view_is
