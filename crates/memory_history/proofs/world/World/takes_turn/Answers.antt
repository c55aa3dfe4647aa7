use Rattle.std.proofs.Common.{◌<◌, sym, ap, subst, ◌∙◌}
use Rattle.upc_values.specs.declared.action.Action.TheVariants as act
use Rattle.memory_history.specs.layer.Turns.{takes_turn}
use Rattle.memory_history.proofs.Worlds.{world-attends, world-turns, other-turns}
use Rattle.memory_history.proofs.world.World.takes_turn.Goals as goal

pub may_notify-requires : goal.may_notify-requires
may_notify-requires c =
    let t = c.args.thread in
    let p = c.self.inside.parts in
    let b : t < p.heap.opening.threads = subst (λ w. t < w.0.threads) (sym c.self.view_is) c.requires in
    world-attends p c.self.inside.entries.items c.self.invariant t b

pub returns-in-Notify : goal.returns-in-Notify
returns-in-Notify c =
    let t = c.args.thread in
    let p = c.self.inside.parts in
    let m = c.in-Notify.field-0 in
    let b : t < p.heap.opening.threads = subst (λ w. t < w.0.threads) (sym c.self.view_is) c.requires in
    c.may_notify.ensures ∙ world-turns p c.self.inside.entries.items c.self.invariant t m b
    ∙ ap (λ w. takes_turn w.1 t (act.Notify m)) c.self.view_is
    ∙ ap (takes_turn c.args.self.now.1 t) (sym c.in-Notify.is)

pub returns-in_default : goal.returns-in_default
returns-in_default c = other-turns c.args.self.now.1 c.args.thread c.args.action.now (λ m e. c.in_default.not-Notify m e)
