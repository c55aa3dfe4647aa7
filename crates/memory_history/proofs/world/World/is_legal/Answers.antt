use Rattle.std.proofs.Common.{◌<◌, is_some, sym, ap, subst, ◌∙◌}
use Rattle.upc_values.specs.declared.action.Action.TheVariants as act
use Rattle.upc_values.specs.History.{reply}
use Rattle.upc_values.specs.Formed.{IsWellFormed}
use Rattle.memory_history.proofs.Worlds.{world-asks, world-attends, wait-legal, lock-legal, other-legal}
use Rattle.memory_history.proofs.world.World.is_legal.Goals as goal

pub may_pass-requires : goal.may_pass-requires
may_pass-requires c =
    let t = c.args.thread in
    let p = c.self.inside.parts in
    let es = c.self.inside.entries.items in
    let now = c.args.self.now in
    let b : t < p.heap.opening.threads = subst (λ w. t < w.0.threads) (sym c.self.view_is) c.requires.below in
    world-attends p es c.self.invariant t b

pub returns-in-Wait : goal.returns-in-Wait
returns-in-Wait c =
    let t = c.args.thread in
    let p = c.self.inside.parts in
    let es = c.self.inside.entries.items in
    let now = c.args.self.now in
    let b : t < p.heap.opening.threads = subst (λ w. t < w.0.threads) (sym c.self.view_is) c.requires.below in
    let f : IsWellFormed p.heap.opening es c.args.action.now =
    subst (λ w. IsWellFormed w.0 w.1 c.args.action.now) (sym c.self.view_is) c.requires.formed in
    let m = c.in-Wait.field-0 in
    c.may_pass.ensures ∙ wait-legal p es c.self.invariant t m b
    ∙ ap (λ w. is_some (reply w.0 w.1 t (act.Wait m))) c.self.view_is
    ∙ ap (λ x. is_some (reply now.0 now.1 t x)) (sym c.in-Wait.is)

pub would_wait-requires : goal.would_wait-requires
would_wait-requires c =
    let t = c.args.thread in
    let p = c.self.inside.parts in
    let es = c.self.inside.entries.items in
    let now = c.args.self.now in
    let b : t < p.heap.opening.threads = subst (λ w. t < w.0.threads) (sym c.self.view_is) c.requires.below in
    let f : IsWellFormed p.heap.opening es c.args.action.now =
    subst (λ w. IsWellFormed w.0 w.1 c.args.action.now) (sym c.self.view_is) c.requires.formed in
    let g : IsWellFormed p.heap.opening es (act.Lock c.in-Lock.lock) = subst (IsWellFormed p.heap.opening es) c.in-Lock.is f in
    (world-asks p es c.self.invariant (act.Lock c.in-Lock.lock)).1 g

pub returns-in-Lock : goal.returns-in-Lock
returns-in-Lock c =
    let t = c.args.thread in
    let p = c.self.inside.parts in
    let es = c.self.inside.entries.items in
    let now = c.args.self.now in
    let b : t < p.heap.opening.threads = subst (λ w. t < w.0.threads) (sym c.self.view_is) c.requires.below in
    let f : IsWellFormed p.heap.opening es c.args.action.now =
    subst (λ w. IsWellFormed w.0 w.1 c.args.action.now) (sym c.self.view_is) c.requires.formed in
    let l = c.in-Lock.lock in
    let g : IsWellFormed p.heap.opening es (act.Lock l) = subst (IsWellFormed p.heap.opening es) c.in-Lock.is f in
    lock-legal p es c.self.invariant t l c.would_wait.result b g c.would_wait.ensures
    ∙ ap (λ w. is_some (reply w.0 w.1 t (act.Lock l))) c.self.view_is
    ∙ ap (λ x. is_some (reply now.0 now.1 t x)) (sym c.in-Lock.is)

pub returns-in_default : goal.returns-in_default
returns-in_default c =
    let t = c.args.thread in
    let p = c.self.inside.parts in
    let es = c.self.inside.entries.items in
    let now = c.args.self.now in
    let b : t < p.heap.opening.threads = subst (λ w. t < w.0.threads) (sym c.self.view_is) c.requires.below in
    let f : IsWellFormed p.heap.opening es c.args.action.now =
    subst (λ w. IsWellFormed w.0 w.1 c.args.action.now) (sym c.self.view_is) c.requires.formed in
    other-legal p es c.self.invariant t c.args.action.now f (λ m e. c.in_default.not-Wait m e) (λ l e. c.in_default.not-Lock l e)
    ∙ ap (λ w. is_some (reply w.0 w.1 t c.args.action.now)) c.self.view_is
