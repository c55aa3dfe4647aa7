use Rattle.std.proofs.Common.{◌≡◌, ◌∙◌, ap, sym, refl, subst, length}
use Rattle.stack_machine.specs.layer.Machine.{listed, Seen, HasHeard}
use Rattle.stack_machine.specs.declared.wish.Halt.TheVariants.{Asks, Stops}
use Rattle.stack_machine.specs.code.Calls.{MayGoOn, the_call}
use Rattle.stack_machine.specs.code.Kept.{IsHolding}
use Rattle.stack_machine.specs.code.Tasks.{task_seen}
use Rattle.stack_machine.proofs.Machines.{kept_whole, whole, standing, asked_so, stopped_so, halts_at, over_told}
use Rattle.stack_machine.proofs.machine.Machine.resume.Goals as goal

pub invariant_of-self-in-Asks : goal.invariant_of-self-in-Asks
invariant_of-self-in-Asks c =
    let m = c.self.inside in
    let code = c.args.code.now in
    let n : code.threads ≡ m.threads = sym c.threads.ensures.value ∙ c.if-threads-self.false in
    let l : length code.shapes ≡ m.shapes = ap length (sym c.shapes.ensures.value) ∙ c.if-shapes-self.false in
    let k = kept_whole m.runner.number m.runner.budget m.threads m.shapes m.phase (the_call m.under_way)
    (task_seen m.task) c.in_default.not-Failed c.in_default.not-Over c.self.invariant in
    let w = c.in-Asks.ensures.waits in
    whole m.runner.number m.runner.budget m.threads m.shapes code.shapes c.run.new.under_way (task_seen c.run.new.self)
    k.thread_in w.1 l (subst (λ t. IsHolding t code.shapes (task_seen c.run.new.self)) n w.0)
    (subst (λ t. MayGoOn t code.shapes (the_call c.run.new.under_way) (task_seen c.run.new.self)) n w.2)

pub returns-else-is_some-clause-told : goal.returns-else-is_some-clause-told
returns-else-is_some-clause-told c = λ thread budget f given all heard suits.
    let h = subst (λ (m : Seen). HasHeard c.args.code.now thread budget given m) (sym c.self.view_is) heard in
    c.wish_of.ensures
    ∙ sym (over_told c.args.code.now thread budget f given (listed c.args.reply) c.self.inside.phase c.self.inside.count
    (the_call c.self.inside.under_way) (task_seen c.self.inside.task) c.in-Over.stop all c.in-Over.is h.at)

pub returns-in-Asks-clause-told : goal.returns-in-Asks-clause-told
returns-in-Asks-clause-told c = λ thread budget f given all heard suits.
    let h = subst (λ (m : Seen). HasHeard c.args.code.now thread budget given m) (sym c.self.view_is) heard in
    let s = standing c.args.code.now thread budget given c.self.inside.phase c.self.inside.count
    (the_call c.self.inside.under_way) (task_seen c.self.inside.task) c.in_default.not-Failed c.in_default.not-Over h.at in
    let t = record c.self.inside.task { progress = record c.self.inside.task.progress { reply = c.args.reply } } in
    let r = asked_so c.args.code.now thread budget f all given c.args.reply (the_call c.self.inside.under_way) t (the_call c.run.new.under_way) c.run.new.self c.in-Asks.action c.in-Asks.ticks refl s
    (halts_at c.args.code.now c.self.inside.runner.number c.self.inside.runner.budget thread budget (Asks c.in-Asks.action c.in-Asks.ticks) (the_call c.self.inside.under_way) t (the_call c.run.new.under_way) c.run.new.self
    h.thread_is h.budget_is c.in-Asks.ensures.halts) in
    sym r.0

pub returns-in-Asks-clause-heard : goal.returns-in-Asks-clause-heard
returns-in-Asks-clause-heard c = λ thread budget f given all heard suits.
    let h = subst (λ (m : Seen). HasHeard c.args.code.now thread budget given m) (sym c.self.view_is) heard in
    let s = standing c.args.code.now thread budget given c.self.inside.phase c.self.inside.count
    (the_call c.self.inside.under_way) (task_seen c.self.inside.task) c.in_default.not-Failed c.in_default.not-Over h.at in
    let t = record c.self.inside.task { progress = record c.self.inside.task.progress { reply = c.args.reply } } in
    let r = asked_so c.args.code.now thread budget f all given c.args.reply (the_call c.self.inside.under_way) t (the_call c.run.new.under_way) c.run.new.self c.in-Asks.action c.in-Asks.ticks refl s
    (halts_at c.args.code.now c.self.inside.runner.number c.self.inside.runner.budget thread budget (Asks c.in-Asks.action c.in-Asks.ticks) (the_call c.self.inside.under_way) t (the_call c.run.new.under_way) c.run.new.self
    h.thread_is h.budget_is c.in-Asks.ensures.halts) in
    (record { thread_is = h.thread_is; budget_is = h.budget_is; at = r.1 }, tt)

pub returns-in-Stops-clause-told : goal.returns-in-Stops-clause-told
returns-in-Stops-clause-told c = λ thread budget f given all heard suits.
    let h = subst (λ (m : Seen). HasHeard c.args.code.now thread budget given m) (sym c.self.view_is) heard in
    let s = standing c.args.code.now thread budget given c.self.inside.phase c.self.inside.count
    (the_call c.self.inside.under_way) (task_seen c.self.inside.task) c.in_default.not-Failed c.in_default.not-Over h.at in
    let t = record c.self.inside.task { progress = record c.self.inside.task.progress { reply = c.args.reply } } in
    let r = stopped_so c.args.code.now thread budget f all given c.args.reply (the_call c.self.inside.under_way) t (the_call c.run.new.under_way) c.run.new.self c.in-Stops.stop c.in-Stops.ticks refl s
    (halts_at c.args.code.now c.self.inside.runner.number c.self.inside.runner.budget thread budget (Stops c.in-Stops.stop c.in-Stops.ticks) (the_call c.self.inside.under_way) t (the_call c.run.new.under_way) c.run.new.self
    h.thread_is h.budget_is c.in-Stops.ensures.halts) in
    c.wish_of-in-Stops.ensures ∙ sym r.0

pub returns-in-Stops-clause-heard : goal.returns-in-Stops-clause-heard
returns-in-Stops-clause-heard c = λ thread budget f given all heard suits.
    let h = subst (λ (m : Seen). HasHeard c.args.code.now thread budget given m) (sym c.self.view_is) heard in
    let s = standing c.args.code.now thread budget given c.self.inside.phase c.self.inside.count
    (the_call c.self.inside.under_way) (task_seen c.self.inside.task) c.in_default.not-Failed c.in_default.not-Over h.at in
    let t = record c.self.inside.task { progress = record c.self.inside.task.progress { reply = c.args.reply } } in
    let r = stopped_so c.args.code.now thread budget f all given c.args.reply (the_call c.self.inside.under_way) t (the_call c.run.new.under_way) c.run.new.self c.in-Stops.stop c.in-Stops.ticks refl s
    (halts_at c.args.code.now c.self.inside.runner.number c.self.inside.runner.budget thread budget (Stops c.in-Stops.stop c.in-Stops.ticks) (the_call c.self.inside.under_way) t (the_call c.run.new.under_way) c.run.new.self
    h.thread_is h.budget_is c.in-Stops.ensures.halts) in
    (record { thread_is = h.thread_is; budget_is = h.budget_is; at = r.1 }, tt)
