use Rattle.std.proofs.Common.{◌≡◌, refl, sym, subst}
use Rattle.std.specs.Prelude.{OnOk}
use Rattle.thread_steps.specs.States.{Res, Val}
use Rattle.stack_machine.specs.code.Turns.{Came, Gave, state_seen}
use Rattle.stack_machine.proofs.Holding.{if_stored_so}
use Rattle.stack_machine.proofs.Parameters.{one_at, none_is}
use Rattle.stack_machine.proofs.progress.Progress.receive_one.Goals as goal

pub returns-in-None-clause-does : goal.returns-in-None-clause-does
returns-in-None-clause-does c = λ τ before.
    subst (λ (r : Res (Unit {0})). Gave r tt c.args.self.now)
    (sym (none_is τ c.args.place c.args.number c.args.cell c.args.v (state_seen before c.args.self.now) c.in-None.is)) (refl, refl)

pub returns-in-None-clause-exact : goal.returns-in-None-clause-exact
returns-in-None-clause-exact c = λ τ before.
    none_is τ c.args.place c.args.number c.args.cell c.args.v (state_seen before c.args.self.now) c.in-None.is

pub returns-in-Some-clause-does : goal.returns-in-Some-clause-does
returns-in-Some-clause-does c = λ τ before.
    subst (λ (r : Res (Unit {0})). Came before r c.save_private.result c.args.self.now c.save_private.new.self)
    (one_at τ c.args.place c.args.number c.args.cell c.in-Some.access c.args.v c.local_pointer-p.result (state_seen before c.args.self.now) c.in-Some.is
    c.local_pointer-p.ensures.value c.local_pointer-p.ensures.private) (c.save_private.ensures.does before)

pub returns-in-Some-clause-exact : goal.returns-in-Some-clause-exact
returns-in-Some-clause-exact c = λ τ before.
    subst (λ (r : Res (Unit {0})). OnOk c.save_private.result (r ≡ Val tt (state_seen before c.save_private.new.self)))
    (one_at τ c.args.place c.args.number c.args.cell c.in-Some.access c.args.v c.local_pointer-p.result (state_seen before c.args.self.now) c.in-Some.is
    c.local_pointer-p.ensures.value c.local_pointer-p.ensures.private) (c.save_private.ensures.exact before)

pub returns-in-Some-clause-held : goal.returns-in-Some-clause-held
returns-in-Some-clause-held c = λ threads shapes h k.
    if_stored_so threads shapes c.local_pointer-p.result c.in-Some.access.kind c.args.v c.args.self.now.store
    c.save_private.new.self.store c.save_private.result h k c.save_private.ensures.stored
