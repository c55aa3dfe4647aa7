use Rattle.std.proofs.Common.{subst, ap, ◌∙◌, rules, w64}
use Rattle.std.proofs.Math.Facts.{to_z-of_z}
use Rattle.thread_steps.specs.Accesses.{into_shared}
use Rattle.thread_steps.specs.States.{Doing}
use Rattle.stack_code.specs.layer.Codes.{thread_of}
use Rattle.stack_machine.specs.code.Turns.{Came, state_seen}
use Rattle.stack_machine.proofs.Holding.{if_stored_so}
use Rattle.stack_machine_values.proofs.Privates.{is_private}
use Rattle.stack_machine.proofs.Accessing.{save_local_at, save_private_at}
use Rattle.stack_machine.proofs.progress.Progress.save_local.Goals as goal

pub returns-in-Shared-clause-does : goal.returns-in-Shared-clause-does
returns-in-Shared-clause-does c = λ thread budget before.
    subst (λ (m : Doing (Unit {0})). Came before (m (state_seen before c.args.self.now)) c.save_shared.result c.args.self.now c.save_shared.new.self)
    (save_local_at (thread_of c.args.code.now thread budget) c.args.access.kind c.args.access.strict c.args.place c.args.p c.in-Shared.object c.in-Shared.thread c.in-Shared.offset c.into_shared.result c.args.v c.in-Shared.is (c.into_shared.ensures.value ∙ ap (into_shared c.in-Shared.object c.in-Shared.thread) (to_z-of_z {w = w64} {z = c.in-Shared.offset} (search rules))))
    (c.save_shared.ensures.does thread budget before)

pub returns-in_default-clause-does : goal.returns-in_default-clause-does
returns-in_default-clause-does c = λ thread budget before.
    subst (λ (m : Doing (Unit {0})). Came before (m (state_seen before c.args.self.now)) c.save_private.result c.args.self.now c.save_private.new.self)
    (save_private_at (thread_of c.args.code.now thread budget) c.args.access.kind c.args.access.strict c.args.place c.args.p c.args.v (is_private c.args.p c.in_default.not-Shared))
    (c.save_private.ensures.does before)

pub returns-in_default-clause-held : goal.returns-in_default-clause-held
returns-in_default-clause-held c =
    if_stored_so c.args.code.now.threads c.args.code.now.shapes c.args.p c.args.access.kind c.args.v c.args.self.now.store
    c.save_private.new.self.store c.save_private.result c.requires.store c.requires.value c.save_private.ensures.stored
