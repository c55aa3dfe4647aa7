use Rattle.std.proofs.Common.{subst, ap, ◌∙◌, rules, w64}
use Rattle.std.proofs.Math.Facts.{to_z-of_z}
use Rattle.thread_steps.specs.Accesses.{into_shared}
use Rattle.upc_values.specs.declared.scalar.Value.{Value}
use Rattle.thread_steps.specs.States.{Doing}
use Rattle.stack_code.specs.layer.Codes.{thread_of}
use Rattle.stack_machine.specs.code.Turns.{Came, state_seen}
use Rattle.stack_machine.proofs.Holding.{if_loaded}
use Rattle.stack_machine_values.proofs.Privates.{is_private}
use Rattle.stack_machine.proofs.Accessing.{load_local_at, load_private_at}
use Rattle.stack_machine.proofs.progress.Progress.load_local.Goals as goal

pub returns-in-Shared-clause-does : goal.returns-in-Shared-clause-does
returns-in-Shared-clause-does c = λ thread budget before.
    subst (λ (m : Doing Value). Came before (m (state_seen before c.args.self.now)) c.load_shared.result c.args.self.now c.load_shared.new.self)
    (load_local_at (thread_of c.args.code.now thread budget) c.args.access.kind c.args.access.strict c.args.place c.args.p c.in-Shared.object c.in-Shared.thread c.in-Shared.offset c.into_shared.result c.in-Shared.is (c.into_shared.ensures.value ∙ ap (into_shared c.in-Shared.object c.in-Shared.thread) (to_z-of_z {w = w64} {z = c.in-Shared.offset} (search rules))))
    (c.load_shared.ensures.does thread budget before)

pub returns-in_default-clause-does : goal.returns-in_default-clause-does
returns-in_default-clause-does c = λ thread budget before.
    subst (λ (m : Doing Value). Came before (m (state_seen before c.args.self.now)) c.load_private.result c.args.self.now c.args.self.now)
    (load_private_at (thread_of c.args.code.now thread budget) c.args.access.kind c.args.access.strict c.args.place c.args.p (is_private c.args.p c.in_default.not-Shared))
    (c.load_private.ensures.does before)

pub returns-in_default-clause-value : goal.returns-in_default-clause-value
returns-in_default-clause-value c =
    if_loaded c.args.code.now.threads c.args.code.now.shapes c.args.p c.args.access.kind c.args.self.now.store
    c.load_private.result c.requires.store c.load_private.ensures.value
