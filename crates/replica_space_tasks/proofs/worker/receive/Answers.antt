use Rattle.std.proofs.Common.{rules, ◌≡◌, ◌%◌, false, ap, subst, sym}
use Rattle.replica_space.specs.Spaces.{is_synchronising}
use Rattle.replica_space_tasks.specs.code.Dues.{IsDue}
use Rattle.replica_space_tasks.proofs.Dues.{taken-is, history-taken}
use Rattle.replica_space_tasks.proofs.worker.receive.Goals as goal

pub returns-in_ok-deliver-clause-due : goal.returns-in_ok-deliver-clause-due
returns-in_ok-deliver-clause-due c =
    let n = c.args.run.now.0.threads in let old = c.args.run.now.1 in let new = c.deliver.new.self.1 in
    let t = c.args.thread in let i = c.args.index in let e = c.in_ok-deliver.ensures in
    let plain : is_synchronising c.args.action.now ≡ false = search rules in
    subst (λ b. IsDue b n t i old new) (sym plain)
    (taken-is n t i (i % c.threads.result) old new c.in_ok-deliver.field-0 (ap (λ m. i % m) c.threads.ensures) e.found.0 e.found.1 e.events)

pub returns-in_ok-deliver-clause-history : goal.returns-in_ok-deliver-clause-history
returns-in_ok-deliver-clause-history c =
    let n = c.args.run.now.0.threads in let old = c.args.run.now.1 in let new = c.deliver.new.self.1 in
    let t = c.args.thread in let i = c.args.index in let e = c.in_ok-deliver.ensures in
    history-taken n t i old new
    (taken-is n t i (i % c.threads.result) old new c.in_ok-deliver.field-0 (ap (λ m. i % m) c.threads.ensures) e.found.0 e.found.1 e.events)
