use Rattle.std.proofs.Common.{◌≡◌, subst}
use Rattle.stack_machine.specs.layer.Machine.{Seen, HasAsked, HasHeard}
use Rattle.stack_machine.specs.code.Calls.{the_call}
use Rattle.stack_machine.specs.code.Tasks.{task_seen}
use Rattle.stack_machine.proofs.Machines.{ticks_so}
use Rattle.stack_machine.proofs.machine.Machine.ticks.Goals as goal

pub returns : goal.returns
returns c = λ asked codes thread budget f given all heard.
    subst (λ (m : Seen). HasAsked m → HasHeard codes thread budget given m → c.self.inside.count ≡ (f given).ticks)
    c.self.view_is
    (λ a h. ticks_so codes thread budget f all given c.self.inside.phase c.self.inside.count (the_call c.self.inside.under_way) (task_seen c.self.inside.task) a h.at)
    asked heard
