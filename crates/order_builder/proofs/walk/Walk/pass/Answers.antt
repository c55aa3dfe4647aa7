use Rattle.std.proofs.Common.{refl}
use Rattle.std.proofs.lemmas.Result.{on_ok_weaker}
use Rattle.order_builder.specs.declared.walk.Walk.{Walk}
use Rattle.order_builder.specs.code.Views.{entry_in}
use Rattle.order_builder.proofs.Showing.{passed-shown}
use Rattle.order_builder.proofs.walk.Walk.pass.Goals as goal

pub returns : goal.returns
returns c =
    let s = c.args.self.now in
    let r : Walk = record { next = s.next; emitted = c.push.new.self; pending = s.pending; agrees = s.agrees } in
    on_ok_weaker c.count.result
    (λ e.
    passed-shown (entry_in c.args.latest) c.in_ok-commit_of.field-0 s r c.count.new.self c.in_ok-commit_of.ensures
    c.in_ok-push.ensures refl refl refl e)
    c.count.ensures
