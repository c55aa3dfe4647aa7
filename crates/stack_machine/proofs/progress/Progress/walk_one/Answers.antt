use Rattle.std.proofs.Common.{◌≡◌, List, sym, subst}
use Rattle.block_layout.specs.declared.kind.Shape.{Shape}
use Rattle.upc_library.specs.layer.Wishes.{RefusesSo}
use Rattle.upc_values.specs.Expansion.{Expansion, after_reply}
use Rattle.stack_machine.specs.code.Calls.{left_of, WritesHeld}
use Rattle.stack_machine.specs.code.Walking.{IsInside}
use Rattle.stack_machine.proofs.CallsOf.{after_held}
use Rattle.stack_machine.proofs.Answering.{refuses_so, refused_firm, nearer_by}
use Rattle.stack_machine.proofs.progress.Progress.walk_one.Goals as goal

pub answer-requires-clause-wish : goal.answer-requires-clause-wish
answer-requires-clause-wish c = c.in_ok-wish.ensures c.args.code.now.shapes

pub returns-in-Ok-None-clause-goes : goal.returns-in-Ok-None-clause-goes
returns-in-Ok-None-clause-goes c = λ thread budget given b h.
    (rw c.in-Ok-None.field-0-is at c.in-Ok-None.ensures.goes) thread budget given b h

pub returns-in-Err-take-clause-goes : goal.returns-in-Err-take-clause-goes
returns-in-Err-take-clause-goes c = λ thread budget given b h.
    let code = c.args.code.now in
    refuses_so code thread budget given c.args.place b
    (after_reply (left_of code.shapes c.args.walk.now) c.in-Ok-Some.reply) (left_of code.shapes c.take.new.self)
    c.in-Err-take.e c.refused.result c.answer.new.self
    (subst (λ (l : List Shape). RefusesSo c.in-Err-take.e (after_reply (left_of l c.args.walk.now) c.in-Ok-Some.reply))
    c.shapes.ensures.value c.in-Err-take.ensures.refused) c.refused.ensures
    ((rw c.in-Ok-Some.field-0-is at c.in-Ok-Some.ensures.goes) thread budget given b h)

pub returns-in-Err-take-clause-values : goal.returns-in-Err-take-clause-values
returns-in-Err-take-clause-values c =
    refused_firm
    (WritesHeld c.args.code.now.threads c.args.code.now.shapes (left_of c.args.code.now.shapes c.take.new.self))
    c.in-Err-take.e c.args.place c.answer.new.self.ticks c.refused.result c.refused.ensures

pub returns-in-Ok-clause-goes : goal.returns-in-Ok-clause-goes
returns-in-Ok-clause-goes c = λ thread budget given b h.
    subst (λ (x : Expansion (Unit {0})). IsInside c.args.code.now thread budget given c.args.place x b c.answer.new.self)
    (sym (subst (λ (l : List Shape). left_of l c.take.new.self ≡ after_reply (left_of l c.args.walk.now) c.in-Ok-Some.reply)
    c.shapes.ensures.value c.in-Ok.ensures.rest))
    ((rw c.in-Ok-Some.field-0-is at c.in-Ok-Some.ensures.goes) thread budget given b h)

pub returns-in-Ok-clause-values : goal.returns-in-Ok-clause-values
returns-in-Ok-clause-values c =
    let code = c.args.code.now in
    subst (λ (x : Expansion (Unit {0})). WritesHeld code.threads code.shapes x)
    (sym (subst (λ (l : List Shape). left_of l c.take.new.self ≡ after_reply (left_of l c.args.walk.now) c.in-Ok-Some.reply)
    c.shapes.ensures.value c.in-Ok.ensures.rest))
    (after_held code.threads code.shapes (left_of code.shapes c.args.walk.now) c.in-Ok-Some.reply c.requires.values
    (rw c.in-Ok-Some.field-0-is at c.in-Ok-Some.ensures.held))

pub returns-in-Ok-clause-falls : goal.returns-in-Ok-clause-falls
returns-in-Ok-clause-falls c = λ e.
    c.in-Ok.ensures.falls c.args.self.now.reply c.answer.new.self.reply
    (nearer_by c.args.code.now.shapes c.args.walk.now c.args.self.now.reply c.answer.new.self.reply
    (rw c.in-Ok-Some.field-0-is at c.in-Ok-Some.ensures.unfinished)
    (rw c.in-Ok-Some.field-0-is at c.in-Ok-Some.ensures.taken))
