use Rattle.std.proofs.Common.{sym, ◌∙◌, subst}
use Rattle.std.specs.Prelude.{Result}
use Rattle.upc_values.specs.declared.action.Reply.{Reply}
use Rattle.upc_library.specs.layer.Wishes.{IsWish}
use Rattle.upc_library.specs.declared.copying.CopyWish.{CopyWish}
use Rattle.stack_machine.specs.declared.progress.Progress.{Progress}
use Rattle.stack_machine.specs.declared.wish.Halt.{Halt}
use Rattle.stack_machine.specs.layer.Machine.{listed}
use Rattle.stack_machine.specs.code.Calls.{left_of, replies_there}
use Rattle.stack_machine.specs.code.Walking.{IsHalted, IsAnswered, body_with}
use Rattle.std.proofs.Common.{◌<◌}
use Rattle.stack_machine.proofs.CollectivesOf.{loads_not, stores_not}
use Rattle.stack_machine.proofs.Answering.{finished, taken_by}
use Rattle.stack_machine.proofs.progress.Progress.answer.Goals as goal
use Rattle.stack_machine.proofs.progress.Progress.answer.Goals.{in-Act, in-LoadPrivate, in-StorePrivate}

pub returns-in-Finished-clause-goes : goal.returns-in-Finished-clause-goes
returns-in-Finished-clause-goes c = λ thread budget given b h.
    let p = c.args.self.now in
    finished c.args.code.now thread budget given c.args.place (body_with b p)
    (left_of c.args.code.now.shapes c.args.walk.now) p.store (listed p.reply)
    (subst (λ (w : CopyWish). IsWish (left_of c.args.code.now.shapes c.args.walk.now) w) c.in-Finished.is c.requires.wish)
    h

pub returns-in-Err-clause-goes : goal.returns-in-Err-clause-goes
returns-in-Err-clause-goes c = λ thread budget given b h.
    let x = left_of c.args.code.now.shapes c.args.walk.now in
    elim c.match-wish.branch [
      | in-Act w ↦
          subst (λ (q : Progress). IsHalted c.args.code.now thread budget given c.args.place x b c.in-Err.halt q)
          (sym w.self-is)
          (subst (λ (r : Result Reply Halt). IsAnswered c.args.code.now thread budget given c.args.place x b r
          w.act-answer.new.self) (sym w.answer-is ∙ c.in-Err.is) (w.act-answer.ensures.goes thread budget given b h))
      | in-LoadPrivate w ↦
          subst (λ (q : Progress). IsHalted c.args.code.now thread budget given c.args.place x b c.in-Err.halt q)
          (sym w.self-is)
          (subst (λ (r : Result Reply Halt). IsAnswered c.args.code.now thread budget given c.args.place x b r
          c.args.self.now) (sym w.answer-is ∙ c.in-Err.is) (w.load_cell-answer.ensures.goes thread budget given b h))
      | in-StorePrivate w ↦
          subst (λ (q : Progress). IsHalted c.args.code.now thread budget given c.args.place x b c.in-Err.halt q)
          (sym w.self-is)
          (subst (λ (r : Result Reply Halt). IsAnswered c.args.code.now thread budget given c.args.place x b r
          w.save_cell-answer.new.self) (sym w.answer-is ∙ c.in-Err.is)
          (w.save_cell-answer.ensures.goes thread budget given b h))
    ]

pub returns-in-Ok-clause-taken : goal.returns-in-Ok-clause-taken
returns-in-Ok-clause-taken c = λ h.
    let x = left_of c.args.code.now.shapes c.args.walk.now in
    elim c.match-wish.branch [
      | in-Act w ↦
          subst (λ (q : Progress). replies_there q.reply < replies_there c.args.self.now.reply) (sym w.self-is)
          (taken_by w.act-answer.result c.in-Ok.reply _ (sym w.answer-is ∙ c.in-Ok.is) w.act-answer.ensures.taken)
      | in-LoadPrivate w ↦ absurd (loads_not x w.in-LoadPrivate.p w.in-LoadPrivate.kind (subst (IsWish x) w.in-LoadPrivate.is c.requires.wish) h)
      | in-StorePrivate w ↦ absurd (stores_not x w.in-StorePrivate.p w.in-StorePrivate.kind w.in-StorePrivate.v (subst (IsWish x) w.in-StorePrivate.is c.requires.wish) h)
    ]
