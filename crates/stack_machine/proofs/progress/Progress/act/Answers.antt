use Rattle.std.proofs.Common.{◌≡◌, [], Option, Some, None, true, sym, ◌∙◌, subst}
use Rattle.block_layout.specs.declared.kind.Kind.{Kind}
use Rattle.upc_values.specs.Expansion.{after_reply}
use Rattle.upc_values.specs.Formed.{fits}
use Rattle.upc_values.specs.LibraryCalls.{gives_zero}
use Rattle.upc_library.specs.layer.Wishes.{kind_read}
use Rattle.stack_machine.specs.layer.Machine.{listed}
use Rattle.stack_machine.specs.code.Calls.{left_of}
use Rattle.stack_machine.specs.code.Inside.{StandsInside}
use Rattle.stack_machine.specs.code.Walking.{body_with}
use Rattle.stack_machine.proofs.Answering.{act_goes, fewer}
use Rattle.stack_machine.proofs.progress.Progress.act.Goals as goal

pub returns-else-not-fits-clause-goes : goal.returns-else-not-fits-clause-goes
returns-else-not-fits-clause-goes c = λ thread budget given b h.
    let code = c.args.code.now in
    let p = c.args.self.now in
    let x = left_of code.shapes c.args.walk.now in
    let r = c.in-Some.reply in
    let there : p.reply ≡ Some r = cc in
    let gone : c.take.new.self ≡ None = cc in
    let fit : fits code.threads code.shapes (kind_read x) c.args.action r ≡ true =
    subst (λ (k : Option Kind). fits code.threads code.shapes k c.args.action r ≡ true) (c.reads.ensures code.shapes)
    (sym c.fits.ensures.value ∙ c.if-not-fits.false) in
    subst (λ o. StandsInside code thread budget given (listed o) c.args.place (gives_zero (after_reply x r)) (body_with b p))
    (sym gone)
    (act_goes code thread budget given c.args.place (body_with b p) x c.args.action r p.store [] c.requires fit
    (subst (λ o. StandsInside code thread budget given (listed o) c.args.place (gives_zero x) (body_with b p)) there h))

pub returns-else-not-fits-clause-taken : goal.returns-else-not-fits-clause-taken
returns-else-not-fits-clause-taken c =
    let there : c.args.self.now.reply ≡ Some c.in-Some.reply = cc in
    let gone : c.take.new.self ≡ None = cc in
    fewer c.args.self.now.reply c.take.new.self c.in-Some.reply gone there
