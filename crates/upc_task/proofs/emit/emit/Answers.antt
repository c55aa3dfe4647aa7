use Rattle.std.proofs.Common.{◌≡◌, true, [], sym, subst, ap, ◌∙◌}
use Rattle.std.specs.Prelude.{IfSome}
use Rattle.upc_values.specs.Drain.{emptied}
use Rattle.upc_values.specs.History.{reply}
use Rattle.upc_values.specs.Formed.{IsWellFormed, fits_after}
use Rattle.upc_values.specs.layer.Known.{gives_known}
use Rattle.memory_history.specs.layer.World.{answer_of}
use Rattle.memory_history.specs.layer.Turns.{takes_turn}
use Rattle.upc_task.specs.layer.Kept.{Holds}
use Rattle.upc_task.specs.code.Emits.{Emitted}
use Rattle.upc_task.proofs.Buffers.{emitted-forwarded, forwarded-answers, emitted-looked, emitted-passed, emitted-empties, found-none, answer-is, holds-emptied, grew-then, grew-performed, asked-grew}
use Rattle.upc_task.proofs.Turns.{turn-committed}
use Rattle.upc_task.proofs.emit.emit.Goals as goal

pub returns-in-Some-clause-holds : goal.returns-in-Some-clause-holds
returns-in-Some-clause-holds c = λ w k.
    emitted-forwarded c.args.world.now.0 c.args.thread c.args.next c.in-Some.field-0-0 c.in-Looks.loc c.in-Some.value c.args.world.now.1 c.args.buffer.now
    c.args.action w (sym c.in-Looks.ensures) c.in-Some.ensures.youngest k

pub returns-in-Some-clause-answer : goal.returns-in-Some-clause-answer
returns-in-Some-clause-answer c =
    forwarded-answers c.args.world.now.0 c.args.thread c.in-Some.field-0-0 c.in-Looks.loc c.in-Some.value c.args.world.now.1 c.args.buffer.now c.args.action
    c.keeps.ensures.opening c.keeps.ensures.legal c.keeps.ensures.formed c.requires.pending (sym c.in-Looks.ensures) c.in-Some.ensures.youngest

pub returns-in_ok-step-in-None-clause-holds : goal.returns-in_ok-step-in-None-clause-holds
returns-in_ok-step-in-None-clause-holds c = λ w k.
    let e = c.in_ok-step-in-None.ensures in
    emitted-looked c.args.world.now.0 c.args.thread c.args.next c.in-Looks.loc c.args.world.now.1 c.perform_owned.new.self.1 c.args.buffer.now c.args.action
    (answer_of c.in_ok-step-in-None.step) w c.requires.asked (sym c.in-Looks.ensures) (found-none _ c.in-None.ensures.youngest) e.reply e.entries k

pub returns-in_ok-step-in-None-clause-answer : goal.returns-in_ok-step-in-None-clause-answer
returns-in_ok-step-in-None-clause-answer c =
    let e = c.in_ok-step-in-None.ensures in
    answer-is c.args.world.now.0 c.args.thread c.args.next c.args.world.now.1 c.perform_owned.new.self.1 c.args.action
    (answer_of c.in_ok-step-in-None.step) c.requires.asked e.reply e.fits
    (subst (λ z. IfSome (answer_of c.in_ok-step-in-None.step) (λ r. gives_known z c.perform_owned.new.self.1 r ≡ true)) e.opening e.known) e.entries

pub returns-in_ok-step-in-Empties-clause-holds : goal.returns-in_ok-step-in-Empties-clause-holds
returns-in_ok-step-in-Empties-clause-holds c = λ w k.
    let o = c.args.world.now.0 in let t = c.args.thread in let n = c.args.next in let ps = c.args.buffer.now in
    let all = c.in_ok-empty-in-Empties.ensures.all in
    let mid : Holds o t c.empty.new.world.1 [] n (emptied w) =
    subst (λ l. Holds o t l [] n (emptied w)) (sym all.1) (holds-emptied o t n c.args.world.now.1 ps w k) in
    subst (λ p. Emitted o t c.perform_owned-in-Empties.new.self.1 p n c.args.action (answer_of c.in_ok-step-in-Empties.step) w) (sym all.0)
    (emitted-empties o t n c.empty.new.world.1 c.perform_owned-in-Empties.new.self.1 c.args.action (answer_of c.in_ok-step-in-Empties.step) w
    (sym c.in-Empties.ensures) c.in_ok-step-in-Empties.ensures.entries mid)

pub returns-in_ok-step-in-Empties-clause-answer : goal.returns-in_ok-step-in-Empties-clause-answer
returns-in_ok-step-in-Empties-clause-answer c =
    let o = c.args.world.now.0 in let t = c.args.thread in let mid = c.empty.new.world.1 in let a = c.args.action in
    let e = c.in_ok-step-in-Empties.ensures in let f = c.in_ok-empty-in-Empties.ensures in
    answer-is o t c.args.next mid c.perform_owned-in-Empties.new.self.1 a (answer_of c.in_ok-step-in-Empties.step)
    (asked-grew o t c.args.world.now.1 mid a c.requires.asked f.grew)
    (e.reply ∙ ap (λ z. reply z mid t a) f.opening)
    (subst (λ z. IfSome (answer_of c.in_ok-step-in-Empties.step) (λ r. fits_after z mid a r ≡ true)) f.opening e.fits)
    (subst (λ z. IfSome (answer_of c.in_ok-step-in-Empties.step) (λ r. gives_known z c.perform_owned-in-Empties.new.self.1 r ≡ true)) (e.opening ∙ f.opening) e.known) e.entries

pub returns-in_ok-step-in-Empties-clause-grew : goal.returns-in_ok-step-in-Empties-clause-grew
returns-in_ok-step-in-Empties-clause-grew c =
    let t = c.args.thread in let mid = c.empty.new.world.1 in let new = c.perform_owned-in-Empties.new.self.1 in
    grew-then t c.args.world.now.1 mid new
    (grew-performed t c.args.next mid new c.args.action (answer_of c.in_ok-step-in-Empties.step) c.in_ok-step-in-Empties.ensures.entries)
    c.in_ok-empty-in-Empties.ensures.grew

pub perform_owned-requires-in-Empties-clause-formed : goal.perform_owned-requires-in-Empties-clause-formed
perform_owned-requires-in-Empties-clause-formed c =
    let f = c.in_ok-empty-in-Empties.ensures in let mid = c.empty.new.world.1 in let a = c.args.action in
    subst (λ o. IsWellFormed o mid a) (sym f.opening)
    (asked-grew c.args.world.now.0 c.args.thread c.args.world.now.1 mid a c.requires.asked f.grew)

pub perform_owned-requires-in-Empties-clause-turns : goal.perform_owned-requires-in-Empties-clause-turns
perform_owned-requires-in-Empties-clause-turns c =
    let t = c.args.thread in let a = c.args.action in
    subst (λ l. takes_turn l t a ≡ true) (sym c.in_ok-empty-in-Empties.ensures.all.1)
    (turn-committed t a c.args.world.now.1 c.args.buffer.now ∙ c.requires.turns)

pub returns-in_ok-step-in-Passes-clause-holds : goal.returns-in_ok-step-in-Passes-clause-holds
returns-in_ok-step-in-Passes-clause-holds c = λ w k.
    let e = c.in_ok-step-in-Passes.ensures in
    emitted-passed c.args.world.now.0 c.args.thread c.args.next c.args.world.now.1 c.perform_owned-in-Passes.new.self.1 c.args.buffer.now
    c.args.action (answer_of c.in_ok-step-in-Passes.step) w (sym c.in-Passes.ensures) e.reply e.entries k
