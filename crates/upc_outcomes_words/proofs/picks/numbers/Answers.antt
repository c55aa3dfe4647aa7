use Rattle.std.proofs.Common.{◌≡◌, ◌∙◌, get_or, None, sym, ap}
use Rattle.std.proofs.lemmas.List.{get_or_default}
use Rattle.upc_outcomes_words.specs.Picks.{Partly, step}
use Rattle.upc_outcomes_words.proofs.Reading.{read-none, digit-stops}
use Rattle.upc_outcomes_words.proofs.picks.numbers.Goals as goal

pub returns-in_default : goal.returns-in_default
returns-in_default c =
    let text = c.args.text.now in
    let at = c.loop-byte.byte-index in
    let p : Partly = record { done = c.loop-byte.done.items; now = c.loop-byte.now } in
    let none : step 44 p ≡ None =
    ap (λ o. step 44 (record { done = c.loop-byte.done.items; now = o })) c.in_default.is in
    let comma : get_or text at 44 ≡ 44 = get_or_default text at 44 0 c.loop-byte-test.true ∙ c.if-byte-eq44.true in
    sym (read-none p text at 44 c.loop-byte-test.true comma none) ∙ c.loop-byte.invariant

pub returns-in_default-longer : goal.returns-in_default-longer
returns-in_default-longer c =
    let text = c.args.text.now in
    let at = c.loop-byte.byte-index in
    let p : Partly = record { done = c.loop-byte.done.items; now = c.loop-byte.now } in
    let b = get_or text at 0 in
    let none : step b p ≡ None = digit-stops b p c.if-byte-eq44.false (sym c.longer.ensures ∙ c.in_default-longer.is) in
    let here : get_or text at b ≡ b = get_or_default text at b 0 c.loop-byte-test.true in
    sym (read-none p text at b c.loop-byte-test.true here none) ∙ c.loop-byte.invariant
