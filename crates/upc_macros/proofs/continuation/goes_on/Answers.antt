use Rattle.std.proofs.Common.{◌+◌, drop, ap, sym, ◌∙◌}
use Rattle.upc_macros.specs.Continuation.{goes_on}
use Rattle.upc_macros.proofs.ContinuationLemmas.{one_byte, text_stays, end_stays, all_read}
use Rattle.upc_macros.proofs.continuation.goes_on.Goals as goal

pub returns-in-Text : goal.returns-in-Text
returns-in-Text c =
    let read = one_byte c.loop-byte.reading c.args.bytes.now c.loop-byte.byte-index c.loop-byte-test.true in
    let text = ap (λ r. goes_on r (drop (c.loop-byte.byte-index + 1) c.args.bytes.now)) (sym c.after_byte-reading.ensures ∙ c.in-Text.is) in
    sym (text_stays (drop (c.loop-byte.byte-index + 1) c.args.bytes.now)) ∙ sym text ∙ sym read ∙ c.loop-byte.invariant

pub returns-in-LineEnd : goal.returns-in-LineEnd
returns-in-LineEnd c =
    let read = one_byte c.loop-byte.reading c.args.bytes.now c.loop-byte.byte-index c.loop-byte-test.true in
    let ended = ap (λ r. goes_on r (drop (c.loop-byte.byte-index + 1) c.args.bytes.now)) (sym c.after_byte-reading.ensures ∙ c.in-LineEnd.is) in
    sym (end_stays (drop (c.loop-byte.byte-index + 1) c.args.bytes.now)) ∙ sym ended ∙ sym read ∙ c.loop-byte.invariant

pub returns : goal.returns
returns c = c.is_text.ensures ∙ sym (all_read c.loop-byte.reading c.args.bytes.now c.loop-byte.byte-index c.loop-byte-test.false) ∙ c.loop-byte.invariant
