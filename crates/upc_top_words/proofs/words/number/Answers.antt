use Rattle.std.proofs.Common.{◌∙◌, ap, sym, Some, Option, ℕ}
use Rattle.upc_top_words.proofs.Numbers.{number_read, number_none}
use Rattle.upc_top_words.proofs.words.number.Goals as goal

abbrev some : ℕ → Option ℕ
some n = Some n

pub returns-in-Ok : goal.returns-in-Ok
returns-in-Ok c = let p = c.in-Ok.ensures.value.0 in ap some p.1 ∙ sym (number_read c.args.text.now p.0.0 p.0.1)

pub returns-in-Err : goal.returns-in-Err
returns-in-Err c = sym (number_none c.args.text.now (λ h. c.in-Err.ensures.value.0 h))
