use Rattle.std.proofs.Common.{◌∙◌, sym, subst, arith, decimal}
use Rattle.std.proofs.lemmas.Str.{IsUtf8-from_ascii}
use Rattle.std.proofs.lemmas.Fmt.{IsAscii-decimal_wide}
use Rattle.std.specs.Str.{IsUtf8}
use Rattle.run_recorder_parts.proofs.Numbers.{value, number_none, read_err, read_more, read_ok, read_other, differs, alike}
use Rattle.std.specs.declared.num.ParseIntError.{ParseIntError}
use Rattle.run_recorder_parts.proofs.fields.number.Goals as goal

pub returns-in_default : goal.returns-in_default
returns-in_default c = sym (number_none c.args.most c.args.word.now (λ le is.
    c.in_default.ensures.cases.0
    (subst IsUtf8 (sym is)
    (IsUtf8-from_ascii (decimal (value c.args.word.now))
    (IsAscii-decimal_wide (value c.args.word.now) (omega arith))))))

pub returns-in_default-parse : goal.returns-in_default-parse
returns-in_default-parse c =
    read_err _ c.args.most c.args.word.now c.in-Ok.text.now c.in_default-parse.field-0 (omega arith)
    c.in-Ok.ensures.cases.0 c.in_default-parse.ensures.value.0

pub returns-then-value-most : goal.returns-then-value-most
returns-then-value-most c =
    read_more ParseIntError c.args.most c.args.word.now c.in-Ok.text.now c.in-Ok-parse.value (omega arith)
    c.in-Ok.ensures.cases.0 c.in-Ok-parse.ensures.value.0 c.if-value-most.true

pub returns-then-ne : goal.returns-then-ne
returns-then-ne c = read_other ParseIntError c.args.most c.args.word.now c.in-Ok.text.now c.in-Ok-parse.value
    (omega arith) c.in-Ok.ensures.cases.0 c.in-Ok-parse.ensures.value.0
    (λ same. differs c.as_bytes.result.now c.args.word.now c.if-ne.ensures (c.as_bytes.ensures.value
    ∙ c.format.ensures.text ∙ same))

pub returns : goal.returns
returns c = read_ok c.args.most c.args.word.now c.in-Ok-parse.value (omega arith) (sym c.format.ensures.text
    ∙ sym c.as_bytes.ensures.value ∙ alike c.as_bytes.result.now c.args.word.now c.if-ne.ensures)
    c.if-value-most.false
