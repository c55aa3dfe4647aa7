use Rattle.std.proofs.Common.{length, sym, ◌∙◌, subst}
use Rattle.std.proofs.lemmas.Result.{err_from_is_err_and}
use Rattle.upc_lexer.specs.Numbers.{NumbersFit}
use Rattle.upc_macros.specs.Expansion.{IsExpansion}
use Rattle.upc_top.proofs.Stages.{stops_lexing, stops_expanding, stops_parsing, reads}
use Rattle.upc_top.proofs.front.read_tree.Goals as goal

pub returns-in_err-lexed-clause-refused : goal.returns-in_err-lexed-clause-refused
returns-in_err-lexed-clause-refused c threads =
    let p = err_from_is_err_and c.from_residual.result c.from_residual.ensures.1 in
    rw (p.1, p.2) (stops_lexing threads c.args.source.now c.in_err-lexed.field-0.0 c.in_err-lexed.ensures.refused)

pub returns-in_err-tokens-clause-refused : goal.returns-in_err-tokens-clause-refused
returns-in_err-tokens-clause-refused c threads =
    let p = err_from_is_err_and c.from_residual-in_err-tokens.result c.from_residual-in_err-tokens.ensures.1 in
    rw (p.1, p.2) (stops_expanding threads c.args.source.now _ _ c.in_ok-lexed.ensures.tokens c.in_err-tokens.field-0.0 c.in_err-tokens.ensures.refused)

pub returns-in_err-unit-clause-refused : goal.returns-in_err-unit-clause-refused
returns-in_err-unit-clause-refused c threads =
    let p = err_from_is_err_and c.from_residual-in_err-unit.result c.from_residual-in_err-unit.ensures.1 in
    let lexed = c.in_ok-lexed.lexed in
    let expansion = subst (IsExpansion c.args.source.now lexed.tokens.items (length lexed.names)) (sym c.as_slice.ensures.value) c.in_ok-tokens.ensures.expansion in
    let e = c.in_err-unit.ensures in
    rw (p.1, p.2) (stops_parsing threads c.args.source.now _ _ c.in_ok-lexed.ensures.tokens c.as_slice.result.now expansion c.in_err-unit.field-0.0 e.syntax e.limit e.refused)

pub returns-clause-numbers : goal.returns-clause-numbers
returns-clause-numbers c =
    subst NumbersFit (sym (c.in_ok-unit.ensures.found.spelled ∙ c.as_slice.ensures.value)) c.in_ok-tokens.ensures.numbers

pub returns-clause-read : goal.returns-clause-read
returns-clause-read c =
    let lexed = c.in_ok-lexed.lexed in
    let expansion = subst (IsExpansion c.args.source.now lexed.tokens.items (length lexed.names)) (sym c.as_slice.ensures.value) c.in_ok-tokens.ensures.expansion in
    reads 0 c.args.source.now _ _ c.in_ok-lexed.ensures.tokens c.as_slice.result.now expansion _ c.in_ok-unit.ensures.found
