use Rattle.std.proofs.Common.{sym, ◌∙◌, subst}
use Rattle.upc_lexer.specs.Numbers.{NumbersFit}
use Rattle.tests_runs.proofs.front.program_of.Goals as goal

pub check-requires-clause-numbers : goal.check-requires-clause-numbers
check-requires-clause-numbers c =
    subst NumbersFit (sym (c.in_ok-unit.ensures.found.spelled ∙ c.as_slice.ensures.value)) c.in_ok-tokens.ensures.numbers
