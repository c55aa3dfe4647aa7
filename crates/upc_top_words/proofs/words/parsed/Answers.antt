use Rattle.upc_top_words.proofs.Given.{is_given}
use Rattle.upc_top_words.proofs.words.parsed.Goals as goal

pub returns-in-Ok-clause-given : goal.returns-in-Ok-clause-given
returns-in-Ok-clause-given c = is_given c.in_ok-line.line c.in-Ok.matches c.in_ok-line.ensures c.in-Ok.ensures.parsed
