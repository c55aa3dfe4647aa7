use Rattle.upc_lexer.proofs.OneList.{tokens_once, refusal_once, tokens_or_refusal}
use Rattle.upc_lexer.proofs.lexing.one_cut.Goals as goal

pub returns : goal.returns
returns c = record { tokens = tokens_once; refusal = refusal_once; either = tokens_or_refusal }
