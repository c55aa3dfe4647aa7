use Rattle.upc_parser.proofs.Answered.{end_found, end_answered, end_syntax, end_limit, end_refused}
use Rattle.upc_parser.proofs.source.parse.Goals as goal

pub returns-clause-found : goal.returns-clause-found
returns-clause-found c = end_found c.args.tokens.now c.whole.result c.whole.ensures

pub returns-clause-answered : goal.returns-clause-answered
returns-clause-answered c = end_answered c.args.tokens.now c.whole.result c.whole.ensures

pub returns-clause-syntax : goal.returns-clause-syntax
returns-clause-syntax c = end_syntax c.args.tokens.now c.whole.result c.whole.ensures

pub returns-clause-limit : goal.returns-clause-limit
returns-clause-limit c = end_limit c.args.tokens.now c.whole.result c.whole.ensures

pub returns-clause-refused : goal.returns-clause-refused
returns-clause-refused c = end_refused c.args.tokens.now c.whole.result c.whole.ensures
