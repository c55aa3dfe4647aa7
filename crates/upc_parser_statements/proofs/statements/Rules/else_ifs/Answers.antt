use Rattle.std.proofs.Common.{rules}
use Rattle.upc_lexer.specs.declared.token.Word.TheVariants as w
use Rattle.upc_tree.specs.layer.Lists.{else_ifs_of}
use Rattle.upc_tree.specs.layer.ViewStatement.{view_else_if}
use Rattle.upc_parser_ground.specs.layer.Outcome.{starts_two, is_word}
use Rattle.upc_parser_ground.proofs.Ran.{ran_listed}
use Rattle.upc_parser_statements.specs.layer.Parse.{statements_at, else_ifs, else_if}
use Rattle.upc_parser_statements.proofs.statements.Rules.else_ifs.Goals as goal

pub returns : goal.returns
unfolding else_ifs
returns g c = ran_listed view_else_if (starts_two (is_word w.Else) (is_word w.If)) (else_if c.args.n (statements_at c.args.n)) _ (λ old new r p. search rules) else_ifs_of c.args.tokens.now.rest.now c.many.result c.many.new.tokens.rest.now c.many.ensures
