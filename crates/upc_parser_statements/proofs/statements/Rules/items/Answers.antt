use Rattle.std.proofs.Common.{rules}
use Rattle.upc_tree.specs.layer.Lists.{block_items_of}
use Rattle.upc_tree.specs.layer.ViewStatement.{view_block_item}
use Rattle.upc_parser_ground.specs.layer.Outcome.{starts}
use Rattle.upc_parser_ground.proofs.Ran.{ran_listed}
use Rattle.upc_parser_statements.specs.layer.Parse.{statements_at, items, item, no_brace}
use Rattle.upc_parser_statements.proofs.statements.Rules.items.Goals as goal

pub returns : goal.returns
unfolding items
returns g c = ran_listed view_block_item (starts no_brace) (item c.args.n (statements_at c.args.n)) _ (λ old new r p. search rules) block_items_of c.args.tokens.now.rest.now c.many.result c.many.new.tokens.rest.now c.many.ensures
