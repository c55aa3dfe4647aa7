use Rattle.std.proofs.Common.{rules}
use Rattle.upc_tree.specs.layer.ViewStatement.{view_external}
use Rattle.upc_parser_ground.specs.layer.Outcome.{starts}
use Rattle.upc_parser_ground.specs.layer.Ahead.{is_any}
use Rattle.upc_parser_ground.proofs.Ran.{ran_reads}
use Rattle.upc_parser_sources.specs.layer.Parse.{all_externals, external_at}
use Rattle.upc_parser_sources.proofs.externals.externals.Goals as goal

pub returns : goal.returns
unfolding all_externals
returns c = ran_reads view_external (starts is_any) (external_at c.args.height) _ (λ old new r p. search rules) c.args.tokens.now.rest.now c.many.result c.many.new.tokens.rest.now c.many.ensures
