use Rattle.upc_parser.proofs.Laws as laws
use Rattle.upc_parser.proofs.source.one_tree.Goals as goal

pub returns : goal.returns
returns c = laws.one_tree
