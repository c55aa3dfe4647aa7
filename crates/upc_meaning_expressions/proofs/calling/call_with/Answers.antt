use Rattle.std.proofs.Common.{ap}
use Rattle.typed_tree.specs.ViewTree.{view_kind}
use Rattle.typed_tree.proofs.Built.{call_is}
use Rattle.upc_meaning_expressions.proofs.calling.call_with.Goals as goal

pub call_target-requires-clause-kind : goal.call_target-requires-clause-kind
call_target-requires-clause-kind c = cc (ap view_kind c.in-Call.is, call_is c.in-Call.target c.in-Call.list)
