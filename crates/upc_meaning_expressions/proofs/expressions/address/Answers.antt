use Rattle.std.proofs.Common.{ap}
use Rattle.typed_tree.specs.ViewTree.{view_kind}
use Rattle.typed_tree.proofs.Built.{call_is, comma_is}
use Rattle.upc_meaning_expressions.proofs.expressions.address.Goals as goal

pub call-requires : goal.call-requires
call-requires c = cc (ap view_kind c.in-Call.is, call_is c.in-Call.target c.in-Call.args)

pub comma-requires : goal.comma-requires
comma-requires c = cc (ap view_kind c.in-Comma.is, comma_is c.in-Comma.parts)
