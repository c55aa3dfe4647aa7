use Rattle.std.proofs.Common.{ap, ◌∙◌, rules, arith}
use Rattle.std.proofs.lemmas.Grind.{common_steps}
use Rattle.upc_types.specs.ViewStructs.{view_structs}
use Rattle.typing_rules.specs.Nodes.{view_attr}
use Rattle.typed_tree.specs.ViewTree.{view_kind}
use Rattle.typed_tree.proofs.Built.{call_is, comma_is}
use Rattle.typed_tree.specs.Allocated.{allocated_kind}
use Rattle.typed_tree_opening.proofs.allocated.+typed_calls.Goals as goal

pub push_expr-returns-in_ok-push_exprs-in-Call : goal.push_expr-returns-in_ok-push_exprs-in-Call
push_expr-returns-in_ok-push_exprs-in-Call t c =
    let v = ap (allocated_kind (view_structs c.args.structs.now) (view_attr c.args.e.now.attr))
    (ap view_kind c.in-Call.is ∙ call_is c.in-Call.target c.in-Call.args) in
    first_of (search rules, grind (arith, common_steps))

pub push_expr-returns-in-Comma : goal.push_expr-returns-in-Comma
push_expr-returns-in-Comma t c =
    let v = ap (allocated_kind (view_structs c.args.structs.now) (view_attr c.args.e.now.attr))
    (ap view_kind c.in-Comma.is ∙ comma_is c.in-Comma.parts) in
    first_of (search rules, grind (arith, common_steps))
