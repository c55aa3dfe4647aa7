use Rattle.typing_rules.specs.Attributes.{Facts}
use Rattle.upc_checker_scopes.specs.layer.Views.{facts_of}
use Rattle.upc_checker_nodes.proofs.nodes.finish_assign.Goals as goal

pub returns-in-Assign : goal.returns-in-Assign
returns-in-Assign c =
    let φ : Facts = facts_of c.args.setting c.args.known.now in
    rw c.in-Assign.is (c.finish_plain_assign.ensures φ)
