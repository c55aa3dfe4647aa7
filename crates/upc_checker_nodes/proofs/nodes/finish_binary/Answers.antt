use Rattle.typing_rules.specs.Attributes.{Facts}
use Rattle.upc_checker_scopes.specs.layer.Views.{facts_of}
use Rattle.upc_checker_nodes.proofs.nodes.finish_binary.Goals as goal

pub returns-in-And : goal.returns-in-And
returns-in-And c =
    let φ : Facts = facts_of c.args.setting c.args.known.now in
    rw c.in-And.is (c.finish_and.ensures φ)

pub returns-in-Or : goal.returns-in-Or
returns-in-Or c =
    let φ : Facts = facts_of c.args.setting c.args.known.now in
    rw c.in-Or.is (c.finish_or.ensures φ)
