use Rattle.typing_rules.specs.Attributes.{Facts}
use Rattle.upc_checker_scopes.specs.layer.Views.{facts_of}
use Rattle.upc_checker_nodes.proofs.nodes.finish_unary.Goals as goal

pub returns-in-AddressOf : goal.returns-in-AddressOf
returns-in-AddressOf c =
    let φ : Facts = facts_of c.args.setting c.args.known.now in
    rw c.in-AddressOf.is (c.finish_address.ensures φ)

pub returns-in-Dereference : goal.returns-in-Dereference
returns-in-Dereference c =
    let φ : Facts = facts_of c.args.setting c.args.known.now in
    rw c.in-Dereference.is (c.finish_dereference.ensures φ)

pub returns-in-Plus : goal.returns-in-Plus
returns-in-Plus c =
    let φ : Facts = facts_of c.args.setting c.args.known.now in
    rw c.in-Plus.is (c.finish_operator.ensures φ)

pub returns-in-Minus : goal.returns-in-Minus
returns-in-Minus c =
    let φ : Facts = facts_of c.args.setting c.args.known.now in
    rw c.in-Minus.is (c.finish_operator-in-Minus.ensures φ)

pub returns-in-Complement : goal.returns-in-Complement
returns-in-Complement c =
    let φ : Facts = facts_of c.args.setting c.args.known.now in
    rw c.in-Complement.is (c.finish_operator-in-Complement.ensures φ)

pub returns-in-Not : goal.returns-in-Not
returns-in-Not c =
    let φ : Facts = facts_of c.args.setting c.args.known.now in
    rw c.in-Not.is (c.finish_operator-in-Not.ensures φ)
