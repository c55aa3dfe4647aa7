use Rattle.std.proofs.Common.{List, subst}
use Rattle.std.proofs.lemmas.List.{get_or_default}
use Rattle.upc_values.specs.declared.order.Op.{Op}
use Rattle.upc_verify_orders.specs.code.Found.{AreFound}
use Rattle.upc_verify_orders.proofs.Taken.{absent, found-more, take-whole}
use Rattle.upc_verify_orders.proofs.find.find_all.Goals as goal

pub loop-name-preserved : goal.loop-name-preserved
loop-name-preserved c =
    found-more c.args.operations.now c.args.names.now c.loop-name.name-index _ c.loop-name.at.items c.push.new.self.items c.in-Some.number
    c.loop-name-test.true c.loop-name.invariant c.in-Some.ensures.0 c.in-Some.ensures.1 c.in_ok-push-in-Some.ensures.items

pub returns-in-None : goal.returns-in-None
returns-in-None c = λ list e h.
    let i = c.loop-name.name-index in
    absent c.args.operations.now c.args.names.now list i _ c.loop-name-test.true
    (get_or_default c.args.names.now i _ _ c.loop-name-test.true) e h c.in-None.ensures

pub returns : goal.returns
returns c =
    subst (λ (l : List Op). AreFound c.args.operations.now l c.loop-name.at.items)
    (take-whole c.args.names.now c.loop-name.name-index c.loop-name-test.false) c.loop-name.invariant
