use Rattle.std.proofs.Common.{◌≡◌, ◌↔◌, List, sym, ap, ◌∙◌, subst, arith}
use Rattle.upc_values.specs.Lists.{Has}
use Rattle.upc_values.specs.Operations.{Operation}
use Rattle.upc_values.specs.Orders.{IsOf}
use Rattle.upc_verify_orders.specs.code.Below.{operations_below}
use Rattle.upc_verify_orders.proofs.Below.{all-below}
use Rattle.upc_verify_orders.proofs.accesses.operations_of.Goals as goal

pub returns-clause-all : goal.returns-clause-all
returns-clause-all c = λ o.
    let j = c.args.journal.now in
    let e : c.loop-thread.thread ≡ j.threads = omega arith in
    let is : c.loop-thread.list.items ≡ operations_below j j.threads = c.loop-thread.invariant ∙ ap (operations_below j) e in
    subst (λ (l : List Operation). Has l o ↔ IsOf j o) (sym is) (all-below j o)
