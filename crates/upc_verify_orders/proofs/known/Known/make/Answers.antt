use Rattle.std.proofs.Common.{sym, subst, ap, ◌∙◌}
use Rattle.upc_verify_orders.specs.code.Found.{AreSorted}
use Rattle.upc_verify_orders.specs.layer.Numbers.{numbers_in}
use Rattle.upc_verify_orders.proofs.Sorted.{below-sorted}
use Rattle.upc_verify_orders.proofs.known.Known.make.Goals as goal

pub returns-clause-known : goal.returns-clause-known
returns-clause-known c =
    let j = c.args.journal.now in
    record {
      sorted = subst AreSorted (sym c.in_ok-operations.ensures.in_order) (below-sorted j j.threads);
      numbered = c.in_ok-numbers.ensures ∙ ap numbers_in c.as_slice.ensures.value;
    }
