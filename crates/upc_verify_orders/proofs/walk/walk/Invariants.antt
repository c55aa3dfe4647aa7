use Rattle.std.proofs.Common.{◌↔◌, ◌≤◌, drop}
use Rattle.upc_values.specs.Lists.{Each, Pairwise}
use Rattle.upc_verify_orders.specs.code.Tables.{reached, reaches}
use Rattle.upc_verify_orders.proofs.walk.walk.Given as goal

-- nothing so far has reached behind where the rest reaches, just where this holds of the whole
abbrev pub invariant-loop-name : goal.invariant-loop-name
invariant-loop-name l =
    (Each (λ b. l.most ≤ reaches l.strict b) (drop l.name-index l.order)
    × Pairwise (λ a b. reached l.strict a ≤ reaches l.strict b) (drop l.name-index l.order))
    ↔ Pairwise (λ a b. reached l.strict a ≤ reaches l.strict b) l.order
