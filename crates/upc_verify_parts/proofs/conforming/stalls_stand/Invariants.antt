use Rattle.std.proofs.Common.{◌↔◌}
use Rattle.std.specs.Option.{option_copied}
use Rattle.upc_values.specs.Strands.{StallsStand}
use Rattle.upc_verify_parts.specs.code.Stalls.{StandFrom}
use Rattle.upc_verify_parts.proofs.conforming.stalls_stand.Given as goal

-- the Stalls stand exactly where those that are left do
abbrev pub invariant-loop-item : goal.invariant-loop-item
invariant-loop-item l =
    StandFrom l.stalled (option_copied l.want) l.item-iterator ↔ StallsStand (option_copied l.want) l.items
