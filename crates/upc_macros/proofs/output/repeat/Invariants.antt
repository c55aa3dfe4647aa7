use Rattle.std.proofs.Common.{take, drop}
use Rattle.upc_macros.specs.code.Table.{Takes}
use Rattle.upc_macros.specs.code.Walk.{placed_items}
use Rattle.upc_macros.proofs.output.repeat.Given as goal

abbrev pub invariant-loop-index : goal.invariant-loop-index
invariant-loop-index l = Takes l.fn.expanded.items l.expanded.items (placed_items l.place (take l.index (drop l.from l.fn.expanded.items)))
