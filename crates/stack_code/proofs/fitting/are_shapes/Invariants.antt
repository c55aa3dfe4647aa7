use Rattle.std.proofs.Common.{◌↔◌, drop}
use Rattle.block_layout.specs.Shapes.{IsShape}
use Rattle.upc_values.specs.Lists.{Each}
use Rattle.stack_code.proofs.fitting.are_shapes.Given as goal

abbrev pub invariant-loop-shape : goal.invariant-loop-shape
invariant-loop-shape l = Each IsShape (drop l.shape-index l.shapes) ↔ Each IsShape l.shapes
