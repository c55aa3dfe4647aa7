use Rattle.std.proofs.Common.{Option, sym, subst}
use Rattle.std.specs.Prelude.{IfSome}
use Rattle.block_layout.specs.Shapes.{IsShape}
use Rattle.block_layout.specs.declared.kind.Shape.{Shape}
use Rattle.upc_library.proofs.Ranges.{each_get}
use Rattle.upc_library.proofs.areas.shape_at.Goals as goal

pub returns-clause-valid : goal.returns-clause-valid
returns-clause-valid c =
    subst (λ (o : Option Shape). IfSome o IsShape) (sym c.shape_of.ensures)
    (each_get IsShape c.args.caller.now.shapes.now c.args.p.now.object.shape c.requires.each)
