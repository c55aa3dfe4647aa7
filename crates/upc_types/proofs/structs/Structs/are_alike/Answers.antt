use Rattle.upc_types.specs.ViewStructs.{view_structs}
use Rattle.upc_types.proofs.MadeAlike.{alike_layout, alike_cells}
use Rattle.upc_types.proofs.structs.Structs.are_alike.Goals as goal

pub returns-clause-layout : goal.returns-clause-layout
returns-clause-layout c h =
    alike_layout (view_structs c.args.self.now) c.args.number c.args.other c.members.result.now c.members-2.result.now c.args.self.now.kept.ordered c.requires.number c.requires.other c.members.ensures c.members-2.ensures (c.same_parts.ensures h)

pub returns-clause-cells : goal.returns-clause-cells
returns-clause-cells c h =
    alike_cells (view_structs c.args.self.now) c.args.number c.args.other c.members.result.now c.members-2.result.now c.args.self.now.kept.ordered c.requires.number c.requires.other c.members.ensures c.members-2.ensures (c.same_parts.ensures h)
