use Rattle.std.proofs.Common.{◌<◌, length, map, reverse, refl, arith}
use Rattle.upc_types.specs.declared.structs.Held.TheVariants.{Own}
use Rattle.upc_types.specs.View.{view, view_completed}
use Rattle.upc_types.specs.Layout.{layout_in}
use Rattle.upc_types.specs.Cells.{struct_cells}
use Rattle.upc_types.proofs.Holding.{held_room, held_one}
use Rattle.upc_types.proofs.structs.Structs.hold.Goals as goal

pub invariant_of-self : goal.invariant_of-self
invariant_of-self c =
    let s = c.args.self.now in
    let cs = reverse (map view_completed s.completed.items) in
    record {
      kept = s.kept;
      made = s.made;
      held = held_room (layout_in cs) (struct_cells (map view s.targets.list.items) cs) s.cells.items c.make_room.new.list.items c.make_room.ensures.same s.held;
    }

pub invariant_of-self-2 : goal.invariant_of-self-2
invariant_of-self-2 c =
    let s = c.args.self.now in
    let cs = reverse (map view_completed s.completed.items) in
    let list = c.make_room.new.list.items in
    let room : c.args.number < length list = omega (arith, c.in_ok-make_room.ensures.room, c.make_room.new.list.ok) in
    record {
      kept = s.kept;
      made = s.made;
      held = held_one (layout_in cs) (struct_cells (map view s.targets.list.items) cs) list c.args.number (Own c.args.cells) room
          (held_room (layout_in cs) (struct_cells (map view s.targets.list.items) cs) s.cells.items list c.make_room.ensures.same s.held) (refl, c.requires.cells);
    }
