use Rattle.std.proofs.Common.{◌≡◌, ◌+◌, ◌≤◌, true, map, reverse, sym, subst, arith}
use Rattle.upc_types.specs.View.{view, view_base, view_completed}
use Rattle.upc_types.specs.Layout.{base_complete, complete_in, known_in, most_bytes}
use Rattle.upc_types.proofs.Ranks.{place_or_none, rank}
use Rattle.upc_types.proofs.Steps.{begun, at_index}
use Rattle.upc_types.proofs.structs.Structs.+cells.Goals as goal

pub struct_cells-loop-member-init : goal.struct_cells-loop-member-init
struct_cells-loop-member-init t c =
    let cs = reverse (map view_completed c.args.self.now.completed.items) in
    let targets = map view c.args.self.now.targets.list.items in
    let kept = c.args.self.now.kept in
    let b = begun targets cs c.args.number kept.ordered (kept.fine c.args.number) c.requires.complete in
    let ms = c.members-members.ensures in
    record {
      rest = rw (c.new-cells.ensures, ms) b.cells;
      ends = rw ms b.ends;
      before = rw ms b.before;
    }

pub struct_cells-whole_layout-layout-requires-clause-complete : goal.struct_cells-whole_layout-layout-requires-clause-complete
struct_cells-whole_layout-layout-requires-clause-complete t c =
    let cs = reverse (map view_completed c.args.self.now.completed.items) in
    let a = at_index cs (place_or_none (known_in cs c.args.number)) c.loop-member.end c.members-members.result.now c.loop-member.member-index c.member-item.result (omega arith) c.member-item.is c.loop-member.invariant.before c.loop-member.invariant.ends in
    a.complete

pub struct_cells-whole_layout-layout-requires-clause-few : goal.struct_cells-whole_layout-layout-requires-clause-few
struct_cells-whole_layout-layout-requires-clause-few t c =
    let cs = reverse (map view_completed c.args.self.now.completed.items) in
    let a = at_index cs (place_or_none (known_in cs c.args.number)) c.loop-member.end c.members-members.result.now c.loop-member.member-index c.member-item.result (omega arith) c.member-item.is c.loop-member.invariant.before c.loop-member.invariant.ends in
    a.few

pub struct_cells-leaf_cells_by-requires : goal.struct_cells-leaf_cells_by-requires
struct_cells-leaf_cells_by-requires t c =
    let cs = reverse (map view_completed c.args.self.now.completed.items) in
    let a = at_index cs (place_or_none (known_in cs c.args.number)) c.loop-member.end c.members-members.result.now c.loop-member.member-index c.member-item.result (omega arith) c.member-item.is c.loop-member.invariant.before c.loop-member.invariant.ends in
    let deep : rank cs (view_base c.leaf_of.result.now) ≤ place_or_none (known_in cs c.args.number) = subst (λ b. rank cs b ≤ place_or_none (known_in cs c.args.number)) (sym c.leaf_of.ensures) a.deep in
    (omega (arith, deep, c.decreases), (subst (λ b. base_complete (complete_in cs) b ≡ true) (sym c.leaf_of.ensures) a.leaf, c.requires.kept))

pub struct_cells-aligned-start-requires-clause-near : goal.struct_cells-aligned-start-requires-clause-near
struct_cells-aligned-start-requires-clause-near t c =
    let cs = reverse (map view_completed c.args.self.now.completed.items) in
    let a = at_index cs (place_or_none (known_in cs c.args.number)) c.loop-member.end c.members-members.result.now c.loop-member.member-index c.member-item.result (omega arith) c.member-item.is c.loop-member.invariant.before c.loop-member.invariant.ends in
    omega (arith, a.end_few)

pub struct_cells-push_leaves-requires-clause-complete : goal.struct_cells-push_leaves-requires-clause-complete
struct_cells-push_leaves-requires-clause-complete t c =
    let cs = reverse (map view_completed c.args.self.now.completed.items) in
    let a = at_index cs (place_or_none (known_in cs c.args.number)) c.loop-member.end c.members-members.result.now c.loop-member.member-index c.member-item.result (omega arith) c.member-item.is c.loop-member.invariant.before c.loop-member.invariant.ends in
    a.complete

pub struct_cells-push_leaves-requires-clause-near : goal.struct_cells-push_leaves-requires-clause-near
struct_cells-push_leaves-requires-clause-near t c =
    let cs = reverse (map view_completed c.args.self.now.completed.items) in
    let a = at_index cs (place_or_none (known_in cs c.args.number)) c.loop-member.end c.members-members.result.now c.loop-member.member-index c.member-item.result (omega arith) c.member-item.is c.loop-member.invariant.before c.loop-member.invariant.ends in
    rw (c.aligned-start.ensures.value, c.whole_layout-layout.ensures.value) a.near

pub struct_cells-overflow_add-end : goal.struct_cells-overflow_add-end
struct_cells-overflow_add-end t c =
    let cs = reverse (map view_completed c.args.self.now.completed.items) in
    let a = at_index cs (place_or_none (known_in cs c.args.number)) c.loop-member.end c.members-members.result.now c.loop-member.member-index c.member-item.result (omega arith) c.member-item.is c.loop-member.invariant.before c.loop-member.invariant.ends in
    let near : c.aligned-start.result + c.whole_layout-layout.result.size ≤ most_bytes = rw (c.aligned-start.ensures.value, c.whole_layout-layout.ensures.value) a.near in
    omega arith
