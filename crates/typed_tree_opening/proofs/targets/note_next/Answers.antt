use Rattle.std.proofs.Common.{◌+◌, ◌++◌, refl, sym, ap, ◌∙◌, subst, arith}
use Rattle.upc_types.specs.declared.structs.Member as d
use Rattle.upc_types.specs.Cells.{leaf_base}
use Rattle.upc_types.specs.View.{view_base}
use Rattle.upc_types.specs.ViewStructs.{view_structs}
use Rattle.typed_tree.specs.Targets.{leaf_targets, struct_targets}
use Rattle.typed_tree_opening.specs.declared.targets.Pending.{Pending}
use Rattle.typed_tree_opening.specs.code.Pending.{pending_targets, with_leaf, with_pending, AreEnded}
use Rattle.typed_tree_opening.proofs.Pendings.{over, goes_on, done_more, at_next}
use Rattle.typed_tree_opening.proofs.targets.note_next.Goals as goal

pub returns-then-next-members-clause-noted : goal.returns-then-next-members-clause-noted
returns-then-next-members-clause-noted c =
    (over (view_structs c.args.structs.now) c.args.pending.now.items c.args.next c.members-members.result.now
    c.members-members.ensures c.if-next-members.true c.requires.ended).rest

pub returns-then-next-members-clause-done : goal.returns-then-next-members-clause-done
returns-then-next-members-clause-done c =
    let s = view_structs c.args.structs.now in
    let noted = (over s c.args.pending.now.items c.args.next c.members-members.result.now
    c.members-members.ensures c.if-next-members.true c.requires.ended).noted in
    done_more s c.args.done.now c.mark_done.new.done c.args.next.number c.mark_done.ensures c.requires.done noted

pub returns-then-next-members-clause-ended : goal.returns-then-next-members-clause-ended
returns-then-next-members-clause-ended c =
    (over (view_structs c.args.structs.now) c.args.pending.now.items c.args.next c.members-members.result.now
    c.members-members.ensures c.if-next-members.true c.requires.ended).ended

pub note_leaf-requires-clause-ended : goal.note_leaf-requires-clause-ended
note_leaf-requires-clause-ended c =
    let s = view_structs c.args.structs.now in
    let behind : Pending = record { number = c.args.next.number; member = c.args.next.member + 1 } in
    let next = at_next s.completed c.args.next.number c.args.next.member c.members-members.result.now
    c.index-members-next.result c.members-members.ensures (omega arith) c.index-members-next.is in
    let leaf = ap (λ (m : d.Member). leaf_targets (struct_targets s.completed) (leaf_base (view_base m.ctype.base)))
    c.index-members-next.is ∙ sym (c.in_ok-leaf.ensures (struct_targets s.completed)) in
    let on = goes_on s c.args.pending.now.items c.args.next behind c.in_ok-leaf.leaf refl
    (next ∙ ap (λ ts. ts ++ pending_targets s.completed behind) leaf) c.requires.ended in
    subst (AreEnded (with_leaf s c.in_ok-leaf.leaf)) (sym c.in_ok-push.ensures.items) on.ended

pub returns-clause-noted : goal.returns-clause-noted
returns-clause-noted c =
    let s = view_structs c.args.structs.now in
    let behind : Pending = record { number = c.args.next.number; member = c.args.next.member + 1 } in
    let next = at_next s.completed c.args.next.number c.args.next.member c.members-members.result.now
    c.index-members-next.result c.members-members.ensures (omega arith) c.index-members-next.is in
    let leaf = ap (λ (m : d.Member). leaf_targets (struct_targets s.completed) (leaf_base (view_base m.ctype.base)))
    c.index-members-next.is ∙ sym (c.in_ok-leaf.ensures (struct_targets s.completed)) in
    let on = goes_on s c.args.pending.now.items c.args.next behind c.in_ok-leaf.leaf refl
    (next ∙ ap (λ ts. ts ++ pending_targets s.completed behind) leaf) c.requires.ended in
    c.in_ok-note_leaf.ensures.noted ∙ ap (with_pending (with_leaf s c.in_ok-leaf.leaf)) c.in_ok-push.ensures.items
    ∙ on.rest
