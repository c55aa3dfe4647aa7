use Rattle.std.proofs.Common.{◌∷◌, [], sym, ap, ◌∙◌, subst}
use Rattle.upc_types.specs.Types.{Structs}
use Rattle.upc_types.specs.View.{view}
use Rattle.upc_types.specs.ViewStructs.{view_structs}
use Rattle.typed_tree_opening.specs.declared.targets.Leaf.{Leaf}
use Rattle.typed_tree_opening.specs.code.Pending.{with_leaf, with_pending, AreEnded, IsDone}
use Rattle.typed_tree_opening.proofs.Pendings.{done_still, done_over, goes_in}
use Rattle.typed_tree_opening.proofs.targets.note_leaf.Goals as goal

pub returns-in_ok-note-in-Target-clause-done : goal.returns-in_ok-note-in-Target-clause-done
returns-in_ok-note-in-Target-clause-done c =
    subst (λ (x : Structs). IsDone x c.args.done.now) (sym c.in_ok-note-in-Target.ensures.ok)
    (done_still (view_structs c.args.structs.now) c.args.done.now (view c.in-Target.target ∷ []) c.requires.done)

pub returns-in_ok-push-in-Inside-clause-noted : goal.returns-in_ok-push-in-Inside-clause-noted
returns-in_ok-push-in-Inside-clause-noted c =
    let s = view_structs c.args.structs.now in
    let ps = c.args.pending.now.items in
    (goes_in s ps c.push.new.self.items c.in-Inside.number c.args.structs.now.kept.ordered
    c.in_ok-push-in-Inside.ensures.items
    (subst (λ (leaf : Leaf). AreEnded (with_leaf s leaf) ps) c.in-Inside.is c.requires.ended)).rest
    ∙ ap (λ (leaf : Leaf). with_pending (with_leaf s leaf) ps) (sym c.in-Inside.is)

pub returns-in_ok-push-in-Inside-clause-ended : goal.returns-in_ok-push-in-Inside-clause-ended
returns-in_ok-push-in-Inside-clause-ended c =
    let s = view_structs c.args.structs.now in
    let ps = c.args.pending.now.items in
    (goes_in s ps c.push.new.self.items c.in-Inside.number c.args.structs.now.kept.ordered
    c.in_ok-push-in-Inside.ensures.items
    (subst (λ (leaf : Leaf). AreEnded (with_leaf s leaf) ps) c.in-Inside.is c.requires.ended)).ended

pub returns-else-not-is_marked-clause-noted : goal.returns-else-not-is_marked-clause-noted
returns-else-not-is_marked-clause-noted c =
    let s = view_structs c.args.structs.now in
    sym (ap (λ (x : Structs). with_pending x c.args.pending.now.items)
    (ap (with_leaf s) c.in-Inside.is
    ∙ done_over s c.args.done.now c.in-Inside.number c.requires.done c.if-not-is_marked.ensures))

pub returns-else-not-is_marked-clause-ended : goal.returns-else-not-is_marked-clause-ended
returns-else-not-is_marked-clause-ended c =
    let s = view_structs c.args.structs.now in
    subst (λ (x : Structs). AreEnded x c.args.pending.now.items)
    (ap (with_leaf s) c.in-Inside.is
    ∙ done_over s c.args.done.now c.in-Inside.number c.requires.done c.if-not-is_marked.ensures)
    c.requires.ended
