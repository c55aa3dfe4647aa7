use Rattle.std.proofs.Common.{◌≡◌, [], arith, sym, ap, ◌∙◌, append-nil}
use Rattle.std.proofs.lemmas.List.{nil_from_length}
use Rattle.upc_types.specs.Cells.{leaf_base}
use Rattle.upc_types.specs.View.{view_base}
use Rattle.upc_types.specs.ViewStructs.{view_structs}
use Rattle.typed_tree.specs.Targets.{leaf_targets, struct_targets}
use Rattle.typed_tree.specs.layer.Parts.{with_noted}
use Rattle.typed_tree_opening.specs.code.Pending.{with_leaf, with_pending}
use Rattle.typed_tree_opening.proofs.targets.note_targets.Goals as goal

pub loop-init : goal.loop-init
loop-init c =
    let s = view_structs c.args.structs.now in
    record {
      rest =
          c.in_ok-note_leaf.ensures.noted
          ∙ ap (with_pending (with_leaf s c.in_ok-leaf_in.field-0)) c.new-pending.ensures.items
          ∙ ap (with_noted s) (c.in_ok-leaf_in.ensures (struct_targets s.completed));
      done = c.in_ok-note_leaf.ensures.done;
      ended = c.in_ok-note_leaf.ensures.ended;
    }

pub returns-in-None-clause-noted : goal.returns-in-None-clause-noted
returns-in-None-clause-noted c =
    let s = view_structs c.args.structs.now in
    let empty : c.loop.pending.items ≡ [] =
    nil_from_length c.loop.pending.items (omega (arith, c.in-None.ensures.cases.0)) in
    sym (ap (with_pending (view_structs c.loop.structs)) empty) ∙ c.loop.invariant.rest
    ∙ ap (with_noted s)
    (sym (append-nil (leaf_targets (struct_targets s.completed) (leaf_base (view_base c.args.t.now.base)))))
