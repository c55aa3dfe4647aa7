use Rattle.std.proofs.Common.{◌+◌, ◌*◌, ◌++◌, sym, ap, ◌∙◌, append_assoc, arith}
use Rattle.block_layout.specs.Cells.{moved, copies}
use Rattle.block_layout.proofs.Within.{copies_step}
use Rattle.block_layout.proofs.Within.{last_copy}
use Rattle.block_layout.proofs.cell_lists.push_lists.Goals as goal

pub push_moved-requires-clause-near : goal.push_moved-requires-clause-near
push_moved-requires-clause-near c =
    let h = last_copy c.loop-i.i c.args.count c.args.size c.loop-i-test.true in
    omega arith

pub loop-i-preserved : goal.loop-i-preserved
loop-i-preserved c =
    let s = copies_step c.args.start c.loop-i.i c.args.size c.args.part.now in
    let done = c.loop-i.invariant.done in
    record {
      done = c.in_ok-push_moved.ensures ∙ ap (λ xs. xs ++ moved (c.args.start + c.loop-i.i * c.args.size) c.args.part.now) done
          ∙ append_assoc c.args.cells.now.items (moved c.args.start (copies c.loop-i.i c.args.size c.args.part.now)) (moved (c.args.start + c.loop-i.i * c.args.size) c.args.part.now)
          ∙ ap (λ xs. c.args.cells.now.items ++ xs) (sym s);
    }
