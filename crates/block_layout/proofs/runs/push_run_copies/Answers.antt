use Rattle.std.proofs.Common.{◌+◌, ◌*◌, ◌≤◌, ◌++◌, sym, ap, ◌∙◌, append_assoc, arith}
use Rattle.block_layout.specs.Moved.{moved, copies}
use Rattle.block_layout.specs.code.Runs.{runs_cells}
use Rattle.block_layout.proofs.Near.{near_within}
use Rattle.block_layout.proofs.Within.{copies_step, last_copy}
use Rattle.block_layout.proofs.runs.push_run_copies.Goals as goal

pub push_moved_runs-requires : goal.push_moved_runs-requires
push_moved_runs-requires c =
    let h = last_copy c.loop-i.i c.args.count c.args.size c.loop-i-test.true in
    let near : c.args.start + c.loop-i.i * c.args.size + c.args.size ≤ 4294967295 = omega arith in
    near_within (runs_cells c.args.runs.now) (c.args.start + c.loop-i.i * c.args.size) 0 c.args.size near c.requires.within

pub loop-i-preserved : goal.loop-i-preserved
loop-i-preserved c =
    let cells = runs_cells c.args.runs.now in
    let s = copies_step c.args.start c.loop-i.i c.args.size cells in
    let done = c.loop-i.invariant.done in
    record {
      done = c.in_ok-push_moved_runs.ensures ∙ ap (λ xs. xs ++ moved (c.args.start + c.loop-i.i * c.args.size) cells) done
          ∙ append_assoc (runs_cells c.args.to.now.items) (moved c.args.start (copies c.loop-i.i c.args.size cells)) (moved (c.args.start + c.loop-i.i * c.args.size) cells)
          ∙ ap (λ xs. runs_cells c.args.to.now.items ++ xs) (sym s);
    }
