use Rattle.std.proofs.Common.{sym, ◌∙◌, arith}
use Rattle.block_layout.specs.declared.kind.Kind.TheVariants.{Char}
use Rattle.block_layout.proofs.Same.{lengths_differ, cells_more, cells_end}
use Rattle.block_layout.proofs.cell_lists.same_lists.Goals as goal

pub returns-then-a-b : goal.returns-then-a-b
returns-then-a-b c = sym (lengths_differ c.args.a.now c.args.b.now c.if-a-b.true)

pub loop-i-preserved : goal.loop-i-preserved
loop-i-preserved c =
    let e = cells_more c.args.a.now c.args.b.now c.loop-i.i (0, Char) (0, Char) (omega arith) (omega arith)
    (sym c.same_cell.ensures ∙ c.if-not-same_cell.false) in
    record { rest = e ∙ c.loop-i.invariant.rest; lengths = c.if-a-b.false }

pub returns : goal.returns
returns c = sym (cells_end c.args.a.now c.args.b.now c.loop-i.i (omega arith) (omega arith)) ∙ c.loop-i.invariant.rest
