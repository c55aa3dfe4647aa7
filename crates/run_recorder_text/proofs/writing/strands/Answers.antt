use Rattle.run_recorder_text.specs.Lines.{strand_lines}
use Rattle.run_recorder_text.proofs.Wholes.{numbered_step}
use Rattle.run_recorder_text.proofs.writing.strands.Goals as goal

pub loop-t-preserved : goal.loop-t-preserved
loop-t-preserved c =
    numbered_step strand_lines c.loop-t.out.items c.strand.new.out.items _ c.loop-t.t c.args.strands.now
    c.index-strands-t.result c.loop-t-test.true c.index-strands-t.is c.in_ok-strand.ensures c.loop-t.invariant
