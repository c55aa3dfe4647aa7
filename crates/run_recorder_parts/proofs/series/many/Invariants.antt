use Rattle.std.proofs.Common.{◌≡◌, ◌-◌}
use Rattle.run_recorder_parts.specs.layer.Readers.{many, texts}
use Rattle.run_recorder_parts.proofs.Loops.{with_front}
use Rattle.run_recorder_parts.proofs.series.many.Given as goal

abbrev pub invariant-loop-at : goal.invariant-loop-at
invariant-loop-at g l = with_front l.found.items (many l.at (l.count - l.at) g.T.Part.of (texts l.parts.rest.now))
    ≡ many 0 l.count g.T.Part.of (texts l.fn.parts.rest.now)
