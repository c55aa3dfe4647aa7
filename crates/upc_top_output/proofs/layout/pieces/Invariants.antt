use Rattle.std.proofs.Common.{◌≡◌, ◌++◌}
use Rattle.upc_top_output.specs.Layout.{pieces_text}
use Rattle.upc_top_output.proofs.Lines.{pieces_from}
use Rattle.upc_top_output.proofs.layout.pieces.Given as goal

abbrev pub invariant-loop-thread : goal.invariant-loop-thread
invariant-loop-thread l = l.text.items ++ pieces_from l.threads l.object l.thread ≡ pieces_text l.threads l.object
