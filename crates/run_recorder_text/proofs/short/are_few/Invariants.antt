use Rattle.std.proofs.Common.{◌≡◌, ◌+◌, drop}
use Rattle.run_recorder_text.specs.Short.{item_count, most_items}
use Rattle.run_recorder_text.proofs.short.are_few.Given as goal

abbrev pub invariant-loop-strand : goal.invariant-loop-strand
invariant-loop-strand l =
    item_count (drop l.strand-index l.strands) + most_items ≡ item_count l.strands + l.left
