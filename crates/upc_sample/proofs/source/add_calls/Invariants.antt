use Rattle.std.proofs.Common.{◌≡◌, ◌++◌}
use Rattle.std.specs.List.{flat_map, range_with_len}
use Rattle.upc_sample.specs.Sample as source
use Rattle.upc_sample.proofs.Parts.{parts_from}
use Rattle.upc_sample.proofs.source.add_calls.Given as goal

abbrev pub invariant-loop-number : goal.invariant-loop-number
invariant-loop-number l =
    l.text.items ++ parts_from source.call l.stages l.number
    ≡ l.initial.text.items ++ flat_map source.call (range_with_len 0 l.stages)
