use Rattle.std.proofs.Common.{◌≡◌, ◌++◌, drop}
use Rattle.std.specs.List.{flat_map}
use Rattle.upc_top_output.specs.Layout.{layout_line}
use Rattle.upc_top_output.proofs.layout.lines.Given as goal

abbrev pub invariant-loop-object : goal.invariant-loop-object
invariant-loop-object l = l.text.items ++ flat_map (layout_line l.threads) (drop l.object-index l.objects) ≡ flat_map (layout_line l.threads) l.objects
