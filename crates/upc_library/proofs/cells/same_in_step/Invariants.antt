use Rattle.std.proofs.Common.{◌≡◌, ◌+◌, ◌%◌, Some}
use Rattle.upc_values.specs.Views.{cells_within}
use Rattle.upc_library.specs.code.Cursors.{IsCursor}
use Rattle.upc_library.proofs.cells.same_in_step.Given as goal

abbrev pub invariant-loop-i : goal.invariant-loop-i
invariant-loop-i l = record {
  first : l.here.place ≡ (l.first + l.i) % l.a.size;
  second : l.there.place ≡ (l.second + l.i) % l.b.size;
  here : IsCursor l.a l.here.place l.here.next l.here.left;
  there : IsCursor l.b l.there.place l.there.next l.there.left;
  same : cells_within (Some l.a) l.first l.i ≡ cells_within (Some l.b) l.second l.i;
}
