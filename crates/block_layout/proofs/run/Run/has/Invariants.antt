use Rattle.std.proofs.Common.{◌≡◌, ◌&&◌, drop}
use Rattle.std.specs.List.{list_any}
use Rattle.block_layout.specs.code.Runs.{hits}
use Rattle.block_layout.specs.Shapes.{same_kind}
use Rattle.block_layout.proofs.run.Run.has.Given as goal

abbrev pub invariant-loop-offset : goal.invariant-loop-offset
invariant-loop-offset l = record {
  items : l.offset-items ≡ l.self.cells;
  rest : list_any (λ c. hits l.self.start l.self.stride l.self.count c.0 l.place && same_kind c.1 l.kind) (drop l.offset-index l.offset-items)
      ≡ list_any (λ c. hits l.self.start l.self.stride l.self.count c.0 l.place && same_kind c.1 l.kind) l.self.cells;
}
