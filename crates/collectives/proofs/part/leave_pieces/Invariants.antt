use Rattle.std.proofs.Common.{◌≡◌, ◌||◌, drop, take, map}
use Rattle.std.specs.List.{list_any, All}
use Rattle.upc_values.specs.Views.{leaves_piece}
use Rattle.collectives.specs.code.Parts.{part_of, HasRoom}
use Rattle.collectives.proofs.part.leave_pieces.Given as goal

abbrev pub invariant-loop-part : goal.invariant-loop-part
invariant-loop-part l = record {
  value :
      list_any (λ x. leaves_piece l.thread.threads l.bytes x.into || leaves_piece l.thread.threads l.bytes x.from) (map part_of (drop l.part-index l.parts))
      ≡ list_any (λ x. leaves_piece l.thread.threads l.bytes x.into || leaves_piece l.thread.threads l.bytes x.from) (map part_of l.parts);
  inside : All (HasRoom l.bytes) (take l.part-index l.parts);
}
