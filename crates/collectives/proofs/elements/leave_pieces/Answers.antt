use Rattle.std.proofs.Common.{Bool, subst, take_all, sym, ◌∙◌}
use Rattle.std.specs.List.{All}
use Rattle.block_layout.specs.Shapes.{kind_size}
use Rattle.block_layout.specs.declared.place.SharedPtr.{SharedPtr}
use Rattle.upc_values.specs.Views.{leaves_piece}
use Rattle.upc_library.specs.declared.spot.Spot.{Spot}
use Rattle.upc_library.specs.layer.Spots.{pointer_of, IsRoomFor}
use Rattle.collectives.proofs.Ranges.{all-more}
use Rattle.collectives.proofs.Members.{any-passed}
use Rattle.collectives.proofs.elements.leave_pieces.Goals as goal

pub loop-element-preserved : goal.loop-element-preserved
loop-element-preserved c =
    let xs = c.args.elements.now in
    let leaves : SharedPtr → Bool = leaves_piece c.args.thread.now.threads (kind_size c.args.kind) in
    let P : Spot → Type 0 = λ p. IsRoomFor 1 p.offset in
    record {
      value = any-passed leaves pointer_of xs c.loop-element.element-index _ _ c.loop-element-test.true (sym c.leaves_piece.ensures.value ∙ c.if-leaves_piece.false) c.loop-element.invariant.value;
      inside = all-more P xs c.loop-element.element-index _ c.loop-element-test.true c.loop-element.invariant.inside (c.leaves_piece.ensures.inside c.if-leaves_piece.false);
    }

pub returns-clause-inside : goal.returns-clause-inside
returns-clause-inside c = λ _.
    let P : Spot → Type 0 = λ p. IsRoomFor 1 p.offset in
    subst (All P) (take_all c.loop-element.element-index c.args.elements.now c.loop-element-test.false) c.loop-element.invariant.inside
