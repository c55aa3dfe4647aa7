use Rattle.std.proofs.Common.{Bool, ◌||◌, subst, take_all, sym, ◌∙◌}
use Rattle.std.specs.List.{All}
use Rattle.upc_values.specs.Expansions as said
use Rattle.upc_values.specs.Views.{leaves_piece}
use Rattle.collectives.specs.code.Parts.{part_of, HasRoom}
use Rattle.collectives.proofs.Ranges.{all-more}
use Rattle.collectives.proofs.Members.{any-passed}
use Rattle.collectives.proofs.part.leave_pieces.Goals as goal

pub loop-part-preserved : goal.loop-part-preserved
loop-part-preserved c =
    let n = c.args.bytes in
    let threads = c.args.thread.now.threads in
    let xs = c.args.parts.now in
    let leaves : said.Part → Bool = λ x. leaves_piece threads n x.into || leaves_piece threads n x.from in
    record {
      value = any-passed leaves part_of xs c.loop-part.part-index _ _ c.loop-part-test.true (sym c.leaves_piece.ensures.value ∙ c.if-leaves_piece.false) c.loop-part.invariant.value;
      inside = all-more (HasRoom n) xs c.loop-part.part-index _ c.loop-part-test.true c.loop-part.invariant.inside (c.leaves_piece.ensures.inside c.if-leaves_piece.false);
    }

pub returns-clause-inside : goal.returns-clause-inside
returns-clause-inside c = λ _. subst (All (HasRoom c.args.bytes)) (take_all c.loop-part.part-index c.args.parts.now c.loop-part-test.false) c.loop-part.invariant.inside
