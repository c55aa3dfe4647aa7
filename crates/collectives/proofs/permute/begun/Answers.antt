use Rattle.std.proofs.Common.{length, ap, arith}
use Rattle.collectives.proofs.EachElement.{numbers_begin}
use Rattle.collectives.proofs.Members.{all-at}
use Rattle.collectives.specs.code.Elements.{HasPlace}
use Rattle.collectives.specs.layer.Left.{permuted}
use Rattle.collectives.proofs.permute.begun.Goals as goal

pub invariant_of-result : goal.invariant_of-result
invariant_of-result c =
    let xs = c.args.elements.items in
    record {
      small = c.args.ends.now.few;
      room = all-at HasPlace xs 0 _ c.requires.rooms c.requires.some c.index-element.ensures;
      rooms = c.requires.rooms;
      read = omega (arith, ap length c.new.ensures.items);
      inside = c.requires.some;
      few = c.requires.few;
    }

pub returns : goal.returns
returns c = λ threads shapes me.
    let ends = c.args.ends.now in
    numbers_begin (λ vs. permuted threads shapes me ends.dst.now ends.src.now ends.bytes vs) c.new.result.items c.args.elements.items _
    c.new.ensures.items c.requires.some c.index-element.ensures
