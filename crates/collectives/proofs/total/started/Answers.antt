use Rattle.std.proofs.Common.{◌<◌, length, arith, rules}
use Rattle.collectives.proofs.EachElement.{total_begin}
use Rattle.collectives.proofs.EachElement.{total_none}
use Rattle.collectives.proofs.Members.{all-at}
use Rattle.collectives.specs.code.Elements.{HasPlace}
use Rattle.collectives.specs.code.Reductions.{reduction_in}
use Rattle.upc_library.specs.layer.Spots.{pointer_of}
use Rattle.collectives.proofs.total.started.Goals as goal

pub invariant_of-result : goal.invariant_of-result
invariant_of-result c =
    let some : 0 < length c.args.elements.items = search rules in
    record {
      integer = c.requires.integer;
      place = c.requires.place;
      room = all-at HasPlace c.args.elements.items 0 _ c.requires.rooms some c.index.ensures;
      rooms = c.requires.rooms;
    }

pub returns-then-len-eq0 : goal.returns-then-len-eq0
returns-then-len-eq0 c = λ threads shapes me.
    total_none (reduction_in c.args.op) c.args.kind (pointer_of c.args.dst) c.args.elements.items (omega arith)

pub returns : goal.returns
returns c = λ threads shapes me.
    let some : 0 < length c.args.elements.items = search rules in
    total_begin (reduction_in c.args.op) c.args.kind (pointer_of c.args.dst) c.args.elements.items _ some c.index.ensures
