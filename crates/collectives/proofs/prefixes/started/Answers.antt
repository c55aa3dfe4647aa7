use Rattle.std.proofs.Common.{◌<◌, length, arith, rules}
use Rattle.collectives.proofs.EachElement.{prefixes_begin}
use Rattle.collectives.proofs.EachElement.{prefixes_none}
use Rattle.collectives.proofs.Members.{all-at}
use Rattle.collectives.specs.code.Elements.{HasPlace}
use Rattle.collectives.specs.code.Reductions.{reduction_in}
use Rattle.collectives.proofs.prefixes.started.Goals as goal

pub invariant_of-result : goal.invariant_of-result
invariant_of-result c =
    let some : 0 < length c.args.intos.items = search rules in
    let also : 0 < length c.args.froms.items = omega (arith, c.requires.same) in
    record {
      integer = c.requires.integer;
      place = all-at HasPlace c.args.intos.items 0 _ c.requires.places some c.index.ensures;
      room = all-at HasPlace c.args.froms.items 0 _ c.requires.rooms also c.index-2.ensures;
      places = c.requires.places;
      rooms = c.requires.rooms;
      same = c.requires.same;
    }

pub returns-then-len-eq0 : goal.returns-then-len-eq0
returns-then-len-eq0 c = λ threads shapes me.
    prefixes_none (reduction_in c.args.op) c.args.kind c.args.intos.items c.args.froms.items (omega arith)

pub returns : goal.returns
returns c = λ threads shapes me.
    let some : 0 < length c.args.intos.items = search rules in
    let also : 0 < length c.args.froms.items = omega (arith, c.requires.same) in
    prefixes_begin (reduction_in c.args.op) c.args.kind c.args.intos.items c.args.froms.items _ _ some also c.index.ensures c.index-2.ensures
