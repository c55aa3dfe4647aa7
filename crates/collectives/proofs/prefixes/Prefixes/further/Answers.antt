use Rattle.std.proofs.Common.{◌≡◌, ◌+◌, ◌<◌, ◌≤◌, [], length, drop, map, Some, subst, arith, rules}
use Rattle.collectives.proofs.EachElement.{prefix_next}
use Rattle.collectives.proofs.EachElement.{prefixes_end}
use Rattle.collectives.proofs.Members.{all-at}
use Rattle.collectives.specs.code.Elements.{HasPlace}
use Rattle.collectives.specs.code.Reductions.{reduction_in}
use Rattle.collectives.specs.layer.Left.{PrefixesLeft}
use Rattle.collectives.specs.layer.Left.{prefixes_rest}
use Rattle.upc_library.specs.layer.Spots.{pointer_of}
use Rattle.upc_values.specs.Expansion.{nothing}
use Rattle.upc_values.specs.Expansions as said
use Rattle.collectives.proofs.prefixes.Prefixes.further.Goals as goal

pub invariant_of-self : goal.invariant_of-self
invariant_of-self c =
    let s = c.self.inside in
    let lt : s.at < length s.intos.items = search rules in
    let lu : s.at < length s.froms.items = omega (arith, c.self.invariant.same) in
    record {
      integer = c.self.invariant.integer;
      place = all-at HasPlace s.intos.items s.at _ c.self.invariant.places lt c.index.ensures;
      room = all-at HasPlace s.froms.items s.at _ c.self.invariant.rooms lu c.index-2.ensures;
      places = c.self.invariant.places;
      rooms = c.self.invariant.rooms;
      same = c.self.invariant.same;
    }

pub returns-then-self-len : goal.returns-then-self-len
returns-then-self-len c = λ threads shapes me.
    let s = c.self.inside in
    let le : length s.intos.items ≤ s.at = search rules in
    subst (λ (l : PrefixesLeft). nothing ≡ said.totals 0 [] 0 l.op l.kind c.args.so_far l.parts) c.self.view_is
    (prefixes_end (reduction_in s.op) s.kind c.args.so_far s.intos.items s.froms.items s.at le)

pub returns : goal.returns
returns c = λ threads shapes me.
    let s = c.self.inside in
    let lt : s.at < length s.intos.items = search rules in
    let lu : s.at < length s.froms.items = omega (arith, c.self.invariant.same) in
    subst (λ (l : PrefixesLeft). prefixes_rest (record {
      op = reduction_in s.op;
      kind = s.kind;
      so_far = Some c.args.so_far;
      part = said.part (pointer_of c.index.result.now) (pointer_of c.index-2.result.now);
      parts = said.paired 0 [] 0 (map pointer_of (drop (s.at + 1) s.intos.items)) (map pointer_of (drop (s.at + 1) s.froms.items));
    }) ≡ said.totals 0 [] 0 l.op l.kind c.args.so_far l.parts) c.self.view_is
    (prefix_next (reduction_in s.op) s.kind c.args.so_far s.intos.items s.froms.items s.at _ _ lt lu c.index.ensures c.index-2.ensures)
