use Rattle.std.proofs.Common.{w64, to_z, of_z, refl, sym, subst}
use Rattle.std.proofs.Math.Facts.{to_z-of_z}
use Rattle.private_store.specs.Live.{Thing}
use Rattle.private_store.specs.code.Held.{held_values}
use Rattle.private_store.specs.code.Kept.{IsPlace}
use Rattle.private_store.specs.code.Laid.{thing_of}
use Rattle.private_store.proofs.Laid.{in_list, laid_at, thing_at}
use Rattle.private_store.proofs.object_list.ObjectList.place.Goals as goal

pub place-requires : goal.place-requires
place-requires c =
    let o = c.self.inside in
    let vs = held_values o.held.items in
    let there = in_list vs o.list.items c.args.at (rw (← c.self.view_is) at c.requires) in
    (laid_at o.list.items vs o.known.items c.args.at c.index.result.now c.self.invariant there c.index.ensures).sound

pub returns : goal.returns
returns c d =
    let o = c.self.inside in
    let vs = held_values o.held.items in
    let there = in_list vs o.list.items c.args.at (rw (← c.self.view_is) at c.requires) in
    let x = thing_of vs c.index.result.now in
    let got : IsPlace x (to_z w64 (of_z w64 c.args.offset)) c.args.kind c.place.result = c.place.ensures x refl in
    let here = rw (to_z-of_z {w = w64} c.ranges.offset) at got in
    rw (← c.self.view_is) (subst (λ (y : Thing). IsPlace y c.args.offset c.args.kind c.place.result) (sym (thing_at vs o.list.items c.args.at c.index.result.now d there c.index.ensures)) here)
