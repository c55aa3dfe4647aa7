use Rattle.std.proofs.Common.{◌+◌, ◌<◌, length, set, sym, ap, ◌∙◌, arith}
use Rattle.std.proofs.lemmas.List.{length-map}
use Rattle.private_store.specs.Live.{Thing}
use Rattle.private_store.specs.code.Held.{held_value, held_values}
use Rattle.private_store.specs.code.Laid.{things_of}
use Rattle.private_store.proofs.Laid.{Values, cell_at, held_set, in_list, inside, laid_at, laid_set, thing_at, things_set}
use Rattle.private_store.proofs.object_list.ObjectList.set.Goals as goal

pub overflow_add-spot : goal.overflow_add-spot
overflow_add-spot c =
    let o = c.self.inside in
    let vs = held_values o.held.items in
    let there = in_list vs o.list.items c.args.at (rw (← c.self.view_is) at c.requires.there) in
    let x = c.index.result.now in
    let laid = laid_at o.list.items vs o.known.items c.args.at x c.self.invariant there c.index.ensures in
    let cell = cell_at o.list.items vs c.args.at c.args.place c.args.kind x there c.index.ensures (rw (← c.self.view_is) at c.requires.cell) in
    let here = inside vs o.known.items x c.args.place c.args.kind laid cell in
    let within : x.first + c.args.place < length o.held.items = omega (arith, laid.within, length-map o.held.items held_value) in
    omega (arith, o.held.ok, o.held.small)

pub index_mut-requires : goal.index_mut-requires
index_mut-requires c =
    let o = c.self.inside in
    let vs = held_values o.held.items in
    let there = in_list vs o.list.items c.args.at (rw (← c.self.view_is) at c.requires.there) in
    let x = c.index.result.now in
    let laid = laid_at o.list.items vs o.known.items c.args.at x c.self.invariant there c.index.ensures in
    let cell = cell_at o.list.items vs c.args.at c.args.place c.args.kind x there c.index.ensures (rw (← c.self.view_is) at c.requires.cell) in
    let here = inside vs o.known.items x c.args.place c.args.kind laid cell in
    let within : x.first + c.args.place < length o.held.items = omega (arith, laid.within, length-map o.held.items held_value) in
    omega (arith, o.held.ok)

pub invariant_of-self : goal.invariant_of-self
invariant_of-self c =
    let o = c.self.inside in
    let vs = held_values o.held.items in
    let there = in_list vs o.list.items c.args.at (rw (← c.self.view_is) at c.requires.there) in
    let x = c.index.result.now in
    let laid = laid_at o.list.items vs o.known.items c.args.at x c.self.invariant there c.index.ensures in
    let cell = cell_at o.list.items vs c.args.at c.args.place c.args.kind x there c.index.ensures (rw (← c.self.view_is) at c.requires.cell) in
    rw (held_set o.held.items (x.first + c.args.place) c.put.new.self c.args.v c.put.ensures)
    (laid_set o.list.items vs o.known.items c.args.v c.args.at c.args.place x c.args.kind c.self.invariant there c.index.ensures cell c.requires.fits)

pub returns : goal.returns
returns c d =
    let o = c.self.inside in
    let vs = held_values o.held.items in
    let there = in_list vs o.list.items c.args.at (rw (← c.self.view_is) at c.requires.there) in
    let x = c.index.result.now in
    let laid = laid_at o.list.items vs o.known.items c.args.at x c.self.invariant there c.index.ensures in
    let cell = cell_at o.list.items vs c.args.at c.args.place c.args.kind x there c.index.ensures (rw (← c.self.view_is) at c.requires.cell) in
    let here = inside vs o.known.items x c.args.place c.args.kind laid cell in
    let seen = λ (us : Values). things_of us o.list.items in
    let changed = λ (y : Thing). set (things_of vs o.list.items) c.args.at (record y { values = set y.values c.args.place c.args.v }) in
    rw (← c.self.view_is)
    (ap seen (held_set o.held.items (x.first + c.args.place) c.put.new.self c.args.v c.put.ensures)
    ∙ things_set o.list.items vs c.args.v c.args.at c.args.place x c.self.invariant.apart there c.index.ensures here
    ∙ ap changed (sym (thing_at vs o.list.items c.args.at x d there c.index.ensures)))
