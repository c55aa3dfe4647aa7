use Rattle.std.proofs.Common.{◌+◌, ◌<◌, length, ◌∙◌, arith}
use Rattle.std.proofs.lemmas.List.{length-map}
use Rattle.private_store.specs.code.Held.{held_value, held_values}
use Rattle.private_store.specs.code.Laid.{form_shape, part, thing_of}
use Rattle.private_store.proofs.Objects.{value_at_fits}
use Rattle.private_store.proofs.Laid.{cell_at, in_list, inside, laid_at, thing_at, value_at}
use Rattle.private_store.proofs.object_list.ObjectList.get.Goals as goal

pub overflow_add-index : goal.overflow_add-index
overflow_add-index c =
    let o = c.self.inside in
    let vs = held_values o.held.items in
    let there = in_list vs o.list.items c.args.at (rw (← c.self.view_is) at c.requires.there) in
    let x = c.index.result.now in
    let laid = laid_at o.list.items vs o.known.items c.args.at x c.self.invariant there c.index.ensures in
    let cell = cell_at o.list.items vs c.args.at c.args.place c.args.kind x there c.index.ensures (rw (← c.self.view_is) at c.requires.cell) in
    let here = inside vs o.known.items x c.args.place c.args.kind laid cell in
    let within : x.first + c.args.place < length o.held.items = omega (arith, laid.within, length-map o.held.items held_value) in
    omega (arith, o.held.ok, o.held.small)

pub index-requires-2 : goal.index-requires-2
index-requires-2 c =
    let o = c.self.inside in
    let vs = held_values o.held.items in
    let there = in_list vs o.list.items c.args.at (rw (← c.self.view_is) at c.requires.there) in
    let x = c.index.result.now in
    let laid = laid_at o.list.items vs o.known.items c.args.at x c.self.invariant there c.index.ensures in
    let cell = cell_at o.list.items vs c.args.at c.args.place c.args.kind x there c.index.ensures (rw (← c.self.view_is) at c.requires.cell) in
    let here = inside vs o.known.items x c.args.place c.args.kind laid cell in
    let within : x.first + c.args.place < length o.held.items = omega (arith, laid.within, length-map o.held.items held_value) in
    omega (arith, o.held.ok)

pub returns-clause-value : goal.returns-clause-value
returns-clause-value c d e =
    let o = c.self.inside in
    let vs = held_values o.held.items in
    let there = in_list vs o.list.items c.args.at (rw (← c.self.view_is) at c.requires.there) in
    let x = c.index.result.now in
    let laid = laid_at o.list.items vs o.known.items c.args.at x c.self.invariant there c.index.ensures in
    let cell = cell_at o.list.items vs c.args.at c.args.place c.args.kind x there c.index.ensures (rw (← c.self.view_is) at c.requires.cell) in
    let here = inside vs o.known.items x c.args.place c.args.kind laid cell in
    let within : x.first + c.args.place < length o.held.items = omega (arith, laid.within, length-map o.held.items held_value) in
    rw (← c.self.view_is) (c.value.ensures ∙ value_at o.held.items o.list.items c.args.at c.args.place x c.index-2.result.now there c.index.ensures here within c.index-2.ensures d e)

pub returns-clause-fits : goal.returns-clause-fits
returns-clause-fits c =
    let o = c.self.inside in
    let vs = held_values o.held.items in
    let there = in_list vs o.list.items c.args.at (rw (← c.self.view_is) at c.requires.there) in
    let x = c.index.result.now in
    let laid = laid_at o.list.items vs o.known.items c.args.at x c.self.invariant there c.index.ensures in
    let cell = cell_at o.list.items vs c.args.at c.args.place c.args.kind x there c.index.ensures (rw (← c.self.view_is) at c.requires.cell) in
    let here = inside vs o.known.items x c.args.place c.args.kind laid cell in
    let within : x.first + c.args.place < length o.held.items = omega (arith, laid.within, length-map o.held.items held_value) in
    let e = c.value.result in
    let d = thing_of vs x in
    let is = c.value.ensures ∙ value_at o.held.items o.list.items c.args.at c.args.place x c.index-2.result.now there c.index.ensures here within c.index-2.ensures d e in
    let read = thing_at vs o.list.items c.args.at x d there c.index.ensures in
    rw (is, read) (value_at_fits (form_shape x.form x.count) (part x.first x.count vs) c.args.place c.args.kind e laid.filled cell)
