use Rattle.std.proofs.Common.{◌≤◌, arith}
use Rattle.private_store.specs.Live.{thing_bytes}
use Rattle.private_store.specs.code.Held.{held_values}
use Rattle.private_store.specs.code.Laid.{things_of}
use Rattle.private_store.proofs.Laid.{ended, sounds}
use Rattle.private_store.proofs.object_list.ObjectList.bytes_behind.Goals as goal

pub bytes_among-requires : goal.bytes_among-requires
bytes_among-requires c =
    let o = c.self.inside in
    let vs = held_values o.held.items in
    let e = ended vs o.list.items c.args.kept (sounds o.list.items vs o.known.items c.self.invariant) in
    let all : thing_bytes (things_of vs o.list.items) ≤ 1048576 = rw (← c.self.view_is) at c.requires in
    rw c.deref.ensures.value (omega arith)

pub returns : goal.returns
returns c =
    let o = c.self.inside in
    let vs = held_values o.held.items in
    let e = ended vs o.list.items c.args.kept (sounds o.list.items vs o.known.items c.self.invariant) in
    rw (← c.self.view_is, c.bytes_among.ensures, c.deref.ensures.value) e
