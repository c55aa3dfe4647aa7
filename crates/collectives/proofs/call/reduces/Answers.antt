use Rattle.std.proofs.Common.{rules, w32}
use Rattle.std.proofs.lemmas.Int.{to_z-of_z}
use mir.Val.{SFits}
use Rattle.collectives.proofs.Reading.{reduces-first, reduces-second}
use Rattle.collectives.proofs.call.reduces.Goals as goal

pub returns-in-11 : goal.returns-in-11
returns-in-11 c =
    let op : SFits w32 c.in_ok-op.op = search rules in
    let flags : SFits w32 c.in_ok-flags.flags = search rules in
    simp to_z-of_z
    (reduces-first c.args.call c.args.dst c.args.src c.args.op c.args.count c.args.block c.args.kind c.args.flags _ _ _ _ _ _ _
    c.in-11.is c.in_ok-dst.ensures c.in_ok-src.ensures c.in_ok-op.ensures c.in_ok-count.ensures c.in_ok-block.ensures c.in_ok-kind.ensures c.in_ok-flags.ensures)

pub returns-in-12 : goal.returns-in-12
returns-in-12 c =
    let op : SFits w32 c.in_ok-op.op = search rules in
    let flags : SFits w32 c.in_ok-flags.flags = search rules in
    simp to_z-of_z
    (reduces-second c.args.call c.args.dst c.args.src c.args.op c.args.count c.args.block c.args.kind c.args.flags _ _ _ _ _ _ _
    c.in-12.is c.in_ok-dst.ensures c.in_ok-src.ensures c.in_ok-op.ensures c.in_ok-count.ensures c.in_ok-block.ensures c.in_ok-kind.ensures c.in_ok-flags.ensures)
