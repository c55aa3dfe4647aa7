use Rattle.std.proofs.Common.{w64, get_or, Ok, Err, to_z, of_z}
use Rattle.std.proofs.Math.Facts.{to_z-of_z}
use Rattle.private_store.specs.Live.{Thing}
use Rattle.private_store.specs.code.Kept.{IsPlace}
use Rattle.private_store.proofs.Things.{reached_none, reached_err, reached_ok}
use Rattle.private_store.proofs.finding.reach_in.Goals as goal

pub returns-in-Ok : goal.returns-in-Ok
returns-in-Ok c =
    let things = c.args.objects.now in
    let passed : (d : Thing) → IsPlace (get_or things c.in-Some.at d) (to_z w64 (of_z w64 c.args.offset)) c.args.kind (Ok c.in-Ok.place) = c.in-Ok.ensures in
    reached_ok things c.args.number c.args.offset c.args.kind c.in-Some.at c.in-Ok.place c.in-Some.ensures (rw (to_z-of_z {w = w64} c.ranges.offset) at passed)

pub returns-in-Err : goal.returns-in-Err
returns-in-Err c =
    let things = c.args.objects.now in
    let passed : (d : Thing) → IsPlace (get_or things c.in-Some.at d) (to_z w64 (of_z w64 c.args.offset)) c.args.kind (Err c.in-Err.code) = c.in-Err.ensures in
    reached_err things c.args.number c.args.offset c.args.kind c.in-Some.at c.in-Err.code c.in-Some.ensures (rw (to_z-of_z {w = w64} c.ranges.offset) at passed)

pub returns-in-None : goal.returns-in-None
returns-in-None c = reached_none c.args.objects.now c.args.number c.args.offset c.args.kind c.in-None.ensures
