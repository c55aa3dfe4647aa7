use Rattle.turn_cell.specs.layer.Seats.{id_of, started}
use Rattle.upc_rounds.proofs.Parts.{Worked, Stepped, moved-of, steps-from}
use Rattle.upc_rounds_picks.proofs.turns.step_once.Goals as goal

pub step-requires-clause-kept : goal.step-requires-clause-kept
step-requires-clause-kept g c =
    let h = c.requires.kept in
    (h.0, c.in_ok-work.ensures.stays (id_of c.args.cell.now) (started c.args.cell.now).0 h.0 h.1)

pub returns-clause-moved : goal.returns-clause-moved
returns-clause-moved g c =
    let z = id_of c.args.cell.now in let o = (started c.args.cell.now).0 in let code = c.args.code.now in
    let k = c.args.task.now in let l = c.work.new.self in let m = c.step.new.self in let w = c.in_ok-work.ensures in let s = c.in_ok-pause.ensures in
    let worked : Worked code k l = record { stays = w.stays; kept = w.kept; same = w.same.0; opened = w.same.1; items = w.items; seat = w.seat } in
    let stepped : Stepped z o code c.in_ok-pause.pause l m =
    record { kept = s.kept; same = s.same; gained = s.gained; pause = s.pause; adds = s.adds; leaves = s.leaves; waits = s.waits; full = s.full } in
    moved-of z o code c.in_ok-pause.pause k l m worked stepped

pub returns-clause-steps : goal.returns-clause-steps
returns-clause-steps g c =
    let z = id_of c.args.cell.now in let o = (started c.args.cell.now).0 in let code = c.args.code.now in
    let k = c.args.task.now in let l = c.work.new.self in let m = c.step.new.self in let w = c.in_ok-work.ensures in let s = c.in_ok-pause.ensures in
    let worked : Worked code k l = record { stays = w.stays; kept = w.kept; same = w.same.0; opened = w.same.1; items = w.items; seat = w.seat } in
    let stepped : Stepped z o code c.in_ok-pause.pause l m =
    record { kept = s.kept; same = s.same; gained = s.gained; pause = s.pause; adds = s.adds; leaves = s.leaves; waits = s.waits; full = s.full } in
    steps-from z o code c.in_ok-pause.pause k l m c.requires.«open» worked stepped
