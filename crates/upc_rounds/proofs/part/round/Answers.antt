use Rattle.std.proofs.Common.{subst}
use Rattle.turn_cell.specs.layer.Seats.{id_of, started}
use Rattle.upc_task.specs.declared.worker.Pause.TheVariants as pauses
use Rattle.upc_task.proofs.Seen.{task-ordered}
use Rattle.upc_rounds.proofs.Parts.{Worked, Stepped, far-begins, far-goes, far-took, rests-with}
use Rattle.upc_rounds.proofs.part.round.Goals as goal

pub loop-init : goal.loop-init
loop-init g c = far-begins (id_of c.args.cell.now) (started c.args.cell.now).0 c.args.code.now c.args.task.now c.requires.«open»

pub returns-in_err-work-clause-order : goal.returns-in_err-work-clause-order
returns-in_err-work-clause-order g c =
    let h = c.requires.kept in let z = id_of c.args.cell.now in let o = (started c.args.cell.now).0 in
    c.in_err-work.ensures.order o (task-ordered z o c.args.code.now h.0 c.loop.task (c.loop.invariant.kept h.0 h.1))

pub step-requires-clause-kept : goal.step-requires-clause-kept
step-requires-clause-kept g c =
    let h = c.requires.kept in
    (h.0, c.in_ok-work.ensures.stays (id_of c.args.cell.now) (started c.args.cell.now).0 h.0 (c.loop.invariant.kept h.0 h.1))

pub loop-preserved : goal.loop-preserved
loop-preserved g c =
    let z = id_of c.args.cell.now in let o = (started c.args.cell.now).0 in let code = c.args.code.now in
    let k = c.loop.task in let l = c.work.new.self in let m = c.step.new.self in let w = c.in_ok-work.ensures in let s = c.in_ok-pause.ensures in
    let worked : Worked code k l = record { stays = w.stays; kept = w.kept; same = w.same.0; opened = w.same.1; items = w.items; seat = w.seat } in
    let stepped : Stepped z o code c.in_ok-pause.pause l m =
    record { kept = s.kept; same = s.same; gained = s.gained; pause = s.pause; adds = s.adds; leaves = s.leaves; waits = s.waits; full = s.full } in
    far-goes z o code c.args.task.now k l m c.loop.invariant worked (subst (λ p. Stepped z o code p l m) c.in-Going.is stepped)

pub returns-in-Beat-clause-took : goal.returns-in-Beat-clause-took
returns-in-Beat-clause-took g c =
    let z = id_of c.args.cell.now in let o = (started c.args.cell.now).0 in let code = c.args.code.now in
    let k = c.loop.task in let l = c.work.new.self in let m = c.step.new.self in let w = c.in_ok-work.ensures in let s = c.in_ok-pause.ensures in
    let worked : Worked code k l = record { stays = w.stays; kept = w.kept; same = w.same.0; opened = w.same.1; items = w.items; seat = w.seat } in
    let stepped : Stepped z o code c.in_ok-pause.pause l m =
    record { kept = s.kept; same = s.same; gained = s.gained; pause = s.pause; adds = s.adds; leaves = s.leaves; waits = s.waits; full = s.full } in
    far-took z o code pauses.Beat c.args.task.now k l m c.loop.invariant c.requires.«open» worked (subst (λ p. Stepped z o code p l m) c.in-Beat.is stepped) tt

pub returns-in-Beat-clause-rests : goal.returns-in-Beat-clause-rests
returns-in-Beat-clause-rests g c =
    let z = id_of c.args.cell.now in let o = (started c.args.cell.now).0 in let code = c.args.code.now in
    let k = c.loop.task in let l = c.work.new.self in let m = c.step.new.self in let w = c.in_ok-work.ensures in let s = c.in_ok-pause.ensures in
    let worked : Worked code k l = record { stays = w.stays; kept = w.kept; same = w.same.0; opened = w.same.1; items = w.items; seat = w.seat } in
    let stepped : Stepped z o code c.in_ok-pause.pause l m =
    record { kept = s.kept; same = s.same; gained = s.gained; pause = s.pause; adds = s.adds; leaves = s.leaves; waits = s.waits; full = s.full } in
    rests-with z o code pauses.Beat k l m worked (subst (λ p. Stepped z o code p l m) c.in-Beat.is stepped) tt

pub returns-in-Stalled-clause-took : goal.returns-in-Stalled-clause-took
returns-in-Stalled-clause-took g c =
    let z = id_of c.args.cell.now in let o = (started c.args.cell.now).0 in let code = c.args.code.now in
    let k = c.loop.task in let l = c.work.new.self in let m = c.step.new.self in let w = c.in_ok-work.ensures in let s = c.in_ok-pause.ensures in
    let worked : Worked code k l = record { stays = w.stays; kept = w.kept; same = w.same.0; opened = w.same.1; items = w.items; seat = w.seat } in
    let stepped : Stepped z o code c.in_ok-pause.pause l m =
    record { kept = s.kept; same = s.same; gained = s.gained; pause = s.pause; adds = s.adds; leaves = s.leaves; waits = s.waits; full = s.full } in
    far-took z o code pauses.Stalled c.args.task.now k l m c.loop.invariant c.requires.«open» worked (subst (λ p. Stepped z o code p l m) c.in-Stalled.is stepped) tt

pub returns-in-Stalled-clause-rests : goal.returns-in-Stalled-clause-rests
returns-in-Stalled-clause-rests g c =
    let z = id_of c.args.cell.now in let o = (started c.args.cell.now).0 in let code = c.args.code.now in
    let k = c.loop.task in let l = c.work.new.self in let m = c.step.new.self in let w = c.in_ok-work.ensures in let s = c.in_ok-pause.ensures in
    let worked : Worked code k l = record { stays = w.stays; kept = w.kept; same = w.same.0; opened = w.same.1; items = w.items; seat = w.seat } in
    let stepped : Stepped z o code c.in_ok-pause.pause l m =
    record { kept = s.kept; same = s.same; gained = s.gained; pause = s.pause; adds = s.adds; leaves = s.leaves; waits = s.waits; full = s.full } in
    rests-with z o code pauses.Stalled k l m worked (subst (λ p. Stepped z o code p l m) c.in-Stalled.is stepped) tt

pub returns-in-Finished-clause-took : goal.returns-in-Finished-clause-took
returns-in-Finished-clause-took g c =
    let z = id_of c.args.cell.now in let o = (started c.args.cell.now).0 in let code = c.args.code.now in
    let k = c.loop.task in let l = c.work.new.self in let m = c.step.new.self in let w = c.in_ok-work.ensures in let s = c.in_ok-pause.ensures in
    let worked : Worked code k l = record { stays = w.stays; kept = w.kept; same = w.same.0; opened = w.same.1; items = w.items; seat = w.seat } in
    let stepped : Stepped z o code c.in_ok-pause.pause l m =
    record { kept = s.kept; same = s.same; gained = s.gained; pause = s.pause; adds = s.adds; leaves = s.leaves; waits = s.waits; full = s.full } in
    far-took z o code pauses.Finished c.args.task.now k l m c.loop.invariant c.requires.«open» worked (subst (λ p. Stepped z o code p l m) c.in-Finished.is stepped) tt

pub returns-in-Finished-clause-rests : goal.returns-in-Finished-clause-rests
returns-in-Finished-clause-rests g c =
    let z = id_of c.args.cell.now in let o = (started c.args.cell.now).0 in let code = c.args.code.now in
    let k = c.loop.task in let l = c.work.new.self in let m = c.step.new.self in let w = c.in_ok-work.ensures in let s = c.in_ok-pause.ensures in
    let worked : Worked code k l = record { stays = w.stays; kept = w.kept; same = w.same.0; opened = w.same.1; items = w.items; seat = w.seat } in
    let stepped : Stepped z o code c.in_ok-pause.pause l m =
    record { kept = s.kept; same = s.same; gained = s.gained; pause = s.pause; adds = s.adds; leaves = s.leaves; waits = s.waits; full = s.full } in
    rests-with z o code pauses.Finished k l m worked (subst (λ p. Stepped z o code p l m) c.in-Finished.is stepped) tt
