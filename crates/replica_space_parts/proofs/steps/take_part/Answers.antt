use Rattle.std.proofs.Common.{subst}
use Rattle.turn_cell.specs.layer.Seats.{id_of, started}
use Rattle.upc_task.specs.declared.worker.Pause.TheVariants as pauses
use Rattle.replica_space_parts.specs.layer.Parts.{begun_of}
use Rattle.replica_space_parts.specs.layer.Seated.{Stepped}
use Rattle.replica_space_parts.proofs.Stepping.{far-begins, far-goes, far-took}
use Rattle.replica_space_parts.proofs.steps.take_part.Goals as goal

pub loop-init : goal.loop-init
loop-init g c =
    far-begins (id_of c.args.cell.now) (begun_of (started c.args.cell.now)) c.args.code.now c.args.seated.now c.requires.«open»

pub step_once-requires-clause-kept : goal.step_once-requires-clause-kept
step_once-requires-clause-kept g c = let h = c.requires.kept in (h.0, c.loop.invariant.kept h.0 h.1)

pub loop-preserved : goal.loop-preserved
loop-preserved g c =
    let z = id_of c.args.cell.now in let x = begun_of (started c.args.cell.now) in let code = c.args.code.now in
    let k = c.loop.seated in let m = c.step_once.new.seated in
    far-goes z x code c.args.seated.now k m c.loop.invariant (subst (λ p. Stepped z x code p k m) c.in-Going.is c.in_ok-pause.ensures)

pub returns-in-Beat : goal.returns-in-Beat
returns-in-Beat g c =
    let z = id_of c.args.cell.now in let x = begun_of (started c.args.cell.now) in let code = c.args.code.now in
    let k = c.loop.seated in let m = c.step_once.new.seated in
    far-took z x code c.args.seated.now k m c.loop.invariant pauses.Beat
    (subst (λ p. Stepped z x code p k m) c.in-Beat.is c.in_ok-pause.ensures) tt

pub returns-in-Stalled : goal.returns-in-Stalled
returns-in-Stalled g c =
    let z = id_of c.args.cell.now in let x = begun_of (started c.args.cell.now) in let code = c.args.code.now in
    let k = c.loop.seated in let m = c.step_once.new.seated in
    far-took z x code c.args.seated.now k m c.loop.invariant pauses.Stalled
    (subst (λ p. Stepped z x code p k m) c.in-Stalled.is c.in_ok-pause.ensures) tt

pub returns-in-Finished : goal.returns-in-Finished
returns-in-Finished g c =
    let z = id_of c.args.cell.now in let x = begun_of (started c.args.cell.now) in let code = c.args.code.now in
    let k = c.loop.seated in let m = c.step_once.new.seated in
    far-took z x code c.args.seated.now k m c.loop.invariant pauses.Finished
    (subst (λ p. Stepped z x code p k m) c.in-Finished.is c.in_ok-pause.ensures) tt
