use Rattle.replica_space_crews.proofs.Crews.{stays-refl, stays-then}
use Rattle.replica_space_runs.proofs.picks.pick_all.Goals as goal

pub loop-pick-init : goal.loop-pick-init
loop-pick-init c = stays-refl c.args.code.now c.args.run.now c.args.workers.now

pub turn-requires-clause-running : goal.turn-requires-clause-running
turn-requires-clause-running c = let r = c.requires in (r.0, r.1, c.loop-pick.invariant.crew r.0 r.1 r.2)

pub loop-pick-preserved : goal.loop-pick-preserved
loop-pick-preserved c =
    stays-then c.args.code.now c.args.run.now c.loop-pick.run c.turn.new.run c.args.workers.now c.loop-pick.workers c.turn.new.workers
    c.loop-pick.invariant c.in_ok-turn.ensures
