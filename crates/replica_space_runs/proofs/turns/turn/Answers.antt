use Rattle.std.proofs.Common.{subst, get_or}
use Rattle.std.proofs.lemmas.List.{get_or_default}
use Rattle.replica_space_crews.specs.layer.Crews.{Moved}
use Rattle.replica_space_crews.proofs.Crews.{crew-moved}
use Rattle.replica_space_runs.proofs.turns.turn.Goals as goal

pub returns : goal.returns
returns c =
    let ks = c.args.workers.now in let at = c.args.at in let lt = c.requires.at.0 in let code = c.args.code.now in
    let w = c.args.run.now in let x = c.step_once.new.run in let m = c.step_once.new.worker in
    crew-moved code w x ks at m lt c.what_workers_keep.ensures.others
    (λ d. subst (λ k. Moved code w k x m) (get_or_default ks at c.index-workers-at.result d lt) c.in_ok-step_once.ensures.moved)
