use Rattle.std.proofs.Common.{subst, sym, get_or, get_or-set_same, get_or-set_other}
use Rattle.std.proofs.lemmas.List.{get_or_default}
use Rattle.replica_space_tasks.specs.declared.worker.ReplicaWorker.{ReplicaWorker}
use Rattle.upc_rounds_base.specs.layer.Ending.{Rested}
use Rattle.replica_space_crews.specs.layer.Crews.{Moved}
use Rattle.replica_space_crews.proofs.Crews.{crew-moved}
use Rattle.replica_space_runs.proofs.turns.take_part.Goals as goal

pub returns-clause-running : goal.returns-clause-running
returns-clause-running g c =
    let ks = c.args.workers.now in let at = c.args.at in let lt = c.requires.at.0 in let code = c.args.code.now in
    let w = c.args.run.now in let x = c.go_on.new.run in let m = c.go_on.new.worker in
    crew-moved code w x ks at m lt c.what_workers_keep.ensures.others
    (λ d. subst (λ k. Moved code w k x m) (get_or_default ks at c.index-workers-at.result d lt) c.in_ok-go_on.ensures.moved)

pub returns-clause-others : goal.returns-clause-others
returns-clause-others g c = λ j d ne. get_or-set_other c.args.workers.now c.args.at j c.go_on.new.worker d ne

pub returns-clause-rested : goal.returns-clause-rested
returns-clause-rested g c = λ d.
    subst (λ (k : ReplicaWorker). Rested k.recorder) (sym (get_or-set_same c.args.workers.now c.args.at c.go_on.new.worker d c.requires.at.0))
    c.in_ok-go_on.ensures.rested
