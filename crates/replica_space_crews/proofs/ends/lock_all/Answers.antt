use Rattle.std.proofs.Common.{◌≡◌, ◌<◌, length, sym, subst, ◌∙◌, arith, get_or, length-set}
use Rattle.std.proofs.lemmas.List.{get_or_default}
use Rattle.replica_space_tasks.specs.declared.worker.ReplicaWorker.{ReplicaWorker}
use Rattle.replica_space_crews.specs.layer.Crews.{IsLocked}
use Rattle.replica_space_crews.proofs.Crews.{each-set, left-set}
use Rattle.replica_space_crews.proofs.ends.lock_all.Goals as goal

pub loop-at-preserved : goal.loop-at-preserved
loop-at-preserved c =
    let h = c.loop-at.invariant in let ks = c.args.workers.now in let ls = c.loop-at.workers in let t = c.loop-at.at in
    let x = c.index-workers-at.result in let m = c.lock.new.worker in
    let lt : t < length ls = (let a = c.loop-at-test.true in let b = c.loop-at.auto.at-end in let y = h.many in omega arith) in
    let was : (d : ReplicaWorker) → get_or ls t x ≡ get_or ks t d = λ d. get_or_default ls t x d lt ∙ h.left t d (omega arith) in
    record {
      many = length-set ls t m ∙ h.many;
      done = each-set IsLocked ks ls t m lt h.done (λ d. subst (λ k. IsLocked k m) (was d) c.in_ok-lock.ensures);
      left = left-set ks ls t m h.left;
    }
