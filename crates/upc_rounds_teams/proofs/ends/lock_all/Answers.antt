use Rattle.std.proofs.Common.{◌≡◌, ◌<◌, None, length, sym, ap, subst, ◌∙◌, arith, get_or}
use Rattle.upc_task.specs.layer.Kept.{Worker}
use Rattle.upc_rounds_teams.specs.layer.Runs.{CanLock, locked}
use Rattle.upc_rounds_teams.specs.layer.Teams.{workers_of}
use Rattle.upc_rounds_teams.proofs.Crews.{worker-at, many-workers, both-workers}
use Rattle.upc_rounds_teams.proofs.ends.lock_all.Goals as goal

pub lock-requires : goal.lock-requires
lock-requires c =
    let h = c.loop-at.invariant in let ls = c.loop-at.places in let ks = c.args.places.now in let t = c.loop-at.at in let x = c.index-places-at.result in
    let lt : t < length ks = (let a = c.loop-at-test.true in let b = c.loop-at.auto.at-end in let m = h.many in omega arith) in
    let lw : t < length (workers_of ks) = subst (λ n. t < n) (sym (many-workers ks)) lt in
    let is : get_or (workers_of ks) t x.task.worker ≡ (get_or ls t x).task.worker =
    worker-at ks t x x.task.worker lt ∙ ap (λ n. n.task.worker) (sym (h.left t x (omega arith))) in
    subst (λ (k : Worker). k.«end» ≡ None → CanLock k) is (c.requires t x.task.worker lw)

pub returns-clause-workers : goal.returns-clause-workers
returns-clause-workers c =
    let h = c.loop-at.invariant in let ls = c.loop-at.places in let ks = c.args.places.now in
    record {
      many = many-workers ls ∙ h.many ∙ sym (many-workers ks);
      each = both-workers (λ i k m. m ≡ locked k) ks ls h.many
          (λ i d lt. let t = c.loop-at-test.false in let e = c.loop-at.auto.at-end in let m = h.many in h.done i d (omega (arith, lt, t, e, m)));
    }
