use Rattle.std.proofs.Common.{◌≡◌, ◌<◌, ◌≤◌, [], sym, subst, arith}
use Rattle.upc_task.specs.layer.Sources.{Outcomes, HasOutcomes}
use Rattle.replica_space_crews.specs.layer.Crews.{IsCrew}
use Rattle.replica_space_rounds.specs.layer.Rounds.{HasGone}
use Rattle.replica_space_rounds.proofs.Resting.{gone-start}
use Rattle.replica_space_runs.proofs.threads.run_rounds.Goals as goal

pub rounds-requires-clause-some : goal.rounds-requires-clause-some
rounds-requires-clause-some g c κs within =
    let some = c.requires.limits.some in let many = c.in_ok-workers.ensures.many in omega (arith, some, many)

pub rounds-requires-clause-running : goal.rounds-requires-clause-running
rounds-requires-clause-running g c κs within =
    let l = c.args.limits in let code = c.args.code.now in let w = c.args.run in let ks = c.in_ok-workers.workers.items in
    let from : w ≡ (w.0, []) = (λ i. (w.0, c.requires.empty i)) in let h = c.requires.outcomes in
    (l, h.0, subst (λ y. IsCrew code l h.0 y ks) (sym from) (c.in_ok-workers.ensures.crew w.0 h.0 h.1))

pub close_all-requires : goal.close_all-requires
close_all-requires g c =
    let l = c.args.limits in let code = c.args.code.now in let w = c.args.run in let ks = c.in_ok-workers.workers.items in
    let from : w ≡ (w.0, []) = (λ i. (w.0, c.requires.empty i)) in let h = c.requires.outcomes in
    (c.in_ok-over.ensures.over.over l h.0
    (subst (λ y. IsCrew code l h.0 y ks) (sym from) (c.in_ok-workers.ensures.crew w.0 h.0 h.1))).ended

pub returns-clause-opening : goal.returns-clause-opening
returns-clause-opening g c = c.in_ok-over.ensures.over.«opening»

pub returns-clause-over : goal.returns-clause-over
returns-clause-over g c = λ f has.
    let l = c.args.limits in let code = c.args.code.now in let w = c.args.run in let ks = c.in_ok-workers.workers.items in
    let from : w ≡ (w.0, []) = (λ i. (w.0, c.requires.empty i)) in
    let crew : IsCrew code l f w ks = subst (λ y. IsCrew code l f y ks) (sym from) (c.in_ok-workers.ensures.crew w.0 f has) in
    let over = c.in_ok-over.ensures.over.over l f crew in let x = c.in_ok-over.over.run in
    record {
      last = c.in_ok-over.over.workers.items;
      over = over;
      gone = c.in_ok-over.ensures.rounds l f crew (subst (λ es. HasGone w.0 f es ks) (sym c.requires.empty) (gone-start w.0 f ks));
      same = c.in_ok-strands.ensures x.0 code f x.1 (λ i d lt. (over.workers i d lt).kept);
    }
