use Rattle.std.proofs.Common.{rules, ◌≡◌, ◌++◌, [], length, take, drop, is_some, true, sym, subst, ap, ◌∙◌}
use Rattle.upc_values.specs.Lists.{Numbered}
use Rattle.upc_task.specs.layer.Sources.{Outcomes, HasOutcomes}
use Rattle.replica_space_tasks.specs.declared.worker.ReplicaWorker.{ReplicaWorker}
use Rattle.replica_space_tasks.specs.layer.Kept.{IsKept}
use Rattle.replica_space_crews.specs.layer.Crews.{IsCrew, strands_of}
use Rattle.replica_space_rounds.proofs.Going.{given-back}
use Rattle.replica_space_runs.proofs.picks.run_all.Goals as goal

pub go_all-requires : goal.go_all-requires
go_all-requires g c =
    let l = c.args.limits in let code = c.args.code.now in let w = c.args.run.now in let ks = c.in_ok-workers.workers.items in
    let from : w ≡ (w.0, []) = (λ i. (w.0, c.requires.empty i)) in
    let is : c.as_mut_slice.result.now ≡ ks = search rules in
    let begun : (f : Outcomes) → HasOutcomes w.0 code l f → IsCrew code l f w c.as_mut_slice.result.now = λ f has.
    subst (IsCrew code l f w) (sym is) (subst (λ y. IsCrew code l f y ks) (sym from) (c.in_ok-workers.ensures.crew w.0 f has)) in
    let h = c.requires.outcomes in (l, h.0, begun h.0 h.1)

pub close_all-requires : goal.close_all-requires
close_all-requires g c =
    let l = c.args.limits in let code = c.args.code.now in let w = c.args.run.now in let ks = c.in_ok-workers.workers.items in
    let from : w ≡ (w.0, []) = (λ i. (w.0, c.requires.empty i)) in
    let is : c.as_mut_slice.result.now ≡ ks = search rules in
    let ms = c.go_all.new.workers in let e = c.in_ok-go_all.ensures in
    let many : length ms ≡ length ks = e.many ∙ ap length is in
    let back : take c.in_ok-workers.workers.len (ms ++ drop (length ms) ks) ≡ ms =
    given-back c.in_ok-workers.workers.len ks ms many (search rules) in
    let begun : (f : Outcomes) → HasOutcomes w.0 code l f → IsCrew code l f w c.as_mut_slice.result.now = λ f has.
    subst (IsCrew code l f w) (sym is) (subst (λ y. IsCrew code l f y ks) (sym from) (c.in_ok-workers.ensures.crew w.0 f has)) in
    let h = c.requires.outcomes in
    subst (Numbered (λ _ (k : ReplicaWorker). is_some k.recorder.«end» ≡ true)) (sym back) (e.over l h.0 (begun h.0 h.1)).ended

pub returns-clause-over : goal.returns-clause-over
returns-clause-over g c = λ f has.
    let l = c.args.limits in let code = c.args.code.now in let w = c.args.run.now in let ks = c.in_ok-workers.workers.items in
    let from : w ≡ (w.0, []) = (λ i. (w.0, c.requires.empty i)) in
    let is : c.as_mut_slice.result.now ≡ ks = search rules in
    let ms = c.go_all.new.workers in let e = c.in_ok-go_all.ensures in
    let many : length ms ≡ length ks = e.many ∙ ap length is in
    let back : take c.in_ok-workers.workers.len (ms ++ drop (length ms) ks) ≡ ms =
    given-back c.in_ok-workers.workers.len ks ms many (search rules) in
    let begun : (f : Outcomes) → HasOutcomes w.0 code l f → IsCrew code l f w c.as_mut_slice.result.now = λ f has.
    subst (IsCrew code l f w) (sym is) (subst (λ y. IsCrew code l f y ks) (sym from) (c.in_ok-workers.ensures.crew w.0 f has)) in
    let over = e.over l f (begun f has) in (
      ms,
      over,
      c.in_ok-strands.ensures c.go_all.new.run.0 code f c.go_all.new.run.1
          (subst (Numbered (λ _ (k : ReplicaWorker). IsKept c.go_all.new.run.0 code f c.go_all.new.run.1 k)) (sym back)
          (λ i d lt. (over.workers i d lt).kept))
          ∙ ap (strands_of f) back,
    )
