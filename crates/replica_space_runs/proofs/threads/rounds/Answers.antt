use Rattle.std.proofs.Common.{rules, ◌≡◌, ◌<◌, ◌++◌, length, take, drop, sym, subst, ap, ◌∙◌}
use Rattle.upc_values.specs.Lists.{Numbered}
use Rattle.upc_rounds_base.specs.layer.Ending.{Rested}
use Rattle.replica_space_tasks.specs.declared.worker.ReplicaWorker.{ReplicaWorker}
use Rattle.replica_space_crews.specs.layer.Crews.{ComesToEnd, IsCrew, StaysCrew}
use Rattle.replica_space_crews.proofs.Crews.{stays-refl, stays-then}
use Rattle.replica_space_rounds.specs.layer.Rounds.{HasGone}
use Rattle.replica_space_rounds.proofs.Going.{given-back}
use Rattle.replica_space_runs.proofs.Rounds.{comes-then}
use Rattle.replica_space_runs.proofs.threads.rounds.Goals as goal

pub loop-init : goal.loop-init
loop-init g c = record {
  some = c.requires.some;
  stays = stays-refl c.args.code.now c.args.crew.run c.args.crew.workers.items;
  gone = λ l f crew gone. gone;
}

pub go-requires-clause-running : goal.go-requires-clause-running
go-requires-clause-running g c κs within =
    let r = c.requires.running in (r.0, r.1, c.loop.invariant.stays.crew r.0 r.1 r.2)

pub settle-requires-clause-running : goal.settle-requires-clause-running
settle-requires-clause-running g c =
    let r = c.requires.running in let code = c.args.code.now in let now = c.in_ok-now.now in
    let is : c.as_mut_slice.result.now ≡ now.workers.items = search rules in (
      code,
      (
        r.0,
        r.1,
        subst (IsCrew code r.0 r.1 now.run) (sym is)
            (c.in_ok-now.ensures.running.crew r.0 r.1 (c.loop.invariant.stays.crew r.0 r.1 r.2)),
      ),
    )

pub settle-requires-clause-rested : goal.settle-requires-clause-rested
settle-requires-clause-rested g c =
    let is : c.as_mut_slice.result.now ≡ c.in_ok-now.now.workers.items = search rules in
    subst (Numbered (λ _ (k : ReplicaWorker). Rested k.recorder)) (sym is) c.in_ok-now.ensures.rested

pub loop-preserved : goal.loop-preserved
loop-preserved g c =
    let code = c.args.code.now in let first = c.args.crew in let before = c.loop.now in let now = c.in_ok-now.now in
    let ks = now.workers.items in let ms = c.settle.new.workers in let e = c.in_ok-over.ensures in let h = c.loop.invariant in
    let is : c.as_mut_slice.result.now ≡ ks = search rules in
    let many : length ms ≡ length ks = e.many ∙ ap length is in
    let back : take now.workers.len (ms ++ drop (length ms) ks) ≡ ms = given-back now.workers.len ks ms many (search rules) in
    let same : take now.workers.len (ms ++ drop (length ms) ks) ≡ ks = back ∙ e.goes c.if-over.false ∙ is in
    let gone = c.in_ok-now.ensures in
    record {
      some = subst (λ l. 0 < length l) (sym same) (subst (λ n. 0 < n) (sym gone.running.many) h.some);
      stays = subst (StaysCrew code first.run first.workers.items now.run) (sym same)
          (stays-then code first.run before.run now.run first.workers.items before.workers.items ks h.stays gone.running);
      gone = λ l f crew g. subst (HasGone now.run.0 f now.run.1) (sym same) (gone.rounds l f (h.stays.crew l f crew) (h.gone l f crew g));
    }

pub returns-then-over-clause-over : goal.returns-then-over-clause-over
returns-then-over-clause-over g c =
    let code = c.args.code.now in let first = c.args.crew in let before = c.loop.now in let now = c.in_ok-now.now in
    let ks = now.workers.items in let ms = c.settle.new.workers in let e = c.in_ok-over.ensures in let h = c.loop.invariant in
    let is : c.as_mut_slice.result.now ≡ ks = search rules in
    let many : length ms ≡ length ks = e.many ∙ ap length is in
    let back : take now.workers.len (ms ++ drop (length ms) ks) ≡ ms = given-back now.workers.len ks ms many (search rules) in
    let come : ComesToEnd code now.run ks now.run ms =
    subst (λ l. ComesToEnd code now.run l now.run ms) is (e.over c.if-over.true code) in
    subst (ComesToEnd code first.run first.workers.items now.run) (sym back)
    (comes-then code first.run now.run now.run first.workers.items ks ms
    (stays-then code first.run before.run now.run first.workers.items before.workers.items ks h.stays c.in_ok-now.ensures.running) come)

pub returns-then-over-clause-rounds : goal.returns-then-over-clause-rounds
returns-then-over-clause-rounds g c = λ l f crew gone.
    let now = c.in_ok-now.now in
    let ks = now.workers.items in let ms = c.settle.new.workers in let e = c.in_ok-over.ensures in let h = c.loop.invariant in
    let is : c.as_mut_slice.result.now ≡ ks = search rules in
    let many : length ms ≡ length ks = e.many ∙ ap length is in
    let back : take now.workers.len (ms ++ drop (length ms) ks) ≡ ms = given-back now.workers.len ks ms many (search rules) in
    subst (HasGone now.run.0 f now.run.1) (sym back)
    (e.rounds f (subst (HasGone now.run.0 f now.run.1) (sym is)
    (c.in_ok-now.ensures.rounds l f (h.stays.crew l f crew) (h.gone l f crew gone))))
