use Rattle.std.proofs.Common.{◌≡◌, ◌+◌, ◌++◌, [], ◌∷◌, length, None, is_some, refl, sym, ap, subst, ◌∙◌, arith}
use Rattle.std.proofs.lemmas.Bool.{false≢true}
use Rattle.std.proofs.lemmas.List.{length-append}
use Rattle.upc_values.specs.Lists.{Numbered}
use Rattle.upc_task.proofs.Lists.{numbered-push}
use Rattle.upc_task.proofs.Options.{none-some}
use Rattle.replica_space_crews.specs.layer.Crews.{IsMember}
use Rattle.replica_space_runs.proofs.begin.make_all.Goals as goal

pub loop-thread-preserved : goal.loop-thread-preserved
loop-thread-preserved c =
    let h = c.loop-thread.invariant in let ks = c.loop-thread.workers.items in let k = c.in_ok-worker.worker in let e = c.in_ok-worker.ensures in
    let is : c.push.new.self.items ≡ ks ++ k ∷ [] = c.in_ok-push.ensures.items in
    record {
      many = ap length is ∙ length-append ks (k ∷ []) ∙ ap (λ n. n + 1) h.many;
      members = λ o f has.
          let member : IsMember o c.args.code.now c.args.limits f [] (length ks) k = record {
            at = record { kept = e.kept o f [] has refl; thread = e.new.0 ∙ sym h.many; limits = e.new.1 };
            own = λ y q. absurd (none-some k.recorder.«end» y e.new.2 q);
            idle = λ q w. absurd (false≢true (ap is_some (sym e.fresh.1) ∙ w));
          } in
          subst (Numbered (IsMember o c.args.code.now c.args.limits f [])) (sym is)
          (numbered-push (IsMember o c.args.code.now c.args.limits f []) ks k (h.members o f has) member);
    }

pub returns-clause-crew : goal.returns-clause-crew
returns-clause-crew c = λ o f has.
    let h = c.loop-thread.invariant in
    let many : length c.loop-thread.workers.items ≡ c.args.limits.threads =
    (let t = c.loop-thread-test.false in let e = c.loop-thread.auto.thread-end in let m = h.many in omega (arith, t, e, m)) in
    record { many = many ∙ sym has.threads; members = h.members o f has }
