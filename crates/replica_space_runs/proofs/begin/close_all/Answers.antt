use Rattle.std.proofs.Common.{is_some, true, ◌≡◌, ◌++◌, List, [], ◌∷◌, sym, subst, ap, ◌∙◌, arith, append_assoc}
use Rattle.std.specs.Vec.Iter.{into_iter_items}
use Rattle.std.proofs.lemmas.Grind.{common_steps}
use Rattle.std.proofs.lemmas.List.{map-append}
use Rattle.upc_values.specs.Lists.{Numbered}
use Rattle.upc_task.specs.layer.Recorded.{strand_of}
use Rattle.upc_task.proofs.Lists.{numbered-at}
use Rattle.replica_space_tasks.specs.declared.worker.ReplicaWorker.{ReplicaWorker}
use Rattle.replica_space_tasks.specs.layer.Kept.{IsKept}
use Rattle.replica_space_crews.specs.layer.Crews.{strands_of}
use Rattle.replica_space_runs.proofs.begin.close_all.Goals as goal

pub into_strand-requires : goal.into_strand-requires
into_strand-requires c =
    let h = c.loop-worker.invariant in let k = c.in-Some.worker in let xs = c.loop-worker.yielded in
    let left : List ReplicaWorker = into_iter_items c.next.new.self in
    let all : xs ++ k ∷ left ≡ c.args.workers.items = ap (λ l. xs ++ l) (sym c.in-Some.ensures.steps.0) ∙ h.all in
    numbered-at (λ i (q : ReplicaWorker). is_some q.recorder.«end» ≡ true) xs left k
    (subst (Numbered (λ i (q : ReplicaWorker). is_some q.recorder.«end» ≡ true)) (sym all) c.requires)

pub loop-worker-preserved : goal.loop-worker-preserved
loop-worker-preserved c =
    let h = c.loop-worker.invariant in let k = c.in-Some.worker in let xs = c.loop-worker.yielded in
    let left : List ReplicaWorker = into_iter_items c.next.new.self in
    let all : xs ++ k ∷ left ≡ c.args.workers.items = ap (λ l. xs ++ l) (sym c.in-Some.ensures.steps.0) ∙ h.all in
    record {
      all = append_assoc xs (k ∷ []) left ∙ all;
      made = λ o p f events a.
          let at : IsKept o p f events k =
          numbered-at (λ i (q : ReplicaWorker). IsKept o p f events q) xs left k
          (subst (Numbered (λ i (q : ReplicaWorker). IsKept o p f events q)) (sym all) a) in
          c.in_ok-push.ensures.items ∙ ap (λ l. l ++ c.into_strand.result ∷ []) (h.made o p f events a)
          ∙ ap (λ z. strands_of f xs ++ z ∷ []) (c.into_strand.ensures o p f events at)
          ∙ sym (map-append (λ (q : ReplicaWorker). strand_of f q.recorder) xs (k ∷ []));
    }

pub returns : goal.returns
returns c = λ o p f events a.
    let h = c.loop-worker.invariant in let st = c.in-None.ensures.steps in
    let all : c.loop-worker.yielded ≡ c.args.workers.items = grind (arith, common_steps, h.all, st.0) in
    h.made o p f events a ∙ ap (strands_of f) all
