use Rattle.std.proofs.Common.{◌∷◌, [], ◌++◌, sym, ap, ◌∙◌, subst, append_assoc}
use Rattle.replica_space.specs.Runs.{IsReplicaRun}
use Rattle.replica_space.specs.ReplicaOrders.{Listed, listed_after}
use Rattle.replica_space_walk.specs.code.Walking.{IsAt, IsLow, IsWithin}
use Rattle.replica_space_walk.proofs.Walks.{within, low, listed-push}
use Rattle.replica_space_walk.proofs.walk.walk_over.Goals as goal

pub step-requires-clause-within : goal.step-requires-clause-within
step-requires-clause-within c =
    let inv = c.loop-event.invariant in
    let o = c.requires.run.0 in
    let e = c.in-Some.event.now in
    let whole : IsReplicaRun o (inv.0 ++ e ∷ c.next.new.self) =
    subst (IsReplicaRun o) (sym inv.1 ∙ ap (λ l. inv.0 ++ l) c.in-Some.ensures.steps) c.requires.run.2 in
    subst (λ n. IsWithin n e) (c.requires.run.1 ∙ sym inv.2.many) (within o inv.0 e c.next.new.self whole)

pub loop-event-preserved : goal.loop-event-preserved
loop-event-preserved c =
    let inv = c.loop-event.invariant in
    let o = c.requires.run.0 in
    let n = c.args.threads in
    let e = c.in-Some.event.now in
    let rest = c.next.new.self in
    let whole : IsReplicaRun o (inv.0 ++ e ∷ rest) =
    subst (IsReplicaRun o) (sym inv.1 ∙ ap (λ l. inv.0 ++ l) c.in-Some.ensures.steps) c.requires.run.2 in
    let clocks : IsLow n (listed_after n inv.0) =
    subst (λ k. IsLow k (listed_after k inv.0)) c.requires.run.1 (low o inv.0 (e ∷ rest) whole) in (
      inv.0 ++ e ∷ [],
      append_assoc inv.0 (e ∷ []) rest ∙ sym (ap (λ l. inv.0 ++ l) c.in-Some.ensures.steps) ∙ inv.1,
      subst (λ (x : Listed). IsAt n x c.step.new.self) (sym (listed-push n inv.0 e)) (c.in_ok-step.ensures.shows n (listed_after n inv.0) inv.2 clocks),
    )
