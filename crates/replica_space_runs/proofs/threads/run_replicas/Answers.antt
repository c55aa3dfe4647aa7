use Rattle.std.proofs.Common.{ℕ, ◌≡◌, ◌<◌, [], sym, subst, ap, ◌∙◌}
use Rattle.upc_values.specs.Openings.{Opening, IsOpening}
use Rattle.upc_values.specs.Ends.{AreSpent}
use Rattle.replica_space.specs.ReplicaSound.{IsSoundReplica}
use Rattle.upc_task.specs.layer.Sources.{IsSource, HasOutcomes}
use Rattle.upc_rounds_base.specs.layer.Openings.{opening_of}
use Rattle.upc_rounds_base.proofs.Openings.{kept_opening}
use Rattle.upc_rounds_base.proofs.Outcomes.{has_outcomes, there}
use Rattle.replica_space_crews.specs.layer.Crews.{strands_of}
use Rattle.replica_space_crews.proofs.Crews.{journal_with, over-sound, over-spent}
use Rattle.replica_space_rounds.specs.ReplicaRounds.{GoesByReplicaRounds}
use Rattle.replica_space_runs.proofs.Rounds.{over-rounds}
use Rattle.replica_space_runs.proofs.threads.run_replicas.Goals as goal

pub run_rounds-requires-clause-code : goal.run_rounds-requires-clause-code
run_rounds-requires-clause-code g c κs within = c.requires.fits.threads ∙ c.requires.same

pub run_rounds-requires-clause-outcomes : goal.run_rounds-requires-clause-outcomes
run_rounds-requires-clause-outcomes g c κs within =
    let l = c.args.limits in let code = c.args.code.now in
    let given = there c.args.program.now code l c.keep.ensures c.requires.fits c.requires.same c.requires.budget.0 in
    (given.0, subst (λ o. HasOutcomes o code l given.0) (sym c.in_ok-begun.ensures.1) given.1)

pub returns-clause-sound : goal.returns-clause-sound
returns-clause-sound g c = λ f h.
    let o : Opening = opening_of c.args.program.now in let l = c.args.limits in let code = c.args.code.now in
    let opens : IsOpening o = kept_opening o c.args.program.now.opening in
    let x = c.in_ok-strands.replicas in let begins = c.in_ok-begun.ensures.1 in
    let opened : x.0 ≡ o = c.in_ok-strands.ensures.«opening» ∙ begins in
    let laws = c.what_workers_keep.ensures in let events = c.in_ok-events.ensures in
    let has : HasOutcomes o code l (f l.budget) =
    has_outcomes o code l opens c.keep.ensures c.requires.fits c.requires.same c.requires.budget.0 (f l.budget) h in
    let come = c.in_ok-strands.ensures.over (f l.budget) (subst (λ y. HasOutcomes y code l (f l.budget)) (sym begins) has) in
    let sound : IsSoundReplica x.0 f (journal_with l (strands_of (f l.budget) come.last) x.1) =
    over-sound code l f x come.last come.over laws.strands laws.delivers events.run events.formed
    (sym c.requires.same ∙ sym (ap (λ y. y.threads) opened)) in
    subst (λ y. IsSoundReplica y f (journal_with l c.from_vec.result c.in_ok-events.events)) opened
    (subst (λ s. IsSoundReplica x.0 f (journal_with l s c.in_ok-events.events)) (sym (c.from_vec.ensures ∙ come.same))
    (subst (λ es. IsSoundReplica x.0 f (journal_with l (strands_of (f l.budget) come.last) es)) (sym events.events) sound))

pub returns-clause-rounds : goal.returns-clause-rounds
returns-clause-rounds g c = λ f h.
    let o : Opening = opening_of c.args.program.now in let l = c.args.limits in let code = c.args.code.now in
    let opens : IsOpening o = kept_opening o c.args.program.now.opening in
    let x = c.in_ok-strands.replicas in let begins = c.in_ok-begun.ensures.1 in
    let opened : x.0 ≡ o = c.in_ok-strands.ensures.«opening» ∙ begins in let events = c.in_ok-events.ensures in
    let has : HasOutcomes o code l (f l.budget) =
    has_outcomes o code l opens c.keep.ensures c.requires.fits c.requires.same c.requires.budget.0 (f l.budget) h in
    let come = c.in_ok-strands.ensures.over (f l.budget) (subst (λ y. HasOutcomes y code l (f l.budget)) (sym begins) has) in
    let goes : GoesByReplicaRounds x.0 f (journal_with l (strands_of (f l.budget) come.last) x.1) =
    over-rounds code l f x come.last come.over come.gone in
    subst (λ y. GoesByReplicaRounds y f (journal_with l c.from_vec.result c.in_ok-events.events)) opened
    (subst (λ s. GoesByReplicaRounds x.0 f (journal_with l s c.in_ok-events.events)) (sym (c.from_vec.ensures ∙ come.same))
    (subst (λ es. GoesByReplicaRounds x.0 f (journal_with l (strands_of (f l.budget) come.last) es)) (sym events.events) goes))

pub returns-clause-spent : goal.returns-clause-spent
returns-clause-spent g c =
    let o : Opening = opening_of c.args.program.now in let l = c.args.limits in let code = c.args.code.now in
    let x = c.in_ok-strands.replicas in let begins = c.in_ok-begun.ensures.1 in
    let opened : x.0 ≡ o = c.in_ok-strands.ensures.«opening» ∙ begins in
    let given = there c.args.program.now code l c.keep.ensures c.requires.fits c.requires.same c.requires.budget.0 in
    let f = given.0 in let has : HasOutcomes o code l f = given.1 in
    let come = c.in_ok-strands.ensures.over f (subst (λ y. HasOutcomes y code l f) (sym begins) has) in
    subst (AreSpent l.budget) (sym (c.from_vec.ensures ∙ come.same))
    (over-spent code l (λ b. f) x come.last come.over c.what_workers_keep.ensures.strands
    (subst (λ y. (t : ℕ) → t < y.threads → IsSource y l.budget (f t)) (sym opened)
    (λ t lt. has.sources t (subst (λ n. t < n) c.requires.same lt))))
