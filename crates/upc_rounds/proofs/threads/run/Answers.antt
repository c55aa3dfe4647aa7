use Rattle.std.proofs.Common.{◌≡◌, ◌<◌, map, sym, subst, ap, ◌∙◌}
use Rattle.turn_cell.specs.layer.Seats.{AreNew, id_of, started}
use Rattle.upc_values.specs.declared.journal.Journal.{Journal}
use Rattle.upc_values.specs.Openings.{Opening, IsOpening}
use Rattle.upc_values.specs.History.{IsLegal, EachBelow}
use Rattle.upc_values.specs.Formed.{AreWellFormed}
use Rattle.upc_values.specs.Waits.{WaitsFollow}
use Rattle.upc_task.specs.layer.Sources.{Outcomes, HasOutcomes}
use Rattle.upc_task.specs.layer.Kept.{strand_of}
use Rattle.upc_rounds.specs.layer.Openings.{opening_of}
use Rattle.upc_rounds_teams.specs.layer.Runs.{AreSame}
use Rattle.upc_rounds_teams.specs.layer.Teams.{IsTeam, IsDone, HasEnded, workers_of, seen_among}
use Rattle.upc_rounds_base.proofs.Openings.{kept_opening}
use Rattle.upc_rounds_base.proofs.Outcomes.{has_outcomes, there}
use Rattle.upc_rounds.proofs.Spending.{sound-spent}
use Rattle.upc_rounds.proofs.Whole.{begun-team, done-kept, done-is-ended, done-sound, done-in-time}
use Rattle.upc_rounds.proofs.threads.run.Goals as goal

pub make_all-requires-clause-code : goal.make_all-requires-clause-code
make_all-requires-clause-code g c = c.requires.fits.threads ∙ c.requires.same

pub together-requires-clause-team : goal.together-requires-clause-team
together-requires-clause-team g c κs within =
    let o : Opening = opening_of c.args.program.now in let l = c.args.limits in let code = c.args.code.now in
    let cell = c.in_ok-cell.cell in let z = id_of cell in let s = c.in_ok-cell.ensures in let ks = c.in_ok-places.places.items in
    let opens : IsOpening o = kept_opening o c.args.program.now.opening in
    let from : (started cell).0 ≡ o = ap (λ v. v.0) s.cell.0 ∙ c.in_ok-world.ensures.1 in
    let new : AreNew z o 0 c.in_ok-cell.seats.items = subst (λ y. AreNew z y 0 c.in_ok-cell.seats.items) c.in_ok-world.ensures.1 s.seats.1 in
    let begun : (f : Outcomes) → HasOutcomes o code l f → IsTeam z (started cell).0 code f ks = λ f has.
    subst (λ y. IsTeam z y code f ks) (sym from)
    (begun-team z o code f ks (c.in_ok-places.ensures.crew z o f new opens has) c.in_ok-places.ensures.fresh) in
    let given = there c.args.program.now code l c.keep.ensures c.requires.fits c.requires.same c.requires.budget.0 in
    (given.0, begun given.0 given.1)

pub close_all-world-requires-clause-seated : goal.close_all-world-requires-clause-seated
close_all-world-requires-clause-seated g c =
    let o : Opening = opening_of c.args.program.now in let l = c.args.limits in let code = c.args.code.now in
    let cell = c.in_ok-cell.cell in let z = id_of cell in let s = c.in_ok-cell.ensures in let ks = c.in_ok-places.places.items in
    let opens : IsOpening o = kept_opening o c.args.program.now.opening in
    let from : (started cell).0 ≡ o = ap (λ v. v.0) s.cell.0 ∙ c.in_ok-world.ensures.1 in
    let new : AreNew z o 0 c.in_ok-cell.seats.items = subst (λ y. AreNew z y 0 c.in_ok-cell.seats.items) c.in_ok-world.ensures.1 s.seats.1 in
    let ms = c.in_ok-after.after.items in let e = c.in_ok-after.ensures in
    let same : AreSame (workers_of ks) (workers_of ms) = e.same in
    let begun : (f : Outcomes) → HasOutcomes o code l f → IsTeam z (started cell).0 code f ks = λ f has.
    subst (λ y. IsTeam z y code f ks) (sym from)
    (begun-team z o code f ks (c.in_ok-places.ensures.crew z o f new opens has) c.in_ok-places.ensures.fresh) in
    let given = there c.args.program.now code l c.keep.ensures c.requires.fits c.requires.same c.requires.budget.0 in
    let done : (f : Outcomes) → HasOutcomes o code l f → IsDone z (started cell).0 code f ms = λ f has. e.over f (begun f has) in
    (done given.0 given.1).seats

pub close_all-world-requires-clause-ended : goal.close_all-world-requires-clause-ended
close_all-world-requires-clause-ended g c =
    let o : Opening = opening_of c.args.program.now in let l = c.args.limits in let code = c.args.code.now in
    let cell = c.in_ok-cell.cell in let z = id_of cell in let s = c.in_ok-cell.ensures in let ks = c.in_ok-places.places.items in
    let opens : IsOpening o = kept_opening o c.args.program.now.opening in
    let from : (started cell).0 ≡ o = ap (λ v. v.0) s.cell.0 ∙ c.in_ok-world.ensures.1 in
    let new : AreNew z o 0 c.in_ok-cell.seats.items = subst (λ y. AreNew z y 0 c.in_ok-cell.seats.items) c.in_ok-world.ensures.1 s.seats.1 in
    let ms = c.in_ok-after.after.items in let e = c.in_ok-after.ensures in
    let same : AreSame (workers_of ks) (workers_of ms) = e.same in
    let begun : (f : Outcomes) → HasOutcomes o code l f → IsTeam z (started cell).0 code f ks = λ f has.
    subst (λ y. IsTeam z y code f ks) (sym from)
    (begun-team z o code f ks (c.in_ok-places.ensures.crew z o f new opens has) c.in_ok-places.ensures.fresh) in
    let given = there c.args.program.now code l c.keep.ensures c.requires.fits c.requires.same c.requires.budget.0 in
    let done : (f : Outcomes) → HasOutcomes o code l f → IsDone z (started cell).0 code f ms = λ f has. e.over f (begun f has) in
    done-is-ended z (started cell).0 code given.0 ms (done given.0 given.1)

pub returns-clause-sound : goal.returns-clause-sound
returns-clause-sound g c = λ f h.
    let o : Opening = opening_of c.args.program.now in let l = c.args.limits in let code = c.args.code.now in
    let cell = c.in_ok-cell.cell in let z = id_of cell in let s = c.in_ok-cell.ensures in let ks = c.in_ok-places.places.items in
    let opens : IsOpening o = kept_opening o c.args.program.now.opening in
    let from : (started cell).0 ≡ o = ap (λ v. v.0) s.cell.0 ∙ c.in_ok-world.ensures.1 in
    let new : AreNew z o 0 c.in_ok-cell.seats.items = subst (λ y. AreNew z y 0 c.in_ok-cell.seats.items) c.in_ok-world.ensures.1 s.seats.1 in
    let ms = c.in_ok-after.after.items in let e = c.in_ok-after.ensures in
    let same : AreSame (workers_of ks) (workers_of ms) = e.same in
    let begun : (f : Outcomes) → HasOutcomes o code l f → IsTeam z (started cell).0 code f ks = λ f has.
    subst (λ y. IsTeam z y code f ks) (sym from)
    (begun-team z o code f ks (c.in_ok-places.ensures.crew z o f new opens has) c.in_ok-places.ensures.fresh) in
    let done : (f : Outcomes) → HasOutcomes o code l f → IsDone z (started cell).0 code f ms = λ f has. e.over f (begun f has) in
    let took = c.take_history-history.ensures in let closed = c.close_all-world.ensures in let world = c.close_all-world.result.0 in let history = c.take_history-history.result in
    let opened : world.0 ≡ o = closed.opening ∙ from in
    let whole : history ≡ seen_among ms = took.taken ∙ closed.history in
    let made : (f : Outcomes) → HasOutcomes o code l f → c.from_vec.result ≡ map (strand_of f) (workers_of ms) = λ f has.
    c.from_vec.ensures ∙ closed.strands (started cell).0 code f
    (done-kept z (started cell).0 code f ms (done f has)) in
    let legal : IsLegal o history = subst (IsLegal o) (sym took.taken) (subst (λ y. IsLegal y world.1) opened took.legal) in
    let formed : AreWellFormed o history = subst (AreWellFormed o) (sym took.taken) (subst (λ y. AreWellFormed y world.1) opened took.formed) in
    let below : EachBelow o.threads history = subst (EachBelow o.threads) (sym took.taken) (subst (λ y. EachBelow y.threads world.1) opened took.below) in
    let has : HasOutcomes o code l (f l.budget) =
    has_outcomes o code l opens c.keep.ensures c.requires.fits c.requires.same c.requires.budget.0 (f l.budget) h in
    done-sound z o code f l ks ms c.from_vec.result history (subst (λ y. IsDone z y code (f l.budget) ms) from (done (f l.budget) has)) whole (made (f l.budget) has)
    (sym c.requires.same) legal formed below same c.in_ok-places.ensures.limits

pub returns-clause-waits : goal.returns-clause-waits
returns-clause-waits g c =
    let o : Opening = opening_of c.args.program.now in let l = c.args.limits in let code = c.args.code.now in
    let cell = c.in_ok-cell.cell in let z = id_of cell in let s = c.in_ok-cell.ensures in let ks = c.in_ok-places.places.items in
    let opens : IsOpening o = kept_opening o c.args.program.now.opening in
    let from : (started cell).0 ≡ o = ap (λ v. v.0) s.cell.0 ∙ c.in_ok-world.ensures.1 in
    let new : AreNew z o 0 c.in_ok-cell.seats.items = subst (λ y. AreNew z y 0 c.in_ok-cell.seats.items) c.in_ok-world.ensures.1 s.seats.1 in
    let took = c.take_history-history.ensures in let world = c.close_all-world.result.0 in
    let opened : world.0 ≡ o = c.close_all-world.ensures.opening ∙ from in
    subst (λ n. WaitsFollow n c.take_history-history.result) c.requires.same
    (subst (WaitsFollow o.threads) (sym took.taken) (subst (λ y. WaitsFollow y.threads world.1) opened took.waits))

pub returns-clause-spent : goal.returns-clause-spent
returns-clause-spent g c =
    let o : Opening = opening_of c.args.program.now in let l = c.args.limits in
    let given = there c.args.program.now c.args.code.now l c.keep.ensures c.requires.fits c.requires.same c.requires.budget.0 in
    let f = given.0 in let has : HasOutcomes o c.args.code.now l f = given.1 in
    let j : Journal = record { threads = l.threads; budget = l.budget; actions = l.actions; strands = c.from_vec.result; history = c.take_history-history.result } in
    sound-spent o (λ b. f) j (λ t lt. has.sources t (subst (λ n. t < n) c.requires.same lt))
    (returns-clause-sound g c (λ b. f) has.means)

pub returns-clause-rounds : goal.returns-clause-rounds
returns-clause-rounds g c = λ f h.
    let o : Opening = opening_of c.args.program.now in let l = c.args.limits in let code = c.args.code.now in
    let cell = c.in_ok-cell.cell in let z = id_of cell in let s = c.in_ok-cell.ensures in let ks = c.in_ok-places.places.items in
    let opens : IsOpening o = kept_opening o c.args.program.now.opening in
    let from : (started cell).0 ≡ o = ap (λ v. v.0) s.cell.0 ∙ c.in_ok-world.ensures.1 in
    let new : AreNew z o 0 c.in_ok-cell.seats.items = subst (λ y. AreNew z y 0 c.in_ok-cell.seats.items) c.in_ok-world.ensures.1 s.seats.1 in
    let ms = c.in_ok-after.after.items in let e = c.in_ok-after.ensures in
    let same : AreSame (workers_of ks) (workers_of ms) = e.same in
    let begun : (f : Outcomes) → HasOutcomes o code l f → IsTeam z (started cell).0 code f ks = λ f has.
    subst (λ y. IsTeam z y code f ks) (sym from)
    (begun-team z o code f ks (c.in_ok-places.ensures.crew z o f new opens has) c.in_ok-places.ensures.fresh) in
    let done : (f : Outcomes) → HasOutcomes o code l f → IsDone z (started cell).0 code f ms = λ f has. e.over f (begun f has) in
    let took = c.take_history-history.ensures in let closed = c.close_all-world.ensures in let world = c.close_all-world.result.0 in let history = c.take_history-history.result in
    let opened : world.0 ≡ o = closed.opening ∙ from in
    let whole : history ≡ seen_among ms = took.taken ∙ closed.history in
    let made : (f : Outcomes) → HasOutcomes o code l f → c.from_vec.result ≡ map (strand_of f) (workers_of ms) = λ f has.
    c.from_vec.ensures ∙ closed.strands (started cell).0 code f
    (done-kept z (started cell).0 code f ms (done f has)) in
    let has : HasOutcomes o code l (f l.budget) =
    has_outcomes o code l opens c.keep.ensures c.requires.fits c.requires.same c.requires.budget.0 (f l.budget) h in
    done-in-time z o code f l ks ms c.from_vec.result history (subst (λ y. IsDone z y code (f l.budget) ms) from (done (f l.budget) has))
    (subst (λ y. HasEnded y (f l.budget) ms) from (e.rounds (f l.budget) (begun (f l.budget) has))) whole (made (f l.budget) has) same c.in_ok-places.ensures.limits
