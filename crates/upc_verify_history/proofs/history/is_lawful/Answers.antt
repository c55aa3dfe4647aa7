use Rattle.std.proofs.Common.{◌<◌, ◌∷◌, sym, subst, ◌∙◌}
use Rattle.std.proofs.lemmas.Bool.{false≢true}
use Rattle.upc_values.specs.declared.journal.Entry.{Entry}
use Rattle.upc_values.specs.Openings.{Opening}
use Rattle.upc_values.specs.History.{EachBelow}
use Rattle.upc_values.proofs.Membership.{each-back}
use Rattle.upc_verify_parts.specs.Parts.{HistoryHolds}
use Rattle.upc_verify_history.specs.layer.Turns.{AreInTurn}
use Rattle.upc_verify_history.specs.layer.Lawful.{IsLawful}
use Rattle.upc_verify_history.proofs.Playing.{turn-at, lawful-at, parted}
use Rattle.upc_verify_history.proofs.history.is_lawful.Goals as goal

pub goes_on-requires-clause-below : goal.goes_on-requires-clause-below
goes_on-requires-clause-below c =
    let front = c.loop-entry.world.1 in
    let n = c.args.world.now.0.threads in
    let is = parted front c.loop-entry.entry-iterator c.args.history.now c.next.new.self c.in-Some.entry.now c.loop-entry.invariant.parts c.in-Some.ensures.steps in
    subst (λ (o : Opening). c.in-Some.entry.now.thread < o.threads) (sym c.loop-entry.invariant.opening)
    (each-back (λ (e : Entry). e.thread < n) front (c.in-Some.entry.now ∷ c.next.new.self) (subst (EachBelow n) is c.requires.below)).0

pub goes_on-requires-clause-turn : goal.goes_on-requires-clause-turn
goes_on-requires-clause-turn c =
    let front = c.loop-entry.world.1 in
    let is = parted front c.loop-entry.entry-iterator c.args.history.now c.next.new.self c.in-Some.entry.now c.loop-entry.invariant.parts c.in-Some.ensures.steps in
    turn-at front c.next.new.self c.in-Some.entry.now (subst AreInTurn is c.requires.turns)

pub returns-then-not-lawful-clause-lawful : goal.returns-then-not-lawful-clause-lawful
returns-then-not-lawful-clause-lawful c =
    let o = c.args.world.now.0 in
    let front = c.loop-entry.world.1 in
    let e = c.in-Some.entry.now in
    let is = parted front c.loop-entry.entry-iterator c.args.history.now c.next.new.self e c.loop-entry.invariant.parts c.in-Some.ensures.steps in (
      λ h. absurd (false≢true h),
      λ h.
          let here : IsLawful o front e = lawful-at o front c.next.new.self e (subst (HistoryHolds o) is h) in
          sym c.if-not-lawful.true
          ∙ c.in_ok-lawful.ensures.lawful.1 (subst (λ (z : Opening). IsLawful z front e) (sym c.loop-entry.invariant.opening) here),
    )
