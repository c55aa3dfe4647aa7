use Rattle.std.proofs.Common.{◌≡◌, ◌<◌, [], ◌∷◌, ◌++◌, List, refl, sym, ap, subst, ◌∙◌, append_assoc, rules}
use Rattle.upc_values.specs.declared.journal.Entry.{Entry}
use Rattle.upc_values.specs.Openings.{Opening}
use Rattle.upc_values.specs.History.{EachBelow}
use Rattle.upc_values.proofs.Membership.{each-back}
use Rattle.upc_verify_parts.specs.Parts.{HistoryHolds}
use Rattle.upc_verify_history.specs.layer.Turns.{AreInTurn}
use Rattle.upc_verify_history.specs.layer.Lawful.{IsLawful}
use Rattle.upc_verify_history.proofs.Playing.{turn-at, lawful-at, parted}
use Rattle.upc_verify_stalls.specs.code.Watches.{AreDue}
use Rattle.upc_verify_stalls.proofs.walk.walk.Goals as goal

pub step-requires-clause-below : goal.step-requires-clause-below
step-requires-clause-below c =
    let front = c.loop-entry.world.1 in
    let n = c.args.world.now.0.threads in
    let is = parted front c.loop-entry.entry-iterator c.args.history.now c.next.new.self c.in-Some.entry.now c.loop-entry.invariant.parts c.in-Some.ensures.steps in
    subst (λ (o : Opening). c.in-Some.entry.now.thread < o.threads) (sym c.loop-entry.invariant.opening)
    (each-back (λ (e : Entry). e.thread < n) front (c.in-Some.entry.now ∷ c.next.new.self) (subst (EachBelow n) is c.requires.below)).0

pub step-requires-clause-turn : goal.step-requires-clause-turn
step-requires-clause-turn c =
    let front = c.loop-entry.world.1 in
    let is = parted front c.loop-entry.entry-iterator c.args.history.now c.next.new.self c.in-Some.entry.now c.loop-entry.invariant.parts c.in-Some.ensures.steps in
    turn-at front c.next.new.self c.in-Some.entry.now (subst AreInTurn is c.requires.turns)

pub step-requires-clause-lawful : goal.step-requires-clause-lawful
step-requires-clause-lawful c =
    let o = c.args.world.now.0 in
    let front = c.loop-entry.world.1 in
    let e = c.in-Some.entry.now in
    let is = parted front c.loop-entry.entry-iterator c.args.history.now c.next.new.self e c.loop-entry.invariant.parts c.in-Some.ensures.steps in
    subst (λ (z : Opening). IsLawful z front e) (sym c.loop-entry.invariant.opening)
    (lawful-at o front c.next.new.self e (subst (HistoryHolds o) is c.requires.lawful))

pub loop-entry-init : goal.loop-entry-init
loop-entry-init c =
    let o = c.args.world.now.0 in
    let empty = c.requires.empty in
    let is : c.into_iter-entry-iterator.result ≡ c.args.history.now =
    first_of (cc (c.into_iter-entry-iterator.ensures.into_iter_gives, c.iter-entry-items.ensures.rest), search rules) in
    record {
      parts = ap (λ (l : List Entry). l ++ c.into_iter-entry-iterator.result) empty ∙ is;
      opening = refl;
      due = subst (λ (es : List Entry). AreDue o c.args.points.now es c.args.watches.now) (sym empty) c.requires.due;
    }

pub loop-entry-preserved : goal.loop-entry-preserved
loop-entry-preserved c =
    let inv = c.loop-entry.invariant in
    let front = c.loop-entry.world.1 in
    let e = c.in-Some.entry.now in
    let rest = c.next.new.self in
    let done = c.in_ok-step.ensures in
    record {
      parts =
          ap (λ l. l ++ rest) done.grown ∙ append_assoc front (e ∷ []) rest
          ∙ sym (parted front c.loop-entry.entry-iterator c.args.history.now rest e inv.parts c.in-Some.ensures.steps);
      opening = c.step.ensures.opening ∙ inv.opening;
      due = done.due;
    }
