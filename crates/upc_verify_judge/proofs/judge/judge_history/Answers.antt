use Rattle.std.proofs.Common.{refl, sym, subst, ◌∙◌, arith}
use Rattle.std.proofs.lemmas.Bool.{false≢true}
use Rattle.upc_values.specs.Openings.{Opening}
use Rattle.upc_verify_judge.specs.Verdicts.{history}
use Rattle.upc_verify_judge.specs.Verdicts as verdicts
use Rattle.upc_verify_judge.specs.code.Judging.{case_in, AreJudged}
use Rattle.upc_verify_judge.proofs.Judging.{lawful, unlawful, judged-more, in-turn, each-below}
use Rattle.upc_verify_judge.proofs.judge.judge_history.Goals as goal

pub is_lawful-requires-clause-below : goal.is_lawful-requires-clause-below
is_lawful-requires-clause-below c =
    each-below c.args.world.now.0 c.args.journal.now c.args.orders.now c.args.meant.now 3 c.requires.judged (omega arith)

pub is_lawful-requires-clause-turns : goal.is_lawful-requires-clause-turns
is_lawful-requires-clause-turns c =
    in-turn c.args.world.now.0 c.args.journal.now c.args.orders.now c.args.meant.now 3 c.requires.judged (omega arith)

pub returns-then-not-lawful : goal.returns-then-not-lawful
returns-then-not-lawful c = (
  history,
  refl,
  unlawful (case_in c.args.world.now.0 c.args.journal.now c.args.orders.now c.args.meant.now) c.requires.judged.some
      c.requires.judged.parts
      (λ h. false≢true (sym c.if-not-lawful.true ∙ c.in_ok-lawful.ensures.lawful.1 h)),
)

pub judge_stalls-requires-clause-judged : goal.judge_stalls-requires-clause-judged
judge_stalls-requires-clause-judged c =
    let o = c.args.world.now.0 in
    let j = c.args.journal.now in
    let x = c.args.orders.now in
    let meant = c.args.meant.now in
    subst (λ (p : Opening). AreJudged p j x meant 4) (sym c.is_lawful.ensures.opening)
    (judged-more o j x meant 3 4 c.requires.judged
    (lawful (case_in o j x meant) c.requires.judged.parts (c.in_ok-lawful.ensures.lawful.0 c.if-not-lawful.false)))

pub judge_stalls-requires-clause-turns : goal.judge_stalls-requires-clause-turns
judge_stalls-requires-clause-turns c =
    in-turn c.args.world.now.0 c.args.journal.now c.args.orders.now c.args.meant.now 3 c.requires.judged (omega arith)

pub judge_stalls-requires-clause-history : goal.judge_stalls-requires-clause-history
judge_stalls-requires-clause-history c = c.in_ok-lawful.ensures.whole c.if-not-lawful.false

pub judge_stalls-requires-clause-same : goal.judge_stalls-requires-clause-same
judge_stalls-requires-clause-same c = c.requires.same ∙ sym c.is_lawful.ensures.opening

pub returns : goal.returns
returns c =
    let j = c.args.journal.now in
    let x = c.args.orders.now in
    let meant = c.args.meant.now in
    subst (λ (p : Opening). verdicts.IsVerdict (case_in p j x meant) c.in_ok-verdict.verdict) c.is_lawful.ensures.opening
    c.in_ok-verdict.ensures
