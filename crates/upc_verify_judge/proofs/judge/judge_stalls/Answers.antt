use Rattle.std.proofs.Common.{ℕ, length, map, refl, sym, ap, subst, ◌∙◌, arith}
use Rattle.std.specs.Option.{option_copied}
use Rattle.upc_values.specs.Openings.{Opening}
use Rattle.upc_values.specs.History.{EachBelow}
use Rattle.upc_verify_parts.specs.Parts.{HistoryHolds}
use Rattle.upc_verify_judge.specs.Verdicts.{stalls, history}
use Rattle.upc_verify_judge.specs.code.Judging.{case_in}
use Rattle.upc_verify_judge.proofs.Judging.{passed, stopped, stalls-stand, drains-each, each-below, judged-more}
use Rattle.upc_verify_judge.proofs.Wants.{wants-many, wants-stand, wants-found}
use Rattle.upc_verify_judge.proofs.judge.judge_stalls.Goals as goal

pub broken_stalls-requires-clause-threads : goal.broken_stalls-requires-clause-threads
broken_stalls-requires-clause-threads c =
    c.requires.judged.shape.threads ∙ ap (λ (o : Opening). o.threads) (sym c.requires.same)

pub broken_stalls-requires-clause-strands : goal.broken_stalls-requires-clause-strands
broken_stalls-requires-clause-strands c = c.requires.judged.shape.strands ∙ sym c.requires.judged.shape.threads

pub broken_stalls-requires-clause-wants : goal.broken_stalls-requires-clause-wants
broken_stalls-requires-clause-wants c =
    ap length c.as_slice.ensures.value ∙ wants-many c.in_ok-wants.wants.items c.args.meant.now c.in_ok-wants.ensures
    ∙ c.requires.judged.many ∙ sym c.requires.judged.shape.threads

pub broken_stalls-requires-clause-below : goal.broken_stalls-requires-clause-below
broken_stalls-requires-clause-below c =
    let j = c.args.journal.now in
    subst (λ (n : ℕ). EachBelow n j.history) (sym c.requires.judged.shape.threads)
    (each-below c.args.world.now.0 j c.args.orders.now c.args.meant.now 4 c.requires.judged (omega arith))

pub broken_stalls-requires-clause-lawful : goal.broken_stalls-requires-clause-lawful
broken_stalls-requires-clause-lawful c =
    subst (λ (o : Opening). HistoryHolds o c.args.journal.now.history) (sym c.requires.same)
    (c.requires.judged.parts history 0 c.requires.judged.some (omega arith) refl)

pub broken_stalls-requires-clause-drains : goal.broken_stalls-requires-clause-drains
broken_stalls-requires-clause-drains c =
    drains-each c.args.world.now.0 c.args.journal.now c.args.orders.now c.args.meant.now 4 c.requires.judged (omega arith)

pub broken_stalls-requires-clause-stalls : goal.broken_stalls-requires-clause-stalls
broken_stalls-requires-clause-stalls c =
    let j = c.args.journal.now in
    let meant = c.args.meant.now in
    wants-stand j meant c.as_slice.result.now
    (ap (map option_copied) c.as_slice.ensures.value ∙ c.in_ok-wants.ensures)
    (stalls-stand c.args.world.now.0 j c.args.orders.now meant 4 c.requires.judged (omega arith))

pub returns-in-Some : goal.returns-in-Some
returns-in-Some c =
    let o = c.args.world.now.0 in
    let j = c.args.journal.now in
    let meant = c.args.meant.now in
    let r = c.in_ok-broken.broken in (
      stalls,
      refl,
      stopped (case_in o j c.args.orders.now meant) stalls c.in-Some.thread r c.in-Some.is c.requires.judged.parts
          (wants-found c.args.again.now.0 o j meant c.as_slice.result.now
          (ap (map option_copied) c.as_slice.ensures.value ∙ c.in_ok-wants.ensures) c.requires.same
          c.requires.judged.shape.threads r c.in_ok-broken.ensures),
    )

pub judge_ends-requires-clause-judged : goal.judge_ends-requires-clause-judged
judge_ends-requires-clause-judged c =
    let o = c.args.world.now.0 in
    let j = c.args.journal.now in
    let x = c.args.orders.now in
    let meant = c.args.meant.now in
    let r = c.in_ok-broken.broken in
    judged-more o j x meant 4 5 c.requires.judged
    (passed (case_in o j x meant) stalls r c.in-None.is c.requires.judged.parts
    (wants-found c.args.again.now.0 o j meant c.as_slice.result.now
    (ap (map option_copied) c.as_slice.ensures.value ∙ c.in_ok-wants.ensures) c.requires.same
    c.requires.judged.shape.threads r c.in_ok-broken.ensures))
