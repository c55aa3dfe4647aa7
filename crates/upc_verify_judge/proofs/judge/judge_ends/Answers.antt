use Rattle.std.proofs.Common.{refl, sym, ◌∙◌, arith}
use Rattle.upc_verify_parts.specs.Parts.{EndHolds}
use Rattle.upc_verify_judge.specs.layer.Meanings.{outcome_in}
use Rattle.upc_verify_judge.specs.Verdicts.{ends}
use Rattle.upc_verify_judge.specs.code.Judging.{case_in}
use Rattle.upc_verify_judge.proofs.Judging.{passed, stopped, sized, stalls-stand}
use Rattle.upc_verify_judge.proofs.judge.judge_ends.Goals as goal

pub broken_ends-requires-clause-threads : goal.broken_ends-requires-clause-threads
broken_ends-requires-clause-threads c = c.requires.judged.shape.threads

pub broken_ends-requires-clause-strands : goal.broken_ends-requires-clause-strands
broken_ends-requires-clause-strands c = c.requires.judged.shape.strands ∙ sym c.requires.judged.shape.threads

pub broken_ends-requires-clause-many : goal.broken_ends-requires-clause-many
broken_ends-requires-clause-many c = c.requires.judged.many ∙ sym c.requires.judged.shape.threads

pub broken_ends-requires-clause-stalls : goal.broken_ends-requires-clause-stalls
broken_ends-requires-clause-stalls c =
    stalls-stand c.args.world.now.0 c.args.journal.now c.args.orders.now c.args.meant.now 5 c.requires.judged (omega arith)

pub returns-in-Some : goal.returns-in-Some
returns-in-Some c =
    let o = c.args.world.now.0 in
    let j = c.args.journal.now in
    let meant = c.args.meant.now in
    let r = c.broken_ends.result in (
      ends,
      refl,
      stopped (case_in o j c.args.orders.now meant) ends c.in-Some.thread r c.in-Some.is c.requires.judged.parts
          (sized j.threads o.threads (λ t. EndHolds o j (outcome_in meant t).«end» t) r c.requires.judged.shape.threads
          c.broken_ends.ensures),
    )

pub judge_orders-requires-clause-some : goal.judge_orders-requires-clause-some
judge_orders-requires-clause-some c = c.requires.judged.some

pub judge_orders-requires-clause-shape : goal.judge_orders-requires-clause-shape
judge_orders-requires-clause-shape c = c.requires.judged.shape

pub returns-in_ok-verdict-in-None : goal.returns-in_ok-verdict-in-None
returns-in_ok-verdict-in-None c =
    let o = c.args.world.now.0 in
    let j = c.args.journal.now in
    let meant = c.args.meant.now in
    let r = c.broken_ends.result in
    c.in_ok-verdict-in-None.ensures (outcome_in meant)
    (passed (case_in o j c.args.orders.now meant) ends r c.in-None.is c.requires.judged.parts
    (sized j.threads o.threads (λ t. EndHolds o j (outcome_in meant t).«end» t) r c.requires.judged.shape.threads
    c.broken_ends.ensures))
