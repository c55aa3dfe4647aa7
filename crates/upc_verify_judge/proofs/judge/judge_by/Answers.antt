use Rattle.std.proofs.Common.{refl, sym, ◌∙◌}
use Rattle.upc_values.specs.Strands.{Conforms}
use Rattle.upc_verify_parts.specs.Parts.{strand_of}
use Rattle.upc_verify_judge.specs.layer.Meanings.{outcome_in}
use Rattle.upc_verify_judge.specs.Verdicts.{strands}
use Rattle.upc_verify_judge.specs.code.Judging.{case_in}
use Rattle.upc_verify_judge.proofs.Judging.{shaped, passed, stopped, sized}
use Rattle.upc_verify_judge.proofs.judge.judge_by.Goals as goal

pub broken_strands-requires-clause-strands : goal.broken_strands-requires-clause-strands
broken_strands-requires-clause-strands c = c.requires.shape.strands ∙ sym c.requires.shape.threads

pub broken_strands-requires-clause-many : goal.broken_strands-requires-clause-many
broken_strands-requires-clause-many c = c.requires.many ∙ sym c.requires.shape.threads

pub returns-in-Some : goal.returns-in-Some
returns-in-Some c =
    let o = c.args.world.now.0 in
    let j = c.args.journal.now in
    let meant = c.args.meant.now in
    let case = case_in o j c.args.orders.now meant in
    let r = c.broken_strands.result in (
      strands,
      refl,
      stopped case strands c.in-Some.thread r c.in-Some.is (shaped case c.requires.shape)
          (sized j.threads o.threads (λ t. Conforms (outcome_in meant t) (strand_of j t)) r c.requires.shape.threads
          c.broken_strands.ensures),
    )

pub judge_entries-requires-clause-judged : goal.judge_entries-requires-clause-judged
judge_entries-requires-clause-judged c =
    let o = c.args.world.now.0 in
    let j = c.args.journal.now in
    let meant = c.args.meant.now in
    let case = case_in o j c.args.orders.now meant in
    let r = c.broken_strands.result in
    record {
      some = c.requires.some;
      shape = c.requires.shape;
      many = c.requires.many;
      turns = c.requires.turns;
      parts =
          passed case strands r c.in-None.is (shaped case c.requires.shape)
          (sized j.threads o.threads (λ t. Conforms (outcome_in meant t) (strand_of j t)) r c.requires.shape.threads
          c.broken_strands.ensures);
    }
