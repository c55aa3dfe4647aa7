use Rattle.std.proofs.Common.{◌<◌, ℕ, MatchOption, refl, sym, subst, ◌∙◌}
use Rattle.upc_verify_parts.specs.Parts.{EntriesHold, FailsFirst, HoldsOfEach}
use Rattle.upc_verify_judge.specs.Verdicts.{entries}
use Rattle.upc_verify_judge.specs.code.Judging.{case_in}
use Rattle.upc_verify_judge.proofs.Judging.{passed, stopped, judged-more}
use Rattle.upc_verify_judge.proofs.judge.judge_entries.Goals as goal

pub broken_entries-requires-clause-some : goal.broken_entries-requires-clause-some
broken_entries-requires-clause-some c = subst (λ n. 0 < n) (sym c.requires.judged.shape.threads) c.requires.judged.some

pub broken_entries-requires-clause-many : goal.broken_entries-requires-clause-many
broken_entries-requires-clause-many c = c.requires.judged.shape.strands ∙ sym c.requires.judged.shape.threads

pub returns-in-Some : goal.returns-in-Some
returns-in-Some c =
    let o = c.args.world.now.0 in
    let j = c.args.journal.now in
    let r = c.in_ok-broken.broken in (
      entries,
      refl,
      stopped (case_in o j c.args.orders.now c.args.meant.now) entries c.in-Some.thread r c.in-Some.is c.requires.judged.parts
          (subst (λ (n : ℕ). MatchOption r (HoldsOfEach n (EntriesHold n j)) (FailsFirst n (EntriesHold n j)))
          c.requires.judged.shape.threads c.in_ok-broken.ensures),
    )

pub judge_history-requires-clause-judged : goal.judge_history-requires-clause-judged
judge_history-requires-clause-judged c =
    let o = c.args.world.now.0 in
    let j = c.args.journal.now in
    let x = c.args.orders.now in
    let meant = c.args.meant.now in
    let r = c.in_ok-broken.broken in
    judged-more o j x meant 2 3 c.requires.judged
    (passed (case_in o j x meant) entries r c.in-None.is c.requires.judged.parts
    (subst (λ (n : ℕ). MatchOption r (HoldsOfEach n (EntriesHold n j)) (FailsFirst n (EntriesHold n j)))
    c.requires.judged.shape.threads c.in_ok-broken.ensures))
