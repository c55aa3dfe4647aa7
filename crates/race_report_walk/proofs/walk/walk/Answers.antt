use Rattle.std.specs.Prelude.{replicate}
use Rattle.std.proofs.Common.{rules, ◌≡◌, [], length, get_or, ap, ◌∙◌, arith}
use Rattle.std.proofs.lemmas.List.{get_or-replicate, length-replicate}
use Rattle.race_report_walk.proofs.Stepping.{entry-below, finds-entry, walked-more}
use Rattle.race_report_walk.proofs.walk.walk.Goals as goal

pub loop-entry-init : goal.loop-entry-init
loop-entry-init c =
    let j = c.args.journal.now in
    let xs = c.in_ok-cursors.cursors.items in
    let same : xs ≡ replicate (length c.args.commits.now) 0 = c.in_ok-cursors.ensures.items_if_clones_equal (λ y h. search rules) in
    let many : length xs ≡ j.threads =
    ap length same ∙ length-replicate (length c.args.commits.now) 0 ∙ c.requires.commits.many in
    record {
      before = [];
      parts = search rules;
      cursors_are = record {
        many = many;
        at = λ t h. ap (λ l. get_or l t 0) same
            ∙ get_or-replicate (length c.args.commits.now) t 0 0 (let m = c.requires.commits.many in omega arith);
      };
      clocks = c.in_ok-tables.ensures;
      walked = c.new-cells.ensures;
    }

pub index-cursor-requires : goal.index-cursor-requires
index-cursor-requires c =
    let l = c.loop-entry in
    let below =
    entry-below c.args.journal.now c.requires.follows l.cursors.items l.entry-iterator c.next.new.self l.tables l.cells
    c.in-Some.entry.now l.invariant c.in-Some.ensures.steps in
    let many = l.invariant.cursors_are.many in
    let size = l.cursors.ok.0 in
    omega arith

pub bounds-commits-thread : goal.bounds-commits-thread
bounds-commits-thread c =
    let l = c.loop-entry in
    let below =
    entry-below c.args.journal.now c.requires.follows l.cursors.items l.entry-iterator c.next.new.self l.tables l.cells
    c.in-Some.entry.now l.invariant c.in-Some.ensures.steps in
    let many = c.requires.commits.many in
    omega arith

pub at-names-requires : goal.at-names-requires
at-names-requires c =
    let l = c.loop-entry in
    let k =
    finds-entry c.args.journal.now c.requires.follows c.args.commits.now c.requires.commits l.cursors.items l.entry-iterator
    c.next.new.self l.tables l.cells c.in-Some.entry.now c.index-cursor.result.now c.index-commits-thread.result
    l.invariant c.in-Some.ensures.steps c.index-cursor.ensures c.index-commits-thread.is in
    k.has

pub step-requires-clause-ready : goal.step-requires-clause-ready
step-requires-clause-ready c =
    let l = c.loop-entry in
    let below =
    entry-below c.args.journal.now c.requires.follows l.cursors.items l.entry-iterator c.next.new.self l.tables l.cells
    c.in-Some.entry.now l.invariant c.in-Some.ensures.steps in
    let clocks = l.invariant.clocks in
    let many = clocks.many in
    let notified = clocks.many_notified in
    let waited = clocks.many_waited in
    record { known = omega arith; notified = omega arith; waited = omega arith; apart = clocks.apart }

pub index_mut-requires : goal.index_mut-requires
index_mut-requires c =
    let l = c.loop-entry in
    let below =
    entry-below c.args.journal.now c.requires.follows l.cursors.items l.entry-iterator c.next.new.self l.tables l.cells
    c.in-Some.entry.now l.invariant c.in-Some.ensures.steps in
    let many = l.invariant.cursors_are.many in
    let size = l.cursors.ok.0 in
    omega arith

pub loop-entry-preserved : goal.loop-entry-preserved
loop-entry-preserved c =
    let l = c.loop-entry in
    let k =
    finds-entry c.args.journal.now c.requires.follows c.args.commits.now c.requires.commits l.cursors.items l.entry-iterator
    c.next.new.self l.tables l.cells c.in-Some.entry.now c.index-cursor.result.now c.index-commits-thread.result
    l.invariant c.in-Some.ensures.steps c.index-cursor.ensures c.index-commits-thread.is in
    walked-more c.args.journal.now c.requires.follows c.args.commits.now c.requires.commits l.cursors.items l.entry-iterator
    c.next.new.self l.tables l.cells c.in-Some.entry.now c.index-cursor.result.now c.index-commits-thread.result
    l.invariant c.in-Some.ensures.steps c.index-cursor.ensures c.index-commits-thread.is c.at-names.result.now
    c.step.new.tables c.step.new.cells (c.at-names.ensures.names ∙ k.names) c.in_ok-step.ensures.clocks
    c.in_ok-step.ensures.cells
