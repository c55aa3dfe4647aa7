use Rattle.std.proofs.Common.{rules, ◌≡◌, ℕ, ◌+◌, ◌<◌, ◌≤◌, ◌++◌, ◌∷◌, [], List, length, take, get_or, sym, ap, ◌∙◌, arith}
use Rattle.upc_values.specs.declared.journal.Entry.{Entry}
use Rattle.upc_values.specs.Drain.{entries_of}
use Rattle.tests_records.proofs.Following.{entry-there, one-more}
use Rattle.tests_records.proofs.by_hand.are_entries_of.Goals as goal

pub overflow_add-next : goal.overflow_add-next
overflow_add-next c =
    let lt = (entry-there c.args.entries.now c.loop-entry.next c.in-Some-get.other.now c.in-Some-get.ensures).0 in
    let count = c.len-count.ensures in
    let fits = c.len-count.type_inv in
    omega arith

pub loop-entry-preserved-then-same_entry : goal.loop-entry-preserved-then-same_entry
loop-entry-preserved-then-same_entry c =
    let xs = c.args.entries.now in
    let n = c.loop-entry.next in
    let e = c.in-Some.entry.now in
    let own : e.thread ≡ c.args.thread = search rules in
    let same : e ≡ c.in-Some-get.other.now = search rules in
    let there = entry-there xs n c.in-Some-get.other.now c.in-Some-get.ensures in
    let lt = there.0 in
    record {
      most = omega arith;
      so_far =
          one-more c.args.thread xs n e c.in-Some-get.other.now c.loop-entry.entry-iterator c.next.new.self
          c.in-Some.ensures.steps own same lt there.1
          ∙ c.loop-entry.invariant.so_far;
    }
