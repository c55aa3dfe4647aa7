use Rattle.std.proofs.Common.{◌≡◌}
use Rattle.std.proofs.lemmas.Bool.{false≢true}
use Rattle.upc_values.specs.declared.journal.Entry.{Entry}
use Rattle.upc_values.specs.Agrees.{IsIn}
use Rattle.upc_values.proofs.Lists.{all-next, all-first}
use Rattle.upc_values.proofs.agree.are_in.Goals as goal

pub loop-entry-preserved : goal.loop-entry-preserved
loop-entry-preserved c = record {
  place = c.loop-entry.invariant.place;
  left =
      all-next (λ (e : Entry). e.thread ≡ c.args.thread → IsIn c.args.items.now e) c.in-Some.entry.now c.next.new.self c.loop-entry.entry-iterator c.args.history.now c.in-Some.ensures.steps
      (λ q. absurd (c.if-entry-thread.false q)) c.loop-entry.invariant.left;
}

pub loop-entry-preserved-else-not-is_at : goal.loop-entry-preserved-else-not-is_at
loop-entry-preserved-else-not-is_at c = record {
  place = c.seek-place.ensures.place;
  left =
      all-next (λ (e : Entry). e.thread ≡ c.args.thread → IsIn c.args.items.now e) c.in-Some.entry.now c.next.new.self c.loop-entry.entry-iterator c.args.history.now c.in-Some.ensures.steps
      (λ _. c.is_at.ensures.0 c.if-not-is_at.false) c.loop-entry.invariant.left;
}

pub returns-then-not-is_at : goal.returns-then-not-is_at
returns-then-not-is_at c = (
  λ h. absurd (false≢true h),
  λ all.
      let here =
      all-first (λ (e : Entry). e.thread ≡ c.args.thread → IsIn c.args.items.now e) c.in-Some.entry.now c.next.new.self c.loop-entry.entry-iterator c.args.history.now c.in-Some.ensures.steps
      c.loop-entry.invariant.left all in
      let yes = c.is_at.ensures.1 (here c.if-entry-thread.true) in
      cc,
)
