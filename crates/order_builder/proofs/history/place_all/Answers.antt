use Rattle.std.proofs.Common.{◌+◌, set, sym, ◌∙◌, subst, arith}
use Rattle.order_builder.specs.code.Views.{ArePlaced}
use Rattle.order_builder.proofs.Following.{finds-placed, placed-more}
use Rattle.order_builder.proofs.history.place_all.Goals as goal

pub at-requires : goal.at-requires
at-requires c =
    let l = c.loop-entry in
    let k =
    finds-placed c.args.journal.now c.requires.follows c.args.commits.now c.requires.commits l.names l.cursors.items
    l.entry-iterator c.next.new.self c.in-Some.entry.now c.index-cursor.result.now c.index-commits-thread.result
    l.invariant c.in-Some.ensures.steps c.index-cursor.ensures c.index-commits-thread.is in
    k.has

pub overflow_add-cursor : goal.overflow_add-cursor
overflow_add-cursor c = let counted = c.at.ensures.counted in omega arith

pub loop-entry-preserved : goal.loop-entry-preserved
loop-entry-preserved c =
    let j = c.args.journal.now in
    let e = c.in-Some.entry.now in
    let l = c.loop-entry in
    let n = c.index-cursor.result.now in
    let k =
    finds-placed j c.requires.follows c.args.commits.now c.requires.commits l.names l.cursors.items
    l.entry-iterator c.next.new.self e n c.index-commits-thread.result
    l.invariant c.in-Some.ensures.steps c.index-cursor.ensures c.index-commits-thread.is in
    let more = c.at.result.now in
    subst (λ z. ArePlaced j c.next.new.self z (set l.cursors.items e.thread (n + 1))) (sym c.in_ok-extend.ensures)
    (placed-more j l.names more l.cursors.items l.entry-iterator c.next.new.self e n c.in-Some.ensures.steps k.below k.is
    (c.at.ensures.names ∙ k.names) l.invariant)
