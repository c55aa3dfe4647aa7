use Rattle.std.proofs.Common.{◌≡◌, ℕ, ◌<◌, ◌==◌, ◌||◌, cond, List, ◌∙◌, length, sym, ap, subst}
use Rattle.std.proofs.lemmas.List.{with_items_is}
use Rattle.upc_values.specs.Operations.{access}
use Rattle.replica_space.specs.Events.{did}
use Rattle.replica_space_rows.specs.declared.member.Member.{Member}
use Rattle.replica_space_rows.specs.layer.Rows.{with_access}
use Rattle.replica_space_walk.specs.code.Walking.{row_of, after, Shows}
use Rattle.replica_space_walk.proofs.Stepping.{acted-shows}
use Rattle.replica_space_walk.proofs.walk.Walk.act.Goals as goal

pub returns-clause-shows : goal.returns-clause-shows
returns-clause-shows c = λ n x h low.
    let w = c.args.self.now in
    let t = c.args.thread in
    let i = c.args.index in
    let a = c.args.action.now in
    let r = c.args.reply.now in
    let s = c.in_ok-stamp.stamp in
    let b = c.is_synchronising-all.result in
    let new = c.push.new.rows in
    let value = c.as_mut_slice.ensures.value in
    let many : length new ≡ length w.rows.items = c.in_ok-push.ensures.many ∙ ap length value in
    subst (λ (l : List (List Member)). Shows n (after n (did t i a r) x) c.write.new.copies l)
    (sym (with_items_is w.rows new (many ∙ sym w.rows.ok.0)))
    (acted-shows n t i a r x w.copies c.meet_for.new.copies c.write.new.copies w.rows.items new b s h low c.requires.within
    c.is_synchronising-all.ensures
    c.meet_for.ensures.many c.meet_for.ensures.met
    c.in_ok-stamp.ensures
    many
    (subst (λ (l : List (List Member)). (u : ℕ) → u < length l → row_of u new ≡ cond (b || (u == s.thread)) (with_access s i (access a r) (row_of u l)) (row_of u l)) value
    c.in_ok-push.ensures.lists)
    c.in_ok-write.ensures.many c.in_ok-write.ensures.wrote)
