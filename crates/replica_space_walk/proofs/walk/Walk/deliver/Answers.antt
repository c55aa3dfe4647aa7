use Rattle.std.proofs.Common.{◌≡◌, ℕ, ◌<◌, ◌==◌, cond, List, ◌∙◌, length, sym, ap, subst}
use Rattle.std.proofs.lemmas.List.{with_items_is}
use Rattle.replica_space.specs.Events.{delivered}
use Rattle.replica_space_rows.specs.declared.member.Member.{Member}
use Rattle.replica_space_copies.specs.layer.Copies.{space_of}
use Rattle.replica_space_walk.specs.code.Walking.{row_of, after, Shows, with_oldest}
use Rattle.replica_space_walk.proofs.Stepping.{delivered-shows}
use Rattle.replica_space_walk.proofs.walk.Walk.deliver.Goals as goal

pub returns-clause-shows : goal.returns-clause-shows
returns-clause-shows c = λ n by x h.
    let w = c.args.self.now in
    let to = c.args.to in
    let from = c.args.from in
    let new = c.place_oldest.new.rows in
    let value = c.as_mut_slice.ensures.value in
    let many : length new ≡ length w.rows.items = c.in_ok-place_oldest.ensures.many ∙ ap length value in
    subst (λ (l : List (List Member)). Shows n (after n (delivered by to from) x) c.deliver.new.self l)
    (sym (with_items_is w.rows new (many ∙ sym w.rows.ok.0)))
    (delivered-shows n by to from x w.copies c.deliver.new.self w.rows.items new h c.requires.to c.requires.from
    c.deliver.ensures.steady.many c.deliver.ensures.received
    many
    (subst (λ (l : List (List Member)). (u : ℕ) → u < length l → row_of u new ≡ cond (u == to) (with_oldest ((space_of w.copies).mail to from) (row_of u l)) (row_of u l)) value
    c.in_ok-place_oldest.ensures.lists))
