use Rattle.std.specs.Prelude.{replicate}
use Rattle.std.proofs.Common.{rules, false, ◌≡◌, ℕ, ◌+◌, ◌<◌, [], ◌∷◌, ◌++◌, length, get_or, drop, sym, ap, subst, ◌∙◌, arith}
use Rattle.std.proofs.lemmas.List.{get_or-replicate}
use Rattle.upc_values.specs.declared.order.Op.{Op}
use Rattle.race_report.specs.code.Own.{relaxed_first, ArePlaced}
use Rattle.race_report.proofs.Placing.{placed-none, found, stands, stands-more, relaxed-within, part-is}
use Rattle.race_report.proofs.serial.place_phases.Goals as goal

pub loop-first-init : goal.loop-first-init
loop-first-init c =
    let j = c.args.journal.now in
    let xs = c.in_ok-cursors.cursors.items in
    let many : length xs ≡ j.threads = search rules in
    let same : xs ≡ replicate j.threads 0 = c.in_ok-cursors.ensures.items_if_clones_equal (λ y h. search rules) in
    let zeros : (t : ℕ) → t < j.threads → get_or xs t 0 ≡ 0 =
    λ t h. ap (λ l. get_or l t 0) same ∙ get_or-replicate j.threads t 0 0 h in
    subst (λ l. ArePlaced j 0 l xs) (sym c.new-order.ensures.items) (placed-none j c.requires.run xs many zeros)

pub bounds-own-thread : goal.bounds-own-thread
bounds-own-thread c =
    let l = c.loop-first in
    let d : Op = record { thread = 0; index = 0; write = false } in
    let k =
    found c.args.journal.now c.requires.run c.args.own.now c.requires.own c.args.strict.now l.first-index d l.order.items
    l.cursors.items c.requires.strict c.loop-first-test.true l.invariant in
    subst (λ n. (get_or c.args.strict.now l.first-index d).thread < n) (sym c.requires.own.many) k.below

pub index-requires : goal.index-requires
index-requires c =
    let l = c.loop-first in
    let d : Op = record { thread = 0; index = 0; write = false } in
    let k =
    found c.args.journal.now c.requires.run c.args.own.now c.requires.own c.args.strict.now l.first-index d l.order.items
    l.cursors.items c.requires.strict c.loop-first-test.true l.invariant in
    let below = k.below in
    let many = l.invariant.many in
    let size = l.cursors.ok.0 in
    omega arith

pub overflow_add-next : goal.overflow_add-next
overflow_add-next c =
    let l = c.loop-first in
    let d : Op = record { thread = 0; index = 0; write = false } in
    let first = get_or c.args.strict.now l.first-index d in
    let list = c.as_slice-list.result.now in
    let place = c.index.result.now in
    let of : list ≡ get_or c.args.own.now first.thread list = search rules in
    let k =
    stands c.args.journal.now c.requires.run c.args.own.now c.requires.own c.args.strict.now l.first-index d l.order.items
    l.cursors.items place list c.requires.strict c.loop-first-test.true l.invariant c.index.ensures of in
    let within = k.within in
    let size = c.as_slice-list.type_inv.0 in
    omega arith

pub offset_bounds-list-next : goal.offset_bounds-list-next
offset_bounds-list-next c =
    let l = c.loop-first in
    let d : Op = record { thread = 0; index = 0; write = false } in
    let first = get_or c.args.strict.now l.first-index d in
    let list = c.as_slice-list.result.now in
    let place = c.index.result.now in
    let of : list ≡ get_or c.args.own.now first.thread list = search rules in
    let k =
    stands c.args.journal.now c.requires.run c.args.own.now c.requires.own c.args.strict.now l.first-index d l.order.items
    l.cursors.items place list c.requires.strict c.loop-first-test.true l.invariant c.index.ensures of in
    let within = k.within in
    let size = c.as_slice-list.type_inv.1 in
    omega arith

pub slice_bounds-push_relaxed-count : goal.slice_bounds-push_relaxed-count
slice_bounds-push_relaxed-count c =
    let l = c.loop-first in
    let d : Op = record { thread = 0; index = 0; write = false } in
    let first = get_or c.args.strict.now l.first-index d in
    let list = c.as_slice-list.result.now in
    let place = c.index.result.now in
    let of : list ≡ get_or c.args.own.now first.thread list = search rules in
    let k =
    stands c.args.journal.now c.requires.run c.args.own.now c.requires.own c.args.strict.now l.first-index d l.order.items
    l.cursors.items place list c.requires.strict c.loop-first-test.true l.invariant c.index.ensures of in
    let within = k.within in
    omega arith

pub slice_bounds-push_relaxed-start : goal.slice_bounds-push_relaxed-start
slice_bounds-push_relaxed-start c =
    let l = c.loop-first in
    let d : Op = record { thread = 0; index = 0; write = false } in
    let first = get_or c.args.strict.now l.first-index d in
    let list = c.as_slice-list.result.now in
    let place = c.index.result.now in
    let of : list ≡ get_or c.args.own.now first.thread list = search rules in
    let k =
    stands c.args.journal.now c.requires.run c.args.own.now c.requires.own c.args.strict.now l.first-index d l.order.items
    l.cursors.items place list c.requires.strict c.loop-first-test.true l.invariant c.index.ensures of in
    let within = k.within in
    omega arith

pub overflow_add-next-in-loop-first : goal.overflow_add-next-in-loop-first
overflow_add-next-in-loop-first c =
    let l = c.loop-first in
    let d : Op = record { thread = 0; index = 0; write = false } in
    let first = get_or c.args.strict.now l.first-index d in
    let list = c.as_slice-list.result.now in
    let place = c.index.result.now in
    let of : list ≡ get_or c.args.own.now first.thread list = search rules in
    let k =
    stands c.args.journal.now c.requires.run c.args.own.now c.requires.own c.args.strict.now l.first-index d l.order.items
    l.cursors.items place list c.requires.strict c.loop-first-test.true l.invariant c.index.ensures of in
    let within = k.within in
    let size = c.as_slice-list.type_inv.0 in
    let rest = relaxed-within (place + 1) list (omega arith) in
    let many : c.in_ok-count.count ≡ length (relaxed_first (drop (place + 1) list)) =
    c.in_ok-count.ensures.many ∙ ap (λ l. length (relaxed_first l)) (part-is (place + 1) list) in
    omega arith

pub index_mut-requires : goal.index_mut-requires
index_mut-requires c =
    let l = c.loop-first in
    let d : Op = record { thread = 0; index = 0; write = false } in
    let k =
    found c.args.journal.now c.requires.run c.args.own.now c.requires.own c.args.strict.now l.first-index d l.order.items
    l.cursors.items c.requires.strict c.loop-first-test.true l.invariant in
    let below = k.below in
    let many = l.invariant.many in
    let size = l.cursors.ok.0 in
    omega arith

pub loop-first-preserved : goal.loop-first-preserved
loop-first-preserved c =
    let l = c.loop-first in
    let d : Op = record { thread = 0; index = 0; write = false } in
    let first = get_or c.args.strict.now l.first-index d in
    let list = c.as_slice-list.result.now in
    let place = c.index.result.now in
    let of : list ≡ get_or c.args.own.now first.thread list = search rules in
    let k =
    stands c.args.journal.now c.requires.run c.args.own.now c.requires.own c.args.strict.now l.first-index d l.order.items
    l.cursors.items place list c.requires.strict c.loop-first-test.true l.invariant c.index.ensures of in
    let added : c.push_relaxed.new.order.items ≡ (l.order.items ++ first ∷ []) ++ relaxed_first (drop (place + 1) list) =
    c.in_ok-count.ensures.names ∙ ap (λ l. c.push.new.self.items ++ relaxed_first l) (part-is (place + 1) list)
    ∙ ap (λ z. z ++ relaxed_first (drop (place + 1) list)) c.in_ok-push.ensures.items in
    stands-more c.args.journal.now c.requires.run c.args.own.now c.requires.own l.first-index first l.order.items
    c.push_relaxed.new.order.items l.cursors.items place c.in_ok-count.count list k l.invariant added
    (c.in_ok-count.ensures.many ∙ ap (λ l. length (relaxed_first l)) (part-is (place + 1) list))
