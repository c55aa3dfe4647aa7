use Rattle.std.proofs.Common.{◌<◌, ◌≤◌, length, get_or, sym, subst, arith}
use Rattle.std.proofs.lemmas.List.{get_or_read}
use Rattle.order_builder.specs.declared.names.Named.{Named}
use Rattle.race_report_cells.specs.code.Lasts.{IsSameKind, AreNoted}
use Rattle.race_report_cells.proofs.Noting.{noted-end, noted-set, noted-already}
use Rattle.race_report_cells.proofs.lasts.note.Goals as goal

pub returns-then-index-now : goal.returns-then-index-now
returns-then-index-now c =
    let xs = c.args.list.now.items in
    let now = c.args.now in
    let i = c.in-Some.place in
    let lt : i < length xs = subst (λ z. i < length z) c.as_slice.ensures.value c.in-Some.ensures.within in
    let kind : IsSameKind (get_or xs i now) now =
    subst (λ z. IsSameKind (get_or z i now) now) c.as_slice.ensures.value c.in-Some.ensures.kind in
    let low = c.if-index-now.true in
    let up : c.index.result.now.name.index ≤ now.name.index = omega arith in
    noted-set xs i now now lt kind
    (subst (λ (z : Named). z.name.index ≤ now.name.index) (get_or_read xs i c.index.result.now lt c.index.ensures now) up)

pub returns-else-index-now : goal.returns-else-index-now
returns-else-index-now c =
    let xs = c.args.list.now.items in
    let now = c.args.now in
    let i = c.in-Some.place in
    let lt : i < length xs = subst (λ z. i < length z) c.as_slice.ensures.value c.in-Some.ensures.within in
    let kind : IsSameKind (get_or xs i now) now =
    subst (λ z. IsSameKind (get_or z i now) now) c.as_slice.ensures.value c.in-Some.ensures.kind in
    noted-already xs i now now lt kind
    (subst (λ (z : Named). now.name.index ≤ z.name.index) (get_or_read xs i c.index.result.now lt c.index.ensures now) c.if-index-now.false)

pub returns-in_ok-push-in-None : goal.returns-in_ok-push-in-None
returns-in_ok-push-in-None c =
    subst (AreNoted c.args.now c.args.list.now.items) (sym c.in_ok-push-in-None.ensures.items)
    (noted-end c.args.list.now.items c.args.now)
