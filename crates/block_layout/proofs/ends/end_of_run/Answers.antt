use Rattle.std.proofs.Common.{◌≡◌, ◌+◌, ◌*◌, ◌≤◌, sym, ap, ◌∙◌, subst, arith}
use Rattle.std.specs.Arc.{arc_value}
use Rattle.block_layout.specs.code.Runs.{Repeated, repeated, run_cells}
use Rattle.block_layout.specs.Shapes.{LieUpTo}
use Rattle.block_layout.proofs.LieBehind.{lie_once, lie_copies, checked_end}
use Rattle.block_layout.proofs.ends.end_of_run.Goals as goal

pub returns-then-run-eq1 : goal.returns-then-run-eq1
returns-then-run-eq1 c =
    let i = c.run.inside in
    let low = i.start in
    let r : Repeated = repeated i.start i.stride i.count (arc_value i.cells).items in
    let cells = c.as_slice.ensures.value ∙ ap (λ v. v.items) c.deref.ensures in
    let after : c.args.from ≤ i.start + c.saturating_sub.result = omega (arith, c.saturating_sub.ensures) in
    let pattern : LieUpTo r.cells c.saturating_sub.result c.in_ok-end.end = subst (λ xs. LieUpTo xs c.saturating_sub.result c.in_ok-end.end) cells c.in_ok-end.ensures in
    checked_end c.checked_add.result _ (i.start + c.in_ok-end.end) c.args.from (run_cells c.args.run.now) c.checked_add.ensures
    (subst (λ x. LieUpTo (run_cells x) c.args.from (i.start + c.in_ok-end.end)) c.run.view_is
    (lie_once r c.args.from c.saturating_sub.result c.in_ok-end.end c.if-run-eq1.true after pattern))

pub returns : goal.returns
returns c =
    let i = c.run.inside in
    let r : Repeated = repeated i.start i.stride i.count (arc_value i.cells).items in
    let cells = c.as_slice.ensures.value ∙ ap (λ v. v.items) c.deref.ensures in
    let pattern : LieUpTo r.cells c.saturating_sub.result c.in_ok-end.end = subst (λ xs. LieUpTo xs c.saturating_sub.result c.in_ok-end.end) cells c.in_ok-end.ensures in
    let end : c.in_ok-checked_mul.field-0 + i.start ≡ i.start + i.count * i.stride = omega (arith, c.in_ok-checked_mul.ensures.1) in
    checked_end c.checked_add-2.result _ (c.in_ok-checked_mul.field-0 + i.start) c.args.from (run_cells c.args.run.now) c.checked_add-2.ensures
    (subst (λ x. LieUpTo (run_cells x) c.args.from (c.in_ok-checked_mul.field-0 + i.start)) c.run.view_is
    (subst (λ n. LieUpTo (run_cells r) c.args.from n) (sym end)
    (lie_copies r c.args.from c.saturating_sub.result c.in_ok-end.end (omega (arith, c.if-from-run.false)) (omega (arith, c.if-end-run.false)) pattern)))
