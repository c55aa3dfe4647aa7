use Rattle.std.proofs.Common.{◌≡◌, ◌+◌, ◌++◌, sym, ap, ◌∙◌, subst}
use Rattle.std.specs.Arc.{arc_value}
use Rattle.block_layout.specs.code.Runs.{Repeated, repeated, run_cells, GoesOn, IsRun}
use Rattle.block_layout.proofs.Same.{same_exact}
use Rattle.block_layout.proofs.Joined.{joined_cells, joined_is_run}
use Rattle.block_layout.proofs.run.Run.joined.Goals as goal
use Rattle.block_layout.proofs.run.Run.joined.Goals.{In_ok-try_clone}

abbrev own : In_ok-try_clone → Repeated
own c = repeated c.self.inside.start c.self.inside.stride c.self.inside.count (arc_value c.self.inside.cells).items

abbrev other : In_ok-try_clone → Repeated
other c = repeated c.next.inside.start c.next.inside.stride c.next.inside.count (arc_value c.next.inside.cells).items

patterns : (c : In_ok-try_clone) → (own c).cells ≡ (other c).cells
patterns c =
    let one = c.as_slice.ensures.value ∙ ap (λ v. v.items) c.deref.ensures in
    let two = c.as_slice-2.ensures.value ∙ ap (λ v. v.items) c.deref-2.ensures in
    sym one ∙ same_exact c.as_slice.result.now c.as_slice-2.result.now (sym c.same_lists.ensures ∙ c.if-not-same_lists.false) ∙ two

goes : (c : In_ok-try_clone) → GoesOn c.in-Some.stride (own c) (other c)
goes c =
    subst (λ r. GoesOn c.in-Some.stride r (other c)) (sym c.self.view_is)
    (subst (λ s. GoesOn c.in-Some.stride c.args.self.now s) (sym c.next.view_is) c.in-Some.ensures)

count : (c : In_ok-try_clone) → c.in-Some-checked_add.count ≡ c.self.inside.count + c.next.inside.count
count c = c.in-Some-checked_add.ensures.1

pub invariant_of-result : goal.invariant_of-result
invariant_of-result c =
    subst (λ n. IsRun (repeated c.self.inside.start c.in-Some.stride n (arc_value c.in_ok-try_clone.field-0).items)) (sym (count c))
    (subst (λ v. IsRun (repeated c.self.inside.start c.in-Some.stride (c.self.inside.count + c.next.inside.count) v.items)) (sym c.in_ok-try_clone.ensures)
    (joined_is_run c.in-Some.stride (own c) (other c) c.self.invariant c.next.invariant (goes c) (patterns c)))

pub returns : goal.returns
returns c =
    ap (λ n. run_cells (repeated c.self.inside.start c.in-Some.stride n (arc_value c.in_ok-try_clone.field-0).items)) (count c)
    ∙ ap (λ v. run_cells (repeated c.self.inside.start c.in-Some.stride (c.self.inside.count + c.next.inside.count) v.items)) c.in_ok-try_clone.ensures
    ∙ joined_cells c.in-Some.stride (own c) (other c) (goes c) (patterns c)
    ∙ ap (λ r. run_cells r ++ run_cells (other c)) c.self.view_is ∙ ap (λ s. run_cells c.args.self.now ++ run_cells s) c.next.view_is
