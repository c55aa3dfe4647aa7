use Rattle.std.proofs.Common.{◌≡◌, ◌==◌, ◌-◌, None, sym, subst, ◌∙◌, arith}
use Rattle.std.specs.List.{find}
use Rattle.shared_heap.specs.layer.Heap.{all_objects, all_declared}
use Rattle.shared_heap.proofs.Objects.{find-zero, find-number, found-sizes}
use Rattle.shared_heap.proofs.heap.Heap.object.Goals as goal

pub returns-then-number-eq0-clause-found : goal.returns-then-number-eq0-clause-found
returns-then-number-eq0-clause-found c =
    subst (λ n. None ≡ find (λ x. x.number == n) (all_objects c.args.self.now)) (sym c.if-number-eq0.true)
    (sym (find-zero (all_declared c.args.self.now) c.keeps.ensures.objects))

pub returns-clause-found : goal.returns-clause-found
returns-clause-found c =
    let some = c.if-number-eq0.false in
    c.object_at.ensures
    ∙ sym (find-number (all_declared c.args.self.now) c.args.number c.keeps.ensures.objects (λ z. omega arith))

pub returns-clause-size : goal.returns-clause-size
returns-clause-size c =
    found-sizes (all_declared c.args.self.now) (c.args.number - 1) c.object_at.result c.keeps.ensures.objects c.object_at.ensures
