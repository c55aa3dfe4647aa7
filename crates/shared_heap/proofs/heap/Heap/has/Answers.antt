use Rattle.std.proofs.Common.{sym, ap, ◌∙◌, arith}
use Rattle.shared_heap.specs.layer.Heap.{all_declared}
use Rattle.shared_heap.proofs.Objects.{is_there, has-zero, has-number}
use Rattle.shared_heap.proofs.heap.Heap.has.Goals as goal

pub returns-then-object-eq0 : goal.returns-then-object-eq0
returns-then-object-eq0 c =
    sym (has-zero (all_declared c.args.self.now) c.args.object.now c.keeps.ensures.objects c.if-object-eq0.true)

pub returns-in-Some : goal.returns-in-Some
returns-in-Some c =
    let x = c.args.object.now in
    let some = c.if-object-eq0.false in
    c.same_object.ensures ∙ ap (is_there x) (sym c.in-Some.is ∙ c.object_at.ensures)
    ∙ sym (has-number (all_declared c.args.self.now) x c.keeps.ensures.objects (λ z. omega arith))

pub returns-in-None : goal.returns-in-None
returns-in-None c =
    let x = c.args.object.now in
    let some = c.if-object-eq0.false in
    ap (is_there x) (sym c.in-None.is ∙ c.object_at.ensures)
    ∙ sym (has-number (all_declared c.args.self.now) x c.keeps.ensures.objects (λ z. omega arith))
