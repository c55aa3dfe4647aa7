use Rattle.std.proofs.Common.{rules, ◌≡◌, [], ◌++◌, map, drop, sym, ap, ◌∙◌, arith}
use Rattle.std.proofs.lemmas.List.{append-nil, drop_all}
use Rattle.std.proofs.lemmas.List.Sorted.{answers_always}
use Rattle.replica_space_rows.specs.code.Places.{is_before}
use Rattle.replica_space_rows.proofs.Keeping.{before-order}
use Rattle.replica_space_rows.proofs.Steps.{sorted-row, names-of}
use Rattle.replica_space_rows.proofs.row.Row.into_order.Goals as goal

pub returns : goal.returns
returns c =
    let xs = c.self.inside.members.items in
    let ys = c.sort_by.new.self.items in
    let items = c.deref-slotted-items.result.now in
    let names = c.loop-slotted.names.items in
    let past = c.loop-slotted-test.false in
    let left : drop c.loop-slotted.slotted-index items ≡ [] = drop_all c.loop-slotted.slotted-index items (omega (arith, past)) in
    let compares = answers_always _ _ _ (λ f a r next called. search rules) in
    let is = sorted-row xs ys (c.in_ok-sort_by.ensures.sorted is_before before-order compares) (c.in_ok-sort_by.ensures.stable is_before before-order compares) in
    c.from_vec.ensures
    ∙ sym (append-nil names)
    ∙ ap (λ l. names ++ map (λ m. m.member.name) l) (sym left)
    ∙ c.loop-slotted.invariant
    ∙ ap (map (λ m. m.member.name)) c.deref-slotted-items.ensures.value
    ∙ names-of (λ m. m.name) xs ys is
    ∙ ap (map (λ m. m.name)) c.self.view_is
