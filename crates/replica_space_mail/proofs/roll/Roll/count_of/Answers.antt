use Rattle.std.proofs.Common.{[], length, ap, ◌∙◌, arith}
use Rattle.upc_values.specs.layer.Chunks.{joined}
use Rattle.replica_space.specs.Runs.{next_index}
use Rattle.replica_space_mail.proofs.Counting.{parts-last, length-last}
use Rattle.replica_space_mail.proofs.roll.Roll.count_of.Goals as goal

pub count_parts-requires : goal.count_parts-requires
count_parts-requires c =
    let full = c.self.inside.full.items in
    let last = c.self.inside.last.items in
    let all = length-last full last in
    let whole = ap (λ r. length r.items) c.self.view_is in
    let front = ap (λ l. length (joined l [])) c.as_slice.ensures.value in
    omega (arith, all, whole, front, c.requires)

pub overflow_add-result : goal.overflow_add-result
overflow_add-result c =
    let full = c.self.inside.full.items in
    let last = c.self.inside.last.items in
    let all = length-last full last in
    let whole = ap (λ r. length r.items) c.self.view_is in
    let front = ap (λ l. length (joined l [])) c.as_slice.ensures.value in
    let end = ap length c.as_slice-2.ensures.value in
    omega (arith, all, whole, front, end, c.count_parts.ensures.most, c.count_in.ensures.most, c.requires)

pub returns : goal.returns
returns c =
    let full = c.self.inside.full.items in
    let last = c.self.inside.last.items in
    let t = c.args.thread in
    let front = c.count_parts.ensures.count ∙ ap (λ l. next_index t (joined l [])) c.as_slice.ensures.value in
    let end = c.count_in.ensures.count ∙ ap (next_index t) c.as_slice-2.ensures.value in
    let whole = ap (λ r. next_index t r.items) c.self.view_is in
    let all = parts-last t full last in
    omega (arith, front, end, whole, all)
