use Rattle.std.proofs.Common.{◌≡◌, ◌+◌, ◌*◌, length, ap, ◌∙◌, arith}
use Rattle.upc_values.proofs.Joining.{length-joined}
use Rattle.upc_values.proofs.chunks.Chunks.len.Goals as goal

pub overflow_mul-result : goal.overflow_mul-result
overflow_mul-result g c =
    let few = c.self.invariant.1 in
    let is = c.len.ensures in
    omega arith

pub overflow_add-result : goal.overflow_add-result
overflow_add-result g c =
    let few = c.self.invariant.1 in
    let is = c.len.ensures in
    let last = c.len-2.ensures in
    let ok = c.self.inside.last.ok in
    let within = ok.1 in
    let small = c.self.inside.last.small in
    omega arith

pub returns : goal.returns
returns g c =
    let is = c.len.ensures in
    let last = c.len-2.ensures in
    let all = length-joined c.self.inside.full.items c.self.inside.last.items c.self.invariant.0 in
    (let e : c.len.result * 4096 + c.len-2.result ≡ length (Rattle.upc_values.specs.layer.Chunks.joined c.self.inside.full.items c.self.inside.last.items) = omega arith in e)
    ∙ ap (λ l. length l.items) c.self.view_is
