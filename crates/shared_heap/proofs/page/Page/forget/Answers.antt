use Rattle.std.proofs.Common.{◌<◌, ◌==◌, length, cond, get_or, None, ap, ◌∙◌, arith}
use Rattle.shared_heap.proofs.Places.{forgotten}
use Rattle.shared_heap.proofs.page.Page.forget.Goals as goal

pub returns : goal.returns
returns g c = λ k.
    let i = c.self.inside in
    let at = c.args.at in
    let many = i.places.ok.0 in
    let len = c.len.ensures in
    let within = c.if-at-len.false in
    let lt : at < length i.places.items = omega arith in
    forgotten i.values.items i.places.items at lt k ∙ ap (λ z. cond (at == k) None (get_or z k None)) c.self.view_is
