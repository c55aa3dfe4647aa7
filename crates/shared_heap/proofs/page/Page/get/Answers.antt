use Rattle.std.proofs.Common.{◌≡◌, ◌-◌, ◌<◌, suc, length, get_or, None, refl, sym, ap, ◌∙◌, arith}
use Rattle.std.proofs.lemmas.Option.{slice_get_read}
use Rattle.shared_heap.specs.code.Page.{value_at}
use Rattle.shared_heap.proofs.Places.{at-offset}
use Rattle.shared_heap.proofs.page.Page.get.Goals as goal

pub returns : goal.returns
returns g c =
    let i = c.self.inside in
    let ps = i.places.items in
    let vs = i.values.items in
    let at = c.args.at in
    let place = c.place_at-place.result in
    let is : place ≡ get_or ps at 0 = c.place_at-place.ensures ∙ ap (λ qs. get_or qs at 0) c.deref.ensures.value in
    let some = c.if-place-eq0.false in
    let within = c.self.invariant.within at in
    let next : get_or ps at 0 ≡ suc (place - 1) = omega arith in
    let lt : place - 1 < length vs = omega arith in
    sym (slice_get_read vs (length vs) (place - 1) c.index.result.now refl lt c.index.ensures)
    ∙ ap (value_at vs) (sym next) ∙ sym (at-offset vs ps at) ∙ ap (λ z. get_or z at None) c.self.view_is
