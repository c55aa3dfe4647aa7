use Rattle.std.proofs.Common.{◌≡◌, ◌==◌, ◌+◌, ◌-◌, ◌++◌, [], ◌∷◌, suc, length, cond, map, get_or, set, Some, None, ap, ◌∙◌, arith}
use Rattle.shared_heap.specs.code.Page.{value_at}
use Rattle.shared_heap.proofs.Places.{saved-over, saved-new}
use Rattle.shared_heap.proofs.page.Page.save.Goals as goal

pub returns-then-place-gt0-clause-saved : goal.returns-then-place-gt0-clause-saved
returns-then-place-gt0-clause-saved g c = λ k.
    let i = c.self.inside in
    let ps = i.places.items in
    let at = c.args.at in
    let v = c.args.value in
    let place = c.place_at-place.result in
    let is : place ≡ get_or ps at 0 = c.place_at-place.ensures ∙ ap (λ qs. get_or qs at 0) c.deref.ensures.value in
    let some = c.if-place-gt0.true in
    let next : get_or ps at 0 ≡ suc (place - 1) = omega arith in
    saved-over i.values.items ps at (place - 1) v c.self.invariant next k ∙ ap (λ z. cond (at == k) (Some v) (get_or z k None)) c.self.view_is

pub returns-clause-saved : goal.returns-clause-saved
returns-clause-saved g c = λ k.
    let i = c.self.inside in
    let ps = i.places.items in
    let vs = i.values.items in
    let qs = c.make_room.new.places.items in
    let at = c.args.at in
    let v = c.args.value in
    let push : c.push_reserved.new.self.items ≡ vs ++ v ∷ [] = c.push_reserved.ensures.items ∙ ap (λ l. l ++ v ∷ []) c.in_ok-reserve.ensures.items in
    let len : c.len-many.result ≡ length vs = c.len-many.ensures ∙ i.values.ok.0 in
    ap (λ ws. get_or (map (value_at ws) (set qs at (c.len-many.result + 1))) k None) push
    ∙ ap (λ n. get_or (map (value_at (vs ++ v ∷ [])) (set qs at (n + 1))) k None) len
    ∙ saved-new vs ps qs at v c.self.invariant c.in_ok-make_room.ensures.same c.in_ok-make_room.ensures.room k
    ∙ ap (λ z. cond (at == k) (Some v) (get_or z k None)) c.self.view_is
