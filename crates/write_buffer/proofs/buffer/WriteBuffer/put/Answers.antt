use Rattle.std.proofs.Common.{◌≡◌, ◌≤◌, ◌<◌, ◌+◌, ◌++◌, [], ◌∷◌, None, length, set, get_or, sym, ap, subst, ◌∙◌, arith}
use Rattle.std.proofs.lemmas.List.{length-append}
use Rattle.circular_buffer.specs.Buffer.{keep_last}
use Rattle.write_buffer.specs.layer.Buffer.{last_place, AreApart}
use Rattle.write_buffer.specs.code.Counts.{IsCounted}
use Rattle.write_buffer.proofs.Apart.{apart-push}
use Rattle.write_buffer.proofs.Counting.{counted-few, is_counted-push, keep-all}
use Rattle.write_buffer.proofs.buffer.WriteBuffer.put.Goals as goal

pub overflow_add-self : goal.overflow_add-self
overflow_add-self c =
    let i = c.self.inside in
    let place = c.place_of-place.result in
    let count = c.self.invariant.2.each place in
    let few = counted-few place i.ring.items in
    let less : length i.ring.items < 64 = subst (λ ps. length ps < 64) (sym c.self.view_is) c.requires.room in
    omega arith

pub invariant_of-self : goal.invariant_of-self
invariant_of-self c =
    let i = c.self.inside in
    let ps = i.ring.items in
    let w = c.args.write in
    let place = c.place_of-place.result in
    let less : length ps < 64 = subst (λ ps. length ps < 64) (sym c.self.view_is) c.requires.room in
    let none : last_place w.loc ps ≡ None = subst (λ z. last_place w.loc z ≡ None) (sym c.self.view_is) c.requires.none in
    let more : length (ps ++ w ∷ []) ≡ length ps + 1 = length-append ps (w ∷ []) in
    let cap : i.ring.capacity ≡ 64 = c.self.invariant.1 in
    let all : keep_last i.ring.capacity (ps ++ w ∷ []) ≡ ps ++ w ∷ [] = keep-all i.ring.capacity (ps ++ w ∷ []) (omega arith) in
    let items : c.push_back.new.self.items ≡ ps ++ w ∷ [] = ap (λ b. b.items) c.push_back.ensures.items ∙ all in
    let room : c.push_back.new.self.capacity ≡ 64 = ap (λ b. b.capacity) c.push_back.ensures.items ∙ cap in (
      subst (λ z. length z ≤ 64) (sym items) (omega arith),
      room,
      subst (λ z. IsCounted z (set i.counts place (get_or i.counts place 0 + 1))) (sym items)
          (is_counted-push ps i.counts w place c.place_of-place.ensures.place c.place_of-place.ensures.below c.self.invariant.2),
      subst AreApart (sym items) (apart-push ps w none c.self.invariant.3),
    )
