use Rattle.std.proofs.Common.{rules, ◌≡◌, ◌<◌, suc, ◌++◌, ◌∷◌, [], length, length-set, length-append, get_or, sym, subst, ap, ◌∙◌, arith}
use Rattle.std.proofs.Math.ListN.{get_or-append}
use Rattle.std.proofs.lemmas.List.{get_or_default}
use Rattle.turn_cell.specs.layer.Seats.{id_of, started}
use Rattle.post_box.specs.layer.Boxes.{IsIdle, WaitsFor}
use Rattle.post_box.proofs.Rows.{set-at}
use Rattle.upc_rounds_teams.specs.declared.place.Place.{Place}
use Rattle.upc_rounds_teams.specs.layer.Places.{Did}
use Rattle.upc_rounds.specs.code.Posts.{TaskBox, IsFor}
use Rattle.upc_rounds_teams.proofs.Crews.{some-place}
use Rattle.upc_rounds.proofs.Handing.{snoc-at}
use Rattle.upc_rounds.proofs.hands.gather.Goals as goal

pub take_back-place-requires-clause-work : goal.take_back-place-requires-clause-work
take_back-place-requires-clause-work g c κs within =
    let t = c.loop-at.at in let bs = c.args.boxes.now in let lt : t < length bs = search rules in
    subst (IsFor c.args.cell.now c.args.code.now) (sym c.index-boxes-at.is) (c.requires.work t c.index-boxes-at.result lt)

pub take_back-place-requires-clause-out : goal.take_back-place-requires-clause-out
take_back-place-requires-clause-out g c κs within =
    let inv = c.loop-at.invariant in let t = c.loop-at.at in let bs = c.args.boxes.now in let os = c.loop-at.owners in let lt : t < length bs = search rules in
    let e = some-place c.args.places.now.items 0 (let one = c.requires.one in omega arith) in let x = get_or c.args.was.value.items (suc t) e in
    let b = c.index-boxes-at in let o = c.index-owners-at in (
      x,
      subst (λ y. WaitsFor y (get_or os t o.result) x) (sym b.is) (inv.out t b.result o.result e (omega arith) lt),
      c.requires.kept t e lt,
    )

pub loop-at-preserved : goal.loop-at-preserved
loop-at-preserved g c =
    let inv = c.loop-at.invariant in let t = c.loop-at.at in let bs = c.args.boxes.now in let os = c.loop-at.owners in let lt : t < length bs = search rules in
    let ol : t < length os = subst (λ k. t < k) (sym inv.owned) lt in
    let n = c.take_back-place.new.owner in let place = c.take_back-place.result in let ps = c.loop-at.places.items in let was = c.args.was.value.items in
    let b = c.index-boxes-at in let o = c.index-owners-at in let e = c.take_back-place.ensures in
    let D : Place → Place → Type 0 = Did (id_of c.args.cell.now) (started c.args.cell.now).0 c.args.code.now in
    let is : c.push_reserved.new.self.items ≡ ps ++ place ∷ [] = search rules in
    let waits : (d : Place) → WaitsFor b.result (get_or os t o.result) (get_or was (suc t) d) = λ d.
    subst (λ y. WaitsFor y (get_or os t o.result) (get_or was (suc t) d)) (sym b.is) (inv.out t b.result o.result d (omega arith) lt) in
    record {
      many = ap length is ∙ omega (arith, length-append ps (place ∷ []), inv.many);
      owned = length-set os t n ∙ inv.owned;
      room = search rules;
      first = λ d. ap (λ l. get_or l 0 d) is ∙ get_or-append ps (place ∷ []) d 0 (omega (arith, inv.many)) ∙ inv.first d;
      idle = λ i x y l. set-at (λ j m. IsIdle (get_or bs j x) m) os t i n y ol (λ ne. inv.idle i x y (omega (arith, l, ne)))
          (λ q. subst (λ (z : TaskBox). IsIdle z n) (b.is ∙ get_or_default bs t b.result x lt) e.idle);
      out = λ i x y k low l. set-at (λ j m. WaitsFor (get_or bs j x) m (get_or was (suc j) k)) os t i n y ol (λ ne. inv.out i x y k (omega (arith, low)) l) (λ q. absurd (omega (arith, low, q)));
      did = λ i d l. subst (λ ls. D (get_or was (suc i) d) (get_or ls (suc i) d)) (sym is)
          (snoc-at (λ j m. D (get_or was j d) m) ps place (suc t) (suc i) d inv.many (omega (arith, l)) (λ k. inv.did i d (omega (arith, k))) (e.did (get_or was (suc t) d) (waits d)));
    }
