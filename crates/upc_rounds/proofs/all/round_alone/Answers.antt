use Rattle.std.proofs.Common.{◌≡◌, ◌<◌, length, length-set, get_or, sym, subst, ◌∙◌, arith}
use Rattle.std.proofs.lemmas.List.{get_or_default}
use Rattle.turn_cell.specs.layer.Seats.{id_of, started}
use Rattle.upc_rounds_teams.specs.declared.place.Place.{Place}
use Rattle.upc_rounds_teams.specs.layer.Places.{Did}
use Rattle.upc_rounds.specs.code.Posts.{MayPlay}
use Rattle.upc_rounds_teams.proofs.Meetings.{set-at}
use Rattle.upc_rounds.proofs.all.round_alone.Goals as goal

pub play-requires-clause-kept : goal.play-requires-clause-kept
play-requires-clause-kept g c κs within =
    let inv = c.loop-at.invariant in let t = c.loop-at.at in let ls = c.loop-at.places in let ks = c.args.places.now in
    let lt : t < length ls = (let a = c.loop-at-test.true in let b = c.loop-at.auto.at-end in let m = inv.many in omega arith) in
    let lt0 : t < length ks = subst (λ m. t < m) inv.many lt in
    subst (MayPlay c.args.cell.now c.args.code.now) (sym (inv.rest t c.index-places-at.result (omega arith) lt0)) (c.requires t c.index-places-at.result lt0)

pub loop-at-preserved : goal.loop-at-preserved
loop-at-preserved g c =
    let inv = c.loop-at.invariant in let t = c.loop-at.at in let ls = c.loop-at.places in let ks = c.args.places.now in
    let n = c.play.new.place in let x = get_or ls t c.index-places-at.result in
    let lt : t < length ls = (let a = c.loop-at-test.true in let b = c.loop-at.auto.at-end in let m = inv.many in omega arith) in
    let lt0 : t < length ks = subst (λ m. t < m) inv.many lt in
    let D : Place → Place → Type 0 = Did (id_of c.args.cell.now) (started c.args.cell.now).0 c.args.code.now in
    record {
      many = length-set ls t n ∙ inv.many;
      did = λ i d l. set-at (λ j m. D (get_or ks j d) m) ls t i n d lt (λ ne. inv.did i d (omega (arith, l, ne)))
          (λ q. subst (λ k. D k n) (get_or_default ls t c.index-places-at.result d lt ∙ inv.rest t d (omega arith) lt0) c.play.ensures.did);
      rest = λ i d low l. set-at (λ j m. m ≡ get_or ks j d) ls t i n d lt (λ ne. inv.rest i d (omega arith) l) (λ q. absurd (omega (arith, low, q)));
    }
