use Rattle.std.proofs.Common.{◌≡◌, ◌<◌, length, sym, ap, subst, ◌∙◌, arith, get_or, length-set}
use Rattle.std.proofs.lemmas.List.{get_or_default}
use mathlib.Core.List.{IsPrefix}
use Rattle.upc_rounds_teams.specs.declared.place.Place.{Place}
use Rattle.upc_rounds_teams.specs.layer.Teams.{Met, seen_at}
use Rattle.upc_rounds_teams.proofs.Crews.{met-then}
use Rattle.upc_rounds_teams.proofs.Meetings.{set-at}
use Rattle.upc_rounds_teams.proofs.meeting.spread_all.Goals as goal

pub loop-i-preserved : goal.loop-i-preserved
loop-i-preserved c =
    let inv = c.loop-i.invariant in let t = c.loop-i.i in let ls = c.loop-i.others in let ks = c.args.others.now in let first = c.args.first.now in
    let x = get_or ls t c.index-others-i.result in let e = c.meet_two.ensures in let n = c.meet_two.new.one in let f = c.meet_two.new.other in
    let lt : t < length ls = (let a = c.loop-i-test.true in let b = c.loop-i.auto.i-end in let m = inv.many in omega arith) in
    let lt0 : t < length ks = subst (λ m. t < m) inv.many lt in
    let was : (d : Place) → x ≡ get_or ls t d = λ d. get_or_default ls t c.index-others-i.result d lt in
    let begins : IsPrefix (seen_at x) (seen_at c.loop-i.first) =
    subst (λ z. IsPrefix (seen_at x) z) (sym inv.stays)
    (subst (λ z. IsPrefix z (seen_at first)) (sym (ap seen_at (was x) ∙ inv.left t x (omega arith) lt0)) (c.requires.begins t x lt0)) in
    let whole : seen_at n ≡ seen_at first = e.whole begins ∙ inv.stays in
    record {
      many = length-set ls t n ∙ inv.many;
      first = met-then first c.loop-i.first f inv.first e.met.1;
      stays = e.seen ∙ inv.stays;
      others = λ i d l. set-at (λ j m. Met (get_or ks j d) m) ls t i n d lt (λ ne. inv.others i d l)
          (λ q. met-then (get_or ks t d) x n (subst (Met (get_or ks t d)) (sym (was d)) (inv.others t d lt0)) e.met.0);
      done = λ i d l. set-at (λ j m. seen_at m ≡ seen_at first) ls t i n d lt (λ ne. inv.done i d (omega arith)) (λ q. whole);
      left = λ i d le l. set-at (λ j m. seen_at m ≡ seen_at (get_or ks j d)) ls t i n d lt (λ ne. inv.left i d (omega arith) l) (λ q. absurd (omega (arith, q, le)));
    }
