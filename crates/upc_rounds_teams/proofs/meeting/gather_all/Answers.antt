use Rattle.std.proofs.Common.{◌≡◌, ◌<◌, length, sym, ap, subst, ◌∙◌, arith, inl, inr, get_or, length-set}
use Rattle.std.proofs.lemmas.Bool.{cases_eq}
use Rattle.std.proofs.lemmas.List.{get_or_default}
use mathlib.Core.List.{IsPrefix}
use Rattle.upc_task.specs.layer.Seated.{IsLawful}
use Rattle.upc_rounds_teams.specs.declared.place.Place.{Place}
use Rattle.upc_rounds_teams.specs.layer.Teams.{Met, seen_at}
use Rattle.upc_rounds_teams.proofs.Prefixes.{prefix-then}
use Rattle.upc_rounds_teams.proofs.Crews.{met-then}
use Rattle.upc_rounds_teams.proofs.Meetings.{set-at}
use Rattle.upc_rounds_teams.proofs.meeting.gather_all.Goals as goal

pub loop-i-preserved : goal.loop-i-preserved
loop-i-preserved c =
    let inv = c.loop-i.invariant in let t = c.loop-i.i in let ls = c.loop-i.others in let ks = c.args.others.now in
    let x = get_or ls t c.index-others-i.result in let e = c.meet_two.ensures in let n = c.meet_two.new.other in let one = c.meet_two.new.one in
    let lt : t < length ls = (let a = c.loop-i-test.true in let b = c.loop-i.auto.i-end in let m = inv.many in omega arith) in
    let lt0 : t < length ks = subst (λ m. t < m) inv.many lt in
    let was : (d : Place) → x ≡ get_or ls t d = λ d. get_or_default ls t c.index-others-i.result d lt in
    let same-at : (d : Place) → seen_at x ≡ seen_at (get_or ks t d) = λ d. ap seen_at (was d) ∙ inv.same t d lt0 in
    record {
      many = length-set ls t n ∙ inv.many;
      first = met-then c.args.first.now c.loop-i.first one inv.first e.met.0;
      others = λ i d l. set-at (λ j m. Met (get_or ks j d) m) ls t i n d lt (λ ne. inv.others i d l)
          (λ q. met-then (get_or ks t d) x n (subst (Met (get_or ks t d)) (sym (was d)) (inv.others t d lt0)) e.met.1);
      same = λ i d l. set-at (λ j m. seen_at m ≡ seen_at (get_or ks j d)) ls t i n d lt (λ ne. inv.same i d l) (λ q. e.seen ∙ same-at d);
      begins = λ i d l. elim (cases_eq i t) as (λ z. IsPrefix (seen_at (get_or ks i d)) (seen_at one)) [
        | inl q ↦ subst (λ j. IsPrefix (seen_at (get_or ks j d)) (seen_at one)) (sym q) (subst (λ z. IsPrefix z (seen_at one)) (same-at d) e.begins)
        | inr ne ↦ prefix-then (seen_at (get_or ks i d)) (seen_at c.loop-i.first) (seen_at one) (inv.begins i d (omega arith)) e.met.0.seen
      ];
      lawful = λ o h hs. e.lawful o (inv.lawful o h hs) (subst (IsLawful o) (sym (same-at x)) (hs t x lt0));
    }
