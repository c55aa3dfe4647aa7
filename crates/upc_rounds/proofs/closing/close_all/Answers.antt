use Rattle.std.proofs.Common.{◌≡◌, ◌<◌, ◌+◌, length, sym, ap, subst, ◌∙◌, arith, get_or}
use Rattle.std.proofs.lemmas.List.{length-map}
use Rattle.turn_cell.specs.layer.Members.{Every}
use Rattle.turn_cell.specs.layer.Seats.{AreFree, HasAll, id_of}
use Rattle.upc_values.specs.declared.journal.Entry.{Entry}
use Rattle.upc_rounds_teams.specs.layer.Teams.{IsSeated, seat_at, seen_among}
use Rattle.upc_rounds.proofs.Closings.{free-from, team-whole}
use Rattle.upc_rounds.proofs.closing.close_all.Goals as goal

pub close-requires : goal.close-requires
close-requires c =
    let ks = c.args.places.items in
    let is = c.part_all-seats.ensures.seats in
    let many : length c.part_all-seats.result.0.items ≡ length ks = ap length is ∙ length-map ks seat_at in
    record {
      seats = (
        subst (AreFree (λ (e : Entry). e.thread) (id_of c.args.cell) 0) (sym is)
            (free-from (id_of c.args.cell) (seen_among ks) 0 ks (λ i d lt. let e : i ≡ 0 + i = omega arith in subst (λ j. IsSeated (id_of c.args.cell) (seen_among ks) j (get_or ks i d)) e (c.requires.seated i d lt))),
        many ∙ sym c.requires.many.0,
        subst (λ n. 0 < n) (sym many) c.requires.many.1,
      );
    }

pub returns-clause-history : goal.returns-clause-history
returns-clause-history c =
    let ks = c.args.places.items in let is = c.part_all-seats.ensures.seats in
    team-whole (id_of c.args.cell) (seen_among ks) c.close.result.1 ks c.requires.seated c.requires.many.1
    (subst (HasAll (λ (e : Entry). e.thread) c.close.result.1) is c.close.ensures.all)
    (subst (λ n. Every (λ (e : Entry). e.thread < n) c.close.result.1) c.requires.many.0 c.close.ensures.named)
