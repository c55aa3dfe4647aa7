use Rattle.std.proofs.Common.{◌≡◌}
use Rattle.turn_cell.specs.layer.Seats.{id_of, started}
use Rattle.upc_rounds_teams.specs.layer.Teams.{workers_of, seen_among}
use Rattle.upc_rounds.proofs.Standings.{obeys-of}
use Rattle.upc_rounds_teams.proofs.Crews.{many-workers, crew-running}
use Rattle.upc_rounds_picks.proofs.picks.obey.Goals as goal

pub turn-requires-clause-at : goal.turn-requires-clause-at
turn-requires-clause-at g c =
    let h = c.in-Some.ensures.some in
    (Rattle.std.proofs.Common.subst (λ n. Rattle.std.specs.Prelude.◌<◌ c.in-Some.at n) (many-workers c.args.places.now) h.within, h.opened)

pub returns-clause-yes : goal.returns-clause-yes
returns-clause-yes g c = λ moved.
    let r = c.requires.running in let e = c.in_ok-turn.ensures in let o = (started c.args.cell.now).0 in let ks = c.args.places.now in let ms = c.turn.new.places in
    obeys-of c.args.code.now r.0 (o, seen_among ks) (o, seen_among ms) (workers_of ks) (workers_of ms) c.args.pick c.in-Some.at
    c.requires.quiet c.in-Some.ensures.some (crew-running (id_of c.args.cell.now) o c.args.code.now r.0 ms (e.running r.0 r.1)) e.same e.others e.steps e.grows
