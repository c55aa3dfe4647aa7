use Rattle.std.proofs.Common.{◌<◌, length, sym, subst, ◌∙◌}
use Rattle.std.specs.Prelude.{slice_index_or}
use Rattle.turn_cell.specs.layer.Seats.{id_of, started}
use Rattle.upc_rounds_teams.specs.layer.Teams.{workers_of, seen_among}
use Rattle.upc_rounds.proofs.Standings.{rests-rested}
use Rattle.upc_rounds_teams.proofs.Crews.{many-workers, crew-running}
use Rattle.upc_rounds_picks.proofs.turns.finish.Goals as goal

pub returns-then-is_at_rest-clause-rested : goal.returns-then-is_at_rest-clause-rested
returns-then-is_at_rest-clause-rested g c = λ d.
    let r = c.requires.running in let o = (started c.args.cell.now).0 in let at = c.args.at in let ks = c.args.places.now in
    let run = crew-running (id_of c.args.cell.now) o c.args.code.now r.0 ks r.1 in
    let lt : at < length (workers_of ks) = subst (λ n. at < n) (sym (many-workers ks)) c.requires.at in
    rests-rested o c.args.code.now r.0 (seen_among ks) at (slice_index_or (workers_of ks) at d) (run.tasks at d lt) (run.idle at d lt)
    (sym (c.is_at_rest.ensures d) ∙ c.if-is_at_rest.true)
