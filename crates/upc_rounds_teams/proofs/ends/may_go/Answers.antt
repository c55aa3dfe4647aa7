use Rattle.std.proofs.Common.{rules}
use Rattle.turn_cell.specs.layer.Seats.{started, seen_of}
use Rattle.upc_task.proofs.Workers.{kept-asks}
use Rattle.upc_rounds_teams.proofs.ends.may_go.Goals as goal

pub would_go-goes-requires-clause-formed : goal.would_go-goes-requires-clause-formed
would_go-goes-requires-clause-formed g c =
    let h = c.requires.kept in let t = h.2 in
    kept-asks (started c.args.cell.now).0 h.0 h.1 (seen_of c.args.place.now.task.seat) c.args.place.now.task.worker c.in_ok-action.action t.lawful.legal t.lawful.formed t.kept
    (search rules)
