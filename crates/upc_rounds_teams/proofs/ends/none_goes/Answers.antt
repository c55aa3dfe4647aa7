use Rattle.std.proofs.Common.{rules, ◌≡◌, is_some, true, false, List}
use Rattle.turn_cell.specs.layer.Seats.{started}
use Rattle.upc_values.specs.declared.journal.Entry.{Entry}
use Rattle.upc_values.specs.Openings.{Opening}
use Rattle.upc_values.specs.Lists.{Numbered}
use Rattle.upc_task.proofs.Options.{match-some, match-none}
use Rattle.upc_rounds_teams.specs.layer.Runs.{Moving}
use Rattle.upc_rounds_teams.specs.layer.Teams.{Stands, workers_of, seen_among}
use Rattle.upc_rounds_teams.proofs.ends.none_goes.Goals as goal

pub none_may_go-requires-clause-stand : goal.none_may_go-requires-clause-stand
none_may_go-requires-clause-stand g c =
    let ks = c.args.places.now in
    let no : is_some c.unstalled.result ≡ false = search rules in
    match-none c.unstalled.result (Numbered (λ i k. Stands k) ks) (λ at. (o : Opening) (seen : List Entry) → Moving o seen (workers_of ks) at) no c.unstalled.ensures

pub returns-then-is_some-clause-no : goal.returns-then-is_some-clause-no
returns-then-is_some-clause-no g c = λ off.
    let ks = c.args.places.now in
    let yes : is_some c.unstalled.result ≡ true = search rules in
    let u = match-some c.unstalled.result (Numbered (λ i k. Stands k) ks) (λ at. (o : Opening) (seen : List Entry) → Moving o seen (workers_of ks) at) yes c.unstalled.ensures in
    (u.0, u.1 (started c.args.cell.now).0 (seen_among ks))
