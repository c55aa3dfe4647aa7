use Rattle.std.proofs.Common.{rules, ◌≡◌, ◌++◌, List, length, take, drop, IfOk, sym, subst}
use Rattle.turn_cell.specs.layer.Seats.{id_of, started}
use Rattle.stack_code.specs.layer.Codes.{Codes}
use Rattle.upc_task.specs.layer.Sources.{Outcomes}
use Rattle.upc_rounds_teams.specs.declared.place.Place.{Place}
use Rattle.upc_rounds_teams.specs.layer.Teams.{IsCrew, seen_among}
use Rattle.upc_rounds.proofs.Beginnings.{given-back}
use Rattle.upc_rounds.proofs.places.none_goes.Goals as goal

pub returns-clause-crew : goal.returns-clause-crew
returns-clause-crew g c =
    let ks = c.args.places.now.items in let ms = c.none_goes.new.places in let n = c.args.places.now.len in
    let many : length ms ≡ length ks = search rules in
    let back : take n (ms ++ drop (length ms) ks) ≡ ms = given-back n ks ms many (search rules) in
    let is : c.as_mut_slice.result.now ≡ ks = search rules in
    let R : List Place → List Place → Type 0 = λ xs ys. IfOk c.none_goes.result (λ _. (c' : Codes) (f : Outcomes) → IsCrew (id_of c.args.cell.now) (started c.args.cell.now).0 c' f xs
    → IsCrew (id_of c.args.cell.now) (started c.args.cell.now).0 c' f ys × (seen_among ys ≡ seen_among xs)) in
    subst (R ks) (sym back) (subst (λ xs. R xs ms) is c.none_goes.ensures.crew)
