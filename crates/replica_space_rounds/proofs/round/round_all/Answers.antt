use Rattle.std.proofs.Common.{rules, sym, subst}
use Rattle.turn_cell.specs.layer.Seats.{id_of, started}
use Rattle.upc_task.specs.layer.Sources.{Outcomes}
use Rattle.replica_space_parts.specs.declared.seated.Seated.{Seated}
use Rattle.replica_space_parts.specs.layer.Parts.{begun_of}
use Rattle.replica_space_parts.specs.layer.Seated.{IsSeated}
use Rattle.replica_space_rounds.proofs.round.round_all.Goals as goal

pub for_each_mut-requires-clause-accepts : goal.for_each_mut-requires-clause-accepts
for_each_mut-requires-clause-accepts g c κs within i p lt is =
    let P : Seated → Type 0 =
    λ k. (f : Outcomes) × IsSeated (id_of c.args.cell.now) (begun_of (started c.args.cell.now)) c.args.code.now f k in
    (subst P (sym is) (c.requires.kept i p.now lt), search rules)
