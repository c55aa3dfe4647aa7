use Rattle.std.proofs.Common.{map, sym, subst}
use Rattle.upc_values.specs.Lists.{Each}
use Rattle.race_report_cells.specs.layer.Found.{IsKeyedBy, ArePut}
use Rattle.race_report_cells.proofs.Keyed.{keyed-more, put-more}
use Rattle.race_report_cells.proofs.found.Found.put.Goals as goal

pub returns-clause-keyed : goal.returns-clause-keyed
returns-clause-keyed c =
    let es = c.args.self.now.races.entries in
    subst (Each IsKeyedBy) (sym c.in_ok-insert.ensures.entries)
    (keyed-more c.spot_of.result c.args.race c.spot_of.ensures es c.requires)

pub returns-clause-put : goal.returns-clause-put
returns-clause-put c =
    let es = c.args.self.now.races.entries in
    subst (λ z. ArePut c.args.race (map (λ e. e.1) es) (map (λ e. e.1) z)) (sym c.in_ok-insert.ensures.entries)
    (put-more c.spot_of.result c.args.race c.spot_of.ensures es c.requires)
