use Rattle.std.proofs.Common.{sym, subst}
use Rattle.upc_values.specs.Lists.{Pairwise}
use Rattle.race_report_places.specs.Report.{IsBelow}
use Rattle.race_report_cells.proofs.Keyed.{ascends}
use Rattle.race_report_cells.proofs.found.Found.list.Goals as goal

pub returns-clause-ascending : goal.returns-clause-ascending
returns-clause-ascending c =
    subst (Pairwise (λ r s. IsBelow r.loc s.loc)) (sym c.in_ok-races.ensures.list)
    (ascends c.args.self.now.races.entries c.requires c.in_ok-races.ensures.ordered)
