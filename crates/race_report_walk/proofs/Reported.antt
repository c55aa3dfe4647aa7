-- The races that were found are the report.
use Rattle.std.proofs.Common.{◌≡◌, List, sym, subst, inl, inr}
use Rattle.std.proofs.lemmas.Bool.{cases_Bool}
use Rattle.upc_values.specs.declared.journal.Journal.{Journal}
use Rattle.upc_values.specs.Lists.{Has, Pairwise}
use Rattle.upc_values.proofs.Membership.{each-from}
use Rattle.race_report.specs.Serial.{IsRun}
use Rattle.race_report_places.specs.declared.report.Race.{Race}
use Rattle.race_report_places.specs.layer.Sights.{sights}
use Rattle.race_report_places.specs.Report.{IsBelow, IsReported, IsReport}
use Rattle.race_report_places.proofs.Reporting.{all-reported}
use Rattle.race_report_places.proofs.Walking.{quiet-all}
use Rattle.race_report_cells.specs.declared.cells.Cells.{Cells}
use Rattle.race_report_cells.specs.layer.Found.{races_in}
use Rattle.race_report_cells.specs.layer.Cells.{cell_at, IsWalked}

pub reported : (j : Journal) (c : Cells) (races : List Race) → IsRun j → IsWalked c (sights j) → races ≡ races_in c.found
    → Pairwise (λ r s. IsBelow r.loc s.loc) races → IsReport j races
reported j c races run w is up =
    record {
      ascending = up;
      each = each-from (IsReported j) races (λ r m.
          let s = w.found r (subst (λ z. Has z r) is m) in
          record {
            first = s.first.operation;
            second = s.second.operation;
            race = all-reported j r.loc s.first s.second run s.shown;
            first_name = s.first_name;
            second_name = s.second_name;
          });
      all = λ l a b r q. elim (cases_Bool (cell_at c l).raced) [
        | inl t ↦ let k = w.raced l t in (k.0, subst (λ z. Has z k.0) (sym is) k.1, k.2)
        | inr f ↦ absurd (quiet-all j l run (w.quiet l f).0 a b r q)
      ];
    }
