-- A verdict by outcomes that agree.
use Rattle.std.proofs.Common.{◌≡◌, ℕ, ◌<◌, sym, subst}
use Rattle.upc_values.specs.declared.journal.Journal.{Journal}
use Rattle.upc_values.specs.declared.order.Orders.{Orders}
use Rattle.upc_values.specs.Openings.{Opening}
use Rattle.upc_values.specs.Outcomes.{Outcome, wanted}
use Rattle.upc_values.specs.Strands.{Conforms}
use Rattle.upc_verify_parts.specs.Parts.{strand_of, StallsHold, EndHolds}
use Rattle.upc_verify_judge.specs.declared.verdict.Verdict.{Verdict}
use Rattle.upc_verify_judge.specs.declared.verdict.Verdict.TheVariants.{Sound, Broken}
use Rattle.upc_verify_judge.specs.Verdicts.{Case, Part, shape, strands, entries, history, stalls, ends, orders, Holds, IsVerdict}

module _ (o : Opening) (j : Journal) (given : Orders) where
  abbrev pub case_by : (ℕ → Outcome) → Case
  case_by f = record { opening = o; outcome = f; journal = j; orders = given }

  holds-by : (f g : ℕ → Outcome) (p : Part) (t : ℕ) → f t ≡ g t → Holds (case_by f) p t → Holds (case_by g) p t
  holds-by f g shape t e h = h
  holds-by f g strands t e h = subst (λ (r : Outcome). Conforms r (strand_of j t)) e h
  holds-by f g entries t e h = h
  holds-by f g history t e h = h
  holds-by f g stalls t e h = subst (λ (r : Outcome). StallsHold o j (wanted r.«end») t) e h
  holds-by f g ends t e h = subst (λ (r : Outcome). EndHolds o j r.«end» t) e h
  holds-by f g orders t e h = h

  pub verdict-by : (f g : ℕ → Outcome) (v : Verdict) → ((t : ℕ) → t < o.threads → f t ≡ g t)
      → IsVerdict (case_by f) v → IsVerdict (case_by g) v
  verdict-by f g Sound same h = λ p t lt. holds-by f g p t (same t lt) (h p t lt)
  verdict-by f g (Broken k t) same h =
      let p = h.0 in
      let b = h.2 in
      let within = b.within in (
        p,
        h.1,
        record {
          within = within;
          fails = λ x. b.fails (holds-by g f p t (sym (same t within)) x);
          before = λ q u lt z. holds-by f g q u (same u lt) (b.before q u lt z);
        },
      )
