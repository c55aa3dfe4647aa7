-- What is shown of a run whose record was asked for is the outcome of a source.
use Rattle.std.proofs.Common.{◌∙◌, List, ℕ, sym, ap, subst}
use Rattle.upc_values.specs.declared.journal.Journal.{Journal}
use Rattle.order_builder.specs.Named.{orders_of}
use Rattle.run_recorder_text.specs.Short.{HasText}
use Rattle.upc_outcomes_words.specs.Values.{Asked}
use Rattle.upc_outcomes.specs.declared.verdict.Verdict.{Verdict}
use Rattle.upc_outcomes.specs.declared.verdict.Verdict.TheVariants.{Usage, ReadFault, TooLong, Refused, Found, Recorded, Overlong, NoMemory}
use Rattle.upc_outcomes.specs.Causes.{RanBy, ComesFrom}
use Rattle.upc_outcomes.specs.code.Records.{IsRecordOf}

pub record-comes : (a : Asked) (bytes : List ℕ) (j : Journal) (v : Verdict) → IsRecordOf j v → RanBy a bytes j
    → ComesFrom a bytes v
record-comes a bytes j (Recorded k o) h run = record {
  run = subst (RanBy a bytes) (sym h.0) run;
  orders = h.1 ∙ ap orders_of (sym h.0);
  has = subst (λ i. HasText i o) (sym h.0) h.2;
}
record-comes a bytes j Overlong h run = record { journal = j; run = run; long = h }
record-comes a bytes j NoMemory h run = tt
record-comes a bytes j Usage h run = absurd h
record-comes a bytes j ReadFault h run = absurd h
record-comes a bytes j TooLong h run = absurd h
record-comes a bytes j (Refused r) h run = absurd h
record-comes a bytes j (Found many rows) h run = absurd h
