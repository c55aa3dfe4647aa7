-- The verdict on a run whose record was asked for.
use Rattle.std.specs.Prelude.{◌≡◌, false}
use Rattle.upc_values.specs.declared.journal.Journal.{Journal}
use Rattle.order_builder.specs.Named.{orders_of}
use Rattle.run_recorder_text.specs.Short.{HasText, is_short}
use Rattle.upc_outcomes.specs.declared.verdict.Verdict.{Verdict}
use Rattle.upc_outcomes.specs.declared.verdict.Verdict.TheVariants.{Recorded, Overlong, NoMemory}

-- The verdict is the run with its orders and a text, that it is too long for one, or that memory was wanting for them.
abbrev pub IsRecordOf : Journal → Verdict → Type 0
IsRecordOf j (Recorded k o) = (k ≡ j) × (o ≡ orders_of j) × HasText j o
IsRecordOf j Overlong = is_short j ≡ false
IsRecordOf j NoMemory = Unit {0}
IsRecordOf j v = ⊥
