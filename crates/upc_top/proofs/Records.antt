-- What is shown of a run is the outcome of a source.
use Rattle.std.proofs.Common.{◌≡◌, ◌∙◌, ◌≤◌, ℕ, true, List, Some, None, length, sym, ap, subst}
use Rattle.std.proofs.lemmas.List.FromFn.{length-map-range_with_len}
use Rattle.upc_values.specs.declared.journal.Journal.{Journal}
use Rattle.upc_values.specs.declared.order.Orders.{Orders}
use Rattle.upc_values.specs.Consistent.{FollowsBuffers}
use Rattle.upc_values.specs.Waits.{WaitsFollow}
use Rattle.order_builder.specs.Named.{orders_of, thread_names}
use Rattle.run_recorder_text.specs.Short.{HasText, is_short}
use Rattle.source_meaning.specs.Laws.{opening_of}
use Rattle.race_report.specs.Serial.{IsRun}
use Rattle.race_report_places.specs.declared.report.Report.{Report}
use Rattle.race_report_places.specs.Report.{IsReport}
use Rattle.race_report_serial.proofs.Free.{empty-sequential}
use Rattle.race_report_runs.proofs.Beginning.{sound-run}
use Rattle.upc_top_words.specs.declared.call.Mode.{Mode}
use Rattle.upc_top_words.specs.declared.call.Mode.TheVariants.{Run, Record, Check, Layout, Sample, Verify, Races, Replica}
use Rattle.upc_top_words.specs.Values.{Asked, IsInRange}
use Rattle.upc_top.specs.declared.verdict.Verdict.{Verdict}
use Rattle.upc_top.specs.declared.verdict.Verdict.TheVariants.{Usage, ReadFault, TooLong, Refused, Ran, Recorded, Overlong, Raced, Replicated, Unwritten, Judged, Passed, Laid, NoMemory}
use Rattle.upc_top.specs.Words.{prints, runs}
use Rattle.upc_top.specs.Verdicts.{Reading, RunsAs, RacedFrom, ComesFrom}
use Rattle.upc_top.specs.code.Records.{IsRecordOf, IsReportOf, IsShown}
use Rattle.upc_top.proofs.Agreement.{follows-agrees}

orders-many : (j : Journal) → length (orders_of j).threads ≡ j.threads
orders-many j = length-map-range_with_len (thread_names j) 0 j.threads

-- a short journal that follows its buffers has a text
pub has-text : (j : Journal) (o : Orders) → FollowsBuffers j → o ≡ orders_of j → is_short j ≡ true → HasText j o
has-text j o f e s = record {
  strands = f.many;
  orders = ap (λ x. length x.threads) e ∙ orders-many j;
  agrees = follows-agrees j f;
  short = s;
}

record-comes : (r : Reading) (a : Asked) (bytes : List ℕ) (j : Journal) (v : Verdict) → a.mode ≡ Record → IsRecordOf j v → RunsAs a bytes j
    → ComesFrom r a bytes v
record-comes r a bytes j (Recorded k o) e h run = record {
  mode = e;
  run = subst (RunsAs a bytes) (sym h.0) run;
  orders = h.1 ∙ ap orders_of (sym h.0);
  has = subst (λ i. HasText i o) (sym h.0) h.2;
}
record-comes r a bytes j (Overlong k) e h run = record {
  mode = e;
  run = subst (RunsAs a bytes) (sym h.0) run;
  long = ap is_short h.0 ∙ h.1;
}
record-comes r a bytes j (NoMemory (Some k)) e h run = subst (RunsAs a bytes) (sym h) run
record-comes r a bytes j (NoMemory None) e h run = absurd h
record-comes r a bytes j Usage e h run = absurd h
record-comes r a bytes j ReadFault e h run = absurd h
record-comes r a bytes j TooLong e h run = absurd h
record-comes r a bytes j (Refused x) e h run = absurd h
record-comes r a bytes j (Ran k) e h run = absurd h
record-comes r a bytes j Passed e h run = absurd h
record-comes r a bytes j (Laid p) e h run = absurd h
record-comes r a bytes j (Raced k x) e h run = absurd h
record-comes r a bytes j (Judged x) e h run = absurd h
record-comes r a bytes j (Replicated x) e h run = absurd h
record-comes r a bytes j (Unwritten x) e h run = absurd h

-- the report of a run's races, and what an empty one says
raced-from : (a : Asked) (bytes : List ℕ) (j : Journal) (report : Report) → a.mode ≡ Races → IsReport j report.races
    → RunsAs a bytes j → IsRun j → RacedFrom a bytes j report
raced-from a bytes j report e h run is = record {
  mode = e;
  run = run;
  reports = h;
  sequential = λ none.
      empty-sequential j (opening_of run.checked) is (subst (IsReport j) none h) run.run.run.sound.legal;
}

report-comes : (r : Reading) (a : Asked) (bytes : List ℕ) (j : Journal) (v : Verdict) → a.mode ≡ Races → IsReportOf j v
    → RunsAs a bytes j → IsRun j → ComesFrom r a bytes v
report-comes r a bytes j (Raced k report) e h run is =
    subst (λ i. RacedFrom a bytes i report) (sym h.0) (raced-from a bytes j report e h.1 run is)
report-comes r a bytes j (NoMemory (Some k)) e h run is = subst (RunsAs a bytes) (sym h) run
report-comes r a bytes j (NoMemory None) e h run is = absurd h
report-comes r a bytes j Usage e h run is = absurd h
report-comes r a bytes j ReadFault e h run is = absurd h
report-comes r a bytes j TooLong e h run is = absurd h
report-comes r a bytes j (Refused x) e h run is = absurd h
report-comes r a bytes j (Ran k) e h run is = absurd h
report-comes r a bytes j (Recorded k o) e h run is = absurd h
report-comes r a bytes j (Overlong k) e h run is = absurd h
report-comes r a bytes j (Judged x) e h run is = absurd h
report-comes r a bytes j (Replicated x) e h run is = absurd h
report-comes r a bytes j (Unwritten x) e h run is = absurd h
report-comes r a bytes j Passed e h run is = absurd h
report-comes r a bytes j (Laid p) e h run is = absurd h

printed-comes : (r : Reading) (a : Asked) (bytes : List ℕ) (j : Journal) (v : Verdict) → prints a.mode ≡ true → v ≡ Ran j → RunsAs a bytes j
    → ComesFrom r a bytes v
printed-comes r a bytes j v e h run = subst (ComesFrom r a bytes) (sym h) (record { prints = e; run = run })

pub shown-comes : (r : Reading) (a : Asked) (bytes : List ℕ) (j : Journal) (v : Verdict) (m : Mode) → a.mode ≡ m → IsShown m j v → RunsAs a bytes j
    → IsRun j → ComesFrom r a bytes v
shown-comes r a bytes j v Record e h run is = record-comes r a bytes j v e h run
shown-comes r a bytes j v Races e h run is = report-comes r a bytes j v e h run is
shown-comes r a bytes j v Run e h run is = printed-comes r a bytes j v (ap prints e) h run
shown-comes r a bytes j v Sample e h run is = printed-comes r a bytes j v (ap prints e) h run
shown-comes r a bytes j v Check e h run is = let bad = sym (ap runs e) ∙ run.mode in absurd cc
shown-comes r a bytes j v Layout e h run is = let bad = sym (ap runs e) ∙ run.mode in absurd cc
shown-comes r a bytes j v Verify e h run is = let bad = sym (ap runs e) ∙ run.mode in absurd cc
shown-comes r a bytes j v Replica e h run is = let bad = sym (ap runs e) ∙ run.mode in absurd cc

-- what was asked for is run with a tick and an item at least, so it is a run of which races are told
pub run-is : (a : Asked) (bytes : List ℕ) (j : Journal) → IsInRange a → FollowsBuffers j → RunsAs a bytes j → IsRun j
run-is a bytes j range follows run =
    let is = run.run.run in
    let waits : WaitsFollow j.threads j.history = subst (λ n. WaitsFollow n j.history) (sym is.threads) is.waits in
    sound-run run.checked j is.sound (subst (λ n. 1 ≤ n) (sym is.budget) range.one_tick)
    (subst (λ n. 1 ≤ n) (sym is.actions) range.one_item) follows waits
