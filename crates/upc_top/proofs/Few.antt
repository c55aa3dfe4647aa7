-- Runs have few strands: as many as there are threads.
use Rattle.std.proofs.Common.{◌≡◌, ◌∙◌, ◌<◌, ◌≤◌, ◌^◌, ℕ, List, length, Some, None, sym, arith}
use Rattle.std.specs.Prelude.{IfSome}
use Rattle.upc_values.specs.declared.journal.Journal.{Journal}
use Rattle.replica_space.specs.declared.event.ReplicaJournal.{ReplicaJournal}
use Rattle.upc_top_words.specs.Values.{Asked}
use Rattle.upc_top.specs.declared.verdict.Verdict.{Verdict}
use Rattle.upc_top.specs.declared.verdict.Verdict.TheVariants.{Usage, ReadFault, TooLong, Refused, Ran, Recorded, Overlong, Raced, Replicated, Unwritten, Judged, Passed, Laid, NoMemory}
use Rattle.upc_top.specs.Verdicts.{Reading, Caused, RunsAs, ReplicatedFrom, journal_of, replica_of}

few-run : (a : Asked) (bytes : List ℕ) (j : Journal) → a.threads ≤ 32 → RunsAs a bytes j → length j.strands < 2 ^ 32
few-run a bytes j least run =
    let is = run.run.run in
    let many : length j.strands ≡ a.threads = is.sound.many ∙ sym is.sound.threads ∙ is.threads in
    omega arith

few-replica : (a : Asked) (bytes : List ℕ) (j : ReplicaJournal) → a.threads ≤ 32 → ReplicatedFrom a bytes j
    → length j.strands < 2 ^ 32
few-replica a bytes j least from =
    let is = from.run in
    let many : length j.strands ≡ a.threads = is.sound.many ∙ sym is.sound.threads ∙ is.threads in
    omega arith

-- the run that a verdict with its cause hands out
pub few : (words : List (List ℕ)) (r : Reading) (v : Verdict) → Caused words r v
    → IfSome (journal_of v) (λ j. length j.strands < 2 ^ 32)
few words r Usage c = tt
few words r ReadFault c = tt
few words r TooLong c = tt
few words r (Refused x) c = tt
few words r (Ran j) c = few-run c.asked c.holds.bytes j c.range.threads c.holds.holds.run
few words r (Recorded j o) c = few-run c.asked c.holds.bytes j c.range.threads c.holds.holds.run
few words r (Overlong j) c = few-run c.asked c.holds.bytes j c.range.threads c.holds.holds.run
few words r (Raced j x) c = few-run c.asked c.holds.bytes j c.range.threads c.holds.holds.run
few words r (Replicated j) c = tt
few words r (Unwritten j) c = tt
few words r (Judged x) c = tt
few words r Passed c = tt
few words r (Laid p) c = tt
few words r (NoMemory None) c = tt
few words r (NoMemory (Some j)) c = few-run c.asked c.holds.bytes j c.range.threads c.holds.holds

-- and that with a copy of the memory for each thread
pub few-copies : (words : List (List ℕ)) (r : Reading) (v : Verdict) → Caused words r v
    → IfSome (replica_of v) (λ j. length j.strands < 2 ^ 32)
few-copies words r Usage c = tt
few-copies words r ReadFault c = tt
few-copies words r TooLong c = tt
few-copies words r (Refused x) c = tt
few-copies words r (Ran j) c = tt
few-copies words r (Recorded j o) c = tt
few-copies words r (Overlong j) c = tt
few-copies words r (Raced j x) c = tt
few-copies words r (Replicated j) c = few-replica c.asked c.holds.bytes j c.range.threads c.holds.holds
few-copies words r (Unwritten j) c = few-replica c.asked c.holds.bytes j c.range.threads c.holds.holds
few-copies words r (Judged x) c = tt
few-copies words r Passed c = tt
few-copies words r (Laid p) c = tt
few-copies words r (NoMemory o) c = tt
