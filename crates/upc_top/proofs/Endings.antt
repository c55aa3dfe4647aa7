-- What follows from how the top call answers.
use Rattle.std.proofs.Common.{◌≡◌, ℕ, ◌<◌, ◌≤◌, Bool, true, false, List, length, Option, Some, None, refl, sym, ap, subst, ◌∙◌, inl, inr, arith, codes}
use Rattle.upc_sample.specs.Sample.{sample}
use Rattle.std.specs.Prelude.{◌⊎◌}
use Rattle.std.proofs.lemmas.Fmt.{decimal_injective}
use Rattle.upc_text.specs.Outside.{Rose, IsWhole, IsLonger}
use Rattle.typed_tree.specs.Programs.{Checked}
use Rattle.upc_top_words.specs.declared.call.Mode.{Mode}
use Rattle.upc_top_words.specs.declared.call.Mode.TheVariants.{Run, Record, Check, Layout, Sample, Verify, Races, Replica}
use Rattle.upc_top_words.specs.Values.{Asked, Asks}
use Rattle.upc_top_words.proofs.Taken.{one_asked}
use Rattle.upc_top.specs.declared.done.Done.{Done}
use Rattle.upc_top.specs.declared.verdict.Verdict.{Verdict}
use Rattle.upc_top.specs.declared.verdict.Verdict.TheVariants.{Usage, ReadFault, TooLong, Refused, Ran, Recorded, Overlong, Raced, Replicated, Unwritten, Judged, Passed, Laid, NoMemory}
use Rattle.upc_top.specs.Words.{prints}
use Rattle.upc_top_output.specs.Layout.{layout}
use Rattle.upc_top.specs.Sources.{IsAccepted}
use Rattle.upc_top.proofs.Readings.{never_both, same_checked}
use Rattle.upc_top_judging.specs.declared.judgment.Judgment.{Judgment}
use Rattle.upc_top_judging.specs.Judgments.{IsJudgment}
use Rattle.upc_top.specs.Verdicts.{Reading, OnRecord, JudgedFrom, IsSample, IsSource, Holds, Taken, Caused, CameTo, ComesFrom, FailedToRead, IsTooLong, status_for, text_of, journal_of, orders_in, replica_of, without_memory, IsWritable}
use Rattle.upc_top.specs.Delivery.{Writing, Gained, Delivered, Delivered.Whole, Delivered.Out_broke, Delivered.Err_broke, Delivers, Answered, RefusesOtherWords, RefusesLongFiles, SampleReadsNoFile, Succeeds, IsThere, IsToldWhole, HasRun, HasRecorded, HasRaced, HasReplicated, IsOverlong, HasWritten, IsTold, HasJudged, HasJudged.Is_long, HasJudged.Is_found, IsDone, IsComplete}

-- words that are taken ask for one thing
same-asked : (words : List (List ℕ)) (a b : Asked) → Asks words a → Asks words b → b ≡ a
same-asked words a b h k = one_asked words b a k h

-- where the mode of what was taken says that nothing is read, no file is read in mode `sample`
pub no_file_read : {S : Type 0} (words : List (List ℕ)) (a : Asked) (before after : S) → Asks words a
    → (a.mode ≡ Sample → after ≡ before) → SampleReadsNoFile words before after
no_file_read words a before after h f b k e = f (ap (λ (x : Asked). x.mode) (same-asked words b a k h) ∙ e)

whole-is : (told : Option (List ℕ)) (bytes given : List ℕ) → told ≡ Some bytes → IsWhole told given → given ≡ bytes
whole-is told bytes given e h = let P : Option (List ℕ) → Type 0 = λ o. IsWhole o given in subst P e h

longer-is : (told : Option (List ℕ)) (bytes : List ℕ) → told ≡ Some bytes → IsLonger told 1048576 → 1048576 < length bytes
longer-is told bytes e h = let P : Option (List ℕ) → Type 0 = λ o. IsLonger o 1048576 in subst P e h

-- a mode of which a test says yes is none of which it says no
not-both : (test : Mode → Bool) (m k : Mode) → test k ≡ false → test m ≡ true → m ≡ k → ⊥
not-both test m k f h e = let bad = sym f ∙ ap test (sym e) ∙ h in absurd cc

sample-is : (file bytes given : List ℕ) → IsSample file bytes → IsSample file given → given ≡ bytes
sample-is file bytes given h k =
    let few = h.most in
    let few_too = k.most in
    let e : k.stages ≡ h.stages = decimal_injective k.stages h.stages (omega arith) (omega arith) (sym k.plain ∙ h.plain) in
    k.made ∙ ap sample e ∙ sym h.made

-- a source that is there is what was read or made
there-is : (m : Mode) (r : Reading) (file bytes given : List ℕ) → IsThere m r file bytes → IsSource m file (r.told file) given → given ≡ bytes
there-is Sample r file bytes given h k = sample-is file bytes given h k
there-is Run r file bytes given h k = whole-is (r.told file) bytes given h.told k.whole
there-is Record r file bytes given h k = whole-is (r.told file) bytes given h.told k.whole
there-is Check r file bytes given h k = whole-is (r.told file) bytes given h.told k.whole
there-is Layout r file bytes given h k = whole-is (r.told file) bytes given h.told k.whole
there-is Verify r file bytes given h k = whole-is (r.told file) bytes given h.told k.whole
there-is Races r file bytes given h k = whole-is (r.told file) bytes given h.told k.whole
there-is Replica r file bytes given h k = whole-is (r.told file) bytes given h.told k.whole

-- the bytes of a file that is there are known
there-file : (m : Mode) (r : Reading) (file bytes : List ℕ) → (m ≡ Sample → ⊥) → IsThere m r file bytes → IsToldWhole r file bytes
there-file Sample r file bytes n h = absurd (n refl)
there-file Run r file bytes n h = h
there-file Record r file bytes n h = h
there-file Check r file bytes n h = h
there-file Layout r file bytes n h = h
there-file Verify r file bytes n h = h
there-file Races r file bytes n h = h
there-file Replica r file bytes n h = h

-- what is read of a file whose bytes are known is short
source-short : (m : Mode) (told : Option (List ℕ)) (file bytes given : List ℕ) → (m ≡ Sample → ⊥) → told ≡ Some bytes
    → IsSource m file told given → length bytes ≤ 1048576
source-short Sample told file bytes given n e h = absurd (n refl)
source-short Run told file bytes given n e h = subst (λ b. length b ≤ 1048576) (whole-is told bytes given e h.whole) h.short
source-short Record told file bytes given n e h = subst (λ b. length b ≤ 1048576) (whole-is told bytes given e h.whole) h.short
source-short Check told file bytes given n e h = subst (λ b. length b ≤ 1048576) (whole-is told bytes given e h.whole) h.short
source-short Layout told file bytes given n e h = subst (λ b. length b ≤ 1048576) (whole-is told bytes given e h.whole) h.short
source-short Verify told file bytes given n e h = subst (λ b. length b ≤ 1048576) (whole-is told bytes given e h.whole) h.short
source-short Races told file bytes given n e h = subst (λ b. length b ≤ 1048576) (whole-is told bytes given e h.whole) h.short
source-short Replica told file bytes given n e h = subst (λ b. length b ≤ 1048576) (whole-is told bytes given e h.whole) h.short

-- ---- the answer

-- what had one verdict had another that follows from it
came-on : (words : List (List ℕ)) (r : Reading) (v w : Verdict)
    → ((a : Asked) (bytes : List ℕ) → ComesFrom r a bytes v → ComesFrom r a bytes w) → CameTo words r v → CameTo words r w
came-on words r v w f c = record {
  asked = c.asked;
  asks = c.asks;
  range = c.range;
  holds = record { bytes = c.holds.bytes; source = c.holds.source; holds = f c.asked c.holds.bytes c.holds.holds };
}

caused-without : (words : List (List ℕ)) (r : Reading) (v : Verdict) → Caused words r v → Caused words r (without_memory v)
caused-without words r Usage c = tt
caused-without words r ReadFault c = tt
caused-without words r TooLong c = tt
caused-without words r (Refused x) c = tt
caused-without words r (Ran j) c = came-on words r (Ran j) (NoMemory (Some j)) (λ a bytes h. h.run) c
caused-without words r (Recorded j o) c = came-on words r (Recorded j o) (NoMemory (Some j)) (λ a bytes h. h.run) c
caused-without words r (Overlong j) c = came-on words r (Overlong j) (NoMemory (Some j)) (λ a bytes h. h.run) c
caused-without words r (Raced j x) c = came-on words r (Raced j x) (NoMemory (Some j)) (λ a bytes h. h.run) c
caused-without words r (Replicated j) c = came-on words r (Replicated j) (Unwritten j) (λ a bytes h. h) c
caused-without words r (Unwritten j) c = c
caused-without words r (Judged x) c = tt
caused-without words r Passed c = tt
caused-without words r (Laid p) c = tt
caused-without words r (NoMemory None) c = tt
caused-without words r (NoMemory (Some j)) c = c

caused-written : (words : List (List ℕ)) (r : Reading) (v w : Verdict) → (w ≡ v) ⊎ (w ≡ without_memory v) → Caused words r v → Caused words r w
caused-written words r v w (inl e) c = subst (Caused words r) (sym e) c
caused-written words r v w (inr e) c = subst (Caused words r) (sym e) (caused-without words r v c)

-- a verdict with its cause is delivered
pub answered : (words : List (List ℕ)) (r : Reading) (out err : Writing) (d : Done) (v : Verdict) → Caused words r v
    → Delivers v out err d → Answered words r out err d
answered words r out err d v c h = record {
  verdict = h.written;
  caused = caused-written words r v h.written h.is c;
  delivered = h.delivered;
  refusal = h.refusal;
  journal = h.journal;
  orders = h.orders;
  replica = h.replica;
}

-- what is written of a verdict with its cause can be
pub writable : (words : List (List ℕ)) (r : Reading) (v : Verdict) → Caused words r v → IsWritable v
writable words r Usage c = tt
writable words r ReadFault c = tt
writable words r TooLong c = tt
writable words r (Refused x) c = tt
writable words r (Ran j) c = tt
writable words r (Recorded j o) c = c.holds.holds.has
writable words r (Overlong j) c = tt
writable words r (Raced j x) c = tt
writable words r (Replicated j) c = tt
writable words r (Unwritten j) c = tt
writable words r (Judged x) c = tt
writable words r Passed c = tt
writable words r (Laid p) c = tt
writable words r (NoMemory o) c = tt

-- ---- where nothing failed

-- both sinks took what they were given
record Written (v : Verdict) (out : Writing) (d : Done) : Type 0 where
  status : d.status ≡ status_for v
  text : Gained out (text_of v)
  journal : d.journal ≡ journal_of v
  orders : d.orders ≡ orders_in v
  replica : d.replica ≡ replica_of v

written : (v : Verdict) (out err : Writing) (d : Done) → Delivered v out err d.status → d.journal ≡ journal_of v → d.orders ≡ orders_in v
    → d.replica ≡ replica_of v → (Rose out.faults_before out.faults_after → ⊥) → (Rose err.faults_before err.faults_after → ⊥) → Written v out d
written v out err d (Whole e o l) j k i ho he = record { status = e; text = o; journal = j; orders = k; replica = i }
written v out err d (Out_broke e b l) j k i ho he = absurd (ho b.cause)
written v out err d (Err_broke e o b) j k i ho he = absurd (he b.cause)

module _ (words : List (List ℕ)) (r : Reading) (out err : Writing) (d : Done) (a : Asked) (bytes : List ℕ) (s : Succeeds words r out err a bytes) where
  asked-same : (b : Asked) → Asks words b → b ≡ a
  asked-same b h = same-asked words a b s.asks h

  -- what a verdict came from is what was asked for, and these bytes
  came-from : (v : Verdict) → CameTo words r v → ComesFrom r a bytes v
  came-from v c =
      let P : Asked → Type 0 = λ b. Holds r b (λ held. ComesFrom r b held v) in
      let h : Holds r a (λ held. ComesFrom r a held v) = subst P (asked-same c.asked c.asks) c.holds in
      subst (λ held. ComesFrom r a held v) (there-is a.mode r a.file bytes h.bytes s.source h.source) h.holds

  no-fault : Taken words (λ b. FailedToRead r b) → ⊥
  no-fault c =
      let h : FailedToRead r a = subst (λ b. FailedToRead r b) (asked-same c.asked c.asks) c.holds in
      (there-file a.mode r a.file bytes h.file s.source).read h.rose

  not-longer : Taken words (λ b. IsTooLong r b) → ⊥
  not-longer c =
      let h : IsTooLong r a = subst (λ b. IsTooLong r b) (asked-same c.asked c.asks) c.holds in
      let t = there-file a.mode r a.file bytes h.file s.source in
      let long = longer-is (r.told a.file) bytes t.told h.longer in
      let short = t.short in
      omega arith

  -- what a verdict on an accepted source has come from
  abbrev Came : Verdict → Type 0
  Came Usage = ⊥
  Came (Refused x) = ⊥
  Came (NoMemory o) = Unit {0}
  Came v = ComesFrom r a bytes v

  came : (program : Checked) → IsAccepted a.threads bytes program → (v : Verdict) → Caused words r v → Came v
  came program h Usage c = c a s.asks
  came program h ReadFault (inl c) = absurd (no-fault c)
  came program h ReadFault (inr c) = came-from ReadFault c
  came program h TooLong (inl c) = absurd (not-longer c)
  came program h TooLong (inr c) = came-from TooLong c
  came program h (Refused x) c = never_both a.threads bytes program x h (came-from (Refused x) c)
  came program h (Ran j) c = came-from (Ran j) c
  came program h (Recorded j o) c = came-from (Recorded j o) c
  came program h (Overlong j) c = came-from (Overlong j) c
  came program h (Raced j x) c = came-from (Raced j x) c
  came program h (Replicated j) c = came-from (Replicated j) c
  came program h (Unwritten j) c = came-from (Unwritten j) c
  came program h (Judged x) c = came-from (Judged x) c
  came program h Passed c = came-from Passed c
  came program h (Laid p) c = came-from (Laid p) c
  came program h (NoMemory o) c = tt

  -- a run of a mode that prints
  done-run : prints a.mode ≡ true → (v : Verdict) → Came v → Written v out d → HasRun out d ⊎ (d.status ≡ 104)
  done-run m Usage c w = absurd c
  done-run m (Refused x) c w = absurd c
  done-run m ReadFault c w = absurd (not-both prints a.mode Verify refl m c.mode)
  done-run m TooLong c w = absurd (not-both prints a.mode Verify refl m c.mode)
  done-run m (Ran j) c w = inl (record { journal = j; is = w.journal; status = w.status; text = w.text })
  done-run m (Recorded j o) c w = absurd (not-both prints a.mode Record refl m c.mode)
  done-run m (Overlong j) c w = absurd (not-both prints a.mode Record refl m c.mode)
  done-run m (Raced j x) c w = absurd (not-both prints a.mode Races refl m c.mode)
  done-run m (Replicated j) c w = absurd (not-both prints a.mode Replica refl m c.mode)
  done-run m (Unwritten j) c w = inr w.status
  done-run m (Judged x) c w = absurd (not-both prints a.mode Verify refl m c.mode)
  done-run m Passed c w = absurd (not-both prints a.mode Check refl m c.mode)
  done-run m (Laid p) c w = absurd (not-both prints a.mode Layout refl m c.mode)
  done-run m (NoMemory o) c w = inr w.status

  done-record : a.mode ≡ Record → (v : Verdict) → Came v → Written v out d
      → HasRecorded out d ⊎ IsOverlong d ⊎ (d.status ≡ 104)
  done-record m Usage c w = absurd c
  done-record m (Refused x) c w = absurd c
  done-record m ReadFault c w = let bad = sym m ∙ c.mode in absurd cc
  done-record m TooLong c w = let bad = sym m ∙ c.mode in absurd cc
  done-record m (Ran j) c w = absurd (not-both prints a.mode Record refl c.prints m)
  done-record m (Recorded j o) c w =
      inl (record { journal = j; is = w.journal; orders = o; are = w.orders; status = w.status; text = w.text })
  done-record m (Overlong j) c w =
      inr (inl (record { journal = j; is = w.journal; long = c.long; status = w.status }))
  done-record m (Raced j x) c w = let bad = sym m ∙ c.mode in absurd cc
  done-record m (Replicated j) c w = let bad = sym m ∙ c.mode in absurd cc
  done-record m (Unwritten j) c w = inr (inr w.status)
  done-record m (Judged x) c w = let bad = sym m ∙ c.mode in absurd cc
  done-record m Passed c w = let bad = sym m ∙ c.mode in absurd cc
  done-record m (Laid p) c w = let bad = sym m ∙ c.mode in absurd cc
  done-record m (NoMemory o) c w = inr (inr w.status)

  done-races : a.mode ≡ Races → (v : Verdict) → Came v → Written v out d → HasRaced out d ⊎ (d.status ≡ 104)
  done-races m Usage c w = absurd c
  done-races m (Refused x) c w = absurd c
  done-races m ReadFault c w = let bad = sym m ∙ c.mode in absurd cc
  done-races m TooLong c w = let bad = sym m ∙ c.mode in absurd cc
  done-races m (Ran j) c w = absurd (not-both prints a.mode Races refl c.prints m)
  done-races m (Recorded j o) c w = let bad = sym m ∙ c.mode in absurd cc
  done-races m (Overlong j) c w = let bad = sym m ∙ c.mode in absurd cc
  done-races m (Raced j x) c w =
      inl (record { journal = j; is = w.journal; report = x; reports = c.reports; status = w.status; text = w.text })
  done-races m (Replicated j) c w = let bad = sym m ∙ c.mode in absurd cc
  done-races m (Unwritten j) c w = inr w.status
  done-races m (Judged x) c w = let bad = sym m ∙ c.mode in absurd cc
  done-races m Passed c w = let bad = sym m ∙ c.mode in absurd cc
  done-races m (Laid p) c w = let bad = sym m ∙ c.mode in absurd cc
  done-races m (NoMemory o) c w = inr w.status

  done-replica : a.mode ≡ Replica → (v : Verdict) → Came v → Written v out d → HasReplicated out d ⊎ (d.status ≡ 104)
  done-replica m Usage c w = absurd c
  done-replica m (Refused x) c w = absurd c
  done-replica m ReadFault c w = let bad = sym m ∙ c.mode in absurd cc
  done-replica m TooLong c w = let bad = sym m ∙ c.mode in absurd cc
  done-replica m (Ran j) c w = absurd (not-both prints a.mode Replica refl c.prints m)
  done-replica m (Recorded j o) c w = let bad = sym m ∙ c.mode in absurd cc
  done-replica m (Overlong j) c w = let bad = sym m ∙ c.mode in absurd cc
  done-replica m (Raced j x) c w = let bad = sym m ∙ c.mode in absurd cc
  done-replica m (Replicated j) c w = inl (record { journal = j; is = w.replica; status = w.status; text = w.text })
  done-replica m (Unwritten j) c w = inr w.status
  done-replica m (Judged x) c w = let bad = sym m ∙ c.mode in absurd cc
  done-replica m Passed c w = let bad = sym m ∙ c.mode in absurd cc
  done-replica m (Laid p) c w = let bad = sym m ∙ c.mode in absurd cc
  done-replica m (NoMemory o) c w = inr w.status

  done-check : a.mode ≡ Check → (v : Verdict) → Came v → Written v out d
      → HasWritten out d (codes "ok\n") ⊎ (d.status ≡ 104)
  done-check m Usage c w = absurd c
  done-check m (Refused x) c w = absurd c
  done-check m ReadFault c w = let bad = sym m ∙ c.mode in absurd cc
  done-check m TooLong c w = let bad = sym m ∙ c.mode in absurd cc
  done-check m (Ran j) c w = absurd (not-both prints a.mode Check refl c.prints m)
  done-check m (Recorded j o) c w = let bad = sym m ∙ c.mode in absurd cc
  done-check m (Overlong j) c w = let bad = sym m ∙ c.mode in absurd cc
  done-check m (Raced j x) c w = let bad = sym m ∙ c.mode in absurd cc
  done-check m (Replicated j) c w = let bad = sym m ∙ c.mode in absurd cc
  done-check m (Unwritten j) c w = inr w.status
  done-check m (Judged x) c w = let bad = sym m ∙ c.mode in absurd cc
  done-check m Passed c w = inl (record { status = w.status; gained = w.text })
  done-check m (Laid p) c w = let bad = sym m ∙ c.mode in absurd cc
  done-check m (NoMemory o) c w = inr w.status

  done-layout : a.mode ≡ Layout → (checked : Checked) → IsAccepted a.threads bytes checked → (v : Verdict) → Came v
      → Written v out d → HasWritten out d (layout checked) ⊎ (d.status ≡ 104)
  done-layout m checked h Usage c w = absurd c
  done-layout m checked h (Refused x) c w = absurd c
  done-layout m checked h ReadFault c w = let bad = sym m ∙ c.mode in absurd cc
  done-layout m checked h TooLong c w = let bad = sym m ∙ c.mode in absurd cc
  done-layout m checked h (Ran j) c w = absurd (not-both prints a.mode Layout refl c.prints m)
  done-layout m checked h (Recorded j o) c w = let bad = sym m ∙ c.mode in absurd cc
  done-layout m checked h (Overlong j) c w = let bad = sym m ∙ c.mode in absurd cc
  done-layout m checked h (Raced j x) c w = let bad = sym m ∙ c.mode in absurd cc
  done-layout m checked h (Replicated j) c w = let bad = sym m ∙ c.mode in absurd cc
  done-layout m checked h (Unwritten j) c w = inr w.status
  done-layout m checked h (Judged x) c w = let bad = sym m ∙ c.mode in absurd cc
  done-layout m checked h Passed c w = let bad = sym m ∙ c.mode in absurd cc
  done-layout m checked h (Laid p) c w =
      let e = same_checked a.threads bytes _ checked c.accepted h in
      inl (record { status = w.status; gained = subst (λ x. Gained out (layout x)) e w.text })
  done-layout m checked h (NoMemory o) c w = inr w.status

  -- a record that is told
  module _ (checked : Checked) (name held : List ℕ) (h : IsAccepted a.threads bytes checked) (named : a.recording ≡ Some name)
      (t : IsTold r name held) where
    same-name : (other : List ℕ) → a.recording ≡ Some other → other ≡ name
    same-name other e = let both = sym e ∙ named in cc

    is-found : (x : Judgment) → OnRecord a bytes (λ c n. JudgedFrom (r.told n) c x) → Written (Judged x) out d
        → HasJudged checked held out d
    is-found x c w =
        let e = same_checked a.threads bytes c.checked checked c.accepted h in
        let told : r.told c.name ≡ Some held = ap r.told (same-name c.name c.named) ∙ t.told in
        let is : c.holds.bytes ≡ held = whole-is (r.told c.name) held c.holds.bytes told c.holds.whole in
        let found : IsJudgment checked held x =
        subst (λ b. IsJudgment checked b x) is (subst (λ p. IsJudgment p c.holds.bytes x) e c.holds.judged) in
        Is_found x (subst (λ b. length b ≤ 67108864) is c.holds.short) found w.status w.text

    is-long : OnRecord a bytes (λ c n. IsLonger (r.told n) 67108864) → d.status ≡ 110 → HasJudged checked held out d
    is-long c w =
        let told : r.told c.name ≡ Some held = ap r.told (same-name c.name c.named) ∙ t.told in
        let P : Option (List ℕ) → Type 0 = λ o. IsLonger o 67108864 in
        let long : 67108864 < length held = subst P told c.holds in
        Is_long long w

    no-record-fault : OnRecord a bytes (λ c n. Rose (r.before n) (r.after n)) → ⊥
    no-record-fault c = t.read (subst (λ n. Rose (r.before n) (r.after n)) (same-name c.name c.named) c.holds)

    done-verify : a.mode ≡ Verify → (v : Verdict) → Came v → Written v out d → HasJudged checked held out d ⊎ (d.status ≡ 104)
    done-verify m Usage c w = absurd c
    done-verify m (Refused x) c w = absurd c
    done-verify m ReadFault c w = absurd (no-record-fault c)
    done-verify m TooLong c w = inl (is-long c w.status)
    done-verify m (Ran j) c w = absurd (not-both prints a.mode Verify refl c.prints m)
    done-verify m (Recorded j o) c w = let bad = sym m ∙ c.mode in absurd cc
    done-verify m (Overlong j) c w = let bad = sym m ∙ c.mode in absurd cc
    done-verify m (Raced j x) c w = let bad = sym m ∙ c.mode in absurd cc
    done-verify m (Replicated j) c w = let bad = sym m ∙ c.mode in absurd cc
    done-verify m (Unwritten j) c w = inr w.status
    done-verify m (Judged x) c w = inl (is-found x c w)
    done-verify m Passed c w = let bad = sym m ∙ c.mode in absurd cc
    done-verify m (Laid p) c w = let bad = sym m ∙ c.mode in absurd cc
    done-verify m (NoMemory o) c w = inr w.status

  done-by : (v : Verdict) → Caused words r v → Written v out d → (m : Mode) → a.mode ≡ m → IsDone m r a bytes out d
  done-by v c w Run e = λ program h. done-run (ap prints e) v (came program h v c) w
  done-by v c w Sample e = λ program h. done-run (ap prints e) v (came program h v c) w
  done-by v c w Record e = λ program h. done-record e v (came program h v c) w
  done-by v c w Races e = λ program h. done-races e v (came program h v c) w
  done-by v c w Replica e = λ program h. done-replica e v (came program h v c) w
  done-by v c w Check e = λ program h. done-check e v (came program h v c) w
  done-by v c w Layout e = λ program h. done-layout e program h v (came program h v c) w
  done-by v c w Verify e = λ program name held h named t. done-verify program name held h named t e v (came program h v c) w

pub complete : (words : List (List ℕ)) (r : Reading) (out err : Writing) (d : Done) → Answered words r out err d → IsComplete words r out err d
complete words r out err d x a bytes s =
    done-by words r out err d a bytes s x.verdict x.caused (written x.verdict out err d x.delivered x.journal x.orders x.replica s.out_written s.err_written) a.mode refl

-- ---- other words

other-words-by : (words : List (List ℕ)) (r : Reading) (out err : Writing) (d : Done) (v : Verdict) → Caused words r v
    → Delivered v out err d.status → RefusesOtherWords words d
other-words-by words r out err d v c (Out_broke e b l) n = inr (inl e)
other-words-by words r out err d v c (Err_broke e o b) n = inr (inl e)
other-words-by words r out err d Usage c (Whole e o l) n = inl e
other-words-by words r out err d ReadFault (inl c) (Whole e o l) n = absurd (n c.asked c.asks)
other-words-by words r out err d ReadFault (inr c) (Whole e o l) n = absurd (n c.asked c.asks)
other-words-by words r out err d TooLong (inl c) (Whole e o l) n = absurd (n c.asked c.asks)
other-words-by words r out err d TooLong (inr c) (Whole e o l) n = absurd (n c.asked c.asks)
other-words-by words r out err d (Refused x) c (Whole e o l) n = absurd (n c.asked c.asks)
other-words-by words r out err d (Ran x) c (Whole e o l) n = absurd (n c.asked c.asks)
other-words-by words r out err d (Recorded x y) c (Whole e o l) n = absurd (n c.asked c.asks)
other-words-by words r out err d (Overlong x) c (Whole e o l) n = absurd (n c.asked c.asks)
other-words-by words r out err d (Raced x y) c (Whole e o l) n = absurd (n c.asked c.asks)
other-words-by words r out err d (Replicated x) c (Whole e o l) n = absurd (n c.asked c.asks)
other-words-by words r out err d (Unwritten x) c (Whole e o l) n = absurd (n c.asked c.asks)
other-words-by words r out err d (Judged x) c (Whole e o l) n = absurd (n c.asked c.asks)
other-words-by words r out err d Passed c (Whole e o l) n = absurd (n c.asked c.asks)
other-words-by words r out err d (Laid x) c (Whole e o l) n = absurd (n c.asked c.asks)
other-words-by words r out err d (NoMemory x) c (Whole e o l) n = inr (inr e)

pub other-words : (words : List (List ℕ)) (r : Reading) (out err : Writing) (d : Done) → Answered words r out err d → RefusesOtherWords words d
other-words words r out err d a = other-words-by words r out err d a.verdict a.caused a.delivered

-- ---- long files

-- what is held of a file whose bytes are known is short
not-long : (words : List (List ℕ)) (r : Reading) (a : Asked) (bytes : List ℕ) → Asks words a → (a.mode ≡ Sample → ⊥)
    → r.told a.file ≡ Some bytes → 1048576 < length bytes → (v : Verdict) → CameTo words r v → ⊥
not-long words r a bytes asks file told long v c =
    let P : Asked → Type 0 = λ b. Holds r b (λ held. ComesFrom r b held v) in
    let h : Holds r a (λ held. ComesFrom r a held v) = subst P (same-asked words a c.asked asks c.asks) c.holds in
    let short = source-short a.mode (r.told a.file) a.file bytes h.bytes file told h.source in
    omega arith

long-files-by : (words : List (List ℕ)) (r : Reading) (out err : Writing) (d : Done) (v : Verdict) → Caused words r v
    → Delivered v out err d.status → RefusesLongFiles words r d
long-files-by words r out err d v c (Out_broke e b l) a bytes asks file told long = inr (inr (inl e))
long-files-by words r out err d v c (Err_broke e o b) a bytes asks file told long = inr (inr (inl e))
long-files-by words r out err d Usage c (Whole e o l) a bytes asks file told long = absurd (c a asks)
long-files-by words r out err d ReadFault c (Whole e o l) a bytes asks file told long = inr (inl e)
long-files-by words r out err d TooLong c (Whole e o l) a bytes asks file told long = inl e
long-files-by words r out err d (Refused x) c (Whole e o l) a bytes asks file told long = absurd (not-long words r a bytes asks file told long (Refused x) c)
long-files-by words r out err d (Ran x) c (Whole e o l) a bytes asks file told long = absurd (not-long words r a bytes asks file told long (Ran x) c)
long-files-by words r out err d (Recorded x y) c (Whole e o l) a bytes asks file told long = absurd (not-long words r a bytes asks file told long (Recorded x y) c)
long-files-by words r out err d (Overlong x) c (Whole e o l) a bytes asks file told long = absurd (not-long words r a bytes asks file told long (Overlong x) c)
long-files-by words r out err d (Raced x y) c (Whole e o l) a bytes asks file told long = absurd (not-long words r a bytes asks file told long (Raced x y) c)
long-files-by words r out err d (Replicated x) c (Whole e o l) a bytes asks file told long = absurd (not-long words r a bytes asks file told long (Replicated x) c)
long-files-by words r out err d (Unwritten x) c (Whole e o l) a bytes asks file told long = absurd (not-long words r a bytes asks file told long (Unwritten x) c)
long-files-by words r out err d (Judged x) c (Whole e o l) a bytes asks file told long = absurd (not-long words r a bytes asks file told long (Judged x) c)
long-files-by words r out err d Passed c (Whole e o l) a bytes asks file told long = absurd (not-long words r a bytes asks file told long Passed c)
long-files-by words r out err d (Laid x) c (Whole e o l) a bytes asks file told long = absurd (not-long words r a bytes asks file told long (Laid x) c)
long-files-by words r out err d (NoMemory x) c (Whole e o l) a bytes asks file told long = inr (inr (inr e))

pub long-files : (words : List (List ℕ)) (r : Reading) (out err : Writing) (d : Done) → Answered words r out err d
    → RefusesLongFiles words r d
long-files words r out err d a = long-files-by words r out err d a.verdict a.caused a.delivered
