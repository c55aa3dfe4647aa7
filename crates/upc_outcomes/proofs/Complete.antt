-- What is answered where nothing fails, and where the words ask for nothing.
use Rattle.std.proofs.Common.{◌≡◌, ◌∙◌, ◌<◌, ℕ, true, List, length, map, Option, Some, sym, subst, inl, inr, arith}
use Rattle.upc_text.specs.Outside.{Rose, IsWhole, IsLonger}
use Rattle.typed_tree.specs.Programs.{Checked}
use Rattle.upc_top.specs.Sources.{IsAccepted}
use Rattle.upc_top.specs.Verdicts.{Reading}
use Rattle.upc_top.specs.Delivery.{Writing, Gained}
use Rattle.upc_top.proofs.Readings.{never_both}
use Rattle.outcomes.specs.Tally.{listed}
use Rattle.upc_outcomes_words.specs.Values.{Asked, Asks, Wanted, seeded, every, given, recorded}
use Rattle.upc_outcomes.specs.declared.verdict.Verdict.{Verdict}
use Rattle.upc_outcomes.specs.declared.verdict.Verdict.TheVariants.{Usage, ReadFault, TooLong, Refused, Found, Recorded, Overlong, NoMemory}
use Rattle.upc_outcomes.specs.Plans.{is_listing}
use Rattle.upc_outcomes.specs.Verdicts.{text_of, status_for}
use Rattle.upc_outcomes.specs.Causes.{Taken, Holds, ComesFrom, Caused}
use Rattle.upc_outcomes.specs.Answers.{Delivered, Delivered.Whole, Delivered.Out_broke, Delivered.Err_broke, Answered, RefusesOtherWords, Succeeds, HasListed, HasRecorded, IsOverlong, IsDone, IsComplete}

abbrev some : Asked → Option Asked
some w = Some w

is-value : (v w : Asked) → some v ≡ some w → v ≡ w
is-value v w e = cc

-- words ask for one thing at most
one-asked : (words : List (List ℕ)) (a b : Asked) → Asks words a → Asks words b → b ≡ a
one-asked words a b h k = is-value b a (sym k.values ∙ h.values)

whole-is : (told : Option (List ℕ)) (bytes held : List ℕ) → told ≡ Some bytes → IsWhole told held → held ≡ bytes
whole-is told bytes held e h = let P : Option (List ℕ) → Type 0 = λ o. IsWhole o held in subst P e h

longer-is : (told : Option (List ℕ)) (bytes : List ℕ) → told ≡ Some bytes → IsLonger told 1048576 → 1048576 < length bytes
longer-is told bytes e h = let P : Option (List ℕ) → Type 0 = λ o. IsLonger o 1048576 in subst P e h

-- both sinks took what they were given
record Written (v : Verdict) (out : Writing) (status : ℕ) : Type 0 where
  status_is : status ≡ status_for v
  text : Gained out (text_of v)

written : (v : Verdict) (out err : Writing) (status : ℕ) → Delivered v out err status
    → (Rose out.faults_before out.faults_after → ⊥) → (Rose err.faults_before err.faults_after → ⊥) → Written v out status
written v out err status (Whole e o l) ho he = record { status_is = e; text = o }
written v out err status (Out_broke e b l) ho he = absurd (ho b.cause)
written v out err status (Err_broke e o b) ho he = absurd (he b.cause)

-- where memory was wanting, whatever was asked for
wanting : (w : Wanted) (a : Asked) (bytes : List ℕ) (out : Writing) (status : ℕ) → status ≡ 104 → IsDone w a bytes out status
wanting (seeded many seed) a bytes out status e = inr e
wanting (every most) a bytes out status e = inr e
wanting (given picks) a bytes out status e = inr e
wanting (recorded picks) a bytes out status e = inr (inr e)

done-listed : (w : Wanted) (a : Asked) (bytes : List ℕ) (out : Writing) (status : ℕ) → is_listing w ≡ true
    → HasListed a bytes out status → IsDone w a bytes out status
done-listed (seeded many seed) a bytes out status e h = inl h
done-listed (every most) a bytes out status e h = inl h
done-listed (given picks) a bytes out status e h = inl h
done-listed (recorded picks) a bytes out status e h = absurd cc

module _ (words : List (List ℕ)) (r : Reading) (out err : Writing) (status : ℕ) (a : Asked) (bytes : List ℕ) (s : Succeeds words r out err a bytes) where
  asked-same : (b : Asked) → Asks words b → b ≡ a
  asked-same b h = one-asked words a b s.asks h

  -- what a verdict came from is what was asked for, and these bytes
  came-from : (v : Verdict) → Taken words (λ b. Holds r b.file (λ held. ComesFrom b held v)) → ComesFrom a bytes v
  came-from v c =
      let P : Asked → Type 0 = λ b. Holds r b.file (λ held. ComesFrom b held v) in
      let h : Holds r a.file (λ held. ComesFrom a held v) = subst P (asked-same c.asked c.asks) c.holds in
      subst (λ held. ComesFrom a held v) (whole-is (r.told a.file) bytes h.bytes s.source.told h.source.whole) h.holds

  no-fault : Taken words (λ b. Rose (r.before b.file) (r.after b.file)) → ⊥
  no-fault c =
      let P : Asked → Type 0 = λ b. Rose (r.before b.file) (r.after b.file) in
      s.source.read (subst P (asked-same c.asked c.asks) c.holds)

  not-longer : Taken words (λ b. IsLonger (r.told b.file) 1048576) → ⊥
  not-longer c =
      let P : Asked → Type 0 = λ b. IsLonger (r.told b.file) 1048576 in
      let long = longer-is (r.told a.file) bytes s.source.told (subst P (asked-same c.asked c.asks) c.holds) in
      let short = s.source.short in
      omega arith

  done-by : (program : Checked) → IsAccepted a.threads bytes program → (v : Verdict) → Caused words r v → Written v out status
      → IsDone a.wanted a bytes out status
  done-by program h Usage c w = absurd (c a s.asks)
  done-by program h ReadFault c w = absurd (no-fault c)
  done-by program h TooLong c w = absurd (not-longer c)
  done-by program h (Refused x) c w = absurd (never_both a.threads bytes program x h (came-from (Refused x) c))
  done-by program h (Found many rows) c w =
      let f = came-from (Found many rows) c in
      done-listed a.wanted a bytes out status f.listing
      (record { many = many; list = map listed rows.items; found = f; status_is = w.status_is; gained = w.text })
  done-by program h (Recorded j o) c w =
      let f = came-from (Recorded j o) c in
      let d : HasRecorded a bytes out status =
      record { journal = j; orders = o; from = f; status_is = w.status_is; gained = w.text } in
      subst (λ x. IsDone x a bytes out status) (sym f.run.wanted) (inl d)
  done-by program h Overlong c w =
      let f = came-from Overlong c in
      let d : IsOverlong a bytes status = record { from = f; status_is = w.status_is } in
      subst (λ x. IsDone x a bytes out status) (sym f.run.wanted) (inr (inl d))
  done-by program h NoMemory c w = wanting a.wanted a bytes out status w.status_is

pub complete : (words : List (List ℕ)) (r : Reading) (out err : Writing) (status : ℕ) → Answered words r out err status
    → IsComplete words r out err status
complete words r out err status x a bytes program s h =
    done-by words r out err status a bytes s program h x.verdict x.caused
    (written x.verdict out err status x.delivered s.out_written s.err_written)

other-words-by : (words : List (List ℕ)) (r : Reading) (out err : Writing) (status : ℕ) (v : Verdict) → Caused words r v
    → Delivered v out err status → RefusesOtherWords words status
other-words-by words r out err status v c (Out_broke e b l) n = inr (inl e)
other-words-by words r out err status v c (Err_broke e o b) n = inr (inl e)
other-words-by words r out err status Usage c (Whole e o l) n = inl e
other-words-by words r out err status ReadFault c (Whole e o l) n = absurd (n c.asked c.asks)
other-words-by words r out err status TooLong c (Whole e o l) n = absurd (n c.asked c.asks)
other-words-by words r out err status (Refused x) c (Whole e o l) n = absurd (n c.asked c.asks)
other-words-by words r out err status (Found many rows) c (Whole e o l) n = absurd (n c.asked c.asks)
other-words-by words r out err status (Recorded x y) c (Whole e o l) n = absurd (n c.asked c.asks)
other-words-by words r out err status Overlong c (Whole e o l) n = absurd (n c.asked c.asks)
other-words-by words r out err status NoMemory c (Whole e o l) n = inr (inr e)

-- where the words ask for nothing, that is the answer
pub other-words : (words : List (List ℕ)) (r : Reading) (out err : Writing) (status : ℕ) → Answered words r out err status
    → RefusesOtherWords words status
other-words words r out err status a = other-words-by words r out err status a.verdict a.caused a.delivered
