-- What follows from how a verdict was delivered.
use Rattle.std.proofs.Common.{◌≡◌, ◌⊎◌, ℕ, List, sym, subst, inl, inr}
use Rattle.upc_top.specs.Verdicts.{Reading}
use Rattle.upc_top.specs.Delivery.{Writing}
use Rattle.upc_outcomes.specs.declared.verdict.Verdict.{Verdict}
use Rattle.upc_outcomes.specs.declared.verdict.Verdict.TheVariants.{Usage, ReadFault, TooLong, Refused, Found, Recorded, Overlong, NoMemory}
use Rattle.upc_outcomes.specs.Verdicts.{IsWritable}
use Rattle.upc_outcomes.specs.Causes.{Caused}
use Rattle.upc_outcomes.specs.Answers.{Delivers, Answered}

pub writable : (words : List (List ℕ)) (r : Reading) (v : Verdict) → Caused words r v → IsWritable v
writable words r (Recorded j o) c = c.holds.holds.has
writable words r Usage c = tt
writable words r ReadFault c = tt
writable words r TooLong c = tt
writable words r (Refused x) c = tt
writable words r (Found many rows) c = tt
writable words r Overlong c = tt
writable words r NoMemory c = tt

written-cause : (words : List (List ℕ)) (r : Reading) (v w : Verdict) → Caused words r v → (w ≡ v) ⊎ (w ≡ NoMemory)
    → Caused words r w
written-cause words r v w c (inl e) = subst (Caused words r) (sym e) c
written-cause words r v w c (inr e) = subst (Caused words r) (sym e) tt

pub answered : (words : List (List ℕ)) (r : Reading) (out err : Writing) (status : ℕ) (v : Verdict) → Caused words r v
    → Delivers v out err status → Answered words r out err status
answered words r out err status v c d = record {
  verdict = d.written;
  caused = written-cause words r v d.written c d.is;
  delivered = d.delivered;
}
