-- What is written where memory was wanting.
use Rattle.std.proofs.Common.{◌≡◌, [], codes, refl}
use Rattle.upc_top.specs.declared.verdict.Verdict.{Verdict}
use Rattle.upc_top.specs.declared.verdict.Verdict.TheVariants.{Usage, ReadFault, TooLong, Refused, Ran, Recorded, Overlong, Raced, Replicated, Unwritten, Judged, Passed, Laid, NoMemory}
use Rattle.upc_top.specs.Verdicts.{text_of, line_of, without_memory}

-- no text
pub no-text : (v : Verdict) → [] ≡ text_of (without_memory v)
no-text Usage = refl
no-text ReadFault = refl
no-text TooLong = refl
no-text (Refused x) = refl
no-text (Ran j) = refl
no-text (Recorded j o) = refl
no-text (Overlong j) = refl
no-text (Raced j x) = refl
no-text (Replicated j) = refl
no-text (Unwritten j) = refl
no-text (Judged x) = refl
no-text Passed = refl
no-text (Laid p) = refl
no-text (NoMemory o) = refl

-- the line of want of memory
pub no-memory-line : (v : Verdict) → codes "upc: no memory\n" ≡ line_of (without_memory v)
no-memory-line Usage = refl
no-memory-line ReadFault = refl
no-memory-line TooLong = refl
no-memory-line (Refused x) = refl
no-memory-line (Ran j) = refl
no-memory-line (Recorded j o) = refl
no-memory-line (Overlong j) = refl
no-memory-line (Raced j x) = refl
no-memory-line (Replicated j) = refl
no-memory-line (Unwritten j) = refl
no-memory-line (Judged x) = refl
no-memory-line Passed = refl
no-memory-line (Laid p) = refl
no-memory-line (NoMemory o) = refl
