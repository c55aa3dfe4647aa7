-- A verdict that says so is one on a sound run.
use Rattle.std.proofs.Common.{◌≡◌, ◌<◌, subst}
use Rattle.upc_verify_judge.specs.declared.verdict.Verdict.{Verdict}
use Rattle.upc_verify_judge.specs.declared.verdict.Verdict.TheVariants.{Sound}
use Rattle.upc_verify_judge.specs.Verdicts.{AllHold}
use Rattle.upc_verify.specs.Verdicts.{Judged, IsVerdict, IsSoundRun, SoundIsASoundRun, case_of}

pub sound-found : (law : SoundIsASoundRun) (x : Judged) (v : Verdict) → 0 < x.program.threads → IsVerdict x v → v ≡ Sound
    → IsSoundRun x
sound-found law x v some h e =
    let all : AllHold (case_of x) = subst (IsVerdict x) e h in
    (law x some).0 all
