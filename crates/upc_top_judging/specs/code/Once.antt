-- Of a record one thing is found.
use Rattle.std.specs.Prelude.{ℕ, ◌≡◌, List}
use Rattle.typed_tree.specs.Programs.{Checked}
use Rattle.upc_top_judging.specs.declared.judgment.Judgment.{Judgment}
use Rattle.upc_top_judging.specs.declared.judgment.Judgment.TheVariants.{BadText}
use Rattle.upc_top_judging.specs.Judgments.{IsJudgment}

-- Two judgments are the same, but perhaps for the place in a bad text.
abbrev pub IsLike : Judgment → Judgment → Type 0
IsLike (BadText p) (BadText q) = Unit {0}
IsLike x y = x ≡ y

-- Whatever is found of the bytes of a record for a program is the same, but perhaps for that place.
abbrev pub OneJudgment : Type 0
OneJudgment =
    (program : Checked) (bytes : List ℕ) (x y : Judgment) → IsJudgment program bytes x → IsJudgment program bytes y
    → IsLike x y
