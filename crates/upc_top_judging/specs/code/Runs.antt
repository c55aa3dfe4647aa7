-- What is found of a run that is read from a text of version 2.
use Rattle.std.specs.Prelude.{◌≡◌}
use Rattle.upc_values.specs.declared.journal.Journal.{Journal}
use Rattle.upc_values.specs.declared.order.Orders.{Orders}
use Rattle.typed_tree.specs.Programs.{Checked}
use Rattle.upc_verify_judge.specs.declared.verdict.Verdict.TheVariants.{Sound}
use Rattle.upc_verify.specs.Verdicts.{IsVerdict, IsSoundRun}
use Rattle.upc_top_judging.specs.declared.judgment.Judgment.{Judgment}
use Rattle.upc_top_judging.specs.declared.judgment.Judgment.TheVariants.{Judged}

-- It is the verdict on this run, which is a sound one where the verdict says so.
abbrev pub IsOfRun : Checked → Journal → Orders → Judgment → Type 0
IsOfRun program j o (Judged v) =
    IsVerdict (record { program = program; journal = j; orders = o }) v
    × (v ≡ Sound → IsSoundRun (record { program = program; journal = j; orders = o }))
IsOfRun program j o x = ⊥
