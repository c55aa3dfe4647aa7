-- Which runs can be read back, and that each text is that of one run.
use Rattle.std.specs.Prelude.{ℕ, ◌≡◌, ◌⊎◌}
use Rattle.upc_values.specs.declared.journal.Journal.{Journal}
use Rattle.upc_values.specs.declared.order.Orders.{Orders}
use Rattle.run_recorder_text.specs.Words.{Text}
use Rattle.run_recorder_text.specs.Lines.{text, old_text}
use Rattle.run_recorder_text.specs.Short.{HasText}
use Rattle.run_recorder.specs.Ranges.{Fits}

-- A run is recordable where it has a text and its numbers lie in the ranges of their types, as those of every value
-- do.
pub record IsRecordable (j : Journal) (o : Orders) : Type 0 where
  pub text : HasText j o
  pub numbers : Fits j o

-- The bytes are a run's text of this version: its old text is that of version 1, and its text that of version 2.
abbrev pub IsTextOf : ℕ → Text → Journal → Orders → Type 0
IsTextOf version bytes j o = ((version ≡ 1) × (bytes ≡ old_text j o)) ⊎ ((version ≡ 2) × (bytes ≡ text j o))

-- No run has these bytes as its text, in either version.
abbrev pub IsNoText : Text → Type 0
IsNoText bytes = (version : ℕ) (j : Journal) (o : Orders) → IsRecordable j o → IsTextOf version bytes j o → ⊥

-- Equal texts of one kind have equal journals and equal orders.
abbrev pub TellsOneRun : (Journal → Orders → Text) → Type 0
TellsOneRun told =
    (j k : Journal) (o p : Orders) → IsRecordable j o → IsRecordable k p → told j o ≡ told k p → (j ≡ k) × (o ≡ p)

-- Equal texts of one version have equal journals and equal orders, and no text is of both versions.
pub record OneRunEachText : Type 0 where
  pub current : TellsOneRun text
  pub old : TellsOneRun old_text
  pub apart : (j k : Journal) (o p : Orders) → text j o ≡ old_text k p → ⊥
