-- What a call answers, by what is read.
use Rattle.std.proofs.Common.{◌≡◌, ◌∙◌, ℕ, Some, refl, sym, ap, subst, inl, inr, arith}
use Rattle.std.specs.Prelude.{◌≢◌, Result, Ok, Err, IfOk, IfErr, MatchResult, slice_index}
use Rattle.run_recorder.specs.declared.fail.ReadRecord.{ReadRecord}
use Rattle.run_recorder.specs.declared.fail.ReadRecord.TheVariants.{Bad, Memory}
use Rattle.run_recorder.specs.code.Told.{Tells}
use Rattle.upc_values.specs.declared.journal.Journal.{Journal}
use Rattle.upc_values.specs.declared.order.Orders.{Orders}
use Rattle.run_recorder_text.specs.Words.{Text}
use Rattle.run_recorder_text.specs.Lines.{text, old_text}
use Rattle.run_recorder.specs.Recorded.{IsRecordable, IsTextOf, IsNoText, TellsOneRun, OneRunEachText}
use Rattle.run_recorder.specs.code.Whole.{VersionedRun, run_of}
use Rattle.run_recorder.proofs.Whole.{told, told_again}
use Rattle.run_recorder.proofs.Forms.{some_is}

abbrev IsFound : Text → VersionedRun → Type 0
IsFound bytes run = IsRecordable run.1 run.2 × IsTextOf run.0 bytes run.1 run.2

pub found : (bytes : Text) (r : Result VersionedRun ReadRecord) → Tells r (run_of bytes) → IfOk r (IsFound bytes)
found bytes (Ok x) e = told bytes x e
found bytes (Err f) e = tt

-- Texts of one version, each of which is read again.
one_run : (version : ℕ) (of : Journal → Orders → Text)
    → ((j : Journal) (o : Orders) → IsTextOf version (of j o) j o) → TellsOneRun of
one_run version of is j k o p h g same =
    let e = some_is (version, j, o) (version, k, p) (sym (told_again version (of j o) j o h (is j o))
    ∙ ap run_of same ∙ told_again version (of k p) k p g (is k p)) in
    (ap (λ (x : VersionedRun). x.1) e, ap (λ (x : VersionedRun). x.2) e)

-- The versions' first lines differ in their last byte.
apart : (j k : Journal) (o p : Orders) → text j o ≡ old_text k p → ⊥
apart j k o p same =
    let last : 50 ≡ 49 = ap (λ bytes. slice_index bytes 11) same in
    absurd (omega (arith, last))

pub one_run_each : OneRunEachText
one_run_each = record {
  current = one_run 2 text (λ j o. inr (refl, refl));
  old = one_run 1 old_text (λ j o. inl (refl, refl));
  apart = apart;
}

answer : (run : VersionedRun) (r : Result VersionedRun ReadRecord) → Tells r (Some run)
    → MatchResult r (λ x. x ≡ run) (λ e. e ≡ Memory)
answer run (Ok x) e = some_is x run (sym e)
answer run (Err (Bad place)) e = absurd cc
answer run (Err Memory) e = refl

pub only : (bytes : Text) (r : Result VersionedRun ReadRecord) → Tells r (run_of bytes) → (version : ℕ) (j : Journal)
    (o : Orders) → IsRecordable j o → IsTextOf version bytes j o
    → MatchResult r (λ x. x ≡ (version, j, o)) (λ e. e ≡ Memory)
only bytes r e version j o h is =
    answer (version, j, o) r (subst (Tells r) (told_again version bytes j o h is) e)

pub bad : (bytes : Text) (r : Result VersionedRun ReadRecord) → Tells r (run_of bytes)
    → IfErr r (λ e. e ≢ Memory → IsNoText bytes)
bad bytes (Ok x) e = tt
bad bytes (Err f) e = λ other version j o h is. other (only bytes (Err f) e version j o h is)
