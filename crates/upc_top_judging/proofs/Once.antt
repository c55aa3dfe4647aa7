-- Of a record one thing is found.
use Rattle.std.proofs.Common.{◌≡◌, ◌∙◌, ◌<◌, ℕ, zero, suc, List, refl, sym, ap, subst, ◌⊎◌, inl, inr, arith}
use Rattle.std.proofs.lemmas.Bool.{cases_lt}
use Rattle.typed_tree.specs.Programs.{Checked}
use Rattle.run_recorder.proofs.Answering.{one_run_each}
use Rattle.upc_verify_judge.specs.declared.verdict.Verdict.{Verdict}
use Rattle.upc_verify_judge.specs.declared.verdict.Verdict.TheVariants.{Sound, Broken}
use Rattle.upc_verify_judge.specs.Verdicts as judge
use Rattle.upc_verify_judge.specs.Verdicts.{Case, Part, number, Breaks}
use Rattle.upc_verify.specs.Verdicts.{IsVerdict, case_of}
use Rattle.upc_top_judging.specs.declared.judgment.Judgment.TheVariants.{BadText, OldText, Judged}
use Rattle.upc_top_judging.specs.Judgments.{IsJudgedText}
use Rattle.upc_top_judging.specs.code.Once.{OneJudgment}

-- the part with a number
abbrev numbered : ℕ → Part
numbered zero = judge.shape
numbered (suc zero) = judge.strands
numbered (suc (suc zero)) = judge.entries
numbered (suc (suc (suc zero))) = judge.history
numbered (suc (suc (suc (suc zero)))) = judge.stalls
numbered (suc (suc (suc (suc (suc zero))))) = judge.ends
numbered (suc (suc (suc (suc (suc (suc n)))))) = judge.orders

numbered-is : (p : Part) → numbered (number p) ≡ p
numbered-is judge.shape = refl
numbered-is judge.strands = refl
numbered-is judge.entries = refl
numbered-is judge.history = refl
numbered-is judge.stalls = refl
numbered-is judge.ends = refl
numbered-is judge.orders = refl

module _ (c : Case) where
  -- of two that break first neither stands before the other
  not-before : (p q : Part) (t u : ℕ) → Breaks c p t → Breaks c q u → (number p < number q) ⊎ ((p ≡ q) × (t < u)) → ⊥
  not-before p q t u h k first = h.fails (k.before p t h.within first)

  same-thread : (p : Part) (t u : ℕ) → Breaks c p t → Breaks c p u → t ≡ u
  same-thread p t u h k =
      elim (cases_lt t u) [
        | inl below ↦ absurd (not-before p p t u h k (inr (refl, below)))
        | inr least ↦ elim (cases_lt u t) [
          | inl below ↦ absurd (not-before p p u t k h (inr (refl, below)))
          | inr most ↦ omega arith
        ]
      ]

  same-number : (p q : Part) (t u : ℕ) → Breaks c p t → Breaks c q u → number p ≡ number q
  same-number p q t u h k =
      elim (cases_lt (number p) (number q)) [
        | inl below ↦ absurd (not-before p q t u h k (inl below))
        | inr least ↦ elim (cases_lt (number q) (number p)) [
          | inl below ↦ absurd (not-before q p u t k h (inl below))
          | inr most ↦ omega arith
        ]
      ]

  same-part : (p q : Part) (t u : ℕ) → Breaks c p t → Breaks c q u → p ≡ q
  same-part p q t u h k = sym (numbered-is p) ∙ ap numbered (same-number p q t u h k) ∙ numbered-is q

  pub one-verdict : (v w : Verdict) → judge.IsVerdict c v → judge.IsVerdict c w → v ≡ w
  one-verdict Sound Sound h k = refl
  one-verdict Sound (Broken part t) h (q, is, k) = absurd (k.fails (h q t k.within))
  one-verdict (Broken part t) Sound (p, is, h) k = absurd (h.fails (k p t h.within))
  one-verdict (Broken part t) (Broken after u) (p, is, h) (q, also, k) =
      let same : part ≡ after = sym is ∙ same-number p q t u h k ∙ also in
      let here : Breaks c q t = subst (λ o. Breaks c o t) (same-part p q t u h k) h in
      let thread : t ≡ u = same-thread q t u here k in
      rw (same, thread) refl

same-judged : (program : Checked) (bytes : List ℕ) (v w : Verdict) → IsJudgedText program bytes v
    → IsJudgedText program bytes w → v ≡ w
same-judged program bytes v w h k =
    let one = one_run_each.current h.journal k.journal h.orders k.orders h.recordable k.recordable (sym h.is ∙ k.is) in
    let here : IsVerdict (record { program = program; journal = k.journal; orders = h.orders }) v =
    subst (λ j. IsVerdict (record { program = program; journal = j; orders = h.orders }) v) one.0 h.judged in
    let there : IsVerdict (record { program = program; journal = k.journal; orders = k.orders }) v =
    subst (λ o. IsVerdict (record { program = program; journal = k.journal; orders = o }) v) one.1 here in
    one-verdict (case_of (record { program = program; journal = k.journal; orders = k.orders })) v w there k.judged

pub one-judgment : OneJudgment
one-judgment program bytes (BadText p) (BadText q) h k = tt
one-judgment program bytes (BadText p) OldText h k = absurd (h 1 k.journal k.orders k.recordable (inl (refl, k.is)))
one-judgment program bytes (BadText p) (Judged w) h k = absurd (h 2 k.journal k.orders k.recordable (inr (refl, k.is)))
one-judgment program bytes OldText (BadText q) h k = absurd (k 1 h.journal h.orders h.recordable (inl (refl, h.is)))
one-judgment program bytes OldText OldText h k = refl
one-judgment program bytes OldText (Judged w) h k =
    absurd (one_run_each.apart k.journal h.journal k.orders h.orders (sym k.is ∙ h.is))
one-judgment program bytes (Judged v) (BadText q) h k = absurd (k 2 h.journal h.orders h.recordable (inr (refl, h.is)))
one-judgment program bytes (Judged v) OldText h k =
    absurd (one_run_each.apart h.journal k.journal h.orders k.orders (sym h.is ∙ k.is))
one-judgment program bytes (Judged v) (Judged w) h k = ap Judged (same-judged program bytes v w h k)
