-- The first lines of each version, with their laws.
use Rattle.std.proofs.Common.{◌≡◌, ℕ, List, [], ◌∷◌, ◌++◌, Some, refl, sym, subst, inl, inr, codes}
use Rattle.std.specs.Prelude.{◌⊎◌}
use Rattle.run_recorder_text.specs.Words.{Text}
use Rattle.run_recorder_text.specs.Lines.{limits_line, rule_line, head_lines}
use Rattle.run_recorder_parts.specs.declared.head.Head.{Head}
use Rattle.run_recorder_parts.specs.declared.limits.Limits.{Limits}
use Rattle.run_recorder_parts.specs.layer.Readers.{Reader, expect}
use Rattle.run_recorder_parts.specs.layer.Lines.{old_head_of, combining_head_of, head_table, head_of}
use Rattle.run_recorder_parts.proofs.Bytes.{in_line, EachPasses}
use Rattle.run_recorder.proofs.Forms.{IsRule, then_takes, give_takes, then_again, Handles, tagged_takes, rule_expect}
use Rattle.run_recorder.proofs.ActionLaws.{◌&◌}
use Rattle.run_recorder.proofs.StrandLaws.{FitsLimits, limits}

-- There are two versions.
abbrev pub IsVersion : ℕ → Type 0
IsVersion v = (v ≡ 1) ⊎ (v ≡ 2)

abbrev pub FitsHead : Head → Type 0
FitsHead h = IsVersion h.version × FitsLimits h.limits

abbrev lines_for : ℕ → Limits → List Text
lines_for v l = head_lines v l.threads l.budget l.actions

abbrev head_for : ℕ → Limits → Head
head_for v l = record { version = v; limits = l }

abbrev pub first_lines : Head → List Text
first_lines h = lines_for h.version h.limits

abbrev second_line : Limits → Text
second_line l = limits_line l.threads l.budget l.actions

rule : IsRule in_line (expect rule_line) (λ _. rule_line ∷ []) (λ _. Unit {0})
rule = rule_expect in_line rule_line refl

-- The lines before the others, and those after, are the head's.
abbrev Is : List Text → Head → List Text → List Text → Type 0
Is before h ws rest = (before ++ ws ≡ first_lines h ++ rest) × FitsHead h

-- What the reader after this first line reads is written so.
abbrev Handled : Text → Reader Head → Type 0
Handled line r = (ws : List Text) (h : Head) (rest : List Text) → r ws ≡ Some (h, rest) → Is (line ∷ []) h ws rest

old : Handled (codes "upc-record 1") old_head_of
old = then_takes limits _ (Is (codes "upc-record 1" ∷ []))
    (λ l hl. give_takes _ _ (λ rest. (refl, (inl refl, hl))))

combining : Handled (codes "upc-record 2") combining_head_of
combining = then_takes limits _ (Is (codes "upc-record 2" ∷ []))
    (λ l hl. then_takes rule _ (Is (codes "upc-record 2" ∷ second_line l ∷ []))
    (λ _ _. give_takes _ _ (λ rest. (refl, (inr refl, hl)))))

handles : Handles (Is []) head_table
handles = old & combining & tt

head_takes : (ws : List Text) (h : Head) (rest : List Text) → head_of ws ≡ Some (h, rest)
    → (ws ≡ first_lines h ++ rest) × FitsHead h
head_takes = tagged_takes (Is []) head_table handles

-- The first lines of this version are read again.
abbrev IsAgain : Limits → List Text → ℕ → Type 0
IsAgain l rest v = head_of (lines_for v l ++ rest) ≡ Some (head_for v l, rest)

again_in : (l : Limits) (rest : List Text) → FitsLimits l → (v : ℕ) → IsVersion v → IsAgain l rest v
again_in l rest f v (inl is) = subst (IsAgain l rest) (sym is) (then_again limits _ l rest f)
again_in l rest f v (inr is) = subst (IsAgain l rest) (sym is) (then_again limits _ l (rule_line ∷ rest) f)

head_again : (h : Head) (rest : List Text) → FitsHead h → head_of (first_lines h ++ rest) ≡ Some (h, rest)
head_again h rest f = again_in h.limits rest f.1 h.version f.0

plain_in : (l : Limits) → FitsLimits l → (v : ℕ) → IsVersion v → EachPasses in_line (lines_for v l)
plain_in l f v (inl is) =
    subst (λ w. EachPasses in_line (lines_for w l)) (sym is) (refl, ((limits.plain l f).0, tt))
plain_in l f v (inr is) =
    subst (λ w. EachPasses in_line (lines_for w l)) (sym is) (refl, ((limits.plain l f).0, (refl, tt)))

pub rule_head : IsRule in_line head_of first_lines FitsHead
rule_head = record { takes = head_takes; again = head_again; plain = λ h f. plain_in h.limits f.1 h.version f.0 }
