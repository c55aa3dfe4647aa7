-- The second line, and the lines of a thread, each with their laws.
use Rattle.std.proofs.Common.{◌≡◌, ◌∙◌, ◌≤◌, ◌==◌, ℕ, List, [], ◌∷◌, ◌++◌, length, map, Some, refl, sym, ap, arith}
use Rattle.std.proofs.Common.{decimal, codes, eqb-true, eq-eqb}
use Rattle.run_recorder_parts.specs.declared.strands.Header.{Header}
use Rattle.run_recorder_parts.specs.declared.limits.Limits.{Limits}
use Rattle.upc_values.specs.declared.journal.Strand.{Strand}
use Rattle.run_recorder_text.specs.Words.{Text, end_words}
use Rattle.run_recorder_text.specs.Lines.{limits_line, thread_line, item_line, strand_lines, numbered_lines}
use Rattle.run_recorder_parts.specs.Bounds.{most_u32, most_u64}
use Rattle.run_recorder.specs.Ranges.{FitsItem, FitsEnd, FitsStrand}
use Rattle.run_recorder_parts.specs.layer.Readers.{field, many, each, expect}
use Rattle.run_recorder_parts.specs.layer.Values.{item_of}
use Rattle.run_recorder_parts.specs.layer.Lines.{header_words_of, header_of, strand_of, limits_words_of, limits_of}
use Rattle.run_recorder_parts.proofs.Bytes.{in_line, in_word, Passes, EachPasses}
use Rattle.run_recorder.proofs.Forms.{IsRule, rule_field, then_takes, give_takes, then_again, AreMany, rule_many}
use Rattle.run_recorder.proofs.Forms.{AreAll, rule_each, rule_expect, check_takes, check_again}
use Rattle.run_recorder.proofs.ActionLaws.{n32, n64}
use Rattle.run_recorder.proofs.ItemLaws.{a_line, field_item}
use Rattle.run_recorder.proofs.EndLaws.{rule_end}

word : (name : Text) → Passes in_word name → IsRule in_word (expect name) (λ _. name ∷ []) (λ _. Unit {0})
word name lets = rule_expect in_word name lets

-- ---- the second line

abbrev pub FitsLimits : Limits → Type 0
FitsLimits l = (l.threads ≤ most_u32) × (l.budget ≤ most_u64) × (l.actions ≤ most_u64)

abbrev limits_words : Limits → List Text
limits_words l =
    codes "threads" ∷ decimal l.threads ∷ codes "budget" ∷ decimal l.budget ∷ codes "actions" ∷ decimal l.actions ∷ []

abbrev IsLimits : List Text → Limits → List Text → List Text → Type 0
IsLimits before l ws rest = (before ++ ws ≡ limits_words l ++ rest) × FitsLimits l

limits_takes : (ws : List Text) (l : Limits) (rest : List Text) → limits_words_of ws ≡ Some (l, rest)
    → IsLimits [] l ws rest
limits_takes = then_takes (word (codes "threads") refl) _ (IsLimits [])
    (λ _ _. then_takes n32 _ (IsLimits (codes "threads" ∷ []))
    (λ t ht. then_takes (word (codes "budget") refl) _ (IsLimits (codes "threads" ∷ decimal t ∷ []))
    (λ _ _. then_takes n64 _ (IsLimits (codes "threads" ∷ decimal t ∷ codes "budget" ∷ []))
    (λ b hb. then_takes (word (codes "actions") refl) _
    (IsLimits (codes "threads" ∷ decimal t ∷ codes "budget" ∷ decimal b ∷ []))
    (λ _ _. then_takes n64 _
    (IsLimits (codes "threads" ∷ decimal t ∷ codes "budget" ∷ decimal b ∷ codes "actions" ∷ []))
    (λ a ha. give_takes _ _ (λ rest. (refl, (ht, hb, ha)))))))))

limits_rule : IsRule in_word limits_words_of limits_words FitsLimits
limits_rule = record {
  takes = limits_takes;
  again = λ l rest f.
      then_again n32 _ l.threads _ f.0 ∙ then_again n64 _ l.budget _ f.1 ∙ then_again n64 _ l.actions rest f.2;
  plain = λ l f.
      (refl, ((n32.plain l.threads f.0).0, (refl, ((n64.plain l.budget f.1).0, (refl, n64.plain l.actions f.2)))));
}

pub limits : IsRule in_line (field limits_of) (λ l. limits_line l.threads l.budget l.actions ∷ []) FitsLimits
limits = rule_field in_line limits_of (λ l. limits_line l.threads l.budget l.actions) FitsLimits
    (a_line limits_rule (λ l. omega arith))

-- ---- the first line of a thread

abbrev FitsHeader : Header → Type 0
FitsHeader h = (h.thread ≤ most_u32) × (h.items ≤ most_u64) × (h.ticks ≤ most_u64) × FitsEnd h.end

abbrev header_words : Header → List Text
header_words h =
    codes "thread" ∷ decimal h.thread ∷ codes "items" ∷ decimal h.items ∷ codes "ticks" ∷ decimal h.ticks
    ∷ end_words h.end

abbrev header_line : Header → Text
header_line h = thread_line h.thread h.items h.ticks h.end

abbrev IsHeader : List Text → Header → List Text → List Text → Type 0
IsHeader before h ws rest = (before ++ ws ≡ header_words h ++ rest) × FitsHeader h

abbrev up_to_items : ℕ → List Text
up_to_items t = codes "thread" ∷ decimal t ∷ codes "items" ∷ []

abbrev up_to_ticks : ℕ → ℕ → List Text
up_to_ticks t m = codes "thread" ∷ decimal t ∷ codes "items" ∷ decimal m ∷ codes "ticks" ∷ []

header_takes : (ws : List Text) (h : Header) (rest : List Text) → header_words_of ws ≡ Some (h, rest)
    → IsHeader [] h ws rest
header_takes = then_takes (word (codes "thread") refl) _ (IsHeader [])
    (λ _ _. then_takes n32 _ (IsHeader (codes "thread" ∷ []))
    (λ t ht. then_takes (word (codes "items") refl) _ (IsHeader (codes "thread" ∷ decimal t ∷ []))
    (λ _ _. then_takes n64 _ (IsHeader (up_to_items t))
    (λ m hm. then_takes (word (codes "ticks") refl) _ (IsHeader (up_to_items t ++ decimal m ∷ []))
    (λ _ _. then_takes n64 _ (IsHeader (up_to_ticks t m))
    (λ k hk. then_takes rule_end _ (IsHeader (up_to_ticks t m ++ decimal k ∷ []))
    (λ e he. give_takes _ _ (λ rest. (refl, (ht, hm, hk, he))))))))))

header_again : (h : Header) (rest : List Text) → FitsHeader h
    → header_words_of (header_words h ++ rest) ≡ Some (h, rest)
header_again h rest f =
    then_again n32 _ h.thread _ f.0 ∙ then_again n64 _ h.items _ f.1 ∙ then_again n64 _ h.ticks _ f.2
    ∙ then_again rule_end _ h.end rest f.3

header_plain : (h : Header) → FitsHeader h → EachPasses in_word (header_words h)
header_plain h f = (
  refl,
  (
    (n32.plain h.thread f.0).0,
    (
      refl,
      (
        (n64.plain h.items f.1).0,
        (
          refl,
          ((n64.plain h.ticks f.2).0, rule_end.plain h.end f.3),
        ),
      ),
    ),
  ),
)

rule_header : IsRule in_word header_words_of header_words FitsHeader
rule_header = record { takes = header_takes; again = header_again; plain = header_plain }

header : IsRule in_line (field header_of) (λ h. header_line h ∷ []) FitsHeader
header = rule_field in_line header_of header_line FitsHeader (a_line rule_header (λ h. omega arith))

-- ---- the lines of a thread

items : (n : ℕ) → IsRule in_line (many 0 n (each item_of)) (map item_line) (AreAll FitsItem n)
items n = rule_each field_item n

abbrev pub IsThread : ℕ → Strand → Type 0
IsThread t s = (t ≤ most_u32) × FitsStrand s

abbrev IsStrand : ℕ → Strand → List Text → List Text → Type 0
IsStrand t s ws rest = (ws ≡ strand_lines t s ++ rest) × IsThread t s

abbrev header_for : ℕ → Strand → Header
header_for t s = record { thread = t; items = length s.items; ticks = s.ticks; end = s.end }

strand_takes : (t : ℕ) (ws : List Text) (s : Strand) (rest : List Text) → strand_of t ws ≡ Some (s, rest)
    → IsStrand t s ws rest
strand_takes t = then_takes header _ (IsStrand t)
    (λ h hh. check_takes (h.thread == t) _ (λ s ws rest. IsStrand t s (header_line h ∷ ws) rest)
    (λ same. then_takes (items h.items) _ (λ s ws rest. IsStrand t s (header_line h ∷ ws) rest)
    (λ is his. give_takes _ _ (λ rest.
    let number : h.thread ≡ t = eqb-true h.thread t same in (
      ap (λ line. line ∷ map item_line is ++ rest) (ap (λ k. thread_line k h.items h.ticks h.end) number
          ∙ ap (λ k. thread_line t k h.ticks h.end) (sym his.0)),
      (
        omega (arith, hh.0),
        record { count = omega (arith, his.0, hh.1); items = his.1; ticks = hh.2; end = hh.3 },
      ),
    )))))

strand_again : (t : ℕ) (s : Strand) (rest : List Text) → IsThread t s
    → strand_of t (strand_lines t s ++ rest) ≡ Some (s, rest)
strand_again t s rest f =
    then_again header _ (header_for t s) _ (f.0, f.1.count, f.1.ticks, f.1.end)
    ∙ check_again (t == t) _ _ (eq-eqb t t refl)
    ∙ then_again (items (length s.items)) _ s.items rest (refl, f.1.items)

strand_plain : (t : ℕ) (s : Strand) → IsThread t s → EachPasses in_line (strand_lines t s)
strand_plain t s f = (
  (header.plain (header_for t s) (f.0, f.1.count, f.1.ticks, f.1.end)).0,
  (items (length s.items)).plain s.items (refl, f.1.items),
)

pub rule_strands : (n : ℕ)
    → IsRule in_line (many 0 n strand_of) (numbered_lines strand_lines 0) (AreMany IsThread 0 n)
rule_strands n =
    rule_many {p = strand_lines}
    (λ t. record { takes = strand_takes t; again = strand_again t; plain = strand_plain t }) 0 n
