-- The whole text: what is read is the run of the text, and each run is read again.
use Rattle.std.proofs.Common.{◌≡◌, ◌∙◌, ◌<◌, ◌≤◌, ◌+◌, ℕ, Bool, true, false, List, [], ◌∷◌, ◌++◌, length, map, Option}
use Rattle.std.proofs.Common.{Some, None, refl, sym, ap, subst, arith, decimal, codes, append_assoc, true≢false}
use Rattle.std.proofs.Common.{inl, inr}
use Rattle.std.specs.List.{join_with_byte, flat_map}
use Rattle.std.proofs.lemmas.List.{append-nil, length-map}
use Rattle.upc_values.specs.Lists.{Each}
use Rattle.upc_values.specs.declared.journal.Entry.{Entry}
use Rattle.run_recorder_parts.specs.declared.head.Head.{Head}
use Rattle.std.proofs.Common.{leb-true}
use Rattle.std.specs.Prelude.{nat_le, All}
use Rattle.upc_values.specs.Agrees.{IsOf}
use Rattle.run_recorder_text.specs.Short.{most_entries, most_items}
use Rattle.upc_values.specs.declared.journal.Strand.{Strand}
use Rattle.upc_values.specs.declared.journal.Journal.{Journal}
use Rattle.upc_values.specs.declared.order.Op.{Op}
use Rattle.upc_values.specs.declared.order.Orders.{Orders}
use Rattle.run_recorder_parts.specs.declared.names.Name.{Name}
use Rattle.run_recorder_text.specs.Words.{Text, with_blanks}
use Rattle.run_recorder_text.specs.Lines.{strand_lines, entry_line, op_line, section_lines, order_lines, numbered_lines}
use Rattle.run_recorder_text.specs.Lines.{body_lines, run_lines, version_text}
use Rattle.run_recorder_text.specs.Short.{is_short, item_count}
use Rattle.run_recorder_parts.specs.Bounds.{most_u32}
use Rattle.run_recorder.specs.Ranges.{FitsStrand, FitsEntry, FitsOp, FitsOrder}
use Rattle.run_recorder.specs.Recorded.{IsRecordable, IsTextOf}
use Rattle.run_recorder_parts.specs.layer.Readers.{Reader, ◌>>=◌, each, expect, guarded, lift}
use Rattle.run_recorder_parts.specs.layer.Lines.{name_of, op_of, section_of}
use Rattle.run_recorder.specs.code.Finding.{entry_name, entries_of}
use Rattle.run_recorder.specs.code.Whole.{VersionedRun, journal_of, run_of_lines, run_of}
use Rattle.run_recorder_parts.proofs.Bytes.{both, in_line, EachPasses, EachPasses-append, line_no_end}
use Rattle.run_recorder.proofs.Forms.{IsField, IsRule, then_takes, give_takes, then_again, EachFrom, AreMany}
use Rattle.run_recorder.proofs.Forms.{field_whole, rule_expect}
use Rattle.run_recorder.proofs.StrandLaws.{IsThread, rule_strands}
use Rattle.run_recorder.proofs.HeadLaws.{IsVersion, FitsHead, first_lines, rule_head}
use Rattle.run_recorder.proofs.OrderLaws.{FitsName, name_line, field_name, field_op, AreFew, rule_section, IsOrder}
use Rattle.run_recorder.proofs.OrderLaws.{rule_orders}
use Rattle.run_recorder.proofs.Agreement.{entries_takes, entries_again}

-- The lines, and the empty text after the last.
abbrev parts : VersionedRun → List Text
parts x = run_lines x.0 x.1 x.2 ++ [] ∷ []

abbrev Is : VersionedRun → Type 0
Is x = IsVersion x.0 × IsRecordable x.1 x.2

last : IsRule in_line (expect (codes "end")) (λ _. codes "end" ∷ []) (λ _. Unit {0})
last = rule_expect in_line (codes "end") refl

nothing : IsRule in_line (expect []) (λ _. [] ∷ []) (λ _. Unit {0})
nothing = rule_expect in_line [] refl

history : IsRule in_line (section_of (codes "history") (each name_of)) (section_lines (codes "history") name_line)
    (AreFew FitsName)
history = rule_section field_name (codes "history") refl

strict : IsRule in_line (section_of (codes "strict") (each op_of)) (section_lines (codes "strict") op_line)
    (AreFew FitsOp)
strict = rule_section field_op (codes "strict") refl

-- ---- numbers below the count of what is numbered

unnumbered : {A : Type 0} (F : A → Type 0) (i : ℕ) (xs : List A) → EachFrom (λ t x. (t ≤ most_u32) × F x) i xs
    → Each F xs
unnumbered F i [] h = tt
unnumbered F i (x ∷ xs) h = (h.0.1, unnumbered F (i + 1) xs h.1)

numbered : {A : Type 0} (F : A → Type 0) (i : ℕ) (xs : List A) → i + length xs ≤ most_u32 → Each F xs
    → EachFrom (λ t x. (t ≤ most_u32) × F x) i xs
numbered F i [] le h = tt
numbered F i (x ∷ xs) le h = ((omega arith, h.0), numbered F (i + 1) xs (omega arith) h.1)

-- ---- the lines of the entries are those of their names

entry_lines : (es : List Entry) → map name_line (map entry_name es) ≡ map entry_line es
entry_lines [] = refl
entry_lines (e ∷ es) = ap (λ us. entry_line e ∷ us) (entry_lines es)

history_lines : (es : List Entry)
    → section_lines (codes "history") name_line (map entry_name es) ≡ section_lines (codes "history") entry_line es
history_lines es =
    ap (λ n. with_blanks (codes "history" ∷ decimal n ∷ []) ∷ map name_line (map entry_name es))
    (length-map es entry_name)
    ∙ ap (λ us. with_blanks (codes "history" ∷ decimal (length es) ∷ []) ∷ us) (entry_lines es)

each_named : (es : List Entry) → Each FitsName (map entry_name es) → Each FitsEntry es
each_named [] h = tt
each_named (e ∷ es) h = (h.0, each_named es h.1)

named_each : (es : List Entry) → Each FitsEntry es → Each FitsName (map entry_name es)
named_each [] h = tt
named_each (e ∷ es) h = (h.0, named_each es h.1)

few_entries : (j : Journal) → is_short j ≡ true → length j.history ≤ most_entries
few_entries j h =
    leb-true (length j.history) most_entries
    (both (nat_le (length j.history) most_entries) (nat_le (item_count j.strands) most_items) h).0

-- ---- what takes no part

lift_takes : {A C : Type 0} (o : Option A) (k : A → Reader C) (P : C → List Text → List Text → Type 0)
    → ((a : A) → o ≡ Some a → (ws : List Text) (c : C) (rest : List Text) → k a ws ≡ Some (c, rest) → P c ws rest)
    → (ws : List Text) (c : C) (rest : List Text) → (lift o >>= k) ws ≡ Some (c, rest) → P c ws rest
lift_takes (Some a) k P h ws c rest e = h a refl ws c rest e
lift_takes None k P h ws c rest e = absurd cc

lift_again : {A C : Type 0} (o : Option A) (a : A) (k : A → Reader C) (ws : List Text) → o ≡ Some a
    → (lift o >>= k) ws ≡ k a ws
lift_again {A} o a k ws e = ap (λ (p : Option A). (lift p >>= k) ws) e

guarded_takes : {C : Type 0} (b : Bool) (x : C) (P : C → List Text → List Text → Type 0)
    → (b ≡ true → (rest : List Text) → P x rest rest)
    → (ws : List Text) (c : C) (rest : List Text) → lift (guarded b x) ws ≡ Some (c, rest) → P c ws rest
guarded_takes true x P h ws c rest e = give_takes x P (h refl) ws c rest e
guarded_takes false x P h ws c rest e = absurd cc

guarded_again : {C : Type 0} (b : Bool) (x : C) (ws : List Text) → b ≡ true → lift (guarded b x) ws ≡ Some (x, ws)
guarded_again true x ws e = refl
guarded_again false x ws e = absurd (true≢false (sym e))

-- ---- the whole

-- The lines up to the history, with what stands after them.
abbrev up_to_threads : Head → List Strand → List Text → List Text
up_to_threads h ss ws = first_lines h ++ (numbered_lines strand_lines 0 ss ++ ws)

-- The lines up to the strict order.
abbrev up_to_names : Head → List Strand → List Name → List Text → List Text
up_to_names h ss ns ws = up_to_threads h ss (section_lines (codes "history") name_line ns ++ ws)

-- The lines up to the threads' orders.
abbrev up_to_strict : Head → List Strand → List Name → List Op → List Text → List Text
up_to_strict h ss ns st ws = up_to_names h ss ns (section_lines (codes "strict") op_line st ++ ws)

-- The lines up to the end.
abbrev up_to_orders : Head → List Strand → List Name → List Op → List (List Op) → List Text → List Text
up_to_orders h ss ns st os ws = up_to_strict h ss ns st (numbered_lines order_lines 0 os ++ ws)

-- The lines before the rest, put so, and the rest, are the run's.
abbrev IsRun : (List Text → List Text) → VersionedRun → List Text → List Text → Type 0
IsRun before x ws rest = (before ws ≡ parts x ++ rest) × Is x

regrouped : (e : Text) (b c d f g rest : List Text)
    → b ++ (c ++ (d ++ (f ++ (g ++ (e ∷ [] ∷ rest)))))
    ≡ ((b ++ (c ++ (d ++ (f ++ (g ++ e ∷ []))))) ++ [] ∷ []) ++ rest
regrouped e b c d f g rest = simp append_assoc

-- The lines by the entries' names are the run's.
lines_of : (h : Head) (ss : List Strand) (es : List Entry) (st : List Op) (os : List (List Op)) (rest : List Text)
    → up_to_orders h ss (map entry_name es) st os (codes "end" ∷ [] ∷ rest)
    ≡ parts (h.version, journal_of h.limits ss es, record { strict = st; threads = os }) ++ rest
lines_of h ss es st os rest =
    ap (λ hs. up_to_threads h ss (hs ++ (section_lines (codes "strict") op_line st
    ++ (numbered_lines order_lines 0 os ++ (codes "end" ∷ [] ∷ rest))))) (history_lines es)
    ∙ regrouped (codes "end") (first_lines h) (numbered_lines strand_lines 0 ss)
    (section_lines (codes "history") entry_line es) (section_lines (codes "strict") op_line st)
    (numbered_lines order_lines 0 os) rest

-- What was read of each part, is of the whole.
is_run : (h : Head) (ss : List Strand) (es : List Entry) (st : List Op) (os : List (List Op)) → FitsHead h
    → AreMany IsThread 0 h.limits.threads ss → AreFew FitsName (map entry_name es) → AreFew FitsOp st
    → AreMany IsOrder 0 h.limits.threads os → All (IsOf ss) es → is_short (journal_of h.limits ss es) ≡ true
    → Is (h.version, journal_of h.limits ss es, record { strict = st; threads = os })
is_run h ss es st os hh hss hns hst hos agrees short = (
  hh.0,
  record {
    text = record { strands = hss.0; orders = hos.0; agrees = agrees; short = short };
    numbers = record {
      threads = hh.1.0;
      budget = hh.1.1;
      actions = hh.1.2;
      strands = unnumbered FitsStrand 0 ss hss.1;
      history = each_named es hns.1;
      strict = hst;
      orders = unnumbered FitsOrder 0 os hos.1;
    };
  },
)

run_takes : (ws : List Text) (x : VersionedRun) (rest : List Text) → run_of_lines ws ≡ Some (x, rest)
    → IsRun (λ ws. ws) x ws rest
run_takes = then_takes rule_head _ (IsRun (λ ws. ws))
    (λ h hh. then_takes (rule_strands h.limits.threads) _ (IsRun (λ ws. first_lines h ++ ws))
    (λ ss hss. then_takes history _ (IsRun (up_to_threads h ss))
    (λ ns hns. then_takes strict _ (IsRun (up_to_names h ss ns))
    (λ st hst. then_takes (rule_orders h.limits.threads) _ (IsRun (up_to_strict h ss ns st))
    (λ os hos. then_takes last _ (IsRun (up_to_orders h ss ns st os))
    (λ _ _. then_takes nothing _ (IsRun (λ ws. up_to_orders h ss ns st os (codes "end" ∷ ws)))
    (λ _ _. lift_takes (entries_of ss ns) _ (IsRun (λ ws. up_to_orders h ss ns st os (codes "end" ∷ [] ∷ ws)))
    (λ es found. guarded_takes (is_short (journal_of h.limits ss es)) _
    (IsRun (λ ws. up_to_orders h ss ns st os (codes "end" ∷ [] ∷ ws)))
    (λ short rest.
    let t = entries_takes ss ns es found in (
      ap (λ ms. up_to_orders h ss ms st os (codes "end" ∷ [] ∷ rest)) t.0 ∙ lines_of h ss es st os rest,
      is_run h ss es st os hh hss (subst (AreFew FitsName) t.0 hns) hst hos t.1 short,
    ))))))))))

-- ---- the parts of a run

abbrev head_in : VersionedRun → Head
head_in x = record {
  version = x.0;
  limits = record { threads = x.1.threads; budget = x.1.budget; actions = x.1.actions };
}

fits_head : (x : VersionedRun) → Is x → FitsHead (head_in x)
fits_head x h = (h.0, (h.1.numbers.threads, h.1.numbers.budget, h.1.numbers.actions))

are_threads : (x : VersionedRun) → Is x → AreMany IsThread 0 x.1.threads x.1.strands
are_threads x h = (
  h.1.text.strands,
  numbered FitsStrand 0 x.1.strands (omega (arith, h.1.text.strands, h.1.numbers.threads)) h.1.numbers.strands,
)

are_names : (x : VersionedRun) → Is x → AreFew FitsName (map entry_name x.1.history)
are_names x h = (
  omega (arith, few_entries x.1 h.1.text.short, length-map x.1.history entry_name),
  named_each x.1.history h.1.numbers.history,
)

are_orders : (x : VersionedRun) → Is x → AreMany IsOrder 0 x.1.threads x.2.threads
are_orders x h = (
  h.1.text.orders,
  numbered FitsOrder 0 x.2.threads (omega (arith, h.1.text.orders, h.1.numbers.threads)) h.1.numbers.orders,
)

run_again : (x : VersionedRun) (rest : List Text) → Is x → run_of_lines (parts x ++ rest) ≡ Some (x, rest)
run_again x rest h =
    let j = x.1 in
    let o = x.2 in
    ap run_of_lines (sym (lines_of (head_in x) j.strands j.history o.strict o.threads rest))
    ∙ then_again rule_head _ (head_in x) _ (fits_head x h)
    ∙ then_again (rule_strands j.threads) _ j.strands _ (are_threads x h)
    ∙ then_again history _ (map entry_name j.history) _ (are_names x h)
    ∙ then_again strict _ o.strict _ h.1.numbers.strict
    ∙ then_again (rule_orders j.threads) _ o.threads _ (are_orders x h)
    ∙ lift_again (entries_of j.strands (map entry_name j.history)) j.history _ rest
    (entries_again j.strands j.history h.1.text.agrees)
    ∙ guarded_again (is_short j) x rest h.1.text.short

history_plain : (x : VersionedRun) → Is x → EachPasses in_line (section_lines (codes "history") entry_line x.1.history)
history_plain x h =
    subst (EachPasses in_line) (history_lines x.1.history)
    (history.plain (map entry_name x.1.history) (are_names x h))

body_plain : (x : VersionedRun) → Is x → EachPasses in_line (body_lines x.1 x.2)
body_plain x h =
    let j = x.1 in
    let o = x.2 in
    EachPasses-append in_line (numbered_lines strand_lines 0 j.strands) _
    ((rule_strands j.threads).plain j.strands (are_threads x h))
    (EachPasses-append in_line (section_lines (codes "history") entry_line j.history) _ (history_plain x h)
    (EachPasses-append in_line (section_lines (codes "strict") op_line o.strict) _
    (strict.plain o.strict h.1.numbers.strict)
    (EachPasses-append in_line (numbered_lines order_lines 0 o.threads) _
    ((rule_orders j.threads).plain o.threads (are_orders x h)) (refl, tt))))

run_plain : (x : VersionedRun) → Is x → EachPasses in_line (parts x)
run_plain x h =
    EachPasses-append in_line (run_lines x.0 x.1 x.2) ([] ∷ [])
    (EachPasses-append in_line (first_lines (head_in x)) (body_lines x.1 x.2)
    (rule_head.plain (head_in x) (fits_head x h)) (body_plain x h)) (refl, tt)

rule_run : IsRule in_line run_of_lines parts Is
rule_run = record { takes = run_takes; again = run_again; plain = run_plain }

some_more : (ls : List Text) (l : Text) → 0 < length (ls ++ l ∷ [])
some_more [] l = omega arith
some_more (m ∷ ls) l = omega arith

some_parts : (x : VersionedRun) → 0 < length (parts x)
some_parts x = some_more (run_lines x.0 x.1 x.2) []

abbrev any_byte : ℕ → Bool
any_byte b = true

field_run : IsField any_byte run_of (λ x. join_with_byte 10 (parts x)) Is
field_run = field_whole 10 rule_run some_parts refl refl line_no_end (λ b h. refl)

-- Lines that end with byte 10 are lines with that byte between, and nothing after the last.
joined : (ls : List Text) → flat_map (λ l. l ++ codes "\n") ls ≡ join_with_byte 10 (ls ++ [] ∷ [])
joined [] = refl
joined (l ∷ []) = append-nil (l ++ 10 ∷ [])
joined (l ∷ m ∷ ls) =
    append_assoc l (10 ∷ []) (flat_map (λ l. l ++ codes "\n") (m ∷ ls)) ∙ ap (λ u. l ++ (10 ∷ u)) (joined (m ∷ ls))

text_is : (x : VersionedRun) → version_text x.0 x.1 x.2 ≡ join_with_byte 10 (parts x)
text_is x = joined (run_lines x.0 x.1 x.2)

-- A text of a version is the one of that version.
named : (v : ℕ) (bytes : Text) (j : Journal) (o : Orders) → IsVersion v → bytes ≡ version_text v j o
    → IsTextOf v bytes j o
named v bytes j o (inl e) is = inl (e, is ∙ ap (λ w. version_text w j o) e)
named v bytes j o (inr e) is = inr (e, is ∙ ap (λ w. version_text w j o) e)

versioned : (v : ℕ) (bytes : Text) (j : Journal) (o : Orders) → IsTextOf v bytes j o
    → IsVersion v × (bytes ≡ version_text v j o)
versioned v bytes j o (inl e) = (inl e.0, e.1 ∙ ap (λ w. version_text w j o) (sym e.0))
versioned v bytes j o (inr e) = (inr e.0, e.1 ∙ ap (λ w. version_text w j o) (sym e.0))

-- What is read has the text.
pub told : (bytes : Text) (x : VersionedRun) → run_of bytes ≡ Some x → IsRecordable x.1 x.2 × IsTextOf x.0 bytes x.1 x.2
told bytes x e =
    let t = field_run.takes bytes x e in
    (t.1.1, named x.0 bytes x.1 x.2 t.1.0 (t.0 ∙ sym (text_is x)))

-- What has a text is read from it.
pub told_again : (v : ℕ) (bytes : Text) (j : Journal) (o : Orders) → IsRecordable j o → IsTextOf v bytes j o
    → run_of bytes ≡ Some (v, j, o)
told_again v bytes j o h is =
    let t = versioned v bytes j o is in
    ap run_of (t.1 ∙ text_is (v, j, o)) ∙ field_run.again (v, j, o) (t.0, h)
