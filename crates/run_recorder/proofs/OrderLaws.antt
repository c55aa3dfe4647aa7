-- The lines of names and operations, sections and orders, each with its laws.
use Rattle.std.proofs.Common.{◌≡◌, ◌∙◌, ◌≤◌, ◌==◌, ℕ, Bool, true, false, List, [], ◌∷◌, ◌++◌, length, map, Option}
use Rattle.std.proofs.Common.{Some, refl, sym, ap, arith, decimal, codes, eqb-true, eq-eqb}
use Rattle.upc_values.specs.Lists.{Each}
use Rattle.upc_values.specs.declared.order.Op.{Op}
use Rattle.run_recorder_parts.specs.declared.names.Name.{Name}
use Rattle.run_recorder_text.specs.Words.{Text, with_blanks, with_dots}
use Rattle.run_recorder_text.specs.Lines.{access_text, op_line, section_lines, order_lines, numbered_lines}
use Rattle.run_recorder_parts.specs.Bounds.{most_u32, most_u64}
use Rattle.run_recorder.specs.Ranges.{FitsOp, FitsOrder}
use Rattle.run_recorder_parts.specs.layer.Readers.{field, many, each, expect, whole, begins}
use Rattle.run_recorder_parts.specs.layer.Lines.{name_parts_of, name_of, access_of, op_parts_of, op_of, count_words_of}
use Rattle.run_recorder_parts.specs.layer.Lines.{section_of, order_words_of, order_of}
use Rattle.run_recorder_parts.proofs.Bytes.{in_line, in_word, in_part, Passes, EachPasses, part_word, word_line}
use Rattle.run_recorder_parts.proofs.Bytes.{part_no_dot}
use Rattle.run_recorder.proofs.Forms.{IsField, IsRule, rule_field, then_takes, give_takes, then_again, AreMany}
use Rattle.run_recorder.proofs.Forms.{rule_many, AreAll, rule_each, field_whole, rule_expect, check_takes}
use Rattle.run_recorder.proofs.Forms.{check_again}
use Rattle.run_recorder.proofs.WordLaws.{if_takes, constant_case, Always}
use Rattle.run_recorder.proofs.PartLaws.{part32, small}
use Rattle.run_recorder.proofs.ActionLaws.{n32, n64}
use Rattle.run_recorder.proofs.ItemLaws.{a_line}

-- ---- names

abbrev pub FitsName : Name → Type 0
FitsName n = (n.thread ≤ most_u32) × (n.index ≤ most_u32)

abbrev name_parts : Name → List Text
name_parts n = decimal n.thread ∷ decimal n.index ∷ []

abbrev pub name_line : Name → Text
name_line n = with_dots (name_parts n)

abbrev IsName : List Text → Name → List Text → List Text → Type 0
IsName before n ws rest = (before ++ ws ≡ name_parts n ++ rest) × FitsName n

name_rule : IsRule in_part name_parts_of name_parts FitsName
name_rule = record {
  takes = then_takes part32 _ (IsName [])
      (λ t ht. then_takes part32 _ (IsName (decimal t ∷ []))
      (λ i hi. give_takes _ _ (λ rest. (refl, (ht, hi)))));
  again = λ n rest h. then_again part32 _ n.thread _ h.0 ∙ then_again part32 _ n.index rest h.1;
  plain = λ n h. (small h.0, (small h.1, tt));
}

part_line : (b : ℕ) → in_part b ≡ true → in_line b ≡ true
part_line b h = word_line b (part_word b h)

pub field_name : IsField in_line name_of name_line FitsName
field_name = field_whole 46 name_rule (λ n. omega arith) refl refl part_no_dot part_line

-- ---- operations

abbrev access_case : Bool → Text → Type 0
access_case b t = (t ≡ access_text b) × Unit {0}

access_takes : (t : Text) (b : Bool) → access_of t ≡ Some b → (t ≡ access_text b) × Always b
access_takes t b e =
    if_takes (begins 119 t) _ _ b e (constant_case (codes "w") true access_case (refl, tt) t b)
    (constant_case (codes "r") false access_case (refl, tt) t b)

access_again : (b : Bool) → Always b → access_of (access_text b) ≡ Some b
access_again false h = refl
access_again true h = refl

access_plain : (b : Bool) → Always b → Passes in_part (access_text b)
access_plain false h = refl
access_plain true h = refl

access : IsRule in_part (field access_of) (λ b. access_text b ∷ []) Always
access = rule_field in_part access_of access_text Always
    (record { takes = access_takes; again = access_again; plain = access_plain })

abbrev op_parts : Op → List Text
op_parts o = decimal o.thread ∷ decimal o.index ∷ access_text o.write ∷ []

abbrev IsOp : List Text → Op → List Text → List Text → Type 0
IsOp before o ws rest = (before ++ ws ≡ op_parts o ++ rest) × FitsOp o

op_rule : IsRule in_part op_parts_of op_parts FitsOp
op_rule = record {
  takes = then_takes part32 _ (IsOp [])
      (λ t ht. then_takes part32 _ (IsOp (decimal t ∷ []))
      (λ i hi. then_takes access _ (IsOp (decimal t ∷ decimal i ∷ []))
      (λ w hw. give_takes _ _ (λ rest. (refl, (ht, hi))))));
  again = λ o rest h.
      then_again part32 _ o.thread _ h.0 ∙ then_again part32 _ o.index _ h.1 ∙ then_again access _ o.write rest tt;
  plain = λ o h. (small h.0, (small h.1, (access_plain o.write tt, tt)));
}

pub field_op : IsField in_line op_of op_line FitsOp
field_op = field_whole 46 op_rule (λ o. omega arith) refl refl part_no_dot part_line

ops : (n : ℕ) → IsRule in_line (many 0 n (each op_of)) (map op_line) (AreAll FitsOp n)
ops n = rule_each field_op n

-- ---- sections

word : (name : Text) → Passes in_word name → IsRule in_word (expect name) (λ _. name ∷ []) (λ _. Unit {0})
word name lets = rule_expect in_word name lets

abbrev IsCount : Text → List Text → ℕ → List Text → List Text → Type 0
IsCount name before n ws rest = (before ++ ws ≡ name ∷ decimal n ∷ rest) × (n ≤ most_u64)

count_rule : (name : Text) → Passes in_word name
    → IsRule in_word (count_words_of name) (λ n. name ∷ decimal n ∷ []) (λ n. n ≤ most_u64)
count_rule name lets = record {
  takes = then_takes (word name lets) _ (IsCount name [])
      (λ _ _. then_takes n64 _ (IsCount name (name ∷ []))
      (λ n hn. give_takes _ _ (λ rest. (refl, hn))));
  again = λ n rest h. then_again (word name lets) _ tt (decimal n ∷ rest) tt ∙ then_again n64 _ n rest h;
  plain = λ n h. (lets, n64.plain n h);
}

abbrev count_line : Text → ℕ → Text
count_line name n = with_blanks (name ∷ decimal n ∷ [])

heading : (name : Text) → Passes in_word name
    → IsRule in_line (field (whole 32 (count_words_of name))) (λ n. count_line name n ∷ []) (λ n. n ≤ most_u64)
heading name lets = rule_field in_line (whole 32 (count_words_of name)) (count_line name) (λ n. n ≤ most_u64)
    (a_line (count_rule name lets) (λ n. omega arith))

-- So many of them that a u64 counts them.
abbrev pub AreFew : {A : Type 0} → (A → Type 0) → List A → Type 0
AreFew F xs = (length xs ≤ most_u64) × Each F xs

few_takes : {A : Type 0} {of : Text → Option A} {line : A → Text} {F : A → Type 0} → IsField in_line of line F
    → (name : Text) → Passes in_word name → (ws : List Text) (xs : List A) (rest : List Text)
    → section_of name (each of) ws ≡ Some (xs, rest) → (ws ≡ section_lines name line xs ++ rest) × AreFew F xs
few_takes {A} {of} {line} {F} f name lets = then_takes (heading name lets) _
    (λ xs ws rest. (ws ≡ section_lines name line xs ++ rest) × AreFew F xs)
    (λ n hn ws xs rest e.
    let t = (rule_each f n).takes ws xs rest e in (
      ap (λ us. count_line name n ∷ us) t.0
          ∙ ap (λ k. count_line name k ∷ map line xs ++ rest) (sym t.1.0),
      (omega (arith, hn, t.1.0), t.1.1),
    ))

pub rule_section : {A : Type 0} {of : Text → Option A} {line : A → Text} {F : A → Type 0} → IsField in_line of line F
    → (name : Text) → Passes in_word name
    → IsRule in_line (section_of name (each of)) (section_lines name line) (AreFew F)
rule_section {A} {of} {line} {F} f name lets = record {
  takes = few_takes f name lets;
  again = λ xs rest h.
      then_again (heading name lets) _ (length xs) _ h.0 ∙ (rule_each f (length xs)).again xs rest (refl, h.1);
  plain = λ xs h.
      (((heading name lets).plain (length xs) h.0).0, (rule_each f (length xs)).plain xs (refl, h.1));
}

-- ---- orders

abbrev FitsCount : ℕ × ℕ → Type 0
FitsCount h = (h.0 ≤ most_u32) × (h.1 ≤ most_u64)

abbrev order_words : ℕ × ℕ → List Text
order_words h = codes "order" ∷ decimal h.0 ∷ decimal h.1 ∷ []

abbrev order_line : ℕ × ℕ → Text
order_line h = with_blanks (order_words h)

abbrev IsHeading : List Text → ℕ × ℕ → List Text → List Text → Type 0
IsHeading before h ws rest = (before ++ ws ≡ order_words h ++ rest) × FitsCount h

order_heading_rule : IsRule in_word order_words_of order_words FitsCount
order_heading_rule = record {
  takes = then_takes (word (codes "order") refl) _ (IsHeading [])
      (λ _ _. then_takes n32 _ (IsHeading (codes "order" ∷ []))
      (λ t ht. then_takes n64 _ (IsHeading (codes "order" ∷ decimal t ∷ []))
      (λ n hn. give_takes _ _ (λ rest. (refl, (ht, hn))))));
  again = λ h rest f. then_again n32 _ h.0 _ f.0 ∙ then_again n64 _ h.1 rest f.1;
  plain = λ h f. (refl, ((n32.plain h.0 f.0).0, n64.plain h.1 f.1));
}

order_heading : IsRule in_line (field (whole 32 order_words_of)) (λ h. order_line h ∷ []) FitsCount
order_heading = rule_field in_line (whole 32 order_words_of) order_line FitsCount
    (a_line order_heading_rule (λ h. omega arith))

abbrev pub IsOrder : ℕ → List Op → Type 0
IsOrder t xs = (t ≤ most_u32) × FitsOrder xs

abbrev IsOrderAt : ℕ → List Op → List Text → List Text → Type 0
IsOrderAt t xs ws rest = (ws ≡ order_lines t xs ++ rest) × IsOrder t xs

order_takes : (t : ℕ) (ws : List Text) (xs : List Op) (rest : List Text) → order_of t ws ≡ Some (xs, rest)
    → IsOrderAt t xs ws rest
order_takes t = then_takes order_heading _ (IsOrderAt t)
    (λ h hh. check_takes (h.0 == t) _ (λ xs ws rest. IsOrderAt t xs (order_line h ∷ ws) rest)
    (λ same ws xs rest e.
    let u = (ops h.1).takes ws xs rest e in
    let number : h.0 ≡ t = eqb-true h.0 t same in (
      ap (λ us. order_line h ∷ us) u.0
          ∙ ap (λ line. line ∷ map op_line xs ++ rest) (ap (λ k. order_line (k, h.1)) number
          ∙ ap (λ k. order_line (t, k)) (sym u.1.0)),
      (omega (arith, hh.0), (omega (arith, hh.1, u.1.0), u.1.1)),
    )))

order_again : (t : ℕ) (xs : List Op) (rest : List Text) → IsOrder t xs
    → order_of t (order_lines t xs ++ rest) ≡ Some (xs, rest)
order_again t xs rest f =
    then_again order_heading _ (t, length xs) _ (f.0, f.1.0)
    ∙ check_again (t == t) _ _ (eq-eqb t t refl) ∙ (ops (length xs)).again xs rest (refl, f.1.1)

order_plain : (t : ℕ) (xs : List Op) → IsOrder t xs → EachPasses in_line (order_lines t xs)
order_plain t xs f =
    ((order_heading.plain (t, length xs) (f.0, f.1.0)).0, (ops (length xs)).plain xs (refl, f.1.1))

pub rule_orders : (n : ℕ) → IsRule in_line (many 0 n order_of) (numbered_lines order_lines 0) (AreMany IsOrder 0 n)
rule_orders n =
    rule_many {p = order_lines}
    (λ t. record { takes = order_takes t; again = order_again t; plain = order_plain t }) 0 n
