-- What a reader reads is what is written, and what is written is read: the laws of each way to put readers together.
use Rattle.std.proofs.Common.{◌≡◌, ◌∙◌, ◌<◌, ◌+◌, ◌==◌, ℕ, zero, suc, Bool, true, false, cond, List, [], ◌∷◌, ◌++◌}
use Rattle.std.proofs.Common.{length, map, Option, Some, None, refl, sym, ap, subst, arith, true≢false, eqb-true}
use Rattle.std.proofs.Common.{eq-eqb, append_assoc}
use Rattle.std.specs.List.{join_with_byte, slice_split}
use Rattle.std.specs.Str.{bytes_eq}
use Rattle.std.proofs.lemmas.List.{append-nil, nil_from_length}
use Rattle.std.proofs.lemmas.List.Splits.{join_with_byte-slice_split}
use Rattle.std.proofs.lemmas.Slice.Eq.{bytes_eq-Decides}
use Rattle.upc_values.specs.Lists.{Each}
use Rattle.run_recorder_text.specs.Words.{Text}
use Rattle.run_recorder_text.specs.Lines.{numbered_lines}
use Rattle.run_recorder_parts.specs.layer.Readers.{bind, Reader, give, ◌>>=◌, field, many, each, choose}
use Rattle.run_recorder_parts.specs.layer.Readers.{tagged, constant}
use Rattle.run_recorder_parts.specs.layer.Readers.{expect, check, ended, whole, strip}
use Rattle.run_recorder_parts.proofs.Bytes.{Passes, Passes-append, EachPasses, EachPasses-weaker, EachPasses-append}
use Rattle.run_recorder_parts.proofs.Bytes.{join_passes, split_join}

abbrev pub some : {A : Type 0} → A → Option A
some a = Some a

pub some_is : {A : Type 0} (a b : A) → some a ≡ some b → a ≡ b
some_is a b e = cc

-- The value of a step that did not fail.
pub bind_some : {A B : Type 0} (o : Option A) (f : A → Option B) (y : B) → (bind o f) ≡ Some y → (x : A)
    × (o ≡ Some x) × (f x ≡ Some y)
bind_some (Some x) f y e = (x, refl, e)
bind_some None f y e = absurd cc

-- A test that was passed.
pub guard_some : {A : Type 0} (b : Bool) (x y : A) → cond b (some x) None ≡ Some y → (b ≡ true) × (x ≡ y)
guard_some true x y e = (refl, cc)
guard_some false x y e = absurd cc

-- ---- one part

-- A part reads as a value exactly where it is the value's text; each of its bytes passes q.
pub record IsField {A : Type 0} (q : ℕ → Bool) (of : Text → Option A) (text : A → Text) (F : A → Type 0) : Type 0
  where
    pub takes : (t : Text) (a : A) → of t ≡ Some a → (t ≡ text a) × F a
    pub again : (a : A) → F a → of (text a) ≡ Some a
    pub plain : (a : A) → F a → Passes q (text a)

-- The same of some parts and what follows them.
pub record IsRule {A : Type 0} (q : ℕ → Bool) (r : Reader A) (words : A → List Text) (F : A → Type 0) : Type 0 where
  pub takes : (ws : List Text) (a : A) (rest : List Text) → r ws ≡ Some (a, rest) → (ws ≡ words a ++ rest) × F a
  pub again : (a : A) (rest : List Text) → F a → r (words a ++ rest) ≡ Some (a, rest)
  pub plain : (a : A) → F a → EachPasses q (words a)

field_takes : {A : Type 0} (q : ℕ → Bool) (of : Text → Option A) (text : A → Text) (F : A → Type 0)
    → IsField q of text F
    → (ws : List Text) (a : A) (rest : List Text) → field of ws ≡ Some (a, rest) → (ws ≡ text a ∷ rest) × F a
field_takes q of text F f [] a rest e = absurd cc
field_takes q of text F f (w ∷ ws) a rest e =
    let b = bind_some (of w) (λ x. Some (x, ws)) (a, rest) e in
    let same = some_is (b.0, ws) (a, rest) b.2 in
    let t = f.takes w b.0 b.1 in
    let first : b.0 ≡ a = ap (λ p. p.0) same in
    let others : ws ≡ rest = ap (λ p. p.1) same in
    (ap (λ u. u ∷ ws) (t.0 ∙ ap text first) ∙ ap (λ us. text a ∷ us) others, subst F first t.1)

pub rule_field : {A : Type 0} (q : ℕ → Bool) (of : Text → Option A) (text : A → Text) (F : A → Type 0)
    → IsField q of text F → IsRule q (field of) (λ a. text a ∷ []) F
rule_field q of text F f = record {
  takes = field_takes q of text F f;
  again = λ a rest h. ap (λ o. bind o (λ x. Some (x, rest))) (f.again a h);
  plain = λ a h. (f.plain a h, tt);
}

-- ---- parts one after the other: P says what is wanted of what was read, the parts before and the parts after

pub then_takes : {A C : Type 0} {q : ℕ → Bool} {r : Reader A} {p : A → List Text} {F : A → Type 0} → IsRule q r p F
    → (k : A → Reader C) (P : C → List Text → List Text → Type 0)
    → ((a : A) → F a → (ws : List Text) (c : C) (rest : List Text) → k a ws ≡ Some (c, rest) → P c (p a ++ ws) rest)
    → (ws : List Text) (c : C) (rest : List Text) → (r >>= k) ws ≡ Some (c, rest) → P c ws rest
then_takes {A} {C} {q} {r} {p} {F} f k P h ws c rest e =
    let b = bind_some (r ws) (λ x. k x.0 x.1) (c, rest) e in
    let t = f.takes ws b.0.0 b.0.1 b.1 in
    subst (λ u. P c u rest) (sym t.0) (h b.0.0 t.1 b.0.1 c rest b.2)

pub give_takes : {C : Type 0} (c : C) (P : C → List Text → List Text → Type 0) → ((rest : List Text) → P c rest rest)
    → (ws : List Text) (d : C) (rest : List Text) → give c ws ≡ Some (d, rest) → P d ws rest
give_takes {C} c P h ws d rest e =
    let same = some_is (c, ws) (d, rest) e in
    subst (λ (x : C × List Text). P x.0 ws x.1) same (h ws)

pub then_again : {A C : Type 0} {q : ℕ → Bool} {r : Reader A} {p : A → List Text} {F : A → Type 0} → IsRule q r p F
    → (k : A → Reader C) (a : A) (rest : List Text) → F a → (r >>= k) (p a ++ rest) ≡ k a rest
then_again f k a rest h = ap (λ o. bind o (λ x. k x.0 x.1)) (f.again a rest h)

-- ---- by the first part

abbrev pub Handles : {A : Type 0} → (A → List Text → List Text → Type 0) → List (Text × Reader A) → Type 0
Handles {A} P = Each (λ alt. (ws : List Text) (a : A) (rest : List Text) → alt.1 ws ≡ Some (a, rest)
    → P a (alt.0 ∷ ws) rest)

choose_takes : {A : Type 0} (P : A → List Text → List Text → Type 0) (alts : List (Text × Reader A)) → Handles P alts
    → (tag : Text) (ws : List Text) (a : A) (rest : List Text) → choose alts tag ws ≡ Some (a, rest)
    → P a (tag ∷ ws) rest
choose_takes P [] h tag ws a rest e = absurd cc
choose_takes {A} P (alt ∷ alts) h tag ws a rest e =
    go (bytes_eq tag alt.0) refl e (choose_takes P alts h.1 tag ws a rest)
  where
    go : (b : Bool) → bytes_eq tag alt.0 ≡ b → cond b (alt.1 ws) (choose alts tag ws) ≡ Some (a, rest)
        → (choose alts tag ws ≡ Some (a, rest) → P a (tag ∷ ws) rest) → P a (tag ∷ ws) rest
    go true is e later = subst (λ t. P a (t ∷ ws) rest) (sym ((bytes_eq-Decides tag alt.0).0 is)) (h.0 ws a rest e)
    go false is e later = later e

pub tagged_takes : {A : Type 0} (P : A → List Text → List Text → Type 0) (alts : List (Text × Reader A))
    → Handles P alts
    → (ws : List Text) (a : A) (rest : List Text) → tagged alts ws ≡ Some (a, rest) → P a ws rest
tagged_takes P alts h [] a rest e = absurd cc
tagged_takes P alts h (w ∷ ws) a rest e = choose_takes P alts h w ws a rest e

-- ---- many of them, numbered

-- What is written of each, from number i on.
abbrev pub words_from : {A : Type 0} → (ℕ → A → List Text) → ℕ → List A → List Text
words_from p i xs = numbered_lines p i xs

abbrev pub EachFrom : {A : Type 0} → (ℕ → A → Type 0) → ℕ → List A → Type 0
EachFrom F i [] = Unit {0}
EachFrom F i (x ∷ xs) = F i x × EachFrom F (i + 1) xs

abbrev pub AreMany : {A : Type 0} → (ℕ → A → Type 0) → ℕ → ℕ → List A → Type 0
AreMany F i n xs = (length xs ≡ n) × EachFrom F i xs

abbrev Rules : {A : Type 0} → (ℕ → Bool) → (ℕ → Reader A) → (ℕ → A → List Text) → (ℕ → A → Type 0) → Type 0
Rules q r p F = (i : ℕ) → IsRule q (r i) (p i) (F i)

many_takes : {A : Type 0} {q : ℕ → Bool} {r : ℕ → Reader A} {p : ℕ → A → List Text} {F : ℕ → A → Type 0}
    → Rules q r p F → (i n : ℕ) (ws : List Text) (xs : List A) (rest : List Text)
    → many i n r ws ≡ Some (xs, rest) → (ws ≡ words_from p i xs ++ rest) × AreMany F i n xs
many_takes {A} {q} {r} {p} {F} f i zero ws xs rest e =
    subst (λ (x : List A × List Text). (ws ≡ words_from p i x.0 ++ x.1) × AreMany F i 0 x.0)
    (some_is ([], ws) (xs, rest) e) (refl, (refl, tt))
many_takes {A} {q} {r} {p} {F} f i (suc n) ws xs rest e =
    let b = bind_some (r i ws) (λ x. bind (many (i + 1) n r x.1) (λ y. Some (x.0 ∷ y.0, y.1))) (xs, rest) e in
    let d = bind_some (many (i + 1) n r b.0.1) (λ y. Some (b.0.0 ∷ y.0, y.1)) (xs, rest) b.2 in
    let t = (f i).takes ws b.0.0 b.0.1 b.1 in
    let u = many_takes f (i + 1) n b.0.1 d.0.0 d.0.1 d.1 in
    subst (λ (x : List A × List Text). (ws ≡ words_from p i x.0 ++ x.1) × AreMany F i (suc n) x.0)
    (some_is (b.0.0 ∷ d.0.0, d.0.1) (xs, rest) d.2) (
      t.0 ∙ ap (λ us. p i b.0.0 ++ us) u.0
          ∙ sym (append_assoc (p i b.0.0) (words_from p (i + 1) d.0.0) d.0.1),
      (ap suc u.1.0, (t.1, u.1.1)),
    )

many_again : {A : Type 0} {q : ℕ → Bool} {r : ℕ → Reader A} {p : ℕ → A → List Text} {F : ℕ → A → Type 0}
    → Rules q r p F → (i n : ℕ) (xs : List A) (rest : List Text)
    → AreMany F i n xs → many i n r (words_from p i xs ++ rest) ≡ Some (xs, rest)
many_again f i zero [] rest h = refl
many_again f i zero (x ∷ xs) rest h = absurd (omega (arith, h.0))
many_again f i (suc n) [] rest h = absurd (omega (arith, h.0))
many_again {A} {q} {r} {p} {F} f i (suc n) (x ∷ xs) rest h =
    ap (many i (suc n) r) (append_assoc (p i x) (words_from p (i + 1) xs) rest)
    ∙ ap (λ (o : Option (A × List Text)). bind o (λ x. bind (many (i + 1) n r x.1) (λ y. Some (x.0 ∷ y.0, y.1))))
    ((f i).again x (words_from p (i + 1) xs ++ rest) h.1.0)
    ∙ ap (λ (o : Option (List A × List Text)). bind o (λ y. Some (x ∷ y.0, y.1)))
    (many_again f (i + 1) n xs rest (omega (arith, h.0), h.1.1))

many_plain : {A : Type 0} {q : ℕ → Bool} {r : ℕ → Reader A} {p : ℕ → A → List Text} {F : ℕ → A → Type 0}
    → Rules q r p F → (i : ℕ) (xs : List A) → EachFrom F i xs → EachPasses q (words_from p i xs)
many_plain f i [] h = tt
many_plain {A} {q} {r} {p} {F} f i (x ∷ xs) h =
    EachPasses-append q (p i x) (words_from p (i + 1) xs) ((f i).plain x h.0) (many_plain f (i + 1) xs h.1)

pub rule_many : {A : Type 0} {q : ℕ → Bool} {r : ℕ → Reader A} {p : ℕ → A → List Text} {F : ℕ → A → Type 0}
    → Rules q r p F → (i n : ℕ) → IsRule q (many i n r) (words_from p i) (AreMany F i n)
rule_many f i n = record { takes = many_takes f i n; again = many_again f i n; plain = λ xs h. many_plain f i xs h.1 }

-- The same where each is one part.
words_map : {A : Type 0} (text : A → Text) (i : ℕ) (xs : List A) → words_from (λ _ x. text x ∷ []) i xs ≡ map text xs
words_map text i [] = refl
words_map text i (x ∷ xs) = ap (λ us. text x ∷ us) (words_map text (i + 1) xs)

each_all : {A : Type 0} (F : A → Type 0) (i : ℕ) (xs : List A) → EachFrom (λ _. F) i xs → Each F xs
each_all F i [] h = tt
each_all F i (x ∷ xs) h = (h.0, each_all F (i + 1) xs h.1)

all_each : {A : Type 0} (F : A → Type 0) (i : ℕ) (xs : List A) → Each F xs → EachFrom (λ _. F) i xs
all_each F i [] h = tt
all_each F i (x ∷ xs) h = (h.0, all_each F (i + 1) xs h.1)

abbrev pub AreAll : {A : Type 0} → (A → Type 0) → ℕ → List A → Type 0
AreAll F n xs = (length xs ≡ n) × Each F xs

pub rule_each : {A : Type 0} {q : ℕ → Bool} {of : Text → Option A} {text : A → Text} {F : A → Type 0}
    → IsField q of text F → (n : ℕ) → IsRule q (many 0 n (each of)) (map text) (AreAll F n)
rule_each {A} {q} {of} {text} {F} f n =
    let m = rule_many {A = A} {q = q} {r = each of} {p = λ _ x. text x ∷ []} {F =
    λ _. F} (λ i. rule_field q of text F f) 0 n in
    record {
      takes = λ ws xs rest e. let t = m.takes ws xs rest e in
          (t.0 ∙ ap (λ us. us ++ rest) (words_map text 0 xs), (t.1.0, each_all F 0 xs t.1.1));
      again = λ xs rest h. ap (λ us. many 0 n (each of) (us ++ rest)) (sym (words_map text 0 xs))
          ∙ m.again xs rest (h.0, all_each F 0 xs h.1);
      plain = λ xs h. subst (EachPasses q) (words_map text 0 xs) (m.plain xs (h.0, all_each F 0 xs h.1));
    }

-- ---- a part that is made of parts

whole_is : {A : Type 0} (x : A × List Text) (a : A) → ended x ≡ Some a → x ≡ (a, [])
whole_is x a e =
    let g = guard_some (length x.1 == 0) x.0 a e in
    let nothing : x.1 ≡ [] = nil_from_length x.1 (eqb-true _ _ g.0) in
    λ i. (g.1 i, nothing i)

pub field_whole : {A : Type 0} {q u : ℕ → Bool} {r : Reader A} {words : A → List Text} {F : A → Type 0} (mark : ℕ)
    → IsRule u r words F
    → ((a : A) → 0 < length (words a)) → (mark == mark) ≡ true → q mark ≡ true
    → ((b : ℕ) → u b ≡ true → (b == mark) ≡ false) → ((b : ℕ) → u b ≡ true → q b ≡ true)
    → IsField q (whole mark r) (λ a. join_with_byte mark (words a)) F
field_whole {A} {q} {u} {r} {words} {F} mark f some same lets free weaker = record {
  takes = λ t a e.
      let b = bind_some (r (slice_split (λ c. c == mark) t)) ended a e in
      let x = f.takes (slice_split (λ c. c == mark) t) a [] (b.1 ∙ ap some_of (whole_is b.0 a b.2)) in
      (sym (join_with_byte-slice_split mark t) ∙ ap (join_with_byte mark) (x.0 ∙ append-nil (words a)), x.1);
  again = λ a h.
      ap (λ ws. bind (r ws) ended) (split_join mark u free same (words a) (some a) (f.plain a h)
      ∙ sym (append-nil (words a)))
      ∙ ap (λ o. bind o ended) (f.again a [] h);
  plain = λ a h. join_passes q mark lets (words a) (EachPasses-weaker u q weaker (words a) (f.plain a h));
}
  where
    some_of : A × List Text → Option (A × List Text)
    some_of x = Some x

-- ---- what a part begins with

strip_takes : (pre t u : Text) → strip pre t ≡ Some u → t ≡ pre ++ u
strip_takes [] t u e = some_is t u e
strip_takes (x ∷ xs) [] u e = absurd cc
strip_takes (x ∷ xs) (y ∷ ys) u e = go (y == x) refl e (strip_takes xs ys u)
  where
    go : (b : Bool) → (y == x) ≡ b → cond b (strip xs ys) None ≡ Some u → (strip xs ys ≡ Some u → ys ≡ xs ++ u) → y
        ∷ ys ≡ x ∷ (xs ++ u)
    go true is e later = let head : y ≡ x = eqb-true y x is in let tail = later e in cc
    go false is e later = absurd cc

strip_again : (pre u : Text) → strip pre (pre ++ u) ≡ Some u
strip_again [] u = refl
strip_again (x ∷ xs) u = ap (λ b. cond b (strip xs (xs ++ u)) None) (eq-eqb x x refl) ∙ strip_again xs u

pub field_prefixed : {A : Type 0} {q : ℕ → Bool} {of : Text → Option A} {text : A → Text} {F : A → Type 0}
    (pre : Text) → Passes q pre → IsField q of text F
    → IsField q (λ t. bind (strip pre t) of) (λ a. pre ++ text a) F
field_prefixed {A} {q} {of} {text} {F} pre lets f = record {
  takes = λ t a e.
      let b = bind_some (strip pre t) of a e in
      let x = f.takes b.0 a b.2 in
      (strip_takes pre t b.0 b.1 ∙ ap (λ u. pre ++ u) x.0, x.1);
  again = λ a h. ap (λ o. bind o of) (strip_again pre (text a)) ∙ f.again a h;
  plain = λ a h. Passes-append q pre (text a) lets (f.plain a h);
}

-- A part that is this text.
pub constant_takes : {A : Type 0} (text : Text) (a : A) (t : Text) (b : A) → constant text a t ≡ Some b → (t ≡ text)
    × (a ≡ b)
constant_takes text a t b e = let g = guard_some (bytes_eq t text) a b e in ((bytes_eq-Decides t text).0 g.0, g.1)

pub field_constant : {A : Type 0} (q : ℕ → Bool) (text : Text) (a : A) → Passes q text → ((b : A) → a ≡ b)
    → IsField q (constant text a) (λ _. text) (λ _. Unit {0})
field_constant q text a lets only = record {
  takes = λ t b e. ((constant_takes text a t b e).0, tt);
  again = λ b h. ap (λ (c : Bool). cond c (some a) None) ((bytes_eq-Decides text text).1 refl) ∙ ap some (only b);
  plain = λ b h. lets;
}

-- A part that is this text.
pub rule_expect : (q : ℕ → Bool) (text : Text) → Passes q text
    → IsRule q (expect text) (λ _. text ∷ []) (λ _. Unit {0})
rule_expect q text lets =
    rule_field q (constant text tt) (λ _. text) (λ _. Unit {0}) (field_constant q text tt lets (λ b. refl))

-- A test between parts.
pub check_takes : {C : Type 0} (b : Bool) (k : Reader C) (P : C → List Text → List Text → Type 0)
    → (b ≡ true → (ws : List Text) (c : C) (rest : List Text) → k ws ≡ Some (c, rest) → P c ws rest)
    → (ws : List Text) (c : C) (rest : List Text) → (check b >>= λ _. k) ws ≡ Some (c, rest) → P c ws rest
check_takes true k P h ws c rest e = h refl ws c rest e
check_takes false k P h ws c rest e = absurd cc

pub check_again : {C : Type 0} (b : Bool) (k : Reader C) (ws : List Text) → b ≡ true → (check b >>= λ _. k) ws ≡ k ws
check_again true k ws e = refl
check_again false k ws e = absurd (true≢false (sym e))
