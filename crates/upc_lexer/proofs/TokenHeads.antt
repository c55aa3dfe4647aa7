-- The first bytes of a token decide its sort, and what the longest is.
use Rattle.std.proofs.Common.{◌≡◌, ℕ, ◌<◌, ◌≤◌, Bool, true, false, None, List, [], ◌∷◌, ◌++◌, length, take, append-nil, append_assoc, refl, sym, ap, ◌∙◌, subst, inl, inr, arith, length-append}
use Rattle.std.proofs.lemmas.Bool.Decides.{nat_tests}
use Rattle.std.proofs.Math.Seq.{take-append_seam}
use Rattle.std.specs.List.{list_all}
use Rattle.upc_lexer.specs.declared.token.Punct.{Punct}
use Rattle.upc_lexer.specs.Bytes.{is_letter, is_name_byte, is_number_byte}
use Rattle.upc_lexer.specs.Gaps.{StopsAt}
use Rattle.upc_lexer.specs.Marks.{mark_bytes}
use Rattle.upc_lexer.specs.Strings.{is_plain_character, string_value, IsCharacter, IsString}
use Rattle.upc_lexer.specs.Tokens.{is_name, begins_number, is_number, IsToken, name, number, character, string, mark, IsLongest, NoLexeme}
use Rattle.upc_lexer.proofs.Lists.{fronts, head_is, and_left, and_right}
use Rattle.upc_lexer.proofs.StringLemmas.{value_append, quote_no_value, none_of_map}
use Rattle.upc_lexer.proofs.MarkHeads.{is_mark_head, is_mark_like, like}

number_more : (text more : List ℕ) → begins_number text ≡ true → begins_number (text ++ more) ≡ true
number_more [] more h = absurd cc
number_more (a ∷ []) [] h = h
number_more (a ∷ []) (b ∷ more) h = rw h refl
number_more (a ∷ b ∷ text) more h = h

-- what the sort of a token says of its first byte
pub data Head (text : List ℕ) (b : ℕ) (bs : List ℕ) : Type 0 where
  a_name : is_letter b ≡ true → is_name text ≡ true → Head text b bs
  a_number : begins_number (b ∷ bs) ≡ true → is_number text ≡ true → Head text b bs
  a_character : (v : ℕ) → b ≡ 39 → IsCharacter text v → Head text b bs
  a_string : (v : List ℕ) → b ≡ 34 → IsString text v → Head text b bs
  a_mark : (m : Punct) → is_mark_head b ≡ true → text ≡ mark_bytes m → Head text b bs

pub no_token : IsToken [] → ⊥
no_token (name h) = cc
no_token (number h) = cc
no_token (character v h) = elim h [ inl p ↦ let e = p.0 in cc | inr p ↦ let e = p.1 in cc ]
no_token (string v h) = let e = h.quoted in cc
no_token (mark m e) = let f : is_mark_like [] ≡ true = subst (λ t. is_mark_like t ≡ true) (sym e) (like m) in cc

pub character_head : (a : ℕ) (text : List ℕ) (v : ℕ) → IsCharacter (a ∷ text) v → a ≡ 39
character_head a text v h = elim h [ inl p ↦ let e = p.0 in cc | inr p ↦ let e = p.1 in cc ]

-- the head of a token at the front of some bytes
pub head : (text rest : List ℕ) (b : ℕ) (bs : List ℕ) → b ∷ bs ≡ text ++ rest → IsToken text → Head text b bs
head [] rest b bs e h = absurd (no_token h)
head (a ∷ text) rest b bs e (name h) = let same : b ≡ a = (head_is e).0 in a_name (subst (λ x. is_letter x ≡ true) (sym same) (and_left (is_letter a) _ h)) h
head (a ∷ text) rest b bs e (number h) = a_number (subst (λ xs. begins_number xs ≡ true) (sym e) (number_more (a ∷ text) rest (and_left (begins_number (a ∷ text)) _ h))) h
head (a ∷ text) rest b bs e (character v h) = let same : b ≡ a = (head_is e).0 in a_character v (same ∙ character_head a text v h) h
head (a ∷ text) rest b bs e (string v h) = a_string v ((head_is e).0 ∙ (head_is h.quoted).0) h
head (a ∷ text) rest b bs e (mark m h) =
    let same : b ≡ a = (head_is e).0 in
    let l : is_mark_like (a ∷ text) ≡ true = subst (λ t. is_mark_like t ≡ true) (sym h) (like m) in
    a_mark m (subst (λ x. is_mark_head x ≡ true) (sym same) (and_left (is_mark_head a) _ l)) h

pub letter_no_number : (b : ℕ) (bs : List ℕ) → is_letter b ≡ true → begins_number (b ∷ bs) ≡ true → ⊥
letter_no_number b [] h g = grind (arith, nat_tests)
letter_no_number b (c ∷ bs) h g = grind (arith, nat_tests)

pub letter_no_39 : (b : ℕ) → is_letter b ≡ true → b ≡ 39 → ⊥
letter_no_39 b h e = grind (arith, nat_tests)

pub letter_no_34 : (b : ℕ) → is_letter b ≡ true → b ≡ 34 → ⊥
letter_no_34 b h e = grind (arith, nat_tests)

pub letter_no_mark : (b : ℕ) → is_letter b ≡ true → is_mark_head b ≡ true → ⊥
letter_no_mark b h e = grind (arith, nat_tests)

pub number_no_39 : (b : ℕ) (bs : List ℕ) → begins_number (b ∷ bs) ≡ true → b ≡ 39 → ⊥
number_no_39 b [] h e = grind (arith, nat_tests)
number_no_39 b (c ∷ bs) h e = grind (arith, nat_tests)

pub number_no_34 : (b : ℕ) (bs : List ℕ) → begins_number (b ∷ bs) ≡ true → b ≡ 34 → ⊥
number_no_34 b [] h e = grind (arith, nat_tests)
number_no_34 b (c ∷ bs) h e = grind (arith, nat_tests)

pub mark_no_39 : (b : ℕ) → is_mark_head b ≡ true → b ≡ 39 → ⊥
mark_no_39 b h e = grind (arith, nat_tests)

pub mark_no_34 : (b : ℕ) → is_mark_head b ≡ true → b ≡ 34 → ⊥
mark_no_34 b h e = grind (arith, nat_tests)

pub mark_no_number : (m : Punct) (text : List ℕ) → begins_number text ≡ true → text ≡ mark_bytes m → ⊥
mark_no_number m [] h e = cc
mark_no_number m (b ∷ bs) h e =
    let l : is_mark_like (b ∷ bs) ≡ true = subst (λ t. is_mark_like t ≡ true) (sym e) (like m) in
    let n = and_right (is_mark_head b) _ l in
    let f = rw h at n in cc

all_at : (p : ℕ → Bool) (xs : List ℕ) (m : ℕ) (ms : List ℕ) → list_all p (xs ++ m ∷ ms) ≡ true → p m ≡ true
all_at p [] m ms h = and_left (p m) _ h
all_at p (x ∷ xs) m ms h = all_at p xs m ms (and_right (p x) _ h)

true_false : true ≡ false → ⊥
true_false e = cc

pub name_longest : (b : ℕ) (bs rest : List ℕ) → is_letter b ≡ true → list_all is_name_byte bs ≡ true → StopsAt is_name_byte rest → IsLongest (b ∷ bs) rest
name_longest b bs rest l all st = record { spelled = name (rw (l, all) refl); most = most }
  where
    most : (more after : List ℕ) → rest ≡ more ++ after → 0 < length more → IsToken (b ∷ bs ++ more) → ⊥
    most [] after e lt h = omega arith
    most (m ∷ more) after e lt h =
        let stop : is_name_byte m ≡ false = subst (StopsAt is_name_byte) e st in
        elim (head (b ∷ bs ++ m ∷ more) [] b (bs ++ m ∷ more) (sym (append-nil (b ∷ bs ++ m ∷ more))) h) [
          | a_name x n ↦ true_false (sym (all_at is_name_byte bs m more (and_right (is_letter b) _ n)) ∙ stop)
          | a_number x n ↦ letter_no_number b (bs ++ m ∷ more) l x
          | a_character v x n ↦ letter_no_39 b l x
          | a_string v x n ↦ letter_no_34 b l x
          | a_mark q x n ↦ letter_no_mark b l x
        ]

pub number_longest : (b : ℕ) (bs rest : List ℕ) → begins_number (b ∷ bs) ≡ true → list_all is_number_byte (b ∷ bs) ≡ true → StopsAt is_number_byte rest → IsLongest (b ∷ bs) rest
number_longest b bs rest l all st = record { spelled = number (rw (l, all) refl); most = most }
  where
    most : (more after : List ℕ) → rest ≡ more ++ after → 0 < length more → IsToken (b ∷ bs ++ more) → ⊥
    most [] after e lt h = omega arith
    most (m ∷ more) after e lt h =
        let stop : is_number_byte m ≡ false = subst (StopsAt is_number_byte) e st in
        let longer : begins_number (b ∷ (bs ++ m ∷ more)) ≡ true = number_more (b ∷ bs) (m ∷ more) l in
        elim (head (b ∷ bs ++ m ∷ more) [] b (bs ++ m ∷ more) (sym (append-nil (b ∷ bs ++ m ∷ more))) h) [
          | a_name x n ↦ letter_no_number b (bs ++ m ∷ more) x longer
          | a_number x n ↦ true_false (sym (all_at is_number_byte (b ∷ bs) m more (and_right (begins_number (b ∷ (bs ++ m ∷ more))) _ n)) ∙ stop)
          | a_character v x n ↦ number_no_39 b (bs ++ m ∷ more) longer x
          | a_string v x n ↦ number_no_34 b (bs ++ m ∷ more) longer x
          | a_mark q x n ↦ mark_no_number q (b ∷ (bs ++ m ∷ more)) longer n
        ]

pub plain_no_92 : (v : ℕ) → is_plain_character v ≡ true → v ≡ 92 → ⊥
plain_no_92 v h e = grind (arith, nat_tests)

character_text : (text rest : List ℕ) (v w : ℕ) → IsCharacter text v → IsCharacter (text ++ rest) w → 0 < length rest → ⊥
character_text text rest v w h g lt = elim h [
  | inl p ↦ elim g [
    | inl q ↦ omega (arith, ap length p.0, ap length q.0, length-append text rest)
    | inr q ↦
        let two : 39 ∷ v ∷ 39 ∷ rest ≡ 39 ∷ 92 ∷ q.0 ∷ 39 ∷ [] = ap (λ t. t ++ rest) (sym p.0) ∙ q.1 in
        plain_no_92 v p.1 (head_is (head_is two).1).0
  ]
  | inr p ↦ elim g [
    | inl q ↦ omega (arith, ap length p.1, ap length q.0, length-append text rest)
    | inr q ↦ omega (arith, ap length p.1, ap length q.1, length-append text rest)
  ]
]

pub character_longest : (text rest : List ℕ) (v : ℕ) → IsCharacter text v → IsLongest text rest
character_longest [] rest v h = absurd (no_token (character v h))
character_longest (b ∷ bs) rest v h = record {
  spelled = character v h;
  most = λ more after e lt t.
      let quote : b ≡ 39 = character_head b bs v h in
      elim (head (b ∷ bs ++ more) [] b (bs ++ more) (sym (append-nil (b ∷ bs ++ more))) t) [
        | a_name x n ↦ letter_no_39 b x quote
        | a_number x n ↦ number_no_39 b (bs ++ more) x quote
        | a_character w x n ↦ character_text (b ∷ bs) more v w h n lt
        | a_string w x n ↦ omega (arith, quote, x)
        | a_mark q x n ↦ mark_no_39 b x quote
      ];
}

string_text : (text more v w : List ℕ) → IsString text v → IsString (text ++ more) w → 0 < length more → ⊥
string_text text more v w h g lt =
    let whole : 34 ∷ ((h.inside ++ 34 ∷ []) ++ more) ≡ 34 ∷ (g.inside ++ 34 ∷ []) = ap (λ t. t ++ more) (sym h.quoted) ∙ g.quoted in
    let same : h.inside ++ 34 ∷ more ≡ g.inside ++ 34 ∷ [] = sym (append_assoc h.inside (34 ∷ []) more) ∙ (head_is whole).1 in
    elim (fronts h.inside (34 ∷ more) g.inside (34 ∷ []) same) [
      | inl l ↦ inside_more l.more l.front l.back
      | inr l ↦ omega (arith, ap length l.back, length-append l.more (34 ∷ more))
    ]
  where
    inside_more : (x : List ℕ) → g.inside ≡ h.inside ++ x → 34 ∷ more ≡ x ++ 34 ∷ [] → ⊥
    inside_more [] e f = omega (arith, ap length f)
    inside_more (q ∷ x) e f =
        let quote : 34 ≡ q = (head_is f).0 in
        let none : string_value (q ∷ x) ≡ None = subst (λ q. string_value (q ∷ x) ≡ None) quote (quote_no_value x) in
        none_of_map v (string_value (q ∷ x)) w none (sym (value_append h.inside (q ∷ x) v h.spelled) ∙ ap string_value (sym e) ∙ g.spelled)

pub string_longest : (text rest v : List ℕ) → IsString text v → IsLongest text rest
string_longest [] rest v h = absurd (no_token (string v h))
string_longest (b ∷ bs) rest v h = record {
  spelled = string v h;
  most = λ more after e lt t.
      let quote : b ≡ 34 = (head_is h.quoted).0 in
      elim (head (b ∷ bs ++ more) [] b (bs ++ more) (sym (append-nil (b ∷ bs ++ more))) t) [
        | a_name x n ↦ letter_no_34 b x quote
        | a_number x n ↦ number_no_34 b (bs ++ more) x quote
        | a_character w x n ↦ omega (arith, quote, x)
        | a_string w x n ↦ string_text (b ∷ bs) more v w h n lt
        | a_mark m x n ↦ mark_no_34 b x quote
      ];
}

pub mark_start : (m : Punct) (b : ℕ) (bs : List ℕ) → b ∷ bs ≡ mark_bytes m → is_mark_head b ≡ true
mark_start m b bs e = and_left (is_mark_head b) _ (subst (λ t. is_mark_like t ≡ true) (sym e) (like m))

front_taken : (text rest : List ℕ) (m : Punct) → text ≡ mark_bytes m → take (length (mark_bytes m)) (text ++ rest) ≡ mark_bytes m
front_taken text rest m e = rw (← e) (take-append_seam text rest)

pub mark_longest : (text rest : List ℕ) (m : Punct) → text ≡ mark_bytes m → begins_number (text ++ rest) ≡ false → ((q : Punct) → take (length (mark_bytes q)) (text ++ rest) ≡ mark_bytes q → length (mark_bytes q) ≤ length text) → IsLongest text rest
mark_longest [] rest m e digit longest = absurd (no_token (mark m e))
mark_longest (b ∷ bs) rest m e digit longest = record {
  spelled = mark m e;
  most = λ more after f lt t.
      let start = mark_start m b bs e in
      let whole : b ∷ (bs ++ rest) ≡ (b ∷ bs ++ more) ++ after = ap (λ r. b ∷ bs ++ r) f ∙ sym (append_assoc (b ∷ bs) more after) in
      elim (head (b ∷ bs ++ more) after b (bs ++ rest) whole t) [
        | a_name x n ↦ letter_no_mark b x start
        | a_number x n ↦ true_false (sym x ∙ digit)
        | a_character w x n ↦ mark_no_39 b start x
        | a_string w x n ↦ mark_no_34 b start x
        | a_mark q x n ↦
            let taken : take (length (mark_bytes q)) (b ∷ (bs ++ rest)) ≡ mark_bytes q = rw whole (front_taken (b ∷ bs ++ more) after q n) in
            omega (arith, longest q taken, ap length n, length-append (b ∷ bs) more)
      ];
}

-- where no token begins
pub no_character : (b : ℕ) (bs : List ℕ) → b ≡ 39 → ((text rest : List ℕ) (v : ℕ) → b ∷ bs ≡ text ++ rest → IsCharacter text v → ⊥) → NoLexeme (b ∷ bs)
no_character b bs quote none text rest e h = elim (head text rest b bs e h.longest.spelled) [
  | a_name x n ↦ letter_no_39 b x quote
  | a_number x n ↦ number_no_39 b bs x quote
  | a_character v x n ↦ none text rest v e n
  | a_string v x n ↦ omega (arith, quote, x)
  | a_mark m x n ↦ mark_no_39 b x quote
]

pub no_string_here : (b : ℕ) (bs : List ℕ) → b ≡ 34 → ((text rest v : List ℕ) → b ∷ bs ≡ text ++ rest → IsString text v → ⊥) → NoLexeme (b ∷ bs)
no_string_here b bs quote none text rest e h = elim (head text rest b bs e h.longest.spelled) [
  | a_name x n ↦ letter_no_34 b x quote
  | a_number x n ↦ number_no_34 b bs x quote
  | a_character v x n ↦ omega (arith, quote, x)
  | a_string v x n ↦ none text rest v e n
  | a_mark m x n ↦ mark_no_34 b x quote
]

pub no_mark : (b : ℕ) (bs : List ℕ) → is_letter b ≡ false → begins_number (b ∷ bs) ≡ false → (b ≡ 39 → ⊥) → (b ≡ 34 → ⊥) → ((q : Punct) → take (length (mark_bytes q)) (b ∷ bs) ≡ mark_bytes q → ⊥) → NoLexeme (b ∷ bs)
no_mark b bs letter digit quote quotes none text rest e h = elim (head text rest b bs e h.longest.spelled) [
  | a_name x n ↦ true_false (sym x ∙ letter)
  | a_number x n ↦ true_false (sym x ∙ digit)
  | a_character v x n ↦ quote x
  | a_string v x n ↦ quotes x
  | a_mark m x n ↦ none m (rw e (front_taken text rest m n))
]
