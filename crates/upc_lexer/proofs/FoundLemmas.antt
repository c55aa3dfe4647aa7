-- What the code finds at the front of some bytes is the token there.
use Rattle.std.proofs.Common.{◌≡◌, ℕ, ◌<◌, ◌≤◌, zero, suc, Bool, true, false, ◌||◌, List, [], ◌∷◌, ◌++◌, length, get_or, take, drop, append-nil, Some, refl, sym, ap, ◌∙◌, subst, inl, inr, arith}
use Rattle.std.proofs.lemmas.Bool.Decides.{nat_tests}
use Rattle.std.proofs.lemmas.List.{take-append-drop, length-take}
use Rattle.std.proofs.lemmas.List.Sums.{prefix_len-le-length}
use Rattle.std.specs.List.{list_all, prefix_len, slice_get}
use Rattle.upc_text.specs.declared.place.Code.{Code}
use Rattle.upc_text.specs.declared.place.Code.TheVariants.{Lex, Limit, Directive, Profile, Syntax, Typing}
use Rattle.upc_lexer.specs.declared.token.Punct.{Punct as AMark}
use Rattle.upc_lexer.specs.declared.token.Word.{Word as AWord}
use Rattle.upc_lexer.specs.Bytes.{is_letter, is_digit, is_name_byte, is_number_byte}
use Rattle.upc_lexer.specs.Gaps.{IsGap, NoGap}
use Rattle.upc_lexer.specs.Splices.{opens_trigraph}
use Rattle.upc_lexer.specs.Marks.{mark_bytes}
use Rattle.upc_lexer.specs.Words.{word_bytes}
use Rattle.upc_lexer.specs.Numbers.{RefusesNumber}
use Rattle.upc_lexer.specs.Strings.{IsCharacter, IsString}
use Rattle.upc_lexer.specs.Tokens.{gap, lexeme, Spells, is_name, begins_number, is_number, takes_sign, IsLongest, IsLexeme, IsPlainName, NoLexeme, Refuses, nothing, no_constant, no_type, long_name, long_string}
use Rattle.upc_text.specs.declared.place.Place.{Place}
use Rattle.upc_lexer.specs.declared.token.Token.{Token}
use Rattle.upc_lexer.specs.declared.token.TokenKind.{TokenKind}
use Rattle.upc_lexer.specs.declared.token.TokenKind.TheVariants.{Name, Word, Number, Character, Str, Punct, Pragma}
use Rattle.upc_lexer.specs.Names.{insert_name}
use Rattle.upc_lexer.specs.layer.Steps.{Steps, token_of, names_with}
use Rattle.upc_lexer.specs.code.Found.{IsGapless}
use Rattle.upc_lexer.proofs.Lists.{run_passes, run_stops}
use Rattle.upc_lexer.proofs.OneCut.{longest_once, rest_same}
use Rattle.upc_lexer.proofs.TokenHeads.{no_token, name_longest, number_longest, character_longest, string_longest, mark_longest, no_character, no_string_here, no_mark}

true_false : true ≡ false → ⊥
true_false e = cc

pub made_lexeme : (n : ℕ) (bytes : List ℕ) → IsGapless bytes → takes_sign (take n bytes) (drop n bytes) ≡ false → IsLongest (take n bytes) (drop n bytes) → IsLexeme (take n bytes) (drop n bytes)
made_lexeme n bytes g s l = record {
  no_comment = rw take-append-drop g.no_comment;
  no_trigraph = rw take-append-drop g.no_trigraph;
  no_sign = s;
  longest = l;
}

-- what begins with no digit takes no sign
no_sign_front : (n : ℕ) (bytes : List ℕ) → is_digit (get_or bytes 0 0) ≡ false → takes_sign (take n bytes) (drop n bytes) ≡ false
no_sign_front zero bytes h = refl
no_sign_front (suc n) [] h = refl
no_sign_front (suc n) (b ∷ bytes) h = rw h refl

letter_no_digit : (b : ℕ) → is_letter b ≡ true → is_digit b ≡ false
letter_no_digit b h = grind (arith, nat_tests)

or_left : (a b : Bool) → (a || b) ≡ false → a ≡ false
or_left true b h = h
or_left false b h = refl

no_digit_front : (bytes : List ℕ) → begins_number bytes ≡ false → is_digit (get_or bytes 0 0) ≡ false
no_digit_front [] h = refl
no_digit_front (b ∷ []) h = h
no_digit_front (b ∷ c ∷ bytes) h = or_left (is_digit b) _ h

character_no_sign : (text rest : List ℕ) (v : ℕ) → IsCharacter text v → takes_sign text rest ≡ false
character_no_sign text rest v (inl h) = rw h.0 refl
character_no_sign text rest v (inr h) = rw h.1 refl

string_no_sign : (text rest v : List ℕ) → IsString text v → takes_sign text rest ≡ false
string_no_sign text rest v h = rw h.quoted refl

letter_on : (b : ℕ) → is_letter b ≡ true → is_name_byte b ≡ true
letter_on b h = rw h refl

-- a run that goes on at the first byte
run_one : (p : ℕ → Bool) (b : ℕ) (bs : List ℕ) → p b ≡ true → prefix_len p (b ∷ bs) ≡ suc (prefix_len p bs)
run_one p b bs h = rw h (omega arith)

-- a name or a word is found
pub record NameFound (bytes : List ℕ) (n : ℕ) : Type 0 where
  pub within : n ≤ length bytes
  pub lexeme : IsLexeme (take n bytes) (drop n bytes)
  pub is_spelled : is_name (take n bytes) ≡ true
  pub length_is : length (take n bytes) ≡ n

pub name_found : (bytes : List ℕ) (n : ℕ) → 0 < length bytes → IsGapless bytes → is_letter (get_or bytes 0 0) ≡ true → n ≡ prefix_len is_name_byte bytes → NameFound bytes n
name_found [] n lt g l e = absurd (omega arith)
name_found (b ∷ bs) n lt g l e =
    let k : n ≡ suc (prefix_len is_name_byte bs) = e ∙ run_one is_name_byte b bs (letter_on b l) in
    let within : n ≤ length (b ∷ bs) = omega (arith, k, prefix_len-le-length is_name_byte bs) in
    let longest : IsLongest (take n (b ∷ bs)) (drop n (b ∷ bs)) = rw k (name_longest b (take (prefix_len is_name_byte bs) bs) (drop (prefix_len is_name_byte bs) bs) l (run_passes is_name_byte bs) (run_stops is_name_byte bs)) in
    record {
      within = within;
      lexeme = made_lexeme n (b ∷ bs) g (no_sign_front n (b ∷ bs) (letter_no_digit b l)) longest;
      is_spelled = rw (k, l, run_passes is_name_byte bs) refl;
      length_is = omega (arith, length-take n (b ∷ bs), within);
    }

pub plain_name : (bytes : List ℕ) (n : ℕ) → NameFound bytes n → ((w : AWord) → take n bytes ≡ word_bytes w → ⊥) → IsPlainName (take n bytes)
plain_name bytes n f none = record { is_spelled = f.is_spelled; no_word = none }

pub name_too_long : (bytes : List ℕ) (n : ℕ) → NameFound bytes n → ((w : AWord) → take n bytes ≡ word_bytes w → ⊥) → 255 < n → Refuses bytes (Limit 6)
name_too_long bytes n f none lt = long_name (take n bytes) (drop n bytes) refl (sym (take-append-drop n bytes)) f.lexeme (plain_name bytes n f none) (omega (arith, f.length_is))

number_on : (b : ℕ) (bs : List ℕ) → begins_number (b ∷ bs) ≡ true → is_number_byte b ≡ true
number_on b [] h = grind (arith, nat_tests)
number_on b (c ∷ bs) h = grind (arith, nat_tests)

second_on : (b c : ℕ) (bs : List ℕ) → begins_number (b ∷ c ∷ bs) ≡ true → is_digit b ≡ false → is_number_byte c ≡ true
second_on b c bs h d = grind (arith, nat_tests)

-- the beginning of a number is in the run
front_begins : (b : ℕ) (bs : List ℕ) (v : Bool) → is_digit b ≡ v → begins_number (b ∷ bs) ≡ true → begins_number (b ∷ take (prefix_len is_number_byte bs) bs) ≡ true
front_begins b [] v d h = h
front_begins b (c ∷ bs) true d h = digit_front b (take (prefix_len is_number_byte (c ∷ bs)) (c ∷ bs)) d
  where
    digit_front : (b : ℕ) (xs : List ℕ) → is_digit b ≡ true → begins_number (b ∷ xs) ≡ true
    digit_front b [] d = d
    digit_front b (x ∷ xs) d = rw d refl
front_begins b (c ∷ bs) false d h = rw (run_one is_number_byte c bs (second_on b c bs h d)) h

pub record NumberFound (bytes : List ℕ) (n : ℕ) : Type 0 where
  pub within : n ≤ length bytes
  pub longest : IsLongest (take n bytes) (drop n bytes)
  pub is_spelled : is_number (take n bytes) ≡ true

pub number_found : (bytes : List ℕ) (n : ℕ) → begins_number bytes ≡ true → n ≡ prefix_len is_number_byte bytes → NumberFound bytes n
number_found [] n h e = absurd cc
number_found (b ∷ bs) n h e =
    let k : n ≡ suc (prefix_len is_number_byte bs) = e ∙ run_one is_number_byte b bs (number_on b bs h) in
    let begins = front_begins b bs (is_digit b) refl h in
    let all : list_all is_number_byte (b ∷ take (prefix_len is_number_byte bs) bs) ≡ true = rw (number_on b bs h, run_passes is_number_byte bs) refl in
    record {
      within = omega (arith, k, prefix_len-le-length is_number_byte bs);
      longest = rw k (number_longest b (take (prefix_len is_number_byte bs) bs) (drop (prefix_len is_number_byte bs) bs) begins all (run_stops is_number_byte bs));
      is_spelled = rw (k, begins, all) refl;
    }

pub number_lexeme : (bytes : List ℕ) (n : ℕ) → IsGapless bytes → NumberFound bytes n → takes_sign (take n bytes) (drop n bytes) ≡ false → IsLexeme (take n bytes) (drop n bytes)
number_lexeme bytes n g f s = made_lexeme n bytes g s f.longest

pub number_refused : (bytes : List ℕ) (n : ℕ) (code : Code) → IsGapless bytes → NumberFound bytes n → takes_sign (take n bytes) (drop n bytes) ≡ false → RefusesNumber (take n bytes) code → Refuses bytes code
number_refused bytes n Lex g f s r = no_constant (take n bytes) (drop n bytes) refl (sym (take-append-drop n bytes)) (number_lexeme bytes n g f s) f.is_spelled r
number_refused bytes n (Limit m) g f s r = no_type (take n bytes) (drop n bytes) (ap Limit r.0) (sym (take-append-drop n bytes)) (number_lexeme bytes n g f s) f.is_spelled r.1
number_refused bytes n Directive g f s r = absurd r
number_refused bytes n (Profile m) g f s r = absurd r
number_refused bytes n Syntax g f s r = absurd r
number_refused bytes n (Typing m) g f s r = absurd r

pub character_found : (bytes : List ℕ) (n v : ℕ) → IsGapless bytes → IsCharacter (take n bytes) v → IsLexeme (take n bytes) (drop n bytes)
character_found bytes n v g h = made_lexeme n bytes g (character_no_sign (take n bytes) (drop n bytes) v h) (character_longest (take n bytes) (drop n bytes) v h)

pub string_found : (bytes v : List ℕ) (n : ℕ) → IsGapless bytes → IsString (take n bytes) v → IsLexeme (take n bytes) (drop n bytes)
string_found bytes v n g h = made_lexeme n bytes g (string_no_sign (take n bytes) (drop n bytes) v h) (string_longest (take n bytes) (drop n bytes) v h)

pub string_too_long : (bytes v : List ℕ) (n : ℕ) → IsGapless bytes → IsString (take n bytes) v → 4095 < length v → Refuses bytes (Limit 6)
string_too_long bytes v n g h lt = long_string (take n bytes) (drop n bytes) v refl (sym (take-append-drop n bytes)) (string_found bytes v n g h) h lt

nonempty : (bytes : List ℕ) → 0 < length bytes → bytes ≡ [] → ⊥
nonempty bytes lt e = omega (arith, ap length e)

-- nothing begins
refused : (bytes : List ℕ) → 0 < length bytes → IsGapless bytes → NoLexeme bytes → Refuses bytes Lex
refused bytes lt g none = nothing refl (nonempty bytes lt) g.no_gap none

-- a number that goes on in C99 is no token
signed_stuck : (bytes : List ℕ) (n : ℕ) → NumberFound bytes n → takes_sign (take n bytes) (drop n bytes) ≡ true → NoLexeme bytes
signed_stuck bytes n f s text rest e h =
    let whole : take n bytes ++ drop n bytes ≡ text ++ rest = take-append-drop n bytes ∙ e in
    let same : take n bytes ≡ text = longest_once (take n bytes) text (drop n bytes) rest f.longest h.longest whole in
    let after : drop n bytes ≡ rest = rest_same (take n bytes) text (drop n bytes) rest same whole in
    let both : takes_sign (take n bytes) (drop n bytes) ≡ takes_sign text rest = ap (λ t. takes_sign t (drop n bytes)) same ∙ ap (takes_sign text) after in
    true_false (sym s ∙ both ∙ h.no_sign)

some_bytes : (bytes : List ℕ) → begins_number bytes ≡ true → 0 < length bytes
some_bytes [] h = absurd cc
some_bytes (b ∷ bytes) h = omega arith

pub number_goes_on : (bytes : List ℕ) (n : ℕ) → IsGapless bytes → begins_number bytes ≡ true → NumberFound bytes n → takes_sign (take n bytes) (drop n bytes) ≡ true → Refuses bytes Lex
number_goes_on bytes n g h f s = refused bytes (some_bytes bytes h) g (signed_stuck bytes n f s)

-- a trigraph is no token
trigraph_no_lexeme : (bytes : List ℕ) → opens_trigraph bytes ≡ true → NoLexeme bytes
trigraph_no_lexeme bytes t text rest e h = true_false (sym t ∙ ap opens_trigraph e ∙ h.no_trigraph)

pub trigraph_refused : (bytes : List ℕ) → 0 < length bytes → NoGap bytes → opens_trigraph bytes ≡ true → Refuses bytes Lex
trigraph_refused bytes lt none t = nothing refl (nonempty bytes lt) none (trigraph_no_lexeme bytes t)

pub character_absent : (bytes : List ℕ) → 0 < length bytes → IsGapless bytes → get_or bytes 0 0 ≡ 39 → ((text rest : List ℕ) (v : ℕ) → bytes ≡ text ++ rest → IsCharacter text v → ⊥) → Refuses bytes Lex
character_absent [] lt g q none = absurd (omega arith)
character_absent (b ∷ bs) lt g q none = refused (b ∷ bs) lt g (no_character b bs q none)

pub string_absent : (bytes : List ℕ) → 0 < length bytes → IsGapless bytes → get_or bytes 0 0 ≡ 34 → ((text rest v : List ℕ) → bytes ≡ text ++ rest → IsString text v → ⊥) → Refuses bytes Lex
string_absent [] lt g q none = absurd (omega arith)
string_absent (b ∷ bs) lt g q none = refused (b ∷ bs) lt g (no_string_here b bs q none)

pub mark_absent : (bytes : List ℕ) → 0 < length bytes → IsGapless bytes → is_letter (get_or bytes 0 0) ≡ false → begins_number bytes ≡ false → (get_or bytes 0 0 ≡ 39 → ⊥) → (get_or bytes 0 0 ≡ 34 → ⊥) → ((q : AMark) → take (length (mark_bytes q)) bytes ≡ mark_bytes q → ⊥) → Refuses bytes Lex
mark_absent [] lt g l d q s none = absurd (omega arith)
mark_absent (b ∷ bs) lt g l d q s none = refused (b ∷ bs) lt g (no_mark b bs l d q s none)

pub mark_found : (bytes : List ℕ) (n : ℕ) (m : AMark) → IsGapless bytes → begins_number bytes ≡ false → take n bytes ≡ mark_bytes m → n ≡ length (mark_bytes m) → ((q : AMark) → take (length (mark_bytes q)) bytes ≡ mark_bytes q → length (mark_bytes q) ≤ n) → (n ≤ length bytes) × IsLexeme (take n bytes) (drop n bytes)
mark_found bytes n m g d e k longest =
    let text : length (take n bytes) ≡ n = ap length e ∙ sym k in
    let whole : begins_number (take n bytes ++ drop n bytes) ≡ false = rw take-append-drop d in (
      omega (arith, length-take n bytes, text),
      made_lexeme n bytes g (no_sign_front n bytes (no_digit_front bytes d)) (mark_longest (take n bytes) (drop n bytes) m e whole
          (λ q f. rw text (longest q (subst (λ xs. take (length (mark_bytes q)) xs ≡ mark_bytes q) (take-append-drop n bytes) f)))),
    )

some_lexeme : (n : ℕ) (bytes : List ℕ) → IsLexeme (take n bytes) (drop n bytes) → 0 < n
some_lexeme zero bytes h = absurd (no_token h.longest.spelled)
some_lexeme (suc n) bytes h = omega arith

-- a piece is taken
pub took_gap : (bytes : List ℕ) (n at : ℕ) (place : Place) (tokens : List Token) (names : List (List ℕ)) → 0 < n → n ≤ length bytes → IsGap (take n bytes) (drop n bytes) → Steps bytes n at place tokens names tokens names
took_gap bytes n at place tokens names lt le h = record { piece = gap (take n bytes); some = lt; within = le; text_is = refl; stands = h; tokens_are = sym (append-nil tokens); names_are = refl }

pub took_name : (bytes : List ℕ) (n at number : ℕ) (place : Place) (old_tokens tokens : List Token) (old_names names : List (List ℕ)) → n ≤ length bytes → IsLexeme (take n bytes) (drop n bytes) → IsPlainName (take n bytes) → n ≤ 255 → slice_get names number ≡ Some (take n bytes) → names ≡ insert_name old_names (take n bytes) → tokens ≡ old_tokens ++ token_of (Name number) at n place ∷ [] → Steps bytes n at place old_tokens old_names tokens names
took_name bytes n at number place old_tokens tokens old_names names le lex plain short found grown more =
    let text : length (take n bytes) ≡ n = omega (arith, length-take n bytes) in
    record { piece = lexeme (take n bytes) (Name number); some = some_lexeme n bytes lex; within = le; text_is = refl; stands = (lex, (plain, omega (arith, text), found)); tokens_are = rw text more; names_are = grown }

no_name : (kind : TokenKind) (text : List ℕ) (names : List (List ℕ)) → Spells [] kind text → names_with names (lexeme text kind) ≡ names
no_name (Name n) text names h = let e = h.2 in absurd cc
no_name (Word w) text names h = refl
no_name (Number v k) text names h = refl
no_name (Character v) text names h = refl
no_name (Str v) text names h = refl
no_name (Punct m) text names h = refl
no_name (Pragma b) text names h = refl

pub took_token : (bytes : List ℕ) (n at : ℕ) (kind : TokenKind) (place : Place) (old_tokens tokens : List Token) (names : List (List ℕ)) → n ≤ length bytes → IsLexeme (take n bytes) (drop n bytes) → ((names : List (List ℕ)) → Spells names kind (take n bytes)) → tokens ≡ old_tokens ++ token_of kind at n place ∷ [] → Steps bytes n at place old_tokens names tokens names
took_token bytes n at kind place old_tokens tokens names le lex spells more =
    let text : length (take n bytes) ≡ n = omega (arith, length-take n bytes) in
    record { piece = lexeme (take n bytes) kind; some = some_lexeme n bytes lex; within = le; text_is = refl; stands = (lex, spells names); tokens_are = rw text more; names_are = sym (no_name kind (take n bytes) names (spells [])) }
