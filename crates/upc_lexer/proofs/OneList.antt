-- A source has one list of tokens, and one refusal.
use Rattle.std.proofs.Common.{◌≡◌, ℕ, zero, suc, Bool, true, false, not, cond, ◌||◌, List, [], ◌∷◌, ◌++◌, filter, append-nil, Some, refl, sym, ap, ◌∙◌, subst}
use Rattle.std.specs.List.{list_any, slice_get}
use Rattle.upc_text.specs.declared.place.Code.{Code}
use Rattle.upc_text.specs.declared.place.Refusal.{Refusal}
use Rattle.upc_lexer.specs.declared.token.Token.{Token}
use Rattle.upc_lexer.specs.declared.token.TokenKind.{TokenKind}
use Rattle.upc_lexer.specs.declared.token.TokenKind.TheVariants.{Name, Word, Number, Character, Str, Punct, Pragma}
use Rattle.upc_lexer.specs.Names.{is_same, firsts}
use Rattle.upc_lexer.specs.Places.{place_after}
use Rattle.upc_lexer.specs.Tokens.{Piece, gap, lexeme, joined, names_in, tokens_in, IsToken, IsPlainName, Spells, AreTokensOf, Refuses, nothing, no_constant, no_type, long_name, long_string, RefusedAt}
use Rattle.upc_lexer.proofs.NameLemmas.{is_same-refl}
use Rattle.upc_lexer.proofs.TokenHeads.{no_token}
use Rattle.upc_lexer.proofs.Sorts.{of_name, of_number, of_character, of_string, of_mark, spelled_sort, character_once, string_once, number_once, some_list}
use Rattle.upc_lexer.proofs.OneCut.{SameCut, compare, joined_same, end_stuck, refused_stuck, code_once, two_sorts, empty_front}
use Rattle.upc_lexer.proofs.WordTable.{one_spelling}
use Rattle.upc_lexer.proofs.MarkTable.{one_spelling as one_mark}

-- ---- names

abbrev is_named : TokenKind → Bool
is_named (Name n) = true
is_named kind = false

named_plain : (names : List (List ℕ)) (kind : TokenKind) (text : List ℕ) → IsPlainName text → Spells names kind text → is_named kind ≡ true
named_plain names (Name n) text h g = refl
named_plain names (Word w) text h g = absurd (h.no_word w g)
named_plain names (Number v k) text h g = absurd (two_sorts text of_name of_number h.is_spelled (spelled_sort names (Number v k) text g) (λ e. cc))
named_plain names (Character v) text h g = absurd (two_sorts text of_name of_character h.is_spelled (spelled_sort names (Character v) text g) (λ e. cc))
named_plain names (Str v) text h g = absurd (two_sorts text of_name of_string h.is_spelled (spelled_sort names (Str v) text g) (λ e. cc))
named_plain names (Punct m) text h g = absurd (two_sorts text of_name of_mark h.is_spelled (spelled_sort names (Punct m) text g) (λ e. cc))
named_plain names (Pragma b) text h g = absurd g

named_if : (n m : List (List ℕ)) (k l : TokenKind) (text : List ℕ) → Spells n k text → Spells m l text → is_named k ≡ is_named l
named_if ns ms (Name i) l text h g = sym (named_plain ms l text h.0 g)
named_if ns ms (Word w) (Name i) text h g = named_plain ns (Word w) text g.0 h
named_if ns ms (Word w) (Word x) text h g = refl
named_if ns ms (Word w) (Number u o) text h g = refl
named_if ns ms (Word w) (Character u) text h g = refl
named_if ns ms (Word w) (Str u) text h g = refl
named_if ns ms (Word w) (Punct y) text h g = refl
named_if ns ms (Word w) (Pragma c) text h g = refl
named_if ns ms (Number v k) (Name i) text h g = named_plain ns (Number v k) text g.0 h
named_if ns ms (Number v k) (Word x) text h g = refl
named_if ns ms (Number v k) (Number u o) text h g = refl
named_if ns ms (Number v k) (Character u) text h g = refl
named_if ns ms (Number v k) (Str u) text h g = refl
named_if ns ms (Number v k) (Punct y) text h g = refl
named_if ns ms (Number v k) (Pragma c) text h g = refl
named_if ns ms (Character v) (Name i) text h g = named_plain ns (Character v) text g.0 h
named_if ns ms (Character v) (Word x) text h g = refl
named_if ns ms (Character v) (Number u o) text h g = refl
named_if ns ms (Character v) (Character u) text h g = refl
named_if ns ms (Character v) (Str u) text h g = refl
named_if ns ms (Character v) (Punct y) text h g = refl
named_if ns ms (Character v) (Pragma c) text h g = refl
named_if ns ms (Str v) (Name i) text h g = named_plain ns (Str v) text g.0 h
named_if ns ms (Str v) (Word x) text h g = refl
named_if ns ms (Str v) (Number u o) text h g = refl
named_if ns ms (Str v) (Character u) text h g = refl
named_if ns ms (Str v) (Str u) text h g = refl
named_if ns ms (Str v) (Punct y) text h g = refl
named_if ns ms (Str v) (Pragma c) text h g = refl
named_if ns ms (Punct m) (Name i) text h g = named_plain ns (Punct m) text g.0 h
named_if ns ms (Punct m) (Word x) text h g = refl
named_if ns ms (Punct m) (Number u o) text h g = refl
named_if ns ms (Punct m) (Character u) text h g = refl
named_if ns ms (Punct m) (Str u) text h g = refl
named_if ns ms (Punct m) (Punct y) text h g = refl
named_if ns ms (Punct m) (Pragma c) text h g = refl
named_if ns ms (Pragma b) (Name i) text h g = named_plain ns (Pragma b) text g.0 h
named_if ns ms (Pragma b) (Word x) text h g = refl
named_if ns ms (Pragma b) (Number u o) text h g = refl
named_if ns ms (Pragma b) (Character u) text h g = refl
named_if ns ms (Pragma b) (Str u) text h g = refl
named_if ns ms (Pragma b) (Punct y) text h g = refl
named_if ns ms (Pragma b) (Pragma c) text h g = refl

names_cons : (t : List ℕ) (k : TokenKind) (ps : List Piece) → names_in (lexeme t k ∷ ps) ≡ cond (is_named k) (t ∷ names_in ps) (names_in ps)
names_cons t (Name n) ps = refl
names_cons t (Word w) ps = refl
names_cons t (Number v k) ps = refl
names_cons t (Character v) ps = refl
names_cons t (Str v) ps = refl
names_cons t (Punct m) ps = refl
names_cons t (Pragma b) ps = refl

names_same : (n m : List (List ℕ)) (ps qs : List Piece) → SameCut n m ps qs → names_in ps ≡ names_in qs
names_same n m [] [] h = refl
names_same n m [] (q ∷ qs) h = absurd h
names_same n m (p ∷ ps) [] h = absurd h
names_same n m (gap t ∷ ps) (gap s ∷ qs) h = names_same n m ps qs h.1
names_same n m (gap t ∷ ps) (lexeme s l ∷ qs) h = absurd h
names_same n m (lexeme t k ∷ ps) (gap s ∷ qs) h = absurd h
names_same n m (lexeme t k ∷ ps) (lexeme s l ∷ qs) h =
    let rest = names_same n m ps qs h.3 in
    let named : is_named k ≡ is_named l = named_if n m k l s (subst (Spells n k) h.0 h.1) h.2 in
    names_cons t k ps ∙ ap (λ b. cond b (t ∷ names_in ps) (names_in ps)) named ∙ ap (λ x. cond (is_named l) (x ∷ names_in ps) (names_in ps)) h.0 ∙ ap (λ xs. cond (is_named l) (s ∷ xs) xs) rest ∙ sym (names_cons s l qs)

or_true : (a : Bool) → (a || true) ≡ true
or_true true = refl
or_true false = refl

true_false : true ≡ false → ⊥
true_false e = cc

-- no name comes twice
abbrev pub IsDistinct : List (List ℕ) → Type 0
IsDistinct [] = Unit {0}
IsDistinct (x ∷ xs) = (list_any (is_same x) xs ≡ false) × IsDistinct xs

or_false : (a b : Bool) → (a || b) ≡ false → (a ≡ false) × (b ≡ false)
or_false true b h = absurd cc
or_false false b h = (refl, h)

filter_less_by : (p : List ℕ → Bool) (y x : List ℕ) (xs : List (List ℕ)) (b : Bool) → is_same y x ≡ false → list_any (is_same y) (filter p xs) ≡ false → list_any (is_same y) (cond b (x ∷ filter p xs) (filter p xs)) ≡ false
filter_less_by p y x xs true e h = rw (e, h) refl
filter_less_by p y x xs false e h = h

filter_less : (p : List ℕ → Bool) (y : List ℕ) (xs : List (List ℕ)) → list_any (is_same y) xs ≡ false → list_any (is_same y) (filter p xs) ≡ false
filter_less p y [] h = refl
filter_less p y (x ∷ xs) h = let both = or_false (is_same y x) _ h in filter_less_by p y x xs (p x) both.0 (filter_less p y xs both.1)

filter_distinct_by : (p : List ℕ → Bool) (x : List ℕ) (xs : List (List ℕ)) (b : Bool) → list_any (is_same x) xs ≡ false → IsDistinct (filter p xs) → IsDistinct (cond b (x ∷ filter p xs) (filter p xs))
filter_distinct_by p x xs true e h = (filter_less p x xs e, h)
filter_distinct_by p x xs false e h = h

filter_distinct : (p : List ℕ → Bool) (xs : List (List ℕ)) → IsDistinct xs → IsDistinct (filter p xs)
filter_distinct p [] h = tt
filter_distinct p (x ∷ xs) h = filter_distinct_by p x xs (p x) h.0 (filter_distinct p xs h.1)

filter_other_by : (y x : List ℕ) (xs : List (List ℕ)) (b : Bool) → is_same y x ≡ b → list_any (is_same y) (filter (λ z. not (is_same y z)) xs) ≡ false → list_any (is_same y) (cond (not b) (x ∷ filter (λ z. not (is_same y z)) xs) (filter (λ z. not (is_same y z)) xs)) ≡ false
filter_other_by y x xs true e h = h
filter_other_by y x xs false e h = rw (e, h) refl

filter_other : (y : List ℕ) (xs : List (List ℕ)) → list_any (is_same y) (filter (λ z. not (is_same y z)) xs) ≡ false
filter_other y [] = refl
filter_other y (x ∷ xs) = filter_other_by y x xs (is_same y x) refl (filter_other y xs)

pub firsts_distinct : (xs : List (List ℕ)) → IsDistinct (firsts xs)
firsts_distinct [] = tt
firsts_distinct (x ∷ xs) = (filter_other x (firsts xs), filter_distinct (λ z. not (is_same x z)) (firsts xs) (firsts_distinct xs))

stands_in : (xs : List (List ℕ)) (n : ℕ) (t : List ℕ) → slice_get xs n ≡ Some t → list_any (is_same t) xs ≡ true
stands_in [] n t e = absurd cc
stands_in (x ∷ xs) zero t e = let same : x ≡ t = some_list e in rw (is_same-refl t x (sym same)) refl
stands_in (x ∷ xs) (suc n) t e = rw (stands_in xs n t e) (or_true (is_same t x))

one_number : (xs : List (List ℕ)) (n m : ℕ) (t : List ℕ) → IsDistinct xs → slice_get xs n ≡ Some t → slice_get xs m ≡ Some t → n ≡ m
one_number [] n m t d e f = absurd cc
one_number (x ∷ xs) zero zero t d e f = refl
one_number (x ∷ xs) zero (suc m) t d e f = let same : x ≡ t = some_list e in absurd (true_false (sym (stands_in xs m t f) ∙ subst (λ y. list_any (is_same y) xs ≡ false) same d.0))
one_number (x ∷ xs) (suc n) zero t d e f = let same : x ≡ t = some_list f in absurd (true_false (sym (stands_in xs n t e) ∙ subst (λ y. list_any (is_same y) xs ≡ false) same d.0))
one_number (x ∷ xs) (suc n) (suc m) t d e f = ap (λ n. suc n) (one_number xs n m t d.1 e f)

-- a text spells one kind
kind_once : (names : List (List ℕ)) (k l : TokenKind) (text : List ℕ) → IsDistinct names → Spells names k text → Spells names l text → k ≡ l
kind_once names (Name n) (Name i) text d h g = ap Name (one_number names n i text d h.2 g.2)
kind_once names (Name n) (Word x) text d h g = absurd (h.0.no_word x g)
kind_once names (Name n) (Number u o) text d h g = absurd (two_sorts text of_name of_number (spelled_sort names (Name n) text h) (spelled_sort names (Number u o) text g) (λ e. cc))
kind_once names (Name n) (Character u) text d h g = absurd (two_sorts text of_name of_character (spelled_sort names (Name n) text h) (spelled_sort names (Character u) text g) (λ e. cc))
kind_once names (Name n) (Str u) text d h g = absurd (two_sorts text of_name of_string (spelled_sort names (Name n) text h) (spelled_sort names (Str u) text g) (λ e. cc))
kind_once names (Name n) (Punct y) text d h g = absurd (two_sorts text of_name of_mark (spelled_sort names (Name n) text h) (spelled_sort names (Punct y) text g) (λ e. cc))
kind_once names (Name n) (Pragma c) text d h g = absurd g
kind_once names (Word w) (Name i) text d h g = absurd (g.0.no_word w h)
kind_once names (Word w) (Word x) text d h g = ap Word (one_spelling w x (sym h ∙ g))
kind_once names (Word w) (Number u o) text d h g = absurd (two_sorts text of_name of_number (spelled_sort names (Word w) text h) (spelled_sort names (Number u o) text g) (λ e. cc))
kind_once names (Word w) (Character u) text d h g = absurd (two_sorts text of_name of_character (spelled_sort names (Word w) text h) (spelled_sort names (Character u) text g) (λ e. cc))
kind_once names (Word w) (Str u) text d h g = absurd (two_sorts text of_name of_string (spelled_sort names (Word w) text h) (spelled_sort names (Str u) text g) (λ e. cc))
kind_once names (Word w) (Punct y) text d h g = absurd (two_sorts text of_name of_mark (spelled_sort names (Word w) text h) (spelled_sort names (Punct y) text g) (λ e. cc))
kind_once names (Word w) (Pragma c) text d h g = absurd g
kind_once names (Number v k) (Name i) text d h g = absurd (two_sorts text of_number of_name (spelled_sort names (Number v k) text h) (spelled_sort names (Name i) text g) (λ e. cc))
kind_once names (Number v k) (Word x) text d h g = absurd (two_sorts text of_number of_name (spelled_sort names (Number v k) text h) (spelled_sort names (Word x) text g) (λ e. cc))
kind_once names (Number v k) (Number u o) text d h g = let e = number_once text v u k o h g in ap (λ x. Number x k) e.value ∙ ap (λ x. Number u x) e.kind
kind_once names (Number v k) (Character u) text d h g = absurd (two_sorts text of_number of_character (spelled_sort names (Number v k) text h) (spelled_sort names (Character u) text g) (λ e. cc))
kind_once names (Number v k) (Str u) text d h g = absurd (two_sorts text of_number of_string (spelled_sort names (Number v k) text h) (spelled_sort names (Str u) text g) (λ e. cc))
kind_once names (Number v k) (Punct y) text d h g = absurd (two_sorts text of_number of_mark (spelled_sort names (Number v k) text h) (spelled_sort names (Punct y) text g) (λ e. cc))
kind_once names (Number v k) (Pragma c) text d h g = absurd g
kind_once names (Character v) (Name i) text d h g = absurd (two_sorts text of_character of_name (spelled_sort names (Character v) text h) (spelled_sort names (Name i) text g) (λ e. cc))
kind_once names (Character v) (Word x) text d h g = absurd (two_sorts text of_character of_name (spelled_sort names (Character v) text h) (spelled_sort names (Word x) text g) (λ e. cc))
kind_once names (Character v) (Number u o) text d h g = absurd (two_sorts text of_character of_number (spelled_sort names (Character v) text h) (spelled_sort names (Number u o) text g) (λ e. cc))
kind_once names (Character v) (Character u) text d h g = ap Character (character_once text v u h g)
kind_once names (Character v) (Str u) text d h g = absurd (two_sorts text of_character of_string (spelled_sort names (Character v) text h) (spelled_sort names (Str u) text g) (λ e. cc))
kind_once names (Character v) (Punct y) text d h g = absurd (two_sorts text of_character of_mark (spelled_sort names (Character v) text h) (spelled_sort names (Punct y) text g) (λ e. cc))
kind_once names (Character v) (Pragma c) text d h g = absurd g
kind_once names (Str v) (Name i) text d h g = absurd (two_sorts text of_string of_name (spelled_sort names (Str v) text h) (spelled_sort names (Name i) text g) (λ e. cc))
kind_once names (Str v) (Word x) text d h g = absurd (two_sorts text of_string of_name (spelled_sort names (Str v) text h) (spelled_sort names (Word x) text g) (λ e. cc))
kind_once names (Str v) (Number u o) text d h g = absurd (two_sorts text of_string of_number (spelled_sort names (Str v) text h) (spelled_sort names (Number u o) text g) (λ e. cc))
kind_once names (Str v) (Character u) text d h g = absurd (two_sorts text of_string of_character (spelled_sort names (Str v) text h) (spelled_sort names (Character u) text g) (λ e. cc))
kind_once names (Str v) (Str u) text d h g = ap Str (string_once text v u h.0 g.0)
kind_once names (Str v) (Punct y) text d h g = absurd (two_sorts text of_string of_mark (spelled_sort names (Str v) text h) (spelled_sort names (Punct y) text g) (λ e. cc))
kind_once names (Str v) (Pragma c) text d h g = absurd g
kind_once names (Punct m) (Name i) text d h g = absurd (two_sorts text of_mark of_name (spelled_sort names (Punct m) text h) (spelled_sort names (Name i) text g) (λ e. cc))
kind_once names (Punct m) (Word x) text d h g = absurd (two_sorts text of_mark of_name (spelled_sort names (Punct m) text h) (spelled_sort names (Word x) text g) (λ e. cc))
kind_once names (Punct m) (Number u o) text d h g = absurd (two_sorts text of_mark of_number (spelled_sort names (Punct m) text h) (spelled_sort names (Number u o) text g) (λ e. cc))
kind_once names (Punct m) (Character u) text d h g = absurd (two_sorts text of_mark of_character (spelled_sort names (Punct m) text h) (spelled_sort names (Character u) text g) (λ e. cc))
kind_once names (Punct m) (Str u) text d h g = absurd (two_sorts text of_mark of_string (spelled_sort names (Punct m) text h) (spelled_sort names (Str u) text g) (λ e. cc))
kind_once names (Punct m) (Punct y) text d h g = ap Punct (one_mark m y (sym h ∙ g))
kind_once names (Punct m) (Pragma c) text d h g = absurd g
kind_once names (Pragma b) (Name i) text d h g = absurd h
kind_once names (Pragma b) (Word x) text d h g = absurd h
kind_once names (Pragma b) (Number u o) text d h g = absurd h
kind_once names (Pragma b) (Character u) text d h g = absurd h
kind_once names (Pragma b) (Str u) text d h g = absurd h
kind_once names (Pragma b) (Punct y) text d h g = absurd h
kind_once names (Pragma b) (Pragma c) text d h g = absurd h

pieces_same : (names : List (List ℕ)) (ps qs : List Piece) → IsDistinct names → SameCut names names ps qs → ps ≡ qs
pieces_same names [] [] d h = refl
pieces_same names [] (q ∷ qs) d h = absurd h
pieces_same names (p ∷ ps) [] d h = absurd h
pieces_same names (gap t ∷ ps) (gap s ∷ qs) d h = ap (λ x. gap x ∷ ps) h.0 ∙ ap (λ x. gap s ∷ x) (pieces_same names ps qs d h.1)
pieces_same names (gap t ∷ ps) (lexeme s l ∷ qs) d h = absurd h
pieces_same names (lexeme t k ∷ ps) (gap s ∷ qs) d h = absurd h
pieces_same names (lexeme t k ∷ ps) (lexeme s l ∷ qs) d h =
    let kind : k ≡ l = kind_once names k l s d (subst (Spells names k) h.0 h.1) h.2 in
    ap (λ x. lexeme x k ∷ ps) h.0 ∙ ap (λ x. lexeme s x ∷ ps) kind ∙ ap (λ x. lexeme s l ∷ x) (pieces_same names ps qs d h.3)

-- a source has one list of tokens
pub tokens_once : (source : List ℕ) (ts us : List Token) (n m : List (List ℕ)) → AreTokensOf source ts n → AreTokensOf source us m → (ts ≡ us) × (n ≡ m)
tokens_once source ts us n m h g =
    let whole : joined h.pieces ++ [] ≡ joined g.pieces ++ [] = append-nil (joined h.pieces) ∙ h.source_is ∙ sym g.source_is ∙ sym (append-nil (joined g.pieces)) in
    let same = (compare n m h.pieces g.pieces [] [] end_stuck end_stuck h.cut g.cut whole).0 in
    let names : n ≡ m = h.names_are ∙ ap firsts (names_same n m h.pieces g.pieces same) ∙ sym g.names_are in
    let distinct : IsDistinct m = subst IsDistinct (sym g.names_are) (firsts_distinct (names_in g.pieces)) in
    let pieces : h.pieces ≡ g.pieces = pieces_same m h.pieces g.pieces distinct (subst (λ x. SameCut x m h.pieces g.pieces) names same) in
    (h.tokens_are ∙ ap (tokens_in []) pieces ∙ sym g.tokens_are, names)

-- one refusal
pub refusal_once : (source : List ℕ) (r q : Refusal) → RefusedAt source r → RefusedAt source q → r ≡ q
refusal_once source r q h g =
    let c = compare h.names g.names h.pieces g.pieces h.rest g.rest (refused_stuck h.rest r.code h.refused) (refused_stuck g.rest q.code g.refused) h.cut g.cut (h.source_is ∙ sym g.source_is) in
    let code : r.code ≡ q.code = code_once g.rest r.code q.code (subst (λ b. Refuses b r.code) c.1 h.refused) g.refused in
    let place : r.place ≡ q.place = h.place_is ∙ ap place_after (joined_same h.names g.names h.pieces g.pieces c.0) ∙ sym g.place_is in
    ap (λ x. record { place = x; code = r.code }) place ∙ ap (λ x. record { place = q.place; code = x }) code

not_nothing : (code : Code) → Refuses [] code → ⊥
not_nothing code (nothing c n g l) = n refl
not_nothing code (no_constant text rest c e h n f) = no_token (subst IsToken (empty_front text rest e) h.longest.spelled)
not_nothing code (no_type text rest c e h n f) = no_token (subst IsToken (empty_front text rest e) h.longest.spelled)
not_nothing code (long_name text rest c e h n f) = no_token (subst IsToken (empty_front text rest e) h.longest.spelled)
not_nothing code (long_string text rest value c e h n f) = no_token (subst IsToken (empty_front text rest e) h.longest.spelled)

-- and never both
pub tokens_or_refusal : (source : List ℕ) (ts : List Token) (n : List (List ℕ)) (r : Refusal) → AreTokensOf source ts n → RefusedAt source r → ⊥
tokens_or_refusal source ts n r h g =
    let c = compare n g.names h.pieces g.pieces [] g.rest end_stuck (refused_stuck g.rest r.code g.refused) h.cut g.cut (append-nil (joined h.pieces) ∙ h.source_is ∙ sym g.source_is) in
    not_nothing r.code (subst (λ b. Refuses b r.code) (sym c.1) g.refused)
