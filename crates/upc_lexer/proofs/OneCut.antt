-- A source is cut in one way.
use Rattle.std.proofs.Common.{◌≡◌, ℕ, ◌<◌, true, false, List, [], ◌∷◌, ◌++◌, length, append-nil, append_assoc, refl, sym, ap, ◌∙◌, subst, inl, inr, arith}
use Rattle.std.proofs.lemmas.Bool.Decides.{nat_tests}
use Rattle.upc_text.specs.declared.place.Code.{Code}
use Rattle.upc_text.specs.declared.place.Code.TheVariants.{Lex, Limit}
use Rattle.upc_lexer.specs.declared.token.TokenKind.{TokenKind}
use Rattle.upc_lexer.specs.declared.token.TokenKind.TheVariants.{Name, Word, Number, Character, Str, Punct, Pragma}
use Rattle.upc_lexer.specs.Bytes.{is_blank, is_letter, is_in_line}
use Rattle.upc_lexer.specs.Gaps.{IsGap, blank, line, block, opens_comment}
use Rattle.upc_lexer.specs.Numbers.{HasNoType, IsNoConstant}
use Rattle.upc_lexer.specs.Strings.{IsString}
use Rattle.upc_lexer.specs.Tokens.{Piece, gap, lexeme, text_of, joined, begins_number, is_number, IsToken, IsLongest, IsLexeme, IsPlainName, Spells, IsPiece, Cuts, NoLexeme, Refuses, nothing, no_constant, no_type, long_name, long_string}
use Rattle.upc_lexer.proofs.Lists.{head_is, and_left, fronts}
use Rattle.upc_lexer.proofs.GapLemmas.{run_same, body_same, blank_no_slash, block_rest}
use Rattle.upc_lexer.proofs.MarkHeads.{is_mark_head}
use Rattle.upc_lexer.proofs.TokenHeads.{a_name, a_number, a_character, a_string, a_mark, head, no_token}
use Rattle.upc_lexer.proofs.Sorts.{Sort, IsSort, of_name, of_number, of_character, of_string, of_mark, sort_once, spelled_sort, string_once, typed_or_not}

-- ---- gaps

gap_once : (t s r q : List ℕ) → IsGap t r → IsGap s q → t ++ r ≡ s ++ q → t ≡ s
gap_once t s r q (blank b x h) (blank c y g) e =
    let f : b ∷ r ≡ c ∷ q = ap (λ u. u ++ r) (sym x) ∙ e ∙ ap (λ u. u ++ q) y in
    x ∙ ap (λ b. b ∷ []) (head_is f).0 ∙ sym y
gap_once t s r q (blank b x h) (line y f g k m) e = absurd (blank_no_slash b h (head_is (ap (λ u. u ++ r) (sym x) ∙ e ∙ ap (λ u. u ++ q) f)).0)
gap_once t s r q (blank b x h) (block y f g m) e = absurd (blank_no_slash b h (head_is (ap (λ u. u ++ r) (sym x) ∙ e ∙ ap (λ u. u ++ q) f)).0)
gap_once t s r q (line x f g k m) (blank b y h) e = absurd (blank_no_slash b h (sym (head_is (ap (λ u. u ++ r) (sym f) ∙ e ∙ ap (λ u. u ++ q) y)).0))
gap_once t s r q (block x f g m) (blank b y h) e = absurd (blank_no_slash b h (sym (head_is (ap (λ u. u ++ r) (sym f) ∙ e ∙ ap (λ u. u ++ q) y)).0))
gap_once t s r q (line x f g k m) (line y h i j n) e =
    let two = (head_is (head_is (ap (λ u. u ++ r) (sym f) ∙ e ∙ ap (λ u. u ++ q) h)).1).1 in
    f ∙ ap (λ u. 47 ∷ 47 ∷ u) (run_same is_in_line x r y q g k i j two) ∙ sym h
gap_once t s r q (line x f g k m) (block y h i n) e = absurd (omega (arith, (head_is (head_is (ap (λ u. u ++ r) (sym f) ∙ e ∙ ap (λ u. u ++ q) h)).1).0))
gap_once t s r q (block x f g m) (line y h i j n) e = absurd (omega (arith, (head_is (head_is (ap (λ u. u ++ r) (sym f) ∙ e ∙ ap (λ u. u ++ q) h)).1).0))
gap_once t s r q (block x f g m) (block y h i n) e =
    let whole : 47 ∷ 42 ∷ (x ++ 42 ∷ 47 ∷ r) ≡ 47 ∷ 42 ∷ (y ++ 42 ∷ 47 ∷ q) = sym (block_rest x r) ∙ ap (λ u. u ++ r) (sym f) ∙ e ∙ ap (λ u. u ++ q) h ∙ block_rest y q in
    f ∙ ap (λ u. 47 ∷ 42 ∷ u ++ 42 ∷ 47 ∷ []) (body_same x y r q g i (head_is (head_is whole).1).1) ∙ sym h

-- ---- no token begins where a gap does

letter_no_blank : (b : ℕ) → is_blank b ≡ true → is_letter b ≡ true → ⊥
letter_no_blank b h g = grind (arith, nat_tests)

number_no_blank : (b : ℕ) (bs : List ℕ) → is_blank b ≡ true → begins_number (b ∷ bs) ≡ true → ⊥
number_no_blank b [] h g = grind (arith, nat_tests)
number_no_blank b (c ∷ bs) h g = grind (arith, nat_tests)

blank_no_39 : (b : ℕ) → is_blank b ≡ true → b ≡ 39 → ⊥
blank_no_39 b h e = grind (arith, nat_tests)

blank_no_34 : (b : ℕ) → is_blank b ≡ true → b ≡ 34 → ⊥
blank_no_34 b h e = grind (arith, nat_tests)

blank_no_mark : (b : ℕ) → is_blank b ≡ true → is_mark_head b ≡ true → ⊥
blank_no_mark b h e = grind (arith, nat_tests)

true_false : true ≡ false → ⊥
true_false e = cc

pub gap_no_lexeme : (t s r q : List ℕ) → IsGap t r → IsLexeme s q → t ++ r ≡ s ++ q → ⊥
gap_no_lexeme t s r q (blank b x h) g e =
    elim (head s q b r (ap (λ u. u ++ r) (sym x) ∙ e) g.longest.spelled) [
      | a_name y n ↦ letter_no_blank b h y
      | a_number y n ↦ number_no_blank b r h y
      | a_character v y n ↦ blank_no_39 b h y
      | a_string v y n ↦ blank_no_34 b h y
      | a_mark m y n ↦ blank_no_mark b h y
    ]
gap_no_lexeme t s r q (line x f h k m) g e = true_false (ap opens_comment (ap (λ u. u ++ r) (sym f) ∙ e) ∙ g.no_comment)
gap_no_lexeme t s r q (block x f h m) g e = true_false (ap opens_comment (ap (λ u. u ++ r) (sym f) ∙ e) ∙ g.no_comment)

longer : (s t r q more : List ℕ) → IsLongest s r → IsLongest t q → t ≡ s ++ more → r ≡ more ++ q → s ≡ t
longer s t r q [] h g front back = sym (front ∙ append-nil s)
longer s t r q (m ∷ more) h g front back = absurd (h.most (m ∷ more) q back (omega arith) (subst IsToken front g.spelled))

pub longest_once : (s t r q : List ℕ) → IsLongest s r → IsLongest t q → s ++ r ≡ t ++ q → s ≡ t
longest_once s t r q h g e = elim (fronts s r t q e) [
  | inl l ↦ longer s t r q l.more h g l.front l.back
  | inr l ↦ sym (longer t s q r l.more g h l.front l.back)
]

pub lexeme_once : (s t r q : List ℕ) → IsLexeme s r → IsLexeme t q → s ++ r ≡ t ++ q → s ≡ t
lexeme_once s t r q h g e = longest_once s t r q h.longest g.longest e

pub rest_same : (s t r q : List ℕ) → s ≡ t → s ++ r ≡ t ++ q → r ≡ q
rest_same [] [] r q h e = e
rest_same [] (y ∷ t) r q h e = absurd (omega (arith, ap length h))
rest_same (x ∷ s) [] r q h e = absurd (omega (arith, ap length h))
rest_same (x ∷ s) (y ∷ t) r q h e = rest_same s t r q (head_is h).1 (head_is e).1

-- ---- where nothing goes on

-- no piece is at the front of the bytes
abbrev pub Stuck : List ℕ → Type 0
Stuck bytes = (names : List (List ℕ)) (p : Piece) (rest : List ℕ) → bytes ≡ text_of p ++ rest → IsPiece names p rest → ⊥

no_gap_text : (t r : List ℕ) → IsGap t r → t ≡ [] → ⊥
no_gap_text t r (blank b x h) e = omega (arith, ap length (sym e ∙ x))
no_gap_text t r (line x f g k m) e = omega (arith, ap length (sym e ∙ f))
no_gap_text t r (block x f g m) e = omega (arith, ap length (sym e ∙ f))

pub empty_front : (t r : List ℕ) → [] ≡ t ++ r → t ≡ []
empty_front [] r e = refl
empty_front (x ∷ t) r e = absurd (omega (arith, ap length e))

pub end_stuck : Stuck []
end_stuck names (gap t) r e h = no_gap_text t r h (empty_front t r e)
end_stuck names (lexeme t k) r e h = no_token (subst IsToken (empty_front t r e) h.0.longest.spelled)

number_sort : (text : List ℕ) → is_number text ≡ true → IsSort text of_number
number_sort text h = and_left (begins_number text) _ h

pub two_sorts : (text : List ℕ) (s t : Sort) → IsSort text s → IsSort text t → (s ≡ t → ⊥) → ⊥
two_sorts text s t h g n = n (sort_once text s t h g)

-- a number that is no constant, or has no type, spells no kind; nor does a name or a string that is too long
spells_constant : (names : List (List ℕ)) (kind : TokenKind) (text : List ℕ) → is_number text ≡ true → IsNoConstant text → Spells names kind text → ⊥
spells_constant names (Name n) text h f g = two_sorts text of_number of_name (number_sort text h) (spelled_sort names (Name n) text g) (λ e. cc)
spells_constant names (Word w) text h f g = two_sorts text of_number of_name (number_sort text h) (spelled_sort names (Word w) text g) (λ e. cc)
spells_constant names (Number v k) text h f g = f g.base g.digits g.suffix g.constant
spells_constant names (Character v) text h f g = two_sorts text of_number of_character (number_sort text h) (spelled_sort names (Character v) text g) (λ e. cc)
spells_constant names (Str v) text h f g = two_sorts text of_number of_string (number_sort text h) (spelled_sort names (Str v) text g) (λ e. cc)
spells_constant names (Punct m) text h f g = two_sorts text of_number of_mark (number_sort text h) (spelled_sort names (Punct m) text g) (λ e. cc)
spells_constant names (Pragma b) text h f g = g

spells_typed : (names : List (List ℕ)) (kind : TokenKind) (text : List ℕ) → is_number text ≡ true → HasNoType text → Spells names kind text → ⊥
spells_typed names (Name n) text h f g = two_sorts text of_number of_name (number_sort text h) (spelled_sort names (Name n) text g) (λ e. cc)
spells_typed names (Word w) text h f g = two_sorts text of_number of_name (number_sort text h) (spelled_sort names (Word w) text g) (λ e. cc)
spells_typed names (Number v k) text h f g = typed_or_not text v k g f
spells_typed names (Character v) text h f g = two_sorts text of_number of_character (number_sort text h) (spelled_sort names (Character v) text g) (λ e. cc)
spells_typed names (Str v) text h f g = two_sorts text of_number of_string (number_sort text h) (spelled_sort names (Str v) text g) (λ e. cc)
spells_typed names (Punct m) text h f g = two_sorts text of_number of_mark (number_sort text h) (spelled_sort names (Punct m) text g) (λ e. cc)
spells_typed names (Pragma b) text h f g = g

spells_short_name : (names : List (List ℕ)) (kind : TokenKind) (text : List ℕ) → IsPlainName text → 255 < length text → Spells names kind text → ⊥
spells_short_name names (Name n) text h f g = omega (arith, g.1)
spells_short_name names (Word w) text h f g = h.no_word w g
spells_short_name names (Number v k) text h f g = two_sorts text of_name of_number h.is_spelled (spelled_sort names (Number v k) text g) (λ e. cc)
spells_short_name names (Character v) text h f g = two_sorts text of_name of_character h.is_spelled (spelled_sort names (Character v) text g) (λ e. cc)
spells_short_name names (Str v) text h f g = two_sorts text of_name of_string h.is_spelled (spelled_sort names (Str v) text g) (λ e. cc)
spells_short_name names (Punct m) text h f g = two_sorts text of_name of_mark h.is_spelled (spelled_sort names (Punct m) text g) (λ e. cc)
spells_short_name names (Pragma b) text h f g = g

spells_short_string : (names : List (List ℕ)) (kind : TokenKind) (text value : List ℕ) → IsString text value → 4095 < length value → Spells names kind text → ⊥
spells_short_string names (Name n) text value h f g = two_sorts text of_string of_name (value, h) (spelled_sort names (Name n) text g) (λ e. cc)
spells_short_string names (Word w) text value h f g = two_sorts text of_string of_name (value, h) (spelled_sort names (Word w) text g) (λ e. cc)
spells_short_string names (Number v k) text value h f g = two_sorts text of_string of_number (value, h) (spelled_sort names (Number v k) text g) (λ e. cc)
spells_short_string names (Character v) text value h f g = two_sorts text of_string of_character (value, h) (spelled_sort names (Character v) text g) (λ e. cc)
spells_short_string names (Str v) text value h f g = omega (arith, g.1, ap length (string_once text value v h g.0))
spells_short_string names (Punct m) text value h f g = two_sorts text of_string of_mark (value, h) (spelled_sort names (Punct m) text g) (λ e. cc)
spells_short_string names (Pragma b) text value h f g = g

lexeme_stuck : (bytes text rest : List ℕ) → bytes ≡ text ++ rest → IsLexeme text rest → ((names : List (List ℕ)) (kind : TokenKind) → Spells names kind text → ⊥) → Stuck bytes
lexeme_stuck bytes text rest e h n names (gap t) r f g = gap_no_lexeme t text r rest g h (sym f ∙ e)
lexeme_stuck bytes text rest e h n names (lexeme t k) r f g = n names k (subst (Spells names k) (lexeme_once t text r rest g.0 h (sym f ∙ e)) g.1)

-- where the source is refused no piece is
pub refused_stuck : (bytes : List ℕ) (code : Code) → Refuses bytes code → Stuck bytes
refused_stuck bytes code (nothing c n g l) names (gap t) r f h = g t r f h
refused_stuck bytes code (nothing c n g l) names (lexeme t k) r f h = l t r f h.0
refused_stuck bytes code (no_constant text rest c e h n f) names p r i j = lexeme_stuck bytes text rest e h (λ names kind g. spells_constant names kind text n f g) names p r i j
refused_stuck bytes code (no_type text rest c e h n f) names p r i j = lexeme_stuck bytes text rest e h (λ names kind g. spells_typed names kind text n f g) names p r i j
refused_stuck bytes code (long_name text rest c e h n f) names p r i j = lexeme_stuck bytes text rest e h (λ names kind g. spells_short_name names kind text n f g) names p r i j
refused_stuck bytes code (long_string text rest value c e h n f) names p r i j = lexeme_stuck bytes text rest e h (λ names kind g. spells_short_string names kind text value n f g) names p r i j

-- what is wrong with a token
data Wrong (text : List ℕ) (code : Code) : Type 0 where
  constant : code ≡ Lex → is_number text ≡ true → IsNoConstant text → Wrong text code
  typed : code ≡ Limit 2 → is_number text ≡ true → HasNoType text → Wrong text code
  named : code ≡ Limit 6 → IsPlainName text → Wrong text code
  quoted : (value : List ℕ) → code ≡ Limit 6 → IsString text value → Wrong text code

wrong_once : (text : List ℕ) (c d : Code) → Wrong text c → Wrong text d → c ≡ d
wrong_once text c d (constant x h f) (constant y g k) = x ∙ sym y
wrong_once text c d (constant x h f) (typed y g k) = absurd (f k.base k.digits k.suffix k.constant)
wrong_once text c d (constant x h f) (named y g) = absurd (two_sorts text of_number of_name (number_sort text h) g.is_spelled (λ e. cc))
wrong_once text c d (constant x h f) (quoted v y g) = absurd (two_sorts text of_number of_string (number_sort text h) (v, g) (λ e. cc))
wrong_once text c d (typed x h f) (constant y g k) = absurd (k f.base f.digits f.suffix f.constant)
wrong_once text c d (typed x h f) (typed y g k) = x ∙ sym y
wrong_once text c d (typed x h f) (named y g) = absurd (two_sorts text of_number of_name (number_sort text h) g.is_spelled (λ e. cc))
wrong_once text c d (typed x h f) (quoted v y g) = absurd (two_sorts text of_number of_string (number_sort text h) (v, g) (λ e. cc))
wrong_once text c d (named x f) (constant y g k) = absurd (two_sorts text of_number of_name (number_sort text g) f.is_spelled (λ e. cc))
wrong_once text c d (named x f) (typed y g k) = absurd (two_sorts text of_number of_name (number_sort text g) f.is_spelled (λ e. cc))
wrong_once text c d (named x f) (named y g) = x ∙ sym y
wrong_once text c d (named x f) (quoted v y g) = x ∙ sym y
wrong_once text c d (quoted v x f) (constant y g k) = absurd (two_sorts text of_number of_string (number_sort text g) (v, f) (λ e. cc))
wrong_once text c d (quoted v x f) (typed y g k) = absurd (two_sorts text of_number of_string (number_sort text g) (v, f) (λ e. cc))
wrong_once text c d (quoted v x f) (named y g) = x ∙ sym y
wrong_once text c d (quoted v x f) (quoted w y g) = x ∙ sym y

record WrongAt (bytes : List ℕ) (code : Code) : Type 0 where
  text : List ℕ
  rest : List ℕ
  bytes_are : bytes ≡ text ++ rest
  stands : IsLexeme text rest
  wrong : Wrong text code

data Why (bytes : List ℕ) (code : Code) : Type 0 where
  absent : code ≡ Lex → NoLexeme bytes → Why bytes code
  present : WrongAt bytes code → Why bytes code

why : (bytes : List ℕ) (code : Code) → Refuses bytes code → Why bytes code
why bytes code (nothing c n g l) = absent c l
why bytes code (no_constant text rest c e h n f) = present (record { text = text; rest = rest; bytes_are = e; stands = h; wrong = constant c n f })
why bytes code (no_type text rest c e h n f) = present (record { text = text; rest = rest; bytes_are = e; stands = h; wrong = typed c n f })
why bytes code (long_name text rest c e h n f) = present (record { text = text; rest = rest; bytes_are = e; stands = h; wrong = named c n })
why bytes code (long_string text rest value c e h n f) = present (record { text = text; rest = rest; bytes_are = e; stands = h; wrong = quoted value c n })

code_once_by : (bytes : List ℕ) (c d : Code) → Why bytes c → Why bytes d → c ≡ d
code_once_by bytes c d (absent x l) (absent y k) = x ∙ sym y
code_once_by bytes c d (absent x l) (present w) = absurd (l w.text w.rest w.bytes_are w.stands)
code_once_by bytes c d (present w) (absent y k) = absurd (k w.text w.rest w.bytes_are w.stands)
code_once_by bytes c d (present v) (present w) =
    wrong_once w.text c d (subst (λ t. Wrong t c) (lexeme_once v.text w.text v.rest w.rest v.stands w.stands (sym v.bytes_are ∙ w.bytes_are)) v.wrong) w.wrong

pub code_once : (bytes : List ℕ) (c d : Code) → Refuses bytes c → Refuses bytes d → c ≡ d
code_once bytes c d h g = code_once_by bytes c d (why bytes c h) (why bytes d g)

-- ---- two cuts of one source

abbrev pub SameCut : List (List ℕ) → List (List ℕ) → List Piece → List Piece → Type 0
SameCut n m [] [] = Unit {0}
SameCut n m [] (q ∷ qs) = ⊥
SameCut n m (p ∷ ps) [] = ⊥
SameCut n m (gap t ∷ ps) (gap s ∷ qs) = (t ≡ s) × SameCut n m ps qs
SameCut n m (gap t ∷ ps) (lexeme s l ∷ qs) = ⊥
SameCut n m (lexeme t k ∷ ps) (gap s ∷ qs) = ⊥
SameCut n m (lexeme t k ∷ ps) (lexeme s l ∷ qs) = (t ≡ s) × Spells n k t × Spells m l s × SameCut n m ps qs

split : (t r s q : List ℕ) (xs ys : List ℕ) → t ≡ s → (t ++ xs) ++ r ≡ (s ++ ys) ++ q → xs ++ r ≡ ys ++ q
split t r s q xs ys h e = rest_same t s (xs ++ r) (ys ++ q) h (sym (append_assoc t xs r) ∙ e ∙ append_assoc s ys q)

front_of : (t r s q : List ℕ) (xs ys : List ℕ) → (t ++ xs) ++ r ≡ (s ++ ys) ++ q → t ++ (xs ++ r) ≡ s ++ (ys ++ q)
front_of t r s q xs ys e = sym (append_assoc t xs r) ∙ e ∙ append_assoc s ys q

pub compare : (n m : List (List ℕ)) (ps qs : List Piece) (r q : List ℕ) → Stuck r → Stuck q → Cuts n ps r → Cuts m qs q → joined ps ++ r ≡ joined qs ++ q → SameCut n m ps qs × (r ≡ q)
compare n m [] [] r q a b h g e = (tt, e)
compare n m [] (p ∷ qs) r q a b h g e = absurd (a m p (joined qs ++ q) (e ∙ append_assoc (text_of p) (joined qs) q) g.0)
compare n m (p ∷ ps) [] r q a b h g e = absurd (b n p (joined ps ++ r) (sym e ∙ append_assoc (text_of p) (joined ps) r) h.0)
compare n m (gap t ∷ ps) (gap s ∷ qs) r q a b h g e =
    let same = gap_once t s (joined ps ++ r) (joined qs ++ q) h.0 g.0 (front_of t r s q (joined ps) (joined qs) e) in
    let rest = compare n m ps qs r q a b h.1 g.1 (split t r s q (joined ps) (joined qs) same e) in
    ((same, rest.0), rest.1)
compare n m (gap t ∷ ps) (lexeme s l ∷ qs) r q a b h g e = absurd (gap_no_lexeme t s (joined ps ++ r) (joined qs ++ q) h.0 g.0.0 (front_of t r s q (joined ps) (joined qs) e))
compare n m (lexeme t k ∷ ps) (gap s ∷ qs) r q a b h g e = absurd (gap_no_lexeme s t (joined qs ++ q) (joined ps ++ r) g.0 h.0.0 (sym (front_of t r s q (joined ps) (joined qs) e)))
compare n m (lexeme t k ∷ ps) (lexeme s l ∷ qs) r q a b h g e =
    let same = lexeme_once t s (joined ps ++ r) (joined qs ++ q) h.0.0 g.0.0 (front_of t r s q (joined ps) (joined qs) e) in
    let rest = compare n m ps qs r q a b h.1 g.1 (split t r s q (joined ps) (joined qs) same e) in
    ((same, h.0.1, g.0.1, rest.0), rest.1)

pub joined_same : (n m : List (List ℕ)) (ps qs : List Piece) → SameCut n m ps qs → joined ps ≡ joined qs
joined_same n m [] [] h = refl
joined_same n m [] (q ∷ qs) h = absurd h
joined_same n m (p ∷ ps) [] h = absurd h
joined_same n m (gap t ∷ ps) (gap s ∷ qs) h = ap (λ x. x ++ joined ps) h.0 ∙ ap (λ x. s ++ x) (joined_same n m ps qs h.1)
joined_same n m (gap t ∷ ps) (lexeme s l ∷ qs) h = absurd h
joined_same n m (lexeme t k ∷ ps) (gap s ∷ qs) h = absurd h
joined_same n m (lexeme t k ∷ ps) (lexeme s l ∷ qs) h = ap (λ x. x ++ joined ps) h.0 ∙ ap (λ x. s ++ x) (joined_same n m ps qs h.3)
