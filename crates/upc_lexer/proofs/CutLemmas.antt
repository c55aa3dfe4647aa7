-- A source that is cut up to a place, and one piece more.
use Rattle.std.proofs.Common.{◌≡◌, ℕ, ◌+◌, ◌≤◌, suc, Bool, true, false, eqb, List, [], ◌∷◌, ◌++◌, append-nil, append_assoc, length, take, drop, refl, sym, ap, ◌∙◌, subst, arith, length-append, length-take, length-drop}
use Rattle.std.proofs.Math.Seq.{take-add}
use Rattle.std.proofs.lemmas.List.{take-append-drop, take_all, drop_all, drop-drop}
use Rattle.std.proofs.lemmas.List.Sums.{count_by-le-length, suffix_len-le-length}
use Rattle.std.specs.List.{list_any}
use Rattle.upc_text.specs.declared.place.Place.{Place}
use Rattle.upc_text.specs.declared.faults.Stop.{Stop}
use Rattle.upc_text.specs.declared.faults.Stop.TheVariants.{Refused, Memory}
use Rattle.upc_lexer.specs.declared.token.Token.{Token}
use Rattle.upc_lexer.specs.declared.token.TokenKind.{TokenKind}
use Rattle.upc_lexer.specs.declared.token.TokenKind.TheVariants.{Name, Word, Number, Character, Str, Punct, Pragma}
use Rattle.upc_lexer.specs.Bytes.{is_in_line}
use Rattle.upc_lexer.specs.Names.{is_same, firsts, insert_name}
use Rattle.upc_lexer.specs.Places.{place_after}
use Rattle.upc_lexer.specs.Tokens.{Piece, gap, lexeme, text_of, joined, names_in, token_at, tokens_in, Spells, IsPiece, Cuts, AreTokensOf}
use Rattle.upc_lexer.specs.layer.Steps.{tokens_of, names_with, Steps, StopsHere, StopsSource, IsCutTo}
use Rattle.upc_lexer.proofs.NameLemmas.{firsts-push, slice_get-append}

pub joined-push : (ps : List Piece) (p : Piece) → joined (ps ++ p ∷ []) ≡ joined ps ++ text_of p
joined-push [] p = append-nil (text_of p)
joined-push (q ∷ ps) p = ap (λ xs. text_of q ++ xs) (joined-push ps p) ∙ sym (append_assoc (text_of q) (joined ps) (text_of p))

-- what is a name among some names is one among more
more_names : (names : List (List ℕ)) (more : List (List ℕ)) (kind : TokenKind) (text : List ℕ) → Spells names kind text → Spells (names ++ more) kind text
more_names names more (Name n) text h = (h.0, h.1, slice_get-append names more n text h.2)
more_names names more (Word w) text h = h
more_names names more (Number v k) text h = h
more_names names more (Character v) text h = h
more_names names more (Str v) text h = h
more_names names more (Punct m) text h = h
more_names names more (Pragma b) text h = h

more_piece : (names : List (List ℕ)) (more : List (List ℕ)) (p : Piece) (rest : List ℕ) → IsPiece names p rest → IsPiece (names ++ more) p rest
more_piece names more (gap text) rest h = h
more_piece names more (lexeme text kind) rest h = (h.0, more_names names more kind text h.1)

insert_front : (names : List (List ℕ)) (x : List ℕ) (b : Bool) → list_any (is_same x) names ≡ b → (more : List (List ℕ)) × (insert_name names x ≡ names ++ more)
insert_front names x true e = ([], rw e (sym (append-nil names)))
insert_front names x false e = (x ∷ [], rw e refl)

with_front : (names : List (List ℕ)) (p : Piece) → (more : List (List ℕ)) × (names_with names p ≡ names ++ more)
with_front names (gap text) = ([], sym (append-nil names))
with_front names (lexeme text (Name n)) = insert_front names text _ refl
with_front names (lexeme text (Word w)) = ([], sym (append-nil names))
with_front names (lexeme text (Number v k)) = ([], sym (append-nil names))
with_front names (lexeme text (Character v)) = ([], sym (append-nil names))
with_front names (lexeme text (Str v)) = ([], sym (append-nil names))
with_front names (lexeme text (Punct m)) = ([], sym (append-nil names))
with_front names (lexeme text (Pragma b)) = ([], sym (append-nil names))

cuts_push : (names more : List (List ℕ)) (ps : List Piece) (p : Piece) (rest : List ℕ) → Cuts names ps (text_of p ++ rest) → IsPiece (names ++ more) p rest → Cuts (names ++ more) (ps ++ p ∷ []) rest
cuts_push names more [] p rest h g = (g, tt)
cuts_push names more (q ∷ ps) p rest h g =
    let whole : joined ps ++ (text_of p ++ rest) ≡ joined (ps ++ p ∷ []) ++ rest = sym (append_assoc (joined ps) (text_of p) rest) ∙ ap (λ xs. xs ++ rest) (sym (joined-push ps p)) in
    (subst (IsPiece (names ++ more) q) whole (more_piece names more q (joined ps ++ (text_of p ++ rest)) h.0), cuts_push names more ps p rest h.1 g)

tokens_push : (front : List ℕ) (ps : List Piece) (p : Piece) → tokens_in front (ps ++ p ∷ []) ≡ tokens_in front ps ++ tokens_in (front ++ joined ps) (p ∷ [])
tokens_push front [] p = rw append-nil refl
tokens_push front (gap text ∷ ps) p = tokens_push (front ++ text) ps p ∙ ap (λ f. tokens_in (front ++ text) ps ++ tokens_in f (p ∷ [])) (append_assoc front text (joined ps))
tokens_push front (lexeme text kind ∷ ps) p = ap (λ ts. token_at front text kind ∷ ts) (tokens_push (front ++ text) ps p ∙ ap (λ f. tokens_in (front ++ text) ps ++ tokens_in f (p ∷ [])) (append_assoc front text (joined ps)))

tokens_one : (front : List ℕ) (at : ℕ) (place : Place) (p : Piece) → length front ≡ at → place ≡ place_after front → tokens_in front (p ∷ []) ≡ tokens_of at place p
tokens_one front at place (gap text) e f = refl
tokens_one front at place (lexeme text kind) e f = rw (e, f) refl

pub names_in-append : (ps qs : List Piece) → names_in (ps ++ qs) ≡ names_in ps ++ names_in qs
names_in-append [] qs = refl
names_in-append (gap text ∷ ps) qs = names_in-append ps qs
names_in-append (lexeme text (Name n) ∷ ps) qs = ap (λ xs. text ∷ xs) (names_in-append ps qs)
names_in-append (lexeme text (Word w) ∷ ps) qs = names_in-append ps qs
names_in-append (lexeme text (Number v k) ∷ ps) qs = names_in-append ps qs
names_in-append (lexeme text (Character v) ∷ ps) qs = names_in-append ps qs
names_in-append (lexeme text (Str v) ∷ ps) qs = names_in-append ps qs
names_in-append (lexeme text (Punct m) ∷ ps) qs = names_in-append ps qs
names_in-append (lexeme text (Pragma b) ∷ ps) qs = names_in-append ps qs

names_one : (names : List (List ℕ)) (p : Piece) → firsts (names ++ names_in (p ∷ [])) ≡ names_with (firsts names) p
names_one names (gap text) = ap firsts (append-nil names)
names_one names (lexeme text (Name n)) = firsts-push names text
names_one names (lexeme text (Word w)) = ap firsts (append-nil names)
names_one names (lexeme text (Number v k)) = ap firsts (append-nil names)
names_one names (lexeme text (Character v)) = ap firsts (append-nil names)
names_one names (lexeme text (Str v)) = ap firsts (append-nil names)
names_one names (lexeme text (Punct m)) = ap firsts (append-nil names)
names_one names (lexeme text (Pragma b)) = ap firsts (append-nil names)

names_push : (ps : List Piece) (p : Piece) → firsts (names_in (ps ++ p ∷ [])) ≡ names_with (firsts (names_in ps)) p
names_push ps p = ap firsts (names_in-append ps (p ∷ [])) ∙ names_one (names_in ps) p

insert_few : (names : List (List ℕ)) (x : List ℕ) (b : Bool) → list_any (is_same x) names ≡ b → length (insert_name names x) ≤ suc (length names)
insert_few names x true e = rw e (omega arith)
insert_few names x false e = rw e (omega (arith, length-append names (x ∷ [])))

with_few : (names : List (List ℕ)) (p : Piece) → length (names_with names p) ≤ suc (length names)
with_few names (gap text) = omega arith
with_few names (lexeme text (Name n)) = insert_few names text _ refl
with_few names (lexeme text (Word w)) = omega arith
with_few names (lexeme text (Number v k)) = omega arith
with_few names (lexeme text (Character v)) = omega arith
with_few names (lexeme text (Str v)) = omega arith
with_few names (lexeme text (Punct m)) = omega arith
with_few names (lexeme text (Pragma b)) = omega arith

-- one step more
pub cut_more : (source : List ℕ) (at n : ℕ) (old_tokens tokens : List Token) (old_names names : List (List ℕ)) (place behind : Place) → IsCutTo source at old_tokens old_names place → Steps (drop at source) n at place old_tokens old_names tokens names → ((front : List ℕ) → place ≡ place_after front → behind ≡ place_after (front ++ take n (drop at source))) → IsCutTo source (at + n) tokens names behind
cut_more source at n old_tokens tokens old_names names place behind h s moved =
    let front : take (at + n) source ≡ take at source ++ take n (drop at source) = take-add at n source in
    let m = with_front old_names s.piece in
    let names_more : names ≡ old_names ++ m.0 = s.names_are ∙ m.1 in
    let rest : drop at source ≡ text_of s.piece ++ drop (at + n) source = sym (take-append-drop n (drop at source)) ∙ ap (λ t. t ++ drop n (drop at source)) (sym s.text_is) ∙ ap (λ t. text_of s.piece ++ t) (drop-drop n at source) in
    let stands : IsPiece (old_names ++ m.0) s.piece (drop (at + n) source) = subst (λ t. IsPiece (old_names ++ m.0) s.piece t) (drop-drop n at source) (subst (λ ns. IsPiece ns s.piece (drop n (drop at source))) names_more s.stands) in
    let cut : Cuts (old_names ++ m.0) (h.pieces ++ s.piece ∷ []) (drop (at + n) source) = cuts_push old_names m.0 h.pieces s.piece (drop (at + n) source) (subst (Cuts old_names h.pieces) rest h.cut) stands in
    let at_is : length (joined h.pieces) ≡ at = omega (arith, ap length h.front_is, length-take at source, h.within) in
    let place_is : place ≡ place_after (joined h.pieces) = h.place_is ∙ ap place_after (sym h.front_is) in
    record {
      pieces = h.pieces ++ s.piece ∷ [];
      within = omega (arith, h.within, s.within, length-drop at source);
      front_is = joined-push h.pieces s.piece ∙ ap (λ t. t ++ text_of s.piece) h.front_is ∙ ap (λ t. take at source ++ t) s.text_is ∙ sym front;
      cut = subst (λ ns. Cuts ns (h.pieces ++ s.piece ∷ []) (drop (at + n) source)) (sym names_more) cut;
      tokens_are = s.tokens_are ∙ ap (λ ts. ts ++ tokens_of at place s.piece) h.tokens_are ∙ ap (λ ts. tokens_in [] h.pieces ++ ts) (sym (tokens_one (joined h.pieces) at place s.piece at_is place_is)) ∙ sym (tokens_push [] h.pieces s.piece);
      names_are = s.names_are ∙ ap (λ ns. names_with ns s.piece) h.names_are ∙ sym (names_push h.pieces s.piece);
      place_is = moved (take at source) h.place_is ∙ ap place_after (sym front);
      few = omega (arith, h.few, ap length s.names_are, with_few old_names s.piece, s.some);
    }

-- a source that is cut to its end has these tokens
pub all_cut : (source : List ℕ) (at : ℕ) (tokens : List Token) (names : List (List ℕ)) (place : Place) → IsCutTo source at tokens names place → length source ≤ at → AreTokensOf source tokens names
all_cut source at tokens names place h le = record {
  pieces = h.pieces;
  source_is = h.front_is ∙ take_all at source le;
  cut = subst (Cuts names h.pieces) (drop_all at source le) h.cut;
  tokens_are = h.tokens_are;
  names_are = h.names_are;
}

-- one that is refused at a place after what is cut is refused
pub cut_refused : (source : List ℕ) (at : ℕ) (tokens : List Token) (names : List (List ℕ)) (place : Place) (stop : Stop) → IsCutTo source at tokens names place → StopsHere (drop at source) place stop → StopsSource source stop
cut_refused source at tokens names place (Refused refusal) h s = record {
  names = names;
  pieces = h.pieces;
  rest = drop at source;
  source_is = ap (λ t. t ++ drop at source) h.front_is ∙ take-append-drop at source;
  cut = h.cut;
  names_are = h.names_are;
  place_is = s.0 ∙ h.place_is ∙ ap place_after (sym h.front_is);
  refused = s.1;
}
cut_refused source at tokens names place Memory h s = tt

pub column_few : (source : List ℕ) (at : ℕ) (place : Place) → place ≡ place_after (take at source) → (place.line ≤ 1 + length source) × (place.column ≤ 1 + length source)
column_few source at place e = (
  omega (arith, ap (λ (p : Place). p.line) e, count_by-le-length (λ b. eqb b 10) (take at source), length-take at source),
  omega (arith, ap (λ (p : Place). p.column) e, suffix_len-le-length is_in_line (take at source), length-take at source),
)
