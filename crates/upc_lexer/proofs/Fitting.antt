-- The numbers of a source are in the range of their types.
use Rattle.std.proofs.Common.{◌≡◌, ℕ, ◌≤◌, Bool, true, false, cond, leb, List, [], ◌∷◌, ◌++◌, drop, Some, refl, sym, subst}
use Rattle.std.specs.Prelude.{find}
use Rattle.std.proofs.lemmas.Bool.{leb-true}
use Rattle.upc_text.specs.declared.place.Place.{Place}
use Rattle.upc_lexer.specs.declared.token.Token.{Token}
use Rattle.upc_lexer.specs.declared.token.TokenKind.{TokenKind}
use Rattle.upc_lexer.specs.declared.token.TokenKind.TheVariants.{Name, Word, Number, Character, Str, Punct, Pragma}
use Rattle.upc_lexer.specs.declared.token.NumberKind.{NumberKind}
use Rattle.upc_lexer.specs.Numbers.{IsNumber, greatest, kinds, NumberFits, NumbersFit}
use Rattle.upc_lexer.specs.Tokens.{Piece, gap, lexeme, Spells, Cuts, tokens_in, AreTokensOf}
use Rattle.upc_lexer.specs.layer.Steps.{IsCutTo}

-- What is found among the types has the value.
found : (value : ℕ) (ks : List NumberKind) (kind : NumberKind) → find (λ k. leb value (greatest k)) ks ≡ Some kind → value ≤ greatest kind
found value [] kind h = absurd cc
found value (k ∷ ks) kind h = by (leb value (greatest k)) refl h (found value ks kind)
  where
    by : (b : Bool) → leb value (greatest k) ≡ b → cond b (Some k) (find (λ k. leb value (greatest k)) ks) ≡ Some kind → (find (λ k. leb value (greatest k)) ks ≡ Some kind → value ≤ greatest kind) →
        value ≤ greatest kind
    by true e g rest = let same : k ≡ kind = cc in subst (λ (k : NumberKind). value ≤ greatest k) same (leb-true value (greatest k) e)
    by false e g rest = rest g

number_fits : (text : List ℕ) (value : ℕ) (kind : NumberKind) → IsNumber text value kind → value ≤ greatest kind
number_fits text value kind h = found value (kinds h.base h.suffix) kind h.kind_is

spelled_fits : (names : List (List ℕ)) (kind : TokenKind) (text : List ℕ) → Spells names kind text → NumberFits kind
spelled_fits names (Name n) text h = tt
spelled_fits names (Word w) text h = tt
spelled_fits names (Number value kind) text h = number_fits text value kind h
spelled_fits names (Character value) text h = tt
spelled_fits names (Str value) text h = tt
spelled_fits names (Punct m) text h = tt
spelled_fits names (Pragma strict) text h = tt

pieces_fit : (names : List (List ℕ)) (front : List ℕ) (ps : List Piece) (rest : List ℕ) → Cuts names ps rest → NumbersFit (tokens_in front ps)
pieces_fit names front [] rest h = tt
pieces_fit names front (gap text ∷ ps) rest h = pieces_fit names (front ++ text) ps rest h.1
pieces_fit names front (lexeme text kind ∷ ps) rest h = (spelled_fits names kind text h.0.1, pieces_fit names (front ++ text) ps rest h.1)

pub numbers_fit : (source : List ℕ) (tokens : List Token) (names : List (List ℕ)) → AreTokensOf source tokens names → NumbersFit tokens
numbers_fit source tokens names h = subst NumbersFit (sym h.tokens_are) (pieces_fit names [] h.pieces [] h.cut)

-- The numbers of the tokens that are cut so far fit.
pub cut_fits : (source : List ℕ) (at : ℕ) (tokens : List Token) (names : List (List ℕ)) (place : Place) → IsCutTo source at tokens names place → NumbersFit tokens
cut_fits source at tokens names place h = subst NumbersFit (sym h.tokens_are) (pieces_fit names [] h.pieces (drop at source) h.cut)
