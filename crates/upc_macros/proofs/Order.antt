-- The tokens of a source stand in order.
use Rattle.std.proofs.Common.{◌≡◌, ℕ, ◌+◌, ◌<◌, ◌≤◌, zero, suc, List, [], ◌∷◌, ◌++◌, length, get_or, length-append, sym, ap, subst, arith}
use Rattle.std.proofs.lemmas.Option.{slice_get_within}
use Rattle.upc_lexer.specs.declared.token.Token.{Token}
use Rattle.upc_lexer.specs.declared.token.TokenKind.{TokenKind}
use Rattle.upc_lexer.specs.declared.token.TokenKind.TheVariants.{Name, Word, Number, Character, Str, Punct, Pragma}
use Rattle.upc_lexer.specs.Tokens.{Piece, gap, lexeme, joined, tokens_in, Spells, Cuts, AreTokensOf}
use Rattle.upc_macros.specs.code.Table.{IsNumbered, IsWithin, AreInOrder}

-- from a place on
abbrev Follows : ℕ → ℕ → ℕ → List Token → Type 0
Follows limit names from [] = Unit {0}
Follows limit names from (t ∷ ts) = (from ≤ t.start) × IsWithin limit names t × Follows limit names t.end ts

numbered : (names : List (List ℕ)) (kind : TokenKind) (text : List ℕ) → Spells names kind text → IsNumbered (length names) kind
numbered names (Name n) text h = slice_get_within names n text h.2
numbered names (Word w) text h = tt
numbered names (Number v k) text h = tt
numbered names (Character v) text h = tt
numbered names (Str v) text h = tt
numbered names (Punct m) text h = tt
numbered names (Pragma b) text h = tt

weaker : (limit names a b : ℕ) (ts : List Token) → a ≤ b → Follows limit names b ts → Follows limit names a ts
weaker limit names a b [] le h = tt
weaker limit names a b (t ∷ ts) le h = (omega (arith, h.0), h.1, h.2)

follows : (limit : ℕ) (names : List (List ℕ)) (front : List ℕ) (ps : List Piece) → Cuts names ps [] → length front + length (joined ps) ≤ limit → Follows limit (length names) (length front) (tokens_in front ps)
follows limit names front [] h le = tt
follows limit names front (gap text ∷ ps) h le =
    weaker limit (length names) (length front) (length (front ++ text)) (tokens_in (front ++ text) ps) (omega (arith, length-append front text))
    (follows limit names (front ++ text) ps h.1 (omega (arith, length-append front text, length-append text (joined ps))))
follows limit names front (lexeme text kind ∷ ps) h le =
    let size : length (front ++ text) ≡ length front + length text = length-append front text in (
      omega arith,
      record { forward = omega arith; within = omega (arith, length-append text (joined ps)); numbered = numbered names kind text h.0.1 },
      weaker limit (length names) (length front + length text) (length (front ++ text)) (tokens_in (front ++ text) ps) (omega (arith, size))
          (follows limit names (front ++ text) ps h.1 (omega (arith, size, length-append text (joined ps)))),
    )

each_of : (limit names from : ℕ) (ts : List Token) → Follows limit names from ts → (k : ℕ) (d : Token) → k < length ts → IsWithin limit names (get_or ts k d)
each_of limit names from [] h k d lt = absurd (omega arith)
each_of limit names from (t ∷ ts) h zero d lt = h.1
each_of limit names from (t ∷ ts) h (suc k) d lt = each_of limit names t.end ts h.2 k d (omega arith)

ends_behind : (limit names from : ℕ) (ts : List Token) → Follows limit names from ts → (k : ℕ) (d : Token) → k < length ts → from ≤ (get_or ts k d).end
ends_behind limit names from [] h k d lt = absurd (omega arith)
ends_behind limit names from (t ∷ ts) h zero d lt = omega (arith, h.0, h.1.forward)
ends_behind limit names from (t ∷ ts) h (suc k) d lt = omega (arith, h.0, h.1.forward, ends_behind limit names t.end ts h.2 k d (omega arith))

in_order : (limit names from : ℕ) (ts : List Token) → Follows limit names from ts → (j k : ℕ) (d : Token) → j ≤ k → k < length ts → (get_or ts j d).start ≤ (get_or ts k d).end
in_order limit names from [] h j k d le lt = absurd (omega arith)
in_order limit names from (t ∷ ts) h zero zero d le lt = h.1.forward
in_order limit names from (t ∷ ts) h zero (suc k) d le lt = omega (arith, h.1.forward, ends_behind limit names t.end ts h.2 k d (omega arith))
in_order limit names from (t ∷ ts) h (suc j) zero d le lt = absurd (omega arith)
in_order limit names from (t ∷ ts) h (suc j) (suc k) d le lt = in_order limit names t.end ts h.2 j k d (omega arith) (omega arith)

pub tokens_in_order : (source : List ℕ) (tokens : List Token) (names : List (List ℕ)) → AreTokensOf source tokens names → AreInOrder (length source) (length names) tokens
tokens_in_order source tokens names h =
    let f : Follows (length source) (length names) 0 tokens = subst (Follows (length source) (length names) 0) (sym h.tokens_are) (follows (length source) names [] h.pieces h.cut (omega (arith, ap length h.source_is))) in
    record { each = each_of (length source) (length names) 0 tokens f; order = in_order (length source) (length names) 0 tokens f }
