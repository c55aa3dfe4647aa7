-- The bytes that tokens are spelled with.
use Rattle.std.specs.Prelude.{ℕ, ◌-◌, Bool, List, [], ◌∷◌, take, drop, nat_eq}
use Rattle.std.specs.Cmp.Lexicographic.{pointwise}
use Rattle.upc_lexer.specs.declared.token.Token.{Token}

-- The bytes of a source from one byte up to another, by their numbers from 0.
abbrev pub between : List ℕ → ℕ → ℕ → List ℕ
between source start end = take (end - start) (drop start source)

-- The bytes that a token has in the source (C99 6.10.3).
abbrev pub spelling : List ℕ → Token → List ℕ
spelling source t = between source t.start t.end

-- Whether a token has these bytes in the source.
abbrev pub is_spelled : List ℕ → Token → List ℕ → Bool
is_spelled source t text = pointwise nat_eq (spelling source t) text

-- Whether two lists of tokens are spelled alike, one by one (C99 6.10.3).
abbrev pub are_alike : List ℕ → List Token → List Token → Bool
are_alike source xs ys = pointwise (λ x y. pointwise nat_eq (spelling source x) (spelling source y)) xs ys

-- Where the last of some tokens ends, the first of which is given.
abbrev pub last_end : Token → List Token → ℕ
last_end t [] = t.end
last_end t (u ∷ us) = last_end u us
