-- A token that stands at an index has the place of one of the tokens.
use Rattle.std.proofs.Common.{ℕ, zero, suc, ◌<◌, List, [], ◌∷◌, length, slice_index_or, refl, arith, inl, inr}
use Rattle.upc_lexer.specs.declared.token.Token.{Token}
use Rattle.upc_parser.specs.Answer.{Among, HasPlace}

among_at : (ts : List Token) (i : ℕ) (d : Token) → i < length ts → Among ts (slice_index_or ts i d).place
among_at [] i d h = absurd (omega (arith, h))
among_at (x ∷ ts) zero d h = inl refl
among_at (x ∷ ts) (suc i) d h = inr (among_at ts i d (omega (arith, h)))

pub place_at : (ts : List Token) (i : ℕ) (d : Token) → i < length ts → HasPlace ts (slice_index_or ts i d).place
place_at [] i d h = absurd (omega (arith, h))
place_at (x ∷ ts) i d h = among_at (x ∷ ts) i d h
