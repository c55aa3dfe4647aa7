-- Blanks and comments (C99 6.4, 6.4.9).
use Rattle.std.specs.Prelude.{◌≡◌, ℕ, Bool, true, false, ◌||◌, ◌&&◌, ◌==◌, List, [], ◌∷◌, ◌++◌, ◌<◌, ◌≤◌, length}
use Rattle.std.specs.Prelude.{take, drop, codes}
use Rattle.upc_lexer.specs.declared.gaps.Gap.{Gap}
use Rattle.upc_lexer.specs.declared.gaps.Gap.TheVariants.{Taken, Refused, Absent}
use Rattle.std.specs.List.{list_all}
use Rattle.upc_lexer.specs.Bytes.{is_blank, is_in_line}
use Rattle.upc_lexer.specs.Splices.{ends_in_splice, has_spliced_end}

-- The bytes, if any, begin with one that fails the test.
abbrev pub StopsAt : (ℕ → Bool) → List ℕ → Type 0
StopsAt p [] = Unit {0}
StopsAt p (b ∷ bs) = p b ≡ false

-- The mark `*/` stands somewhere in the bytes (C99 6.4.9).
pub record Closes (bytes : List ℕ) : Type 0 where
  pub before : List ℕ
  pub after : List ℕ
  pub found : bytes ≡ before ++ codes "*/" ++ after

-- One blank; a comment from `//` to the end of its line, which no splice takes away; or one from `/*` to the first `*/`
-- that no splice divides either (C99 5.1.1.2: with its splices taken away the comment would end elsewhere).
pub data IsGap (text rest : List ℕ) : Type 0 where
  blank : (b : ℕ) → text ≡ b ∷ [] → is_blank b ≡ true → IsGap text rest
  line : (body : List ℕ) → text ≡ codes "//" ++ body → list_all is_in_line body ≡ true → StopsAt is_in_line rest
      → ends_in_splice body ≡ false → IsGap text rest
  block : (body : List ℕ) → text ≡ codes "/*" ++ body ++ codes "*/" → (Closes (body ++ codes "*") → ⊥)
      → has_spliced_end (body ++ codes "*/") ≡ false → IsGap text rest

-- Whether a comment begins at the front of the bytes (C99 6.4.9).
abbrev pub opens_comment : List ℕ → Bool
opens_comment [] = false
opens_comment (a ∷ []) = false
opens_comment (a ∷ b ∷ rest) = a == 47 && (b == 47 || b == 42)

-- No blank and no whole comment is at the front of the bytes (C99 6.4, 6.4.9).
abbrev pub NoGap : List ℕ → Type 0
NoGap bytes = (text rest : List ℕ) → bytes ≡ text ++ rest → IsGap text rest → ⊥

-- What the code finds at the front of the bytes: a blank or a comment of so many bytes, a comment that is not closed,
-- or neither (C99 6.4, 6.4.9).
abbrev pub FindsGap : List ℕ → Gap → Type 0
FindsGap bytes (Taken n) = (0 < n) × (n ≤ length bytes) × IsGap (take n bytes) (drop n bytes)
FindsGap bytes Refused = (opens_comment bytes ≡ true) × NoGap bytes
FindsGap bytes Absent = (opens_comment bytes ≡ false) × NoGap bytes

-- The bytes are the rest of a comment, up to the first `*/` (C99 6.4.9).
pub record IsCommentEnd (bytes : List ℕ) : Type 0 where
  pub body : List ℕ
  pub ended : bytes ≡ body ++ codes "*/"
  pub first : Closes (body ++ codes "*") → ⊥
