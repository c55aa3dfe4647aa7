-- What C99 replaces or takes away before there are tokens (C99 5.1.1.2), which is not in this profile.
use Rattle.std.specs.Prelude.{ℕ, Bool, false, ◌||◌, ◌&&◌, nat_lt, nat_eq, ◌==◌, if◌then◌else◌, List, [], ◌∷◌, drop}
use Rattle.std.specs.List.{starts_with, ends_with}

-- With `??` before it the byte makes a trigraph: it is one of `= / ' ( ) ! < > -` (C99 5.2.1.1).
abbrev pub ends_trigraph : ℕ → Bool
ends_trigraph b =
    b == 61 || b == 47 || b == 39 || b == 40 || b == 41 || b == 33 || b == 60 || b == 62 || b == 45

-- A trigraph is at the front.
abbrev pub opens_trigraph : List ℕ → Bool
opens_trigraph [] = false
opens_trigraph (a ∷ []) = false
opens_trigraph (a ∷ b ∷ []) = false
opens_trigraph (a ∷ b ∷ c ∷ rest) = a == 63 && b == 63 && ends_trigraph c

-- A trigraph stands somewhere in the bytes.
abbrev pub has_trigraph : List ℕ → Bool
has_trigraph [] = false
has_trigraph (b ∷ bs) = opens_trigraph (b ∷ bs) || has_trigraph bs

-- A line ends in `\`, or in `??/` that stands for it, a byte 13 after it aside: C99 takes its end away (C99 5.1.1.2).
abbrev pub ends_in_splice : List ℕ → Bool
ends_in_splice bytes =
    ends_with nat_eq bytes (92 ∷ []) || ends_with nat_eq bytes (92 ∷ 13 ∷ [])
    || ends_with nat_eq bytes (63 ∷ 63 ∷ 47 ∷ []) || ends_with nat_eq bytes (63 ∷ 63 ∷ 47 ∷ 13 ∷ [])

-- How many bytes at the front are a splice, which is `\` or `??/` and the end of the line, a byte 13 before it aside
-- (C99 5.1.1.2); 0 is for none.
abbrev pub splice_length : List ℕ → ℕ
splice_length bytes =
    if starts_with nat_eq bytes (92 ∷ 10 ∷ []) then 2 else (
    if starts_with nat_eq bytes (92 ∷ 13 ∷ 10 ∷ []) then 3 else (
    if starts_with nat_eq bytes (63 ∷ 63 ∷ 47 ∷ 10 ∷ []) then 4 else (
    if starts_with nat_eq bytes (63 ∷ 63 ∷ 47 ∷ 13 ∷ 10 ∷ []) then 5 else 0)))

-- A `/` or a splice is at the front.
abbrev pub opens_slash_or_splice : List ℕ → Bool
opens_slash_or_splice bytes = starts_with nat_eq bytes (47 ∷ []) || nat_lt 0 (splice_length bytes)

-- At the front are `*`, a splice, and then `/` or a further splice.
abbrev pub opens_spliced_end : List ℕ → Bool
opens_spliced_end [] = false
opens_spliced_end (b ∷ bs) =
    b == 42 && nat_lt 0 (splice_length bs) && opens_slash_or_splice (drop (splice_length bs) bs)

-- Such an end stands somewhere in the bytes: with its splices taken away C99 finds `*/` there.
abbrev pub has_spliced_end : List ℕ → Bool
has_spliced_end [] = false
has_spliced_end (b ∷ bs) = opens_spliced_end (b ∷ bs) || has_spliced_end bs
