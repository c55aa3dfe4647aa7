-- A list of picks, read from a word.
use Rattle.std.specs.Prelude.{ℕ, ◌+◌, ◌-◌, ◌*◌, ◌^◌, ◌==◌, ◌&&◌, nat_le, nat_lt, cond, List, [], ◌∷◌, ◌++◌, Option}
use Rattle.std.specs.Prelude.{Some, None, codes, unwrap_or, option_map, if◌then◌else◌}
use Rattle.std.specs.List.{fold}
use Rattle.std.specs.Str.{bytes_eq}
use Rattle.upc_top_words.specs.Values.{◌>>=◌}

-- The picks that were read, and the number that is being read, if one is.
pub record Partly : Type 0 where
  pub done : List ℕ
  pub now : Option ℕ

-- The number, where it fits 32 bits.
abbrev pub fitting : ℕ → Option ℕ
fitting n = cond (nat_lt n (2 ^ 32)) (Some n) None

-- The number that is being read with a byte more, where that is a digit.
abbrev pub with_digit : Option ℕ → ℕ → Option ℕ
with_digit now b =
    cond (nat_le 48 b && nat_lt b 58) (fitting (10 * unwrap_or now 0 + (b - 48))) None

-- The number that was being read is done, and none is being read.
abbrev pub after_comma : Partly → ℕ → Partly
after_comma p n = record { done = p.done ++ n ∷ []; now = None }

-- This number is being read.
abbrev pub after_digit : Partly → ℕ → Partly
after_digit p n = record { done = p.done; now = Some n }

-- One byte more: a comma after a number, or a digit.
abbrev pub step : ℕ → Partly → Option Partly
step b p =
    if b == 44 then option_map (after_comma p) p.now
    else option_map (after_digit p) (with_digit p.now b)

-- The bytes, one after another.
abbrev pub steps : Option Partly → List ℕ → Option Partly
steps start text = fold (λ p b. p >>= step b) start text

-- The picks, where the last of them is a number.
abbrev pub finished : Partly → Option (List ℕ)
finished p = option_map (λ n. p.done ++ n ∷ []) p.now

-- Numbers below 2^32 in decimal, with a comma between two.
abbrev pub read : List ℕ → Option (List ℕ)
read text = steps (Some record { done = []; now = None }) text >>= finished

-- The picks that a word is: none, or numbers with commas between them.
abbrev pub picks_in : List ℕ → Option (List ℕ)
picks_in text = if bytes_eq text (codes "none") then Some [] else read text
