-- Where a byte stops the reading, it stays stopped.
use Rattle.std.proofs.Common.{◌≡◌, ◌==◌, ◌∙◌, ◌<◌, ◌+◌, ℕ, List, [], ◌∷◌, length, get_or, drop, Option, Some, None, option_map, refl, sym, ap}
use Rattle.std.proofs.lemmas.Bool.{cond-false, ne_eqb}
use Rattle.std.proofs.lemmas.List.{at_drop_more}
use Rattle.upc_top_words.specs.Values.{◌>>=◌}
use Rattle.upc_outcomes_words.specs.Picks.{Partly, step, steps, finished, with_digit, after_comma, after_digit}

pub none-read : (text : List ℕ) → steps None text ≡ None
none-read [] = refl
none-read (b ∷ text) = none-read text

-- what is left of a text, after one byte
pub read-on : (p : Partly) (text : List ℕ) (i : ℕ) (b : ℕ) (o : Option Partly) → i < length text → get_or text i b ≡ b
    → step b p ≡ o → steps (Some p) (drop i text) ≡ steps o (drop (i + 1) text)
read-on p text i b o lt is e =
    at_drop_more (steps (Some p)) text i b lt
    ∙ ap (λ c. steps (step c p) (drop (i + 1) text)) is ∙ ap (λ q. steps q (drop (i + 1) text)) e

pub read-none : (p : Partly) (text : List ℕ) (i : ℕ) (b : ℕ) → i < length text → get_or text i b ≡ b
    → step b p ≡ None → (steps (Some p) (drop i text) >>= finished) ≡ None
read-none p text i b lt is e =
    ap (λ o. o >>= finished) (read-on p text i b None lt is e ∙ none-read (drop (i + 1) text))

-- a byte that is no comma, and with which there is no number, stops the reading
pub digit-stops : (b : ℕ) (p : Partly) → (b ≡ 44 → ⊥) → with_digit p.now b ≡ None → step b p ≡ None
digit-stops b p ne e =
    cond-false (b == 44) (option_map (after_comma p) p.now) (option_map (after_digit p) (with_digit p.now b)) (ne_eqb b 44 ne)
    ∙ ap (option_map (after_digit p)) e
