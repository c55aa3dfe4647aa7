-- The pieces of a format after some of its bytes.
use Rattle.std.proofs.Common.{◌≡◌, ℕ, ◌+◌, ◌<◌, List, [], ◌∷◌, length, drop, get_or, refl, ap, sym, ◌∙◌, add-one, arith}
use Rattle.upc_values.specs.declared.format.Found.{Found}
use Rattle.upc_values.specs.Printing.{pieces_behind, found_in}

-- The pieces after n bytes are those of the bytes that are left.
pub pieces_behind-drop : (n : ℕ) (bs : List ℕ) → pieces_behind n bs ≡ pieces_behind 0 (drop n bs)
pieces_behind-drop ℕ.zero [] = refl
pieces_behind-drop (ℕ.suc n) [] = refl
pieces_behind-drop ℕ.zero (b ∷ bs) = refl
pieces_behind-drop (ℕ.suc n) (b ∷ bs) = pieces_behind-drop n bs

-- A `%` begins a piece.
pub percent-first : (xs : List ℕ) (f : Found) → 0 < length xs → get_or xs 0 0 ≡ 37 → f ≡ found_in (drop 1 xs)
    → pieces_behind 0 xs ≡ f.piece ∷ pieces_behind 0 (drop (f.bytes + 1) xs)
percent-first [] f some first is = absurd (omega arith)
percent-first (b ∷ bs) f some first is =
    let behind : pieces_behind f.bytes bs ≡ pieces_behind 0 (drop (f.bytes + 1) (b ∷ bs)) =
    pieces_behind-drop f.bytes bs ∙ ap (λ n. pieces_behind 0 (drop n (b ∷ bs))) (sym (add-one f.bytes)) in
    ap (λ c. pieces_behind 0 (c ∷ bs)) first
    ∙ ap (λ (g : Found). g.piece ∷ pieces_behind g.bytes bs) (sym is)
    ∙ ap (λ ps. f.piece ∷ ps) behind
